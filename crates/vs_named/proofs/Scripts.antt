-- The scripts that are read and gathered are of keys and values.
use Rattle.std.proofs.Common.{◌≡◌, ℕ, ◌+◌, Bool, true, false, if◌then◌else◌, List, [], ◌∷◌, Result, Ok, Err, subst, All}
use Rattle.std.specs.List.{AllByRecursion}
use Rattle.std.specs.Prelude.{codes}
use Rattle.std.specs.Str.{bytes_eq}
use Rattle.std.specs.Str.Lines.{lines}
use Rattle.std.proofs.lemmas.List.Elements.{All-nil, All-cons, All-from_recursion}
use Rattle.vs_config.specs.Configuration.{Configuration}
use Rattle.vs_inputs.specs.Files.{Files}
use Rattle.vs_inputs.specs.Inputs.{HaveScripts}
use Rattle.vs_script.specs.Calls.{Call}
use Rattle.vs_script.specs.Gathering.{clients_in, gathering_of, numbered, tested}
use Rattle.vs_script.specs.Lines.{call_of, command_of, header_of, is_skipped}
use Rattle.vs_script.specs.Reading.{at_line, body_of, entries_of, first_entry, line_words, reading_of}
use Rattle.vs_script.specs.Scripts.{Script, Client, Operator, Scripts}
use Rattle.vs_script.specs.Words.{◌>>=◌, or_bad}
use Rattle.vs_script.specs.declared.fault.ScriptFault.{ScriptFault}
use Rattle.vs_script.specs.declared.fault.ScriptFault.TheVariants.{Bad}
use Rattle.vs_script.specs.declared.fault.ScriptKind.{ScriptKind}
use Rattle.vs_script.specs.declared.fault.ScriptKind.TheVariants.{BadHeader}
use Rattle.vs_legal.specs.Named.{IsNamedOp}
use Rattle.vs_named.specs.Laws.{ScriptsAreNamed}
use Rattle.vs_named.specs.Named.{AreNamedCalls}
use Rattle.vs_named.proofs.Operations.{call_named}
use Rattle.vs_named.proofs.Steps.{step}

abbrev IsNamedCall : Call → Type 0
IsNamedCall k = All IsNamedOp k.ops

-- ---- a script

abbrev IsNamedScript : Script → Type 0
IsNamedScript (Client calls) = All IsNamedCall calls
IsNamedScript (Operator commands) = Unit {0}

given_call : (number m : ℕ) (words : List (List ℕ)) (call : Call) → at_line number (call_of m words) ≡ Ok call → IsNamedCall call
given_call number m words call e = by (call_of m words) (λ k is. All-from_recursion IsNamedOp k.ops (call_named m words k is)) e
  where
    by : (r : Result Call ScriptKind) → ((k : Call) → r ≡ Ok k → IsNamedCall k) → at_line number r ≡ Ok call → IsNamedCall call
    by (Ok k) named h = let same : k ≡ call = cc in subst IsNamedCall same (named k (λ i. Ok k))
    by (Err kind) named h = cc

calls_named : (m number : ℕ) (lines : List (List ℕ)) (calls : List Call) → entries_of (call_of m) number lines ≡ Ok calls → All IsNamedCall calls
calls_named m number [] calls e =
    let none : [] ≡ calls = cc in subst (All IsNamedCall) none (All-nil IsNamedCall)
calls_named m number (line ∷ lines) calls e =
    let others = entries_of (call_of m) (number + 1) lines in
    let last = λ (call : Call) (more : List Call). (let all : Result (List Call) ScriptFault = Ok (call ∷ more) in all) in
    let counted = λ (words : List (List ℕ)). at_line number (call_of m words) >>= (λ call. others >>= last call) in
    let (words, _, rest) = step (at_line number (line_words line)) (λ words. if is_skipped words then others else counted words) calls e in
    elim (is_skipped words) as (λ skipped. (if skipped then others else counted words) ≡ Ok calls → All IsNamedCall calls) [
      | true ↦ (λ e. calls_named m (number + 1) lines calls e)
      | false ↦ (λ e. (
          let (call, is, more) = step (at_line number (call_of m words)) (λ call. others >>= last call) calls e in
          let (rest, are, end) = step others (last call) calls more in
          let same : call ∷ rest ≡ calls = cc in
          subst (All IsNamedCall) same (All-cons IsNamedCall call rest (given_call number m words call is) (calls_named m (number + 1) lines rest are))))
    ] rest

clients_body : (m number : ℕ) (lines : List (List ℕ)) (s : Script) → (entries_of (call_of m) number lines >>= (λ calls. Ok (Client calls))) ≡ Ok s → IsNamedScript s
clients_body m number lines s e =
    let (calls, are, end) = step (entries_of (call_of m) number lines) (λ calls. Ok (Client calls)) s e in
    let same : Client calls ≡ s = cc in
    subst IsNamedScript same (calls_named m number lines calls are)

operators_body : (m n number : ℕ) (lines : List (List ℕ)) (s : Script) → (entries_of (command_of m n) number lines >>= (λ commands. Ok (Operator commands))) ≡ Ok s → IsNamedScript s
operators_body m n number lines s e =
    let (commands, _, end) = step (entries_of (command_of m n) number lines) (λ commands. Ok (Operator commands)) s e in
    let same : Operator commands ≡ s = cc in
    subst IsNamedScript {x = Operator commands} same tt

-- by the header, which is of clients, or else of operators, or else none
body_named : (m n number : ℕ) (lines words : List (List ℕ)) (s : Script) (header : _) → header_of words ≡ Ok header → body_of m n header number lines ≡ Ok s → IsNamedScript s
body_named m n number lines [] s header is = λ e. cc
body_named m n number lines (word ∷ w ∷ words) s header is = λ e. cc
body_named m n number lines (word ∷ []) s header is =
    let P = λ (h : _). body_of m n h number lines ≡ Ok s → IsNamedScript s in
    by_header P (bytes_eq word (codes "client")) _ _ header is (λ e. clients_body m number lines s e) (λ is.
    by_header P (bytes_eq word (codes "operator")) _ _ header is (λ e. operators_body m n number lines s e) (λ is. cc))
  where
    by_header : {H : Type 0} (P : H → Type 0) (t : Bool) (here : H) (others : Result H ScriptKind) (header : H) → (if t then Ok here else others) ≡ Ok header → P here → (others ≡ Ok header → P header) → P header
    by_header P true here others header is holds next = let same : here ≡ header = cc in subst P same holds
    by_header P false here others header is holds next = next is

abbrev Entry : Type 0
Entry = ℕ × List (List ℕ) × List (List ℕ)

header_found : (number : ℕ) (words : List (List ℕ)) (header : _) → at_line number (header_of words) ≡ Ok header → header_of words ≡ Ok header
header_found number words header e = by (header_of words) header e
  where
    by : {H : Type 0} (r : Result H ScriptKind) (header : H) → at_line number r ≡ Ok header → r ≡ Ok header
    by (Ok h) header e = cc
    by (Err kind) header e = cc

reading_named : (m n : ℕ) (text : List ℕ) (s : Script) → reading_of m n text ≡ Ok s → IsNamedScript s
unfolding reading_of
reading_named m n text s e =
    let body = λ (line : Entry) (header : _). body_of m n header (line.0 + 1) line.2 in
    let headed = λ (line : Entry). at_line line.0 (header_of line.1) >>= body line in
    let (first, _, found) = step (first_entry 1 (lines text)) (λ first. or_bad first (Bad BadHeader 1) >>= headed) s e in
    let (line, _, rest) = step (or_bad first (Bad BadHeader 1)) headed s found in
    let (header, is, last) = step (at_line line.0 (header_of line.1)) (body line) s rest in
    body_named m n (line.0 + 1) line.2 line.1 s header (header_found line.0 line.1 header is) last

-- ---- scripts together

each_named : (config : Configuration) (files : Files) (names : List (List ℕ)) (each : List Script) → HaveScripts config files names each → AllByRecursion IsNamedScript each
each_named config files [] [] have = tt
each_named config files [] (s ∷ each) have = absurd have
each_named config files (name ∷ names) [] have = absurd have
each_named config files (name ∷ names) (s ∷ each) have =
    (reading_named config.bucket_count _ have.0.0 s have.0.2, each_named config files names each have.1)

clients_named : (each : List Script) → AllByRecursion IsNamedScript each → AreNamedCalls (clients_in each)
clients_named [] named = All-nil (All IsNamedCall)
clients_named (Client calls ∷ each) named = All-cons (All IsNamedCall) calls (clients_in each) named.0 (clients_named each named.1)
clients_named (Operator commands ∷ each) named = clients_named each named.1

pub scripts_are_named : ScriptsAreNamed
unfolding gathering_of
scripts_are_named files names config scripts read =
    let (u, _, last) = step (tested read.each) (λ _. Ok (numbered read.each)) scripts read.gathered in
    let same : numbered read.each ≡ scripts = cc in
    subst (λ (s : Scripts). AreNamedCalls s.clients) same (clients_named read.each (each_named config files names read.each read.script_files))
