-- The scripts that were read are lawful.
use Rattle.std.proofs.Common.{◌≡◌, ℕ, ◌+◌, true, false, if◌then◌else◌, List, [], ◌∷◌, Result, Ok, Err, subst, arith, All}
use Rattle.std.specs.Str.Lines.{lines}
use Rattle.std.specs.Result.{IfOk}
use Rattle.std.proofs.lemmas.List.Elements.{All-cons}
use Rattle.vs_script.specs.declared.fault.ScriptFault.{ScriptFault}
use Rattle.vs_script.specs.declared.fault.ScriptFault.TheVariants.{Bad}
use Rattle.vs_script.specs.declared.fault.ScriptKind.{ScriptKind}
use Rattle.vs_script.specs.declared.fault.ScriptKind.TheVariants.{BadHeader}
use Rattle.vs_script.specs.declared.header.Header.{Header}
use Rattle.vs_script.specs.declared.header.Header.TheVariants as header
use Rattle.vs_script.specs.Lawful.{IsLawfulCall, IsLawfulCommand, IsLawfulScript}
use Rattle.vs_script.specs.Lines.{call_of, command_of, header_of, is_skipped}
use Rattle.vs_script.specs.Reading.{at_line, body_of, entries_of, first_entry, line_words, reading_of}
use Rattle.vs_script.specs.Given.{MayFind}
use Rattle.vs_script.specs.Scripts.{Script, Client, Operator, script}
use Rattle.vs_script.specs.declared.script.Script as code
use Rattle.vs_script.specs.Words.{◌>>=◌, or_bad}
use Rattle.vs_script.proofs.Steps.{step}
use Rattle.vs_script.proofs.LawfulLines.{call_lawful, command_lawful}

at_line_ok : {A : Type 0} (number : ℕ) (r : Result A ScriptKind) (a : A) → at_line number r ≡ Ok a → r ≡ Ok a
at_line_ok number (Ok b) a e = cc
at_line_ok number (Err kind) a e = cc

-- what is true of each entry that `read` gives
entries_lawful : {A : Type 0} (P : A → Type 0) (read : List (List ℕ) → Result A ScriptKind) → ((words : List (List ℕ)) (a : A) → read words ≡ Ok a → P a)
    → (number : ℕ) (lines : List (List ℕ)) (entries : List A) → entries_of read number lines ≡ Ok entries → All P entries
entries_lawful P read lawful number [] entries e =
    let none : [] ≡ entries = cc in subst (All P) none (λ k d h. absurd (omega arith))
entries_lawful {A = A} P read lawful number (line ∷ lines) entries e =
    let others = entries_of read (number + 1) lines in
    let last = λ (entry : A) (more : List A). (let all : Result (List A) ScriptFault = Ok (entry ∷ more) in all) in
    let counted = λ (words : List (List ℕ)). at_line number (read words) >>= (λ entry. others >>= last entry) in
    let (words, _, rest) = step (at_line number (line_words line)) (λ words. if is_skipped words then others else counted words) entries e in
    elim (is_skipped words) as (λ skipped. (if skipped then others else counted words) ≡ Ok entries → All P entries) [
      | true ↦ (λ e. entries_lawful P read lawful (number + 1) lines entries e)
      | false ↦ (λ e. (
          let (entry, is, more) = step (at_line number (read words)) (λ entry. others >>= last entry) entries e in
          let (rest, are, end) = step others (last entry) entries more in
          let same : entry ∷ rest ≡ entries = cc in
          subst (All P) same (All-cons P entry rest (lawful words entry (at_line_ok number (read words) entry is)) (entries_lawful P read lawful (number + 1) lines rest are))))
    ] rest

body_lawful : (m n : ℕ) (h : Header) (number : ℕ) (lines : List (List ℕ)) (s : Script) → body_of m n h number lines ≡ Ok s → IsLawfulScript m n s
body_lawful m n header.Client number lines s e =
    let (calls, are, end) = step (entries_of (call_of m) number lines) (λ calls. Ok (Client calls)) s e in
    let same : Client calls ≡ s = cc in
    subst (IsLawfulScript m n) same (entries_lawful (IsLawfulCall m) (call_of m) (call_lawful m) number lines calls are)
body_lawful m n header.Operator number lines s e =
    let (commands, are, end) = step (entries_of (command_of m n) number lines) (λ commands. Ok (Operator commands)) s e in
    let same : Operator commands ≡ s = cc in
    subst (IsLawfulScript m n) same (entries_lawful (IsLawfulCommand m n) (command_of m n) (command_lawful m n) number lines commands are)

abbrev Entry : Type 0
Entry = ℕ × List (List ℕ) × List (List ℕ)

pub reading_lawful : (m n : ℕ) (text : List ℕ) (s : Script) → reading_of m n text ≡ Ok s → IsLawfulScript m n s
unfolding reading_of
reading_lawful m n text s e =
    let body = λ (line : Entry) (h : Header). body_of m n h (line.0 + 1) line.2 in
    let headed = λ (line : Entry). at_line line.0 (header_of line.1) >>= body line in
    let (first, _, found) = step (first_entry 1 (lines text)) (λ first. or_bad first (Bad BadHeader 1) >>= headed) s e in
    let (line, _, rest) = step (or_bad first (Bad BadHeader 1)) headed s found in
    let (h, _, last) = step (at_line line.0 (header_of line.1)) (body line) s rest in
    body_lawful m n h (line.0 + 1) line.2 s last

-- so is what was found
pub found_lawful : (m n : ℕ) (text : List ℕ) (r : Result code.Script ScriptFault) → MayFind script r (reading_of m n text) → IfOk r (λ s. IsLawfulScript m n (script s))
found_lawful m n text (Ok s) found = reading_lawful m n text (script s) found
found_lawful m n text (Err fault) found = tt
