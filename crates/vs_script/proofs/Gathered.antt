-- What holds of scripts that were tested.
use Rattle.std.proofs.Common.{◌≡◌, ℕ, ◌+◌, ◌-◌, ◌≤◌, ◌<◌, not, nat_le, nat_lt, Bool, true, false, if◌then◌else◌, suc, List, [], ◌∷◌, ◌++◌, length, map, Option, Some, None, option_map, Ok, Err, All, ap, append-nil, sym, ◌∙◌, subst, refl, arith}
use Rattle.std.specs.List.{sum_by}
use Rattle.std.specs.Option.{option_or}
use Rattle.std.proofs.lemmas.Bool.{and_parts, leb-true, not-false, ltb-false}
use Rattle.std.proofs.lemmas.List.{length-map, map-append, get_or-map}
use Rattle.std.proofs.lemmas.List.Elements.{All-cons}
use Rattle.std.proofs.lemmas.List.Sums.{get_or-le-sum_by, sum_by-cons}
use Rattle.vs_script.specs.declared.command.Command.{Command}
use Rattle.vs_script.specs.declared.command.Command.TheVariants as command
use Rattle.vs_script.specs.declared.gather_fault.GatherFault.{GatherFault}
use Rattle.vs_script.specs.declared.gather_fault.GatherFault.TheVariants.{Bad}
use Rattle.vs_script.specs.declared.gather_fault.GatherKind.{GatherKind}
use Rattle.vs_script.specs.declared.gather_fault.GatherKind.TheVariants.{BadClient, BadCall}
use Rattle.vs_script.specs.declared.limit.Limit.{Limit}
use Rattle.vs_script.specs.declared.limit.Limit.TheVariants as limit
use Rattle.vs_base.specs.Listed.{Listed}
use Rattle.vs_script.specs.Calls.{Call, calls}
use Rattle.vs_script.specs.declared.call.Call as code_call
use Rattle.vs_script.specs.declared.script.Script as code
use Rattle.vs_script.specs.declared.script.Script.TheVariants as code_variants
use Rattle.vs_script.specs.Gathering.{clients_in, operators_in, count_of, most_of, kind_of, first_above, limit_fault, no_fault, is_within, cut_kind, cut_fault, cuts_fault, tested, numbered, gathering_of}
use Rattle.vs_script.specs.Lawful.{IsCutOf, IsLawfulCall, IsLawfulCommand, IsLawfulScript, IsWithin, MayRunTogether, scans_in}
use Rattle.vs_script.specs.Scripts.{Script, Client, Operator, script, script_of}
use Rattle.vs_script.specs.Words.{◌>>◌}
use Rattle.vs_script.proofs.Steps.{step}

-- no fault was told
pub none_told : (fault : Option GatherFault) (u : Unit {0}) → no_fault fault ≡ Ok u → fault ≡ None
none_told None u e = refl
none_told (Some fault) u e = cc

-- ---- limits

not_mapped : {A B : Type 0} (f : A → B) (o : Option A) → option_map f o ≡ None → o ≡ None
not_mapped f None e = refl
not_mapped f (Some a) e = cc

-- a script that doesn't pass a limit, nor those after it
chosen : (b : Bool) (n : ℕ) (later : Option ℕ) → (if b then Some n else later) ≡ None → (b ≡ false) × (later ≡ None)
chosen true n later e = cc
chosen false n later e = (refl, e)

spent : (l : Limit) (left number : ℕ) (scripts : List Script) → first_above l left number scripts ≡ None → sum_by (count_of l) scripts ≤ left
spent l left number [] e = omega arith
spent l left number (s ∷ scripts) e =
    let (here, later) = chosen (nat_lt left (count_of l s)) number (first_above l (left - count_of l s) (number + 1) scripts) e in
    let within : count_of l s ≤ left = ltb-false left (count_of l s) here in
    omega (arith, sum_by-cons (count_of l) s scripts, spent l (left - count_of l s) (number + 1) scripts later)

pub within_limit : (l : Limit) (scripts : List Script) (u : Unit {0}) → no_fault (limit_fault l scripts) ≡ Ok u → sum_by (count_of l) scripts ≤ most_of l
within_limit l scripts u e =
    spent l (most_of l) 1 scripts (not_mapped (λ number. Bad (kind_of l) number 0) (first_above l (most_of l) 1 scripts) (none_told (limit_fault l scripts) u e))

-- each has at most as many as all have
pub each_within : (l : Limit) (scripts : List Script) (u : Unit {0}) → no_fault (limit_fault l scripts) ≡ Ok u → All (λ s. count_of l s ≤ most_of l) scripts
each_within l scripts u e k d h = omega (arith, within_limit l scripts u e, get_or-le-sum_by (count_of l) scripts k d h)

-- the counts of the scripts together
clients_count : (scripts : List Script) → sum_by (count_of limit.Clients) scripts ≡ length (clients_in scripts)
clients_count [] = refl
clients_count (Client calls ∷ scripts) = omega (arith, clients_count scripts, sum_by-cons (count_of limit.Clients) (Client calls) scripts)
clients_count (Operator commands ∷ scripts) = omega (arith, clients_count scripts, sum_by-cons (count_of limit.Clients) (Operator commands) scripts)

operators_count : (scripts : List Script) → sum_by (count_of limit.Operators) scripts ≡ length (operators_in scripts)
operators_count [] = refl
operators_count (Client calls ∷ scripts) = omega (arith, operators_count scripts, sum_by-cons (count_of limit.Operators) (Client calls) scripts)
operators_count (Operator commands ∷ scripts) = omega (arith, operators_count scripts, sum_by-cons (count_of limit.Operators) (Operator commands) scripts)

calls_count : (scripts : List Script) → sum_by (count_of limit.Calls) scripts ≡ sum_by length (clients_in scripts)
calls_count [] = refl
calls_count (Client calls ∷ scripts) = omega (arith, calls_count scripts, sum_by-cons (count_of limit.Calls) (Client calls) scripts, sum_by-cons length calls (clients_in scripts))
calls_count (Operator commands ∷ scripts) = omega (arith, calls_count scripts, sum_by-cons (count_of limit.Calls) (Operator commands) scripts)

scans_count : (scripts : List Script) → sum_by (count_of limit.Scans) scripts ≡ sum_by scans_in (clients_in scripts)
scans_count [] = refl
scans_count (Client calls ∷ scripts) =
    sum_by-cons (count_of limit.Scans) (Client calls) scripts ∙ ap (λ n. scans_in calls + n) (scans_count scripts) ∙ sym (sum_by-cons scans_in calls (clients_in scripts))
scans_count (Operator commands ∷ scripts) = omega (arith, scans_count scripts, sum_by-cons (count_of limit.Scans) (Operator commands) scripts)

commands_count : (scripts : List Script) → sum_by (count_of limit.Commands) scripts ≡ sum_by length (operators_in scripts)
commands_count [] = refl
commands_count (Client calls ∷ scripts) = omega (arith, commands_count scripts, sum_by-cons (count_of limit.Commands) (Client calls) scripts)
commands_count (Operator commands ∷ scripts) = omega (arith, commands_count scripts, sum_by-cons (count_of limit.Commands) (Operator commands) scripts, sum_by-cons length commands (operators_in scripts))

-- ---- cuts

neither : {A : Type 0} (a b : Option A) → option_or a b ≡ None → (a ≡ None) × (b ≡ None)
neither None b e = (refl, e)
neither (Some a) b e = cc

either_kind : (b c : Bool) (k l : GatherKind) → (if b then Some k else (if c then Some l else None)) ≡ None → (b ≡ false) × (c ≡ false)
either_kind true c k l e = cc
either_kind false true k l e = cc
either_kind false false k l e = (refl, refl)

within_test : (most n : ℕ) → not (is_within most n) ≡ false → IsWithin most n
within_test most n e =
    let (least, greatest) = and_parts (nat_le 1 n) (nat_le n most) (not-false (is_within most n) e) in
    (leb-true 1 n least, leb-true n most greatest)

cut_is : (clients : List (List Call)) (c : Command) → cut_kind clients c ≡ None → IsCutOf clients c
cut_is clients (command.Cut client call) e =
    let (there, is) = either_kind (not (is_within (length clients) client)) (not (is_within (length (script_of clients client)) call)) BadClient BadCall e in
    (within_test (length clients) client there, within_test (length (script_of clients client)) call is)
cut_is clients (command.Send b x y) e = tt
cut_is clients (command.Pin b x) e = tt
cut_is clients (command.Unpin b x) e = tt
cut_is clients (command.Close x y) e = tt
cut_is clients (command.Stop x) e = tt
cut_is clients (command.Restart x) e = tt
cut_is clients command.Balance e = tt

cuts_are : (clients : List (List Call)) (place number : ℕ) (commands : List Command) → cut_fault clients place number commands ≡ None → All (IsCutOf clients) commands
cuts_are clients place number [] e = λ k d h. absurd (omega arith)
cuts_are clients place number (c ∷ commands) e =
    let (here, later) = neither (option_map (λ kind. Bad kind place number) (cut_kind clients c)) (cut_fault clients place (number + 1) commands) e in
    All-cons (IsCutOf clients) c commands (cut_is clients c (not_mapped (λ kind. Bad kind place number) (cut_kind clients c) here)) (cuts_are clients place (number + 1) commands later)

all_cuts_are : (clients : List (List Call)) (number : ℕ) (scripts : List Script) → cuts_fault clients number scripts ≡ None → All (All (IsCutOf clients)) (operators_in scripts)
all_cuts_are clients number [] e = λ k d h. absurd (omega arith)
all_cuts_are clients number (Client calls ∷ scripts) e = all_cuts_are clients (number + 1) scripts e
all_cuts_are clients number (Operator commands ∷ scripts) e =
    let (here, later) = neither (cut_fault clients number 1 commands) (cuts_fault clients (number + 1) scripts) e in
    All-cons (All (IsCutOf clients)) commands (operators_in scripts) (cuts_are clients number 1 commands here) (all_cuts_are clients (number + 1) scripts later)

-- ---- all of it

pub tested_together : (scripts : List Script) (u : Unit {0}) → tested scripts ≡ Ok u → MayRunTogether (numbered scripts)
tested_together scripts u e =
    let test = λ (l : Limit). no_fault (limit_fault l scripts) in
    let cuts = no_fault (cuts_fault (clients_in scripts) 1 scripts) in
    let (a, clients, e1) = step (test limit.Clients) (λ _. test limit.Operators >> (test limit.Calls >> (test limit.Scans >> (test limit.Commands >> cuts)))) u e in
    let (b, operators, e2) = step (test limit.Operators) (λ _. test limit.Calls >> (test limit.Scans >> (test limit.Commands >> cuts))) u e1 in
    let (c, calls, e3) = step (test limit.Calls) (λ _. test limit.Scans >> (test limit.Commands >> cuts)) u e2 in
    let (d, scans, e4) = step (test limit.Scans) (λ _. test limit.Commands >> cuts) u e3 in
    let (f, commands, e5) = step (test limit.Commands) (λ _. cuts) u e4 in
    record {
      clients = omega (arith, clients_count scripts, within_limit limit.Clients scripts a clients);
      operators = omega (arith, operators_count scripts, within_limit limit.Operators scripts b operators);
      few_calls = omega (arith, calls_count scripts, within_limit limit.Calls scripts c calls);
      few_scans = omega (arith, scans_count scripts, within_limit limit.Scans scripts d scans);
      few_commands = omega (arith, commands_count scripts, within_limit limit.Commands scripts f commands);
      cuts = all_cuts_are (clients_in scripts) 1 scripts (none_told (cuts_fault (clients_in scripts) 1 scripts) u e5);
    }

-- what is true of each script
pub lawful_clients : (m n : ℕ) (scripts : List Script) → All (IsLawfulScript m n) scripts → All (All (IsLawfulCall m)) (clients_in scripts)
lawful_clients m n [] all = λ k d h. absurd (omega arith)
lawful_clients m n (Client calls ∷ scripts) all =
    All-cons (All (IsLawfulCall m)) calls (clients_in scripts) (all 0 (Client calls) (omega arith)) (lawful_clients m n scripts (λ k d h. all (suc k) d (omega arith)))
lawful_clients m n (Operator commands ∷ scripts) all = lawful_clients m n scripts (λ k d h. all (suc k) d (omega arith))

pub lawful_operators : (m n : ℕ) (scripts : List Script) → All (IsLawfulScript m n) scripts → All (All (IsLawfulCommand m n)) (operators_in scripts)
lawful_operators m n [] all = λ k d h. absurd (omega arith)
lawful_operators m n (Client calls ∷ scripts) all = lawful_operators m n scripts (λ k d h. all (suc k) d (omega arith))
lawful_operators m n (Operator commands ∷ scripts) all =
    All-cons (All (IsLawfulCommand m n)) commands (operators_in scripts) (all 0 (Operator commands) (omega arith)) (lawful_operators m n scripts (λ k d h. all (suc k) d (omega arith)))

-- ---- in order

pub clients_in-append : (a b : List Script) → clients_in (a ++ b) ≡ clients_in a ++ clients_in b
clients_in-append [] b = refl
clients_in-append (Client calls ∷ a) b = ap (λ cs. calls ∷ cs) (clients_in-append a b)
clients_in-append (Operator commands ∷ a) b = clients_in-append a b

pub operators_in-append : (a b : List Script) → operators_in (a ++ b) ≡ operators_in a ++ operators_in b
operators_in-append [] b = refl
operators_in-append (Client calls ∷ a) b = operators_in-append a b
operators_in-append (Operator commands ∷ a) b = ap (λ cs. commands ∷ cs) (operators_in-append a b)

pub one_client : (yielded : List code.Script) (one : code.Script) (own : Listed code_call.Call) (before after : List (Listed code_call.Call))
    → map (λ c. calls c.items) before ≡ clients_in (map script yielded) → after ≡ before ++ own ∷ [] → one ≡ code_variants.Client own
    → map (λ c. calls c.items) after ≡ clients_in (map script (yielded ++ one ∷ []))
one_client yielded one own before after so_far pushed is =
    ap (map (λ (c : Listed code_call.Call). calls c.items)) pushed ∙ map-append (λ (c : Listed code_call.Call). calls c.items) before (own ∷ [])
    ∙ ap (λ cs. cs ++ calls own.items ∷ []) so_far ∙ sym (clients_in-append (map script yielded) (Client (calls own.items) ∷ []))
    ∙ ap (λ s. clients_in (map script yielded ++ script s ∷ [])) (sym is) ∙ ap clients_in (sym (map-append script yielded (one ∷ [])))

pub same_operators : (yielded : List code.Script) (one : code.Script) (own : Listed code_call.Call) (before : List (Listed Command))
    → map (λ c. c.items) before ≡ operators_in (map script yielded) → one ≡ code_variants.Client own
    → map (λ c. c.items) before ≡ operators_in (map script (yielded ++ one ∷ []))
same_operators yielded one own before so_far is =
    so_far ∙ sym (append-nil (operators_in (map script yielded))) ∙ sym (operators_in-append (map script yielded) (Client (calls own.items) ∷ []))
    ∙ ap (λ s. operators_in (map script yielded ++ script s ∷ [])) (sym is) ∙ ap operators_in (sym (map-append script yielded (one ∷ [])))

pub one_operator : (yielded : List code.Script) (one : code.Script) (own : Listed Command) (before after : List (Listed Command))
    → map (λ c. c.items) before ≡ operators_in (map script yielded) → after ≡ before ++ own ∷ [] → one ≡ code_variants.Operator own
    → map (λ c. c.items) after ≡ operators_in (map script (yielded ++ one ∷ []))
one_operator yielded one own before after so_far pushed is =
    ap (map (λ (c : Listed Command). c.items)) pushed ∙ map-append (λ (c : Listed Command). c.items) before (own ∷ [])
    ∙ ap (λ cs. cs ++ own.items ∷ []) so_far ∙ sym (operators_in-append (map script yielded) (Operator own.items ∷ []))
    ∙ ap (λ s. operators_in (map script yielded ++ script s ∷ [])) (sym is) ∙ ap operators_in (sym (map-append script yielded (one ∷ [])))

pub same_clients : (yielded : List code.Script) (one : code.Script) (own : Listed Command) (before : List (Listed code_call.Call))
    → map (λ c. calls c.items) before ≡ clients_in (map script yielded) → one ≡ code_variants.Operator own
    → map (λ c. calls c.items) before ≡ clients_in (map script (yielded ++ one ∷ []))
same_clients yielded one own before so_far is =
    so_far ∙ sym (append-nil (clients_in (map script yielded))) ∙ sym (clients_in-append (map script yielded) (Operator own.items ∷ []))
    ∙ ap (λ s. clients_in (map script yielded ++ script s ∷ [])) (sym is) ∙ ap clients_in (sym (map-append script yielded (one ∷ [])))

-- ---- what was gathered

pub each_script_within : (l : Limit) (given : List code.Script) (u : Unit {0}) → no_fault (limit_fault l (map script given)) ≡ Ok u → All (λ s. count_of l (script s) ≤ most_of l) given
each_script_within l given u e k d h =
    let within : k < length (map script given) = omega (arith, length-map given script) in
    subst (λ (s : Script). count_of l s ≤ most_of l) (get_or-map script given k d (script d) h) (each_within l (map script given) u e k (script d) within)

pub refused : (scripts : List Script) (fault : GatherFault) → tested scripts ≡ Err fault → gathering_of scripts ≡ Err fault
unfolding gathering_of
refused scripts fault e = ap (λ r. r >> Ok (numbered scripts)) e

pub accepted : (scripts : List Script) (u : Unit {0}) → tested scripts ≡ Ok u → gathering_of scripts ≡ Ok (numbered scripts)
unfolding gathering_of
accepted scripts u e = ap (λ r. r >> Ok (numbered scripts)) e
