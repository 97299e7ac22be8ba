-- The text of a report is that of its lines of words: whole lines.
use Rattle.std.proofs.Common.{◌≡◌, ℕ, ◌+◌, Bool, true, false, List, [], ◌∷◌, ◌++◌, map, length, Option, Some, None, refl, sym, ap, ◌∙◌, append_assoc}
use Rattle.std.specs.Prelude.{codes, if◌then◌else◌, ◌&&◌}
use Rattle.std.specs.Fmt.{decimal}
use Rattle.std.specs.List.{flat_map, AllByRecursion, enumerate_from}
use Rattle.std.proofs.lemmas.Grind.{flat_map-append}
use Rattle.vs_rows.specs.Said.{Said}
use Rattle.vs_rows.specs.declared.op.Op.{Op}
use Rattle.vs_space.specs.declared.status.Status.{Status}
use Rattle.vs_space.specs.declared.status.StatusKind.TheVariants as kind
use Rattle.vs_calls.specs.Outcomes.{Outcome, Reply, Lost, Spent}
use Rattle.vs_calls.specs.Progress.{is_idle}
use Rattle.vs_history.specs.History.{Entry, History}
use Rattle.vs_machine.specs.declared.outcome.CommandOutcome.{CommandOutcome}
use Rattle.vs_machine.specs.Kinds.Connections.{is_null}
use Rattle.vs_machine.specs.Report as report
use Rattle.vs_machine.specs.Report.{word, number}
use Rattle.vs_machine.specs.State.{State, Client, Operator}
use Rattle.vs_audit.specs.Account.{Call}
use Rattle.vs_audit.specs.Words.{Words}
use Rattle.vs_legal.proofs.Words.Spelled.{spelled, spelled_on, text_of}
use Rattle.vs_legal.specs.Named.{IsNamedOp}
use Rattle.vs_legal.proofs.Words.Operations.{ops_words, answers_words, IsNamedAnswer}
use Rattle.vs_legal.proofs.Words.Entries.{row_words, AreNamed}
use Rattle.vs_legal.proofs.Words.Statuses.{placed_words, placement_words}
use Rattle.vs_legal.proofs.Words.Report.{set_tail, bucket_tail, entry_line, head_tail, body_lines, history_lines, outcome_words, command_words, numbered_tail}
use Rattle.vs_legal.proofs.Spelled.{append_nil, spelled_append}
use Rattle.vs_legal.proofs.Texts.{ops_same, answers_same, status_same, cause_same, command_same}
use Rattle.vs_legal.proofs.ReadItems.{Item, lines_with}
use Rattle.vs_legal.proofs.ReadHistories.{IsReadable}
use Rattle.vs_legal.proofs.ReadBuckets.{IsSpelled, all_lines_of}
use Rattle.vs_legal.proofs.ReadCalls.{IsReadableOutcome, IsReadableClient, answered_items, open_item, open_items, calls_items}
use Rattle.vs_legal.proofs.ReadCommands.{command_item, ended_items, next_items, commands_items}

pub text_append : (xs ys : List Words) → text_of (xs ++ ys) ≡ text_of xs ++ text_of ys
text_append xs ys = flat_map-append (λ (ws : Words). spelled ws ++ codes "\n") xs ys

-- lines that are spelled of words, one by one
pub lines_same : {A : Type 0} (P : A → Type 0) (text : A → List ℕ) (words : A → Words) → ((x : A) → P x → text x ≡ spelled (words x)) → (xs : List A) → AllByRecursion P xs → report.lines text xs ≡ text_of (map words xs)
lines_same P text words same [] are = refl
lines_same P text words same (x ∷ xs) are = rw (same x are.0, lines_same P text words same xs are.1) refl

-- ---- histories

row_same : (row : List ℕ × List ℕ) → report.row_line row ≡ spelled (row_words row)
row_same row = rw (append_nil row.1) refl

-- texts one behind the other
after_two : (a b c : List ℕ) → a ++ b ++ c ≡ a ++ (b ++ c)
after_two a b c = append_assoc a b c

after_three : (a b c d : List ℕ) → a ++ b ++ c ++ d ≡ a ++ (b ++ (c ++ d))
after_three a b c d = append_assoc (a ++ b) c d ∙ append_assoc a b (c ++ d)

after_four : (a b c d e : List ℕ) → a ++ b ++ c ++ d ++ e ≡ a ++ (b ++ (c ++ (d ++ e)))
after_four a b c d e = append_assoc (a ++ b ++ c) d e ∙ after_three a b c (d ++ e)

after_five : (a b c d e f : List ℕ) → a ++ b ++ c ++ d ++ e ++ f ≡ a ++ (b ++ (c ++ (d ++ (e ++ f))))
after_five a b c d e f = append_assoc (a ++ b ++ c ++ d) e f ∙ append_assoc (a ++ b ++ c) d (e ++ f) ∙ after_three a b c (d ++ (e ++ f))

after_six : (a b c d e f g : List ℕ) → a ++ b ++ c ++ d ++ e ++ f ++ g ≡ a ++ (b ++ (c ++ (d ++ (e ++ (f ++ g)))))
after_six a b c d e f g = append_assoc (a ++ b ++ c ++ d ++ e) f g ∙ after_five a b c d e (f ++ g)

asked_same : (op : Op) (ops : List Op) (a : Said) (more : List Said)
    → spelled_on (ops_words (op ∷ ops) ++ codes "=>" ∷ answers_words (a ∷ more)) ≡ word (report.ops_text (op ∷ ops)) ++ (codes " =>" ++ word (report.answers_text (a ∷ more)))
asked_same op ops a more =
    spelled_append (ops_words (op ∷ ops)) (codes "=>" ∷ answers_words (a ∷ more))
    ∙ ap (λ (r : List ℕ). r ++ (codes " =>" ++ spelled_on (answers_words (a ∷ more)))) (sym (ops_same op ops))
    ∙ ap (λ (r : List ℕ). word (report.ops_text (op ∷ ops)) ++ (codes " =>" ++ r)) (sym (answers_same a more))

entry_by : (kind : List ℕ) (place client call : ℕ) (ops : List Op) (answers : List Said) → AreNamed IsNamedOp ops → AreNamed IsNamedAnswer answers
    → kind ++ number place ++ number client ++ number call ++ word (report.ops_text ops) ++ codes " =>" ++ word (report.answers_text answers)
    ≡ kind ++ spelled_on (decimal place ∷ decimal client ∷ decimal call ∷ (ops_words ops ++ codes "=>" ∷ answers_words answers))
entry_by kind place client call [] answers named given = absurd named
entry_by kind place client call (op ∷ ops) [] named given = absurd given
entry_by kind place client call (op ∷ ops) (a ∷ more) named given =
    after_six kind (number place) (number client) (number call) (word (report.ops_text (op ∷ ops))) (codes " =>") (word (report.answers_text (a ∷ more)))
    ∙ ap (λ (r : List ℕ). kind ++ (number place ++ (number client ++ (number call ++ r)))) (sym (asked_same op ops a more))

entry_same : (kind : List ℕ) (e : Entry) → IsReadable e → report.history_entry kind e ≡ spelled (entry_line kind e)
entry_same kind e is = entry_by kind e.place e.id.client e.id.call e.ops e.answers is.ops is.answers

head_same : (b : ℕ) (h : History) → report.history_head b h ≡ spelled (codes "history" ∷ head_tail b h) ++ codes "\n"
head_same b h =
    ap (λ (r : List ℕ). r ++ codes "\n")
    (after_four (codes "history") (number b) (number (length h.base)) (number (length h.writes)) (number (length h.reads))
    ∙ ap (λ (r : List ℕ). codes "history" ++ (number b ++ (number (length h.base) ++ (number (length h.writes) ++ r)))) (sym (append_nil (number (length h.reads)))))

rows_all : (rows : List (List ℕ × List ℕ)) → AllByRecursion (λ _. Unit {0}) rows
rows_all [] = tt
rows_all (row ∷ rows) = (tt, rows_all rows)

body_same : (h : History) → IsSpelled h → report.lines report.row_line h.base ++ (report.lines (report.history_entry (codes "write")) h.writes ++ report.lines (report.history_entry (codes "read")) h.reads) ≡ text_of (body_lines h)
body_same h is =
    rw (
      text_append (map row_words h.base) (map (entry_line (codes "write")) h.writes ++ map (entry_line (codes "read")) h.reads),
      text_append (map (entry_line (codes "write")) h.writes) (map (entry_line (codes "read")) h.reads),
      lines_same (λ _. Unit {0}) report.row_line row_words (λ row _. row_same row) h.base (rows_all h.base),
      lines_same IsReadable (report.history_entry (codes "write")) (entry_line (codes "write")) (entry_same (codes "write")) h.writes is.writes,
      lines_same IsReadable (report.history_entry (codes "read")) (entry_line (codes "read")) (entry_same (codes "read")) h.reads is.reads,
    ) refl

history_same : (b : ℕ) (h : History) → IsSpelled h → report.history_lines b h ≡ text_of (history_lines b h)
history_same b h is = by_null (is_null h.writes && is_null h.reads)
  where
    told : report.history_head b h ++ report.lines report.row_line h.base ++ report.lines (report.history_entry (codes "write")) h.writes ++ report.lines (report.history_entry (codes "read")) h.reads
        ≡ text_of ((codes "history" ∷ head_tail b h) ∷ body_lines h)
    told =
        append_assoc (report.history_head b h ++ report.lines report.row_line h.base) (report.lines (report.history_entry (codes "write")) h.writes) (report.lines (report.history_entry (codes "read")) h.reads)
        ∙ append_assoc (report.history_head b h) (report.lines report.row_line h.base) (report.lines (report.history_entry (codes "write")) h.writes ++ report.lines (report.history_entry (codes "read")) h.reads)
        ∙ ap (λ (r : List ℕ). report.history_head b h ++ r) (body_same h is)
        ∙ ap (λ (r : List ℕ). r ++ text_of (body_lines h)) (head_same b h)

    by_null : (n : Bool) → (if n then [] else report.history_head b h ++ report.lines report.row_line h.base ++ report.lines (report.history_entry (codes "write")) h.writes ++ report.lines (report.history_entry (codes "read")) h.reads)
        ≡ text_of (if n then [] else (codes "history" ∷ head_tail b h) ∷ body_lines h)
    by_null true = refl
    by_null false = told

pub histories_same : (hs : ℕ → History) → ((b : ℕ) → IsSpelled (hs b)) → (bs : List ℕ) → flat_map (λ b. report.history_lines b (hs b)) bs ≡ text_of (all_lines_of hs bs)
histories_same hs are [] = refl
histories_same hs are (b ∷ bs) = rw (text_append (history_lines b (hs b)) (all_lines_of hs bs), history_same b (hs b) (are b), histories_same hs are bs) refl

-- ---- sets and buckets

set_by : (up : Bool) (x c0 c1 c2 c3 c4 c5 : ℕ)
    → codes "set" ++ number x ++ (if up then codes " up" else codes " down") ++ (number c0 ++ (number c1 ++ (number c2 ++ (number c3 ++ (number c4 ++ (number c5 ++ []))))))
    ≡ spelled (codes "set" ∷ decimal x ∷ (if up then codes "up" else codes "down") ∷ decimal c0 ∷ decimal c1 ∷ decimal c2 ∷ decimal c3 ∷ decimal c4 ∷ decimal c5 ∷ [])
set_by true x c0 c1 c2 c3 c4 c5 = after_three (codes "set") (number x) (codes " up") (number c0 ++ (number c1 ++ (number c2 ++ (number c3 ++ (number c4 ++ (number c5 ++ []))))))
set_by false x c0 c1 c2 c3 c4 c5 = after_three (codes "set") (number x) (codes " down") (number c0 ++ (number c1 ++ (number c2 ++ (number c3 ++ (number c4 ++ (number c5 ++ []))))))

pub cluster_same : (n m : ℕ) → codes "cluster" ++ number n ++ number m ≡ spelled (codes "cluster" ∷ decimal n ∷ decimal m ∷ [])
cluster_same n m =
    after_two (codes "cluster") (number n) (number m) ∙ ap (λ (r : List ℕ). codes "cluster" ++ (number n ++ r)) (sym (append_nil (number m)))

pub set_same : (s : State) (x : ℕ) → report.set_line s x ≡ spelled (codes "set" ∷ set_tail s x)
set_same s x =
    set_by (s.up x) x (report.kind_count s x kind.Active) (report.kind_count s x kind.Pinned) (report.kind_count s x kind.Sending) (report.kind_count s x kind.Receiving) (report.kind_count s x kind.Sent) (report.kind_count s x kind.Garbage)

placement_same : (entry : ℕ → Option Status) (xs : List ℕ) → flat_map (λ x. report.entry_text x (entry x)) xs ≡ spelled_on (placement_words entry xs)
placement_same entry [] = refl
placement_same entry (x ∷ xs) =
    rw (spelled_append (placed_words x (entry x)) (placement_words entry xs), placement_same entry xs) (by_entry (entry x))
  where
    by_entry : (o : Option Status) → report.entry_text x o ++ spelled_on (placement_words entry xs) ≡ spelled_on (placed_words x o) ++ spelled_on (placement_words entry xs)
    by_entry None = refl
    by_entry (Some status) = rw (← status_same status) refl

pub bucket_same : (s : State) (b : ℕ) (xs : List ℕ) → codes "bucket" ++ number b ++ flat_map (λ x. report.entry_text x ((s.bucket b).entry x)) xs ≡ spelled (codes "bucket" ∷ bucket_tail s b xs)
bucket_same s b xs = rw (placement_same (s.bucket b).entry xs) refl

-- ---- calls and commands

outcome_same : (sets : ℕ) (o : Outcome) → IsReadableOutcome sets o → word (report.outcome_text o) ≡ spelled_on (outcome_words o)
outcome_same sets (Reply place []) is = absurd is.1
outcome_same sets (Reply place (a ∷ given)) is = rw (← answers_same a given) refl
outcome_same sets Lost is = refl
outcome_same sets (Spent c) is = rw (← cause_same c) refl

-- a numbered line
numbered_same : (kind : List ℕ) (who n : ℕ) (text : List ℕ) (words : Words) → word text ≡ spelled_on words → report.numbered_line kind who n text ≡ spelled (kind ∷ numbered_tail who n words)
numbered_same kind who n text words same = after_three kind (number who) (number n) (word text) ∙ ap (λ (r : List ℕ). kind ++ (number who ++ (number n ++ r))) same

-- a line before others
line_before : (line text : List ℕ) (ws : Words) (others : List ℕ) → line ≡ spelled ws → text ≡ others → (line ++ codes "\n") ++ text ≡ (spelled ws ++ codes "\n") ++ others
line_before line text ws others same rest = rw (same, rest) refl

answered_same : (sets c n : ℕ) (os : List Outcome) (rest : List (Item Call)) → AllByRecursion (IsReadableOutcome sets) os
    → report.lines (λ o. report.numbered_line (codes "call") c o.0 (report.outcome_text o.1)) (enumerate_from n os) ++ text_of (lines_with (codes "call") rest)
    ≡ text_of (lines_with (codes "call") (answered_items c n os rest))
answered_same sets c n [] rest are = refl
answered_same sets c n (o ∷ os) rest are =
    append_assoc (report.numbered_line (codes "call") c n (report.outcome_text o) ++ codes "\n") (report.lines (λ o. report.numbered_line (codes "call") c o.0 (report.outcome_text o.1)) (enumerate_from (n + 1) os)) (text_of (lines_with (codes "call") rest))
    ∙ line_before _ _ (codes "call" ∷ numbered_tail c n (outcome_words o)) _ (numbered_same (codes "call") c n (report.outcome_text o) (outcome_words o) (outcome_same sets o are.0)) (answered_same sets c (n + 1) os rest are.1)

open_same : (c : ℕ) (client : Client) (rest : List (Item Call))
    → (if is_idle client.present.stage then [] else report.numbered_line (codes "call") c (length client.answered + 1) (codes "open") ++ codes "\n") ++ text_of (lines_with (codes "call") rest)
    ≡ text_of (lines_with (codes "call") (open_items c client rest))
open_same c client rest = by_idle (is_idle client.present.stage)
  where
    by_idle : (b : Bool) → (if b then [] else report.numbered_line (codes "call") c (length client.answered + 1) (codes "open") ++ codes "\n") ++ text_of (lines_with (codes "call") rest)
        ≡ text_of (lines_with (codes "call") (if b then rest else open_item c (length client.answered + 1) ∷ rest))
    by_idle true = refl
    by_idle false = line_before _ _ (codes "call" ∷ numbered_tail c (length client.answered + 1) (codes "open" ∷ [])) _ (numbered_same (codes "call") c (length client.answered + 1) (codes "open") (codes "open" ∷ []) refl) refl

pub calls_same : (sets : ℕ) (client : ℕ → Client) (cs : List ℕ) → AllByRecursion (λ c. IsReadableClient sets c (client c)) cs
    → flat_map (λ c. report.call_lines c (client c)) cs ≡ text_of (lines_with (codes "call") (calls_items client cs))
calls_same sets client [] are = refl
calls_same sets client (c ∷ cs) are =
    let answered = report.lines (λ o. report.numbered_line (codes "call") c o.0 (report.outcome_text o.1)) (enumerate_from 1 (client c).answered) in
    let last : List ℕ = if is_idle (client c).present.stage then [] else report.numbered_line (codes "call") c (length (client c).answered + 1) (codes "open") ++ codes "\n" in
    rw (append_assoc answered last (flat_map (λ c. report.call_lines c (client c)) cs), calls_same sets client cs are.1, open_same c (client c) (calls_items client cs))
    (answered_same sets c 1 (client c).answered (open_items c (client c) (calls_items client cs)) are.0.answered)

ended_same : (o n : ℕ) (outs : List CommandOutcome) (rest : List (Item ℕ))
    → report.lines (λ c. report.numbered_line (codes "command") o c.0 (report.command_text c.1)) (enumerate_from n outs) ++ text_of (lines_with (codes "command") rest)
    ≡ text_of (lines_with (codes "command") (ended_items o n outs rest))
ended_same o n [] rest = refl
ended_same o n (out ∷ outs) rest =
    append_assoc (report.numbered_line (codes "command") o n (report.command_text out) ++ codes "\n") (report.lines (λ c. report.numbered_line (codes "command") o c.0 (report.command_text c.1)) (enumerate_from (n + 1) outs)) (text_of (lines_with (codes "command") rest))
    ∙ line_before _ _ (codes "command" ∷ numbered_tail o n (command_words out)) _ (numbered_same (codes "command") o n (report.command_text out) (command_words out) (command_same out)) (ended_same o (n + 1) outs rest)

next_same : (o : ℕ) (op : Operator) (rest : List (Item ℕ))
    → (if report.is_open op then report.numbered_line (codes "command") o (length op.answered + 1) (codes "open") ++ codes "\n" else []) ++ text_of (lines_with (codes "command") rest)
    ≡ text_of (lines_with (codes "command") (next_items o op rest))
next_same o op rest = by_open (report.is_open op)
  where
    by_open : (b : Bool) → (if b then report.numbered_line (codes "command") o (length op.answered + 1) (codes "open") ++ codes "\n" else []) ++ text_of (lines_with (codes "command") rest)
        ≡ text_of (lines_with (codes "command") (if b then command_item o (length op.answered + 1) (codes "open" ∷ []) ∷ rest else rest))
    by_open true = line_before _ _ (codes "command" ∷ numbered_tail o (length op.answered + 1) (codes "open" ∷ [])) _ (numbered_same (codes "command") o (length op.answered + 1) (codes "open") (codes "open" ∷ []) refl) refl
    by_open false = refl

pub commands_same : (operator : ℕ → Operator) (os : List ℕ) → flat_map (λ o. report.command_lines o (operator o)) os ≡ text_of (lines_with (codes "command") (commands_items operator os))
commands_same operator [] = refl
commands_same operator (o ∷ os) =
    let ended = report.lines (λ c. report.numbered_line (codes "command") o c.0 (report.command_text c.1)) (enumerate_from 1 (operator o).answered) in
    let last : List ℕ = if report.is_open (operator o) then report.numbered_line (codes "command") o (length (operator o).answered + 1) (codes "open") ++ codes "\n" else [] in
    rw (append_assoc ended last (flat_map (λ o. report.command_lines o (operator o)) os), commands_same operator os, next_same o (operator o) (commands_items operator os))
    (ended_same o 1 (operator o).answered (next_items o (operator o) (commands_items operator os)))
