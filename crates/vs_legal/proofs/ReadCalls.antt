-- The lines of calls are read.
use Rattle.std.proofs.Common.{◌≡◌, ℕ, zero, suc, ◌+◌, ◌*◌, ◌<◌, ◌≤◌, ◌^◌, ◌-◌, Bool, true, false, List, [], ◌∷◌, ◌++◌, map, length, Ok, refl, arith, append_assoc, lit<}
use Rattle.std.specs.Prelude.{codes, nat_lt, if◌then◌else◌}
use Rattle.std.specs.Fmt.{decimal}
use Rattle.std.specs.List.{flat_map, AllByRecursion, enumerate_from}
use Rattle.std.proofs.lemmas.Bool.Decides.{nat_tests}
use Rattle.vs_base.specs.declared.numbers.CallId.{CallId}
use Rattle.vs_calls.specs.Outcomes as answered
use Rattle.vs_calls.specs.Progress.{is_idle}
use Rattle.vs_machine.specs.State.{Client}
use Rattle.vs_audit.specs.Account.{Outcome, Open, Call}
use Rattle.vs_audit.specs.Legal.{number_of}
use Rattle.vs_audit.specs.ReportLines as lines
use Rattle.vs_legal.specs.Account.{id_of, outcome_of, calls_of, call_at}
use Rattle.vs_legal.proofs.Words.Spelled.{are_words}
use Rattle.vs_legal.proofs.Words.Operations.{IsNamedAnswer, answers_words}
use Rattle.vs_legal.proofs.Words.Entries.{AreNamed}
use Rattle.vs_legal.proofs.Words.Statuses.{CauseNamesSet, cause_words}
use Rattle.vs_legal.proofs.Words.Report.{outcome_words, numbered_tail}
use Rattle.vs_legal.proofs.Spelled.{decimal_word}
use Rattle.vs_legal.proofs.ReadOps.{number_reads}
use Rattle.vs_legal.proofs.ReadAnswers.{answers_read}
use Rattle.vs_legal.proofs.ReadStatuses.{cause_reads, cause_is_words}
use Rattle.vs_legal.proofs.ReadItems.{Item, IsItem, Rises, values_from}
use Rattle.vs_legal.proofs.ReadLines.{from}
use Rattle.vs_legal.proofs.ReadHistories.{answers_are_words}

-- ---- one line

abbrev pub IsReadableOutcome : ℕ → answered.Outcome → Type 0
IsReadableOutcome sets (answered.Reply place answers) = (place < 2 ^ 64) × AreNamed IsNamedAnswer answers
IsReadableOutcome sets answered.Lost = Unit {0}
IsReadableOutcome sets (answered.Spent c) = CauseNamesSet sets c

above : (last n : ℕ) → last < n → nat_lt last n ≡ true
above last n h = grind (arith, nat_tests)

module _ (sets : ℕ) (fits : sets < 2 ^ 64) (c : ℕ) (some : 1 ≤ c) (few : c ≤ 64) where
  call_reads : (last line n : ℕ) (o : answered.Outcome) → 1 ≤ n → n < 2 ^ 32 → IsReadableOutcome sets o → last < number_of (id_of c n)
      → lines.call_line sets last line (codes "call" ∷ numbered_tail c n (outcome_words o)) ≡ Ok (call_at line (id_of c n, outcome_of o))
  call_reads last line n (answered.Reply place []) first small is high = absurd is.1
  call_reads last line n (answered.Reply place (a ∷ given)) first small is high =
      rw (
        number_reads 1 64 c (decimal n ∷ codes "reply" ∷ decimal place ∷ answers_words (a ∷ given)) (lit< tt) some few,
        number_reads 1 (2 ^ 32 - 1) n (codes "reply" ∷ decimal place ∷ answers_words (a ∷ given)) (lit< tt) first (omega arith),
        number_reads 0 (2 ^ 64 - 1) place (answers_words (a ∷ given)) (lit< tt) (omega arith) (omega (arith, is.0)),
        answers_read a given is.1.1 is.1.0 is.1.2,
        above last (number_of (id_of c n)) high,
      ) refl
  call_reads last line n answered.Lost first small is high =
      rw (
        number_reads 1 64 c (decimal n ∷ codes "lost" ∷ []) (lit< tt) some few,
        number_reads 1 (2 ^ 32 - 1) n (codes "lost" ∷ []) (lit< tt) first (omega arith),
        above last (number_of (id_of c n)) high,
      ) refl
  call_reads last line n (answered.Spent cause) first small is high =
      rw (
        number_reads 1 64 c (decimal n ∷ codes "spent" ∷ cause_words cause) (lit< tt) some few,
        number_reads 1 (2 ^ 32 - 1) n (codes "spent" ∷ cause_words cause) (lit< tt) first (omega arith),
        cause_reads sets cause fits is,
        above last (number_of (id_of c n)) high,
      ) refl

  open_reads : (last line n : ℕ) → 1 ≤ n → n < 2 ^ 32 → last < number_of (id_of c n) → lines.call_line sets last line (codes "call" ∷ numbered_tail c n (codes "open" ∷ [])) ≡ Ok (call_at line (id_of c n, Open))
  open_reads last line n first small high =
      rw (
        number_reads 1 64 c (decimal n ∷ codes "open" ∷ []) (lit< tt) some few,
        number_reads 1 (2 ^ 32 - 1) n (codes "open" ∷ []) (lit< tt) first (omega arith),
        above last (number_of (id_of c n)) high,
      ) refl

  outcome_are_words : (o : answered.Outcome) → IsReadableOutcome sets o → are_words (outcome_words o) ≡ true
  outcome_are_words (answered.Reply place answers) is = rw (decimal_word place is.0) (answers_are_words answers is.1)
  outcome_are_words answered.Lost is = refl
  outcome_are_words (answered.Spent cause) is = cause_is_words sets cause fits is

-- ---- lines, as items

abbrev pub answered_item : ℕ → ℕ → answered.Outcome → Item Call
answered_item c n o = record { tail = numbered_tail c n (outcome_words o); key = number_of (id_of c n); value = λ line. call_at line (id_of c n, outcome_of o) }

abbrev pub open_item : ℕ → ℕ → Item Call
open_item c n = record { tail = numbered_tail c n (codes "open" ∷ []); key = number_of (id_of c n); value = λ line. call_at line (id_of c n, Open) }

-- the answered calls from this number on, before others
abbrev pub answered_items : ℕ → ℕ → List answered.Outcome → List (Item Call) → List (Item Call)
answered_items c n [] rest = rest
answered_items c n (o ∷ os) rest = answered_item c n o ∷ answered_items c (n + 1) os rest

abbrev pub open_items : ℕ → Client → List (Item Call) → List (Item Call)
open_items c client rest = if is_idle client.present.stage then rest else open_item c (length client.answered + 1) ∷ rest

abbrev pub client_items : ℕ → Client → List (Item Call) → List (Item Call)
client_items c client rest = answered_items c 1 client.answered (open_items c client rest)

abbrev pub calls_items : (ℕ → Client) → List ℕ → List (Item Call)
calls_items client [] = []
calls_items client (c ∷ cs) = client_items c (client c) (calls_items client cs)

abbrev pub IsCallItem : ℕ → Item Call → Type 0
IsCallItem sets i = IsItem (lines.call_line sets) (λ c. number_of c.id) (codes "call") i

pub record IsReadableClient (sets c : ℕ) (client : Client) : Type 0 where
  pub some : 1 ≤ c
  pub few : c ≤ 64
  pub answered : AllByRecursion (IsReadableOutcome sets) client.answered
  pub calls : length client.answered + 1 < 2 ^ 32

-- ---- they are read

answered_are : (sets c n : ℕ) (os : List answered.Outcome) (rest : List (Item Call)) → sets < 2 ^ 64 → 1 ≤ c → c ≤ 64 → 1 ≤ n → n + length os < 2 ^ 32
    → AllByRecursion (IsReadableOutcome sets) os → AllByRecursion (IsCallItem sets) rest → AllByRecursion (IsCallItem sets) (answered_items c n os rest)
answered_are sets c n [] rest fits some few first small are others = others
answered_are sets c n (o ∷ os) rest fits some few first small are others = (
  record {
    words = rw (decimal_word c (omega arith), decimal_word n (omega arith)) (outcome_are_words sets fits c some few o are.0);
    numbered = λ line. refl;
    reads = λ last line high. call_reads sets fits c some few last line n o first (omega arith) are.0 high;
  },
  answered_are sets c (n + 1) os rest fits some few (omega arith) (omega arith) are.1 others,
)

open_are : (sets c : ℕ) (client : Client) (rest : List (Item Call)) → sets < 2 ^ 64 → IsReadableClient sets c client → AllByRecursion (IsCallItem sets) rest → AllByRecursion (IsCallItem sets) (open_items c client rest)
open_are sets c client rest fits is others = by_idle (is_idle client.present.stage)
  where
    by_idle : (b : Bool) → AllByRecursion (IsCallItem sets) (if b then rest else open_item c (length client.answered + 1) ∷ rest)
    by_idle true = others
    by_idle false = (
      record {
        words = rw (decimal_word c (omega (arith, is.few)), decimal_word (length client.answered + 1) (omega (arith, is.calls))) refl;
        numbered = λ line. refl;
        reads = λ last line high. open_reads sets fits c is.some is.few last line (length client.answered + 1) (omega arith) is.calls high;
      },
      others,
    )

pub calls_are : (sets : ℕ) (client : ℕ → Client) (cs : List ℕ) → sets < 2 ^ 64 → AllByRecursion (λ c. IsReadableClient sets c (client c)) cs → AllByRecursion (IsCallItem sets) (calls_items client cs)
calls_are sets client [] fits are = tt
calls_are sets client (c ∷ cs) fits are =
    let is = are.0 in
    answered_are sets c 1 (client c).answered (open_items c (client c) (calls_items client cs)) fits is.some is.few (omega arith) (omega (arith, is.calls)) is.answered
    (open_are sets c (client c) (calls_items client cs) fits is (calls_are sets client cs fits are.1))

-- ---- they rise

answered_rise : (c n : ℕ) (os : List answered.Outcome) (rest : List (Item Call)) → ((last : ℕ) → last < c * 2 ^ 32 + n + length os → Rises last rest)
    → (last : ℕ) → last < c * 2 ^ 32 + n → Rises last (answered_items c n os rest)
answered_rise c n [] rest others last low = others last (omega arith)
answered_rise c n (o ∷ os) rest others last low = (omega arith, answered_rise c (n + 1) os rest (λ l h. others l (omega arith)) (c * 2 ^ 32 + n) (omega arith))

open_rise : (c : ℕ) (client : Client) (rest : List (Item Call)) → length client.answered + 1 < 2 ^ 32 → ((last : ℕ) → last < (c + 1) * 2 ^ 32 → Rises last rest)
    → (last : ℕ) → last < c * 2 ^ 32 + 1 + length client.answered → Rises last (open_items c client rest)
open_rise c client rest small others last low = by_idle (is_idle client.present.stage)
  where
    by_idle : (b : Bool) → Rises last (if b then rest else open_item c (length client.answered + 1) ∷ rest)
    by_idle true = others last (omega arith)
    by_idle false = (omega arith, others (c * 2 ^ 32 + (length client.answered + 1)) (omega arith))

pub calls_rise : (client : ℕ → Client) (m c last : ℕ) → ((k : ℕ) → length (client k).answered + 1 < 2 ^ 32) → last < c * 2 ^ 32 + 1 → Rises last (calls_items client (from c m))
calls_rise client zero c last few low = tt
calls_rise client (suc m) c last few low =
    answered_rise c 1 (client c).answered (open_items c (client c) (calls_items client (from (c + 1) m)))
    (open_rise c (client c) (calls_items client (from (c + 1) m)) (few c) (λ l h. calls_rise client m (c + 1) l few (omega arith)))
    last low

-- ---- what they tell is the account's

-- the items tell these calls
abbrev pub TellCalls : List (Item Call) → List (CallId × Outcome) → Type 0
TellCalls [] [] = Unit {0}
TellCalls [] (x ∷ xs) = ⊥
TellCalls (i ∷ items) [] = ⊥
TellCalls (i ∷ items) (x ∷ xs) = ((line : ℕ) → i.value line ≡ call_at line x) × TellCalls items xs

pub told_calls : (items : List (Item Call)) (xs : List (CallId × Outcome)) (n : ℕ) → TellCalls items xs → values_from n items ≡ map (λ c. call_at c.0 c.1) (enumerate_from n xs)
told_calls [] [] n tell = refl
told_calls [] (x ∷ xs) n tell = absurd tell
told_calls (i ∷ items) [] n tell = absurd tell
told_calls (i ∷ items) (x ∷ xs) n tell = rw (tell.0 n, told_calls items xs (n + 1) tell.1) refl

answered_tell : (c n : ℕ) (os : List answered.Outcome) (rest : List (Item Call)) (xs : List (CallId × Outcome)) → TellCalls rest xs
    → TellCalls (answered_items c n os rest) (map (λ o. (id_of c o.0, outcome_of o.1)) (enumerate_from n os) ++ xs)
answered_tell c n [] rest xs tell = tell
answered_tell c n (o ∷ os) rest xs tell = (λ line. refl, answered_tell c (n + 1) os rest xs tell)

open_tell : (c : ℕ) (client : Client) (rest : List (Item Call)) (xs : List (CallId × Outcome)) → TellCalls rest xs
    → TellCalls (open_items c client rest) ((if is_idle client.present.stage then [] else (id_of c (length client.answered + 1), Open) ∷ []) ++ xs)
open_tell c client rest xs tell = by_idle (is_idle client.present.stage)
  where
    by_idle : (b : Bool) → TellCalls (if b then rest else open_item c (length client.answered + 1) ∷ rest) ((if b then [] else (id_of c (length client.answered + 1), Open) ∷ []) ++ xs)
    by_idle true = tell
    by_idle false = (λ line. refl, tell)

pub calls_tell : (client : ℕ → Client) (cs : List ℕ) → TellCalls (calls_items client cs) (flat_map (λ c. calls_of c (client c)) cs)
calls_tell client [] = tt
calls_tell client (c ∷ cs) =
    let own : List (CallId × Outcome) = map (λ (o : ℕ × answered.Outcome). (id_of c o.0, outcome_of o.1)) (enumerate_from 1 (client c).answered) in
    let last : List (CallId × Outcome) = if is_idle (client c).present.stage then [] else (id_of c (length (client c).answered + 1), Open) ∷ [] in
    let others : List (CallId × Outcome) = flat_map (λ (c : ℕ). calls_of c (client c)) cs in
    rw (append_assoc own last others)
    (answered_tell c 1 (client c).answered (open_items c (client c) (calls_items client cs)) (last ++ others)
    (open_tell c (client c) (calls_items client cs) others (calls_tell client cs)))
