-- Which accounts are legal, and what is wrong at a line of one that isn't.
use Rattle.std.specs.Prelude.{ℕ, ◌≡◌, ◌≢◌, ◌+◌, ◌*◌, ◌^◌, ◌<◌, ◌≤◌, ◌⊎◌, Bool, true, false, ◌==◌, List, [], ◌∷◌, ◌++◌, length, take, filter, count_by, slice_get, Some}
use Rattle.std.specs.List.{list_any, flat_map}
use Rattle.vs_base.specs.declared.numbers.CallId.{CallId}
use Rattle.vs_rows.specs.RowMap.{RowMap}
use Rattle.vs_rows.specs.Operations.{answers_to, rows_after}
use Rattle.vs_rows.specs.Said.{Said, Number}
use Rattle.vs_audit.specs.Account.{Entry, History, Outcome, Reply, Lost, Spent, Open, Call, Account}
use Rattle.vs_audit.specs.Turn.{turn}
use Rattle.vs_audit.specs.declared.fault.AuditFault.{AuditFault}
use Rattle.vs_audit.specs.declared.fault.AuditFault.TheVariants as fault
use Rattle.vs_audit.specs.declared.fault.Illegal.{Illegal}
use Rattle.vs_audit.specs.declared.fault.Illegal.TheVariants.{DoubleCall, WrongPlace, WrongAnswers, NoEntry, WrongOrder}

-- ---- calls

-- a call as one number, by its client and then by its number, which is below 2^32
abbrev pub number_of : CallId → ℕ
number_of id = id.client * 2 ^ 32 + id.call

-- the same call
abbrev pub is_same : CallId → CallId → Bool
is_same a b = number_of a == number_of b

-- an earlier call of the same client
abbrev pub IsEarlier : CallId → CallId → Type 0
IsEarlier a b = (a.client ≡ b.client) × (number_of a < number_of b)

-- the lines of calls rise, by client and then by call
abbrev pub IsRising : List Call → Type 0
IsRising calls =
    (m n : ℕ) (b c : Call) → m < n → slice_get calls m ≡ Some b → slice_get calls n ≡ Some c
    → number_of b.id < number_of c.id

-- ---- histories

-- the entries of a history
abbrev pub entries_of : History → List Entry
entries_of h = h.writes ++ h.reads

-- the rows after writes, the first of them first
abbrev pub replay : RowMap → List Entry → RowMap
replay rows [] = rows
replay rows (w ∷ ws) = replay (rows_after rows w.ops) ws

-- the rows after the writes up to a place
abbrev pub rows_at : History → ℕ → RowMap
rows_at h place = replay h.base (take place h.writes)

-- among entries, that of this number, from 0
abbrev pub IsAt : List Entry → ℕ → Entry → Type 0
IsAt es n e = slice_get es n ≡ Some e

-- the call of an entry is that of one before it
abbrev pub IsDouble : List Entry → ℕ → Entry → Type 0
IsDouble es n e = list_any (λ o. is_same o.id e.id) (take n es) ≡ true

-- the answers are those of the operations on these rows
abbrev pub HasAnswers : RowMap → Entry → Type 0
HasAnswers rows e = e.answers ≡ answers_to rows e.ops

-- what is wrong at an entry of a history
abbrev pub HistoryFault : History → ℕ → Illegal → Type 0
HistoryFault h line DoubleCall =
    (n : ℕ) × (e : Entry) × IsAt (entries_of h) n e × (line ≡ e.line) × IsDouble (entries_of h) n e
HistoryFault h line WrongPlace =
    ((n : ℕ) × (w : Entry) × IsAt h.writes n w × (line ≡ w.line) × (w.place ≢ n + 1))
    ⊎ ((n : ℕ) × (r : Entry) × IsAt h.reads n r × (line ≡ r.line) × (length h.writes < r.place))
HistoryFault h line WrongAnswers =
    ((n : ℕ) × (w : Entry) × IsAt h.writes n w × (line ≡ w.line) × ¬ HasAnswers (rows_at h n) w)
    ⊎ ((n : ℕ) × (r : Entry) × IsAt h.reads n r × (line ≡ r.line)
    × (r.place ≤ length h.writes) × ¬ HasAnswers (rows_at h r.place) r)
HistoryFault h line NoEntry = ⊥
HistoryFault h line WrongOrder = ⊥

-- ---- calls against entries

-- the entries of a call in these histories
abbrev pub entries_with : CallId → List History → List Entry
entries_with id hs = filter (λ e. is_same e.id id) (flat_map entries_of hs)

-- a call stands once, at this place and with these answers
abbrev pub StandsOnce : List History → CallId → ℕ → List Said → Type 0
StandsOnce hs id place answers =
    (e : Entry) × (entries_with id hs ≡ e ∷ []) × (e.place ≡ place) × (e.answers ≡ answers)

-- a history has the call among its writes
abbrev pub writes_call : CallId → History → Bool
writes_call id h = list_any (λ w. is_same w.id id) h.writes

abbrev pub reads_call : CallId → History → Bool
reads_call id h = list_any (λ r. is_same r.id id) h.reads

-- a call over the whole cluster: it is a write of each bucket, and its answer is their number
pub record StandsInAll (a : Account) (id : CallId) (place : ℕ) (answers : List Said) : Type 0 where
  pub none : place ≡ 0
  pub number : answers ≡ Number a.buckets ∷ []
  pub some : 0 < a.buckets
  pub writes : count_by (writes_call id) a.histories ≡ a.buckets
  pub reads : list_any (reads_call id) a.histories ≡ false

-- the entry that an outcome tells of isn't there, or one is there that it excludes
abbrev pub LacksEntry : Account → CallId → Outcome → Type 0
LacksEntry a id (Reply place answers) =
    ¬ (StandsOnce a.histories id place answers ⊎ StandsInAll a id place answers)
LacksEntry a id Lost = ⊥
LacksEntry a id Spent = entries_with id a.histories ≢ []
LacksEntry a id Open = ⊥

abbrev pub IsReply : Outcome → Type 0
IsReply (Reply place answers) = Unit {0}
IsReply Lost = ⊥
IsReply Spent = ⊥
IsReply Open = ⊥

-- an entry of a history, and whether it is a write
abbrev pub StandsIn : History → Bool → Entry → Type 0
StandsIn h true e = (n : ℕ) × IsAt h.writes n e
StandsIn h false e = (n : ℕ) × IsAt h.reads n e

-- an entry of a later call stands too low after that of an earlier one
abbrev pub IsTooLow : Entry → Bool → Entry → Type 0
IsTooLow earlier true e = e.place ≤ earlier.place
IsTooLow earlier false e = e.place < earlier.place

-- a call was answered, and an entry of it in a history
pub record Answered (calls : List Call) (h : History) (c : Call) (is_write : Bool) (e : Entry) : Type 0 where
  pub line : (n : ℕ) × (slice_get calls n ≡ Some c)
  pub reply : IsReply c.outcome
  pub stands : StandsIn h is_write e
  pub same : number_of e.id ≡ number_of c.id

-- in a history an earlier answered call of the client stands above this one
pub record IsOutOfOrder (calls : List Call) (h : History) (c : Call) : Type 0 where
  pub earlier : Call
  pub before : Entry
  pub is_write_before : Bool
  pub after : Entry
  pub is_write : Bool
  pub first : Answered calls h earlier is_write_before before
  pub second : Answered calls h c is_write after
  pub order : IsEarlier earlier.id c.id
  pub low : IsTooLow before is_write after

-- what is wrong at the line of a call
abbrev pub CallFault : Account → Call → Illegal → Type 0
CallFault a c DoubleCall = ⊥
CallFault a c WrongPlace = ⊥
CallFault a c WrongAnswers = ⊥
CallFault a c NoEntry = LacksEntry a c.id c.outcome
CallFault a c WrongOrder = (n : ℕ) × (h : History) × (slice_get a.histories n ≡ Some h) × IsOutOfOrder a.calls h c

-- ---- accounts

-- what is wrong at a line of an account
abbrev pub HasFault : Account → ℕ → Illegal → Type 0
HasFault a line kind =
    ((n : ℕ) × (h : History) × (slice_get a.histories n ≡ Some h) × HistoryFault h line kind)
    ⊎ ((n : ℕ) × (c : Call) × (slice_get a.calls n ≡ Some c) × (line ≡ c.line) × CallFault a c kind)

-- nothing is wrong at any line
abbrev pub IsLegalAccount : Account → Type 0
IsLegalAccount a = (line : ℕ) (kind : Illegal) → ¬ HasFault a line kind

-- the least line at which something is wrong, and the first thing that is wrong there
pub record IsFirstFault (a : Account) (line : ℕ) (kind : Illegal) : Type 0 where
  pub wrong : HasFault a line kind
  pub first : (l : ℕ) (k : Illegal) → HasFault a l k → turn line kind ≤ turn l k

-- why an account isn't said to be legal
abbrev pub IsCauseOf : Account → AuditFault → Type 0
IsCauseOf a (fault.Illegal line kind) = IsFirstFault a line kind
IsCauseOf a fault.NoMemory = Unit {0}
