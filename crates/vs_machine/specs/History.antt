-- What is right of the histories, and of what calls were answered.
use Rattle.std.specs.Prelude.{◌≡◌, ℕ, ◌+◌, ◌-◌, ◌≤◌, ◌<◌, true, List, [], ◌∷◌, ◌++◌, All, Contains, Some, slice_get}
use Rattle.vs_base.specs.declared.numbers.CallId.{CallId}
use Rattle.vs_base.specs.declared.numbers.Mode.{Mode}
use Rattle.vs_base.specs.declared.numbers.Mode.TheVariants.{Ro, Rw}
use Rattle.vs_rows.specs.Operations.{answers_to}
use Rattle.vs_rows.specs.Said.{Said}
use Rattle.vs_space.specs.declared.status.Status.TheVariants.{Sent}
use Rattle.vs_calls.specs.Outcomes.{Outcome, Reply, Lost, Spent}
use Rattle.vs_calls.specs.Progress.{is_running, is_held}
use Rattle.vs_history.specs.History.{Entry, History, rows_at, write_count}
use Rattle.vs_script.specs.Calls.{Call}
use Rattle.vs_machine.specs.State.{State, Client, next_call}
use Rattle.vs_machine.specs.Kinds.Calls.{place_of}

-- ---- one history

-- the entry is this call of the scripts: of this bucket and this mode, with these operations
abbrev pub IsCallOf : (ℕ → List Call) → ℕ → Mode → Entry → Type 0
IsCallOf scripts b mode e =
    (1 ≤ e.id.call) × (slice_get (scripts e.id.client) (e.id.call - 1) ≡ Some (record { mode = mode; bucket = b; ops = e.ops }))

abbrev pub IsOther : Entry → Entry → Type 0
IsOther e f = e.id ≡ f.id → ⊥

-- no two entries are of one call
abbrev pub IsOnce : List Entry → Type 0
IsOnce [] = Unit {0}
IsOnce (e ∷ es) = All (IsOther e) es × IsOnce es

pub record IsLegal (scripts : ℕ → List Call) (b : ℕ) (h : History) : Type 0 where
  -- the n-th write has place n, and answers from the rows before it
  pub writes_placed : (n : ℕ) (e : Entry) → slice_get h.writes n ≡ Some e → e.place ≡ n + 1
  pub writes_answered : (n : ℕ) (e : Entry) → slice_get h.writes n ≡ Some e → e.answers ≡ answers_to (rows_at h n) e.ops
  -- a read has a place up to the number of writes, and answers from the rows there
  pub reads_placed : (n : ℕ) (e : Entry) → slice_get h.reads n ≡ Some e → e.place ≤ write_count h
  pub reads_answered : (n : ℕ) (e : Entry) → slice_get h.reads n ≡ Some e → e.answers ≡ answers_to (rows_at h e.place) e.ops
  pub once : IsOnce (h.writes ++ h.reads)
  pub writes_called : All (IsCallOf scripts b Rw) h.writes
  pub reads_called : All (IsCallOf scripts b Ro) h.reads

abbrev pub scripts_of : State → ℕ → List Call
scripts_of s c = (s.client c).script

abbrev pub AreLegal : State → Type 0
AreLegal s = (b : ℕ) → IsLegal (scripts_of s) b (s.bucket b).history

-- ---- answered calls

-- where a call of this mode stands
abbrev pub entries_of : History → Mode → List Entry
entries_of h Ro = h.reads
entries_of h Rw = h.writes

-- the call stands among the entries with this place and these answers
abbrev pub StandsWith : List Entry → CallId → ℕ → List Said → Type 0
StandsWith es id place answers =
    (e : Entry) × Contains es e × (e.id ≡ id) × (e.place ≡ place) × (e.answers ≡ answers)

-- the call stands in no history
abbrev pub StandsNowhere : State → CallId → Type 0
StandsNowhere s id = (b : ℕ) → All (λ e. e.id ≡ id → ⊥) ((s.bucket b).history.writes ++ (s.bucket b).history.reads)

-- a call answered Reply stands in its bucket's history, with that place and those answers; one answered Spent nowhere. That
-- each stands once at most, one answered Lost too, is a part of legality
abbrev pub IsAnswered : State → CallId → Call → Outcome → Type 0
IsAnswered s id k (Reply place answers) = StandsWith (entries_of (s.bucket k.bucket).history k.mode) id place answers
IsAnswered s id k (Spent cause) = StandsNowhere s id
IsAnswered s id k Lost = Unit {0}

abbrev pub AreAnswered : State → Type 0
AreAnswered s = (c n : ℕ) (k : Call) (o : Outcome) → slice_get (s.client c).script n ≡ Some k → slice_get (s.client c).answered n ≡ Some o
    → IsAnswered s (record { client = c; call = n + 1 }) k o

-- ---- order and freshness

-- a later call isn't placed before an earlier one, and a later write is placed after it
abbrev pub IsPlacedAfter : ℕ → Mode → ℕ → Type 0
IsPlacedAfter earlier Ro later = earlier ≤ later
IsPlacedAfter earlier Rw later = earlier < later

abbrev pub KeepsCallerOrder : Client → Type 0
KeepsCallerOrder c = (m n p q : ℕ) (j k : Call) (a b : List Said) → m < n
    → slice_get c.script m ≡ Some j → slice_get c.script n ≡ Some k → j.bucket ≡ k.bucket
    → slice_get c.answered m ≡ Some (Reply p a) → slice_get c.answered n ≡ Some (Reply q b)
    → IsPlacedAfter p k.mode q

-- a call that acts has a place between the writes at its last post and those now
abbrev pub IsFreshPlace : Mode → ℕ → ℕ → ℕ → Type 0
IsFreshPlace Ro posted now place = (posted ≤ place) × (place ≤ now)
IsFreshPlace Rw posted now place = place ≡ now + 1

abbrev pub IsFresh : State → Type 0
IsFresh s = (c x : ℕ) (k : Call) → is_running (s.client c).present.stage ≡ true → next_call (s.client c) ≡ Some k → (s.client c).present.set ≡ Some x
    → IsFreshPlace k.mode (s.client c).present.writes (write_count (s.bucket k.bucket).history) (place_of (s.bucket k.bucket) x k.mode)

-- while a read is held at a set from which the bucket was sent, that set has the rows of the kept place
pub record IsCopyAt (s : State) (x b posted : ℕ) : Type 0 where
  pub rows : (s.bucket b).rows x ≡ rows_at (s.bucket b).history ((s.bucket b).kept x)
  pub fresh : posted ≤ (s.bucket b).kept x
  pub within : (s.bucket b).kept x ≤ write_count (s.bucket b).history

abbrev pub IsFrozenCopy : State → Type 0
IsFrozenCopy s = (c x d : ℕ) (k : Call) → is_held (s.client c).present.stage ≡ true → next_call (s.client c) ≡ Some k → (s.client c).present.set ≡ Some x
    → k.mode ≡ Ro → (s.bucket k.bucket).entry x ≡ Some (Sent d) → IsCopyAt s x k.bucket (s.client c).present.writes
