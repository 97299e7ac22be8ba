-- What stands at sets that are down, and what a pending change finds there.
use Rattle.std.specs.Prelude.{◌≡◌, ◌≢◌, ℕ, ◌≤◌, ◌⊎◌, Bool, true, false, All, [], Option, Some, None}
use Rattle.vs_rows.specs.RowMap.{RowMap}
use Rattle.vs_space.specs.declared.status.Status.{Status}
use Rattle.vs_space.specs.declared.status.Status.TheVariants.{Active, Pinned, Sending, Receiving, Sent, Garbage}
use Rattle.vs_calls.specs.declared.stage.Stage.{Stage}
use Rattle.vs_calls.specs.declared.stage.Stage.TheVariants.{Running, Acted, Ended}
use Rattle.vs_record.specs.Change.{Change, SetStatus, AddRows, Write, Wipe, Forget, bucket_of}
use Rattle.vs_send.specs.declared.transfer.Phase.{Phase}
use Rattle.vs_send.specs.declared.transfer.Phase.TheVariants.{Waiting}
use Rattle.vs_send.specs.declared.transfer.Transfer.{Transfer}
use Rattle.vs_machine.specs.State.{State, Bucket, Ask, sets_of}
use Rattle.vs_machine.specs.Coherence.{IsServing}

abbrev pub IsUp : State → ℕ → Type 0
IsUp s x = s.up x ≡ true

-- the call began at its set, and is there still: a call may be posted to a set that is down
abbrev pub has_begun : Stage → Bool
has_begun Running = true
has_begun Acted = true
has_begun Ended = true
has_begun stage = false

-- calls that began are, transfers and asks stand and messages lie only at sets that are up
pub record UpFits (s : State) : Type 0 where
  pub calls : (c x : ℕ) → has_begun (s.client c).present.stage ≡ true → (s.client c).present.set ≡ Some x → IsUp s x
  pub transfers : (b x : ℕ) (t : Transfer) → (s.bucket b).transfer x ≡ Some t → IsUp s x
  pub asks : (b x : ℕ) (a : Ask) → (s.bucket b).ask x ≡ Some a → IsUp s x
  pub messages : (x y : ℕ) → All (λ m. IsUp s x × IsUp s y) (s.link x y).calls
  pub replies : (x y : ℕ) → All (λ r. IsUp s x × IsUp s y) (s.link x y).replies

-- a transfer that still waits for the answer to its rows, or is gone
abbrev pub IsWaiting : Phase → Type 0
IsWaiting (Waiting e n k) = Unit {0}
IsWaiting phase = ⊥

abbrev pub IsStuck : Option Transfer → Type 0
IsStuck None = Unit {0}
IsStuck (Some t) = IsWaiting t.phase

-- in a cluster of n sets, set x may still get this status: by its own, the owner, and what the other set has
abbrev pub StatusFits : ℕ → ℕ → (ℕ → Option Status) → (ℕ → Option Transfer) → (ℕ → RowMap) → ℕ → Option Status → Status → Type 0
StatusFits n o has moves rows x (Some Active) Pinned = Unit {0}
StatusFits n o has moves rows x (Some Pinned) Active = Unit {0}
StatusFits n o has moves rows x (Some Active) (Sending d) = (d ≢ x) × (1 ≤ d) × (d ≤ n)
StatusFits n o has moves rows x (Some (Sending d)) (Sent e) = (e ≡ d) × (d ≢ x) × (has d ≡ Some (Receiving x)) × (rows d ≡ rows x)
StatusFits n o has moves rows x (Some (Sending d)) Active = (moves x ≡ None) × (has d ≢ Some (Receiving x))
StatusFits n o has moves rows x (Some (Receiving y)) Active = o ≡ x
StatusFits n o has moves rows x (Some (Receiving y)) Garbage = (has y ≡ Some (Sending x)) × (moves y ≡ None)
StatusFits n o has moves rows x (Some (Sent d)) Garbage = Unit {0}
StatusFits n o has moves rows x entry status = ⊥

-- in a cluster of n sets, rows may still be added where set z sends them, to a set that has none yet or is receiving them from there
pub record RowsFit (n : ℕ) (has : ℕ → Option Status) (moves : ℕ → Option Transfer) (x z : ℕ) : Type 0 where
  pub within : (1 ≤ z) × (z ≤ n)
  pub free : (has x ≡ None) ⊎ (has x ≡ Some (Receiving z))
  pub sends : has z ≡ Some (Sending x)
  pub stuck : IsStuck (moves z)

-- the change of set x may still take effect
abbrev pub ChangeFits : ℕ → ℕ → (ℕ → Option Status) → (ℕ → Option Transfer) → (ℕ → RowMap) → ℕ → Change → Type 0
ChangeFits n o has moves rows x (SetStatus _ status) = StatusFits n o has moves rows x (has x) status
ChangeFits n o has moves rows x (AddRows _ z page) = RowsFit n has moves x z
ChangeFits n o has moves rows x (Write id _ ops) = IsServing (has x)
ChangeFits n o has moves rows x (Wipe _ k) = has x ≡ Some Garbage
ChangeFits n o has moves rows x (Forget _) = (has x ≡ Some Garbage) × (rows x ≡ [])

abbrev pub FitsIn : ℕ → ℕ → Bucket → ℕ → Change → Type 0
FitsIn n o b = ChangeFits n o b.entry b.transfer b.rows

abbrev pub PendingFits : (ℕ → ℕ) → State → Type 0
PendingFits own s = (x : ℕ) (change : Change) → s.pending x ≡ Some change
    → (s.up x ≡ false) × FitsIn (sets_of s) (own (bucket_of change)) (s.bucket (bucket_of change)) x change

-- no two sets that are down are to take a bucket apart: none is to be thrown away at a set to which it is to be handed, and
-- none is to be taken back, or handed over, by the set from which another is still to take rows
pub record PairsFit (pending : ℕ → Option Change) : Type 0 where
  pub thrown : (x y b : ℕ) → pending x ≡ Some (SetStatus b Garbage) → pending y ≡ Some (SetStatus b (Sent x)) → ⊥
  pub taken : (x y b : ℕ) (page : RowMap) → pending x ≡ Some (SetStatus b Active) → pending y ≡ Some (AddRows b x page) → ⊥
  pub handed : (x y b : ℕ) (page : RowMap) → pending x ≡ Some (SetStatus b (Sent y)) → pending y ≡ Some (AddRows b x page) → ⊥
