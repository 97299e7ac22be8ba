-- Who has a bucket: when its entries fit together, which set owns it, and which accepts its writes.
use Rattle.std.specs.Prelude.{◌≡◌, ◌≢◌, ℕ, ◌≤◌, ◌⊎◌, ◌||◌, Bool, true, false, if◌then◌else◌, [], Option, Some, None}
use Rattle.vs_rows.specs.RowMap.{RowMap}
use Rattle.vs_space.specs.declared.status.Status.{Status}
use Rattle.vs_space.specs.declared.status.Status.TheVariants.{Active, Pinned, Sending, Receiving, Sent, Garbage}
use Rattle.vs_event.specs.declared.event.Event.{Event}
use Rattle.vs_event.specs.declared.event.Event.TheVariants.{Seal, Restart}
use Rattle.vs_record.specs.Change.{Change, SetStatus}
use Rattle.vs_send.specs.declared.transfer.Transfer.{Transfer}
use Rattle.vs_machine.specs.Tables.{put, or_else, least_to}
use Rattle.vs_machine.specs.State.{State, sets_of}
use Rattle.vs_machine.specs.Kinds.Connections.{is_receiving}
use Rattle.vs_space.specs.Status.{is_active}
use Rattle.vs_machine.specs.Kinds.Rebalancing.{is_pinned}

-- ---- coherence

-- an entry of a set that takes reads and writes
abbrev pub IsServing : Option Status → Type 0
IsServing (Some Active) = Unit {0}
IsServing (Some Pinned) = Unit {0}
IsServing entry = ⊥

-- an entry of a set that doesn't have the bucket, or not any more
abbrev pub IsAway : Option Status → Type 0
IsAway None = Unit {0}
IsAway (Some (Sent d)) = Unit {0}
IsAway (Some Garbage) = Unit {0}
IsAway entry = ⊥

-- one set has the bucket
pub record IsServed (entry : ℕ → Option Status) : Type 0 where
  pub at : ℕ
  pub serving : IsServing (entry at)
  pub others : (y : ℕ) → y ≢ at → IsAway (entry y)

-- one set sends it to another, which may be receiving it
pub record IsSending (entry : ℕ → Option Status) : Type 0 where
  pub from : ℕ
  pub to : ℕ
  pub sending : entry from ≡ Some (Sending to)
  pub others : (y : ℕ) → y ≢ from → IsAway (entry y) ⊎ ((y ≡ to) × (entry y ≡ Some (Receiving from)))

-- the sender has sent it, and has it no more
abbrev pub HasSent : ℕ → Option Status → Type 0
HasSent d None = Unit {0}
HasSent d (Some Garbage) = Unit {0}
HasSent d (Some (Sent e)) = e ≡ d
HasSent d entry = ⊥

-- one set receives it, and no other has it
pub record IsReceiving (entry : ℕ → Option Status) : Type 0 where
  pub at : ℕ
  pub from : ℕ
  pub receiving : entry at ≡ Some (Receiving from)
  pub sender : HasSent at (entry from)
  pub others : (y : ℕ) → y ≢ at → IsAway (entry y)

-- the other set that an entry names, if it names one
abbrev pub names : Option Status → Option ℕ
names (Some (Sending d)) = Some d
names (Some (Receiving x)) = Some x
names (Some (Sent d)) = Some d
names entry = None

-- the entries of a bucket fit together, in a cluster of n sets, and a set without an entry has no rows of it
pub record IsCoherentBucket (n : ℕ) (entry : ℕ → Option Status) (rows : ℕ → RowMap) : Type 0 where
  pub placed : IsServed entry ⊎ IsSending entry ⊎ IsReceiving entry
  pub named : (x y : ℕ) → names (entry x) ≡ Some y → (y ≢ x) × (1 ≤ y) × (y ≤ n)
  pub empty : (x : ℕ) → entry x ≡ None → rows x ≡ []
  -- only sets of the cluster have entries
  pub within : (x : ℕ) → entry x ≢ None → (1 ≤ x) × (x ≤ n)

abbrev pub IsCoherent : State → Type 0
IsCoherent s = (b : ℕ) → 1 ≤ b → b ≤ s.config.bucket_count → IsCoherentBucket (sets_of s) (s.bucket b).entry (s.bucket b).rows

-- ---- acceptance

-- a set that is up accepts the writes of a bucket that it has active or pinned
pub record AcceptsWrites (s : State) (x b : ℕ) : Type 0 where
  pub up : s.up x ≡ true
  pub serving : IsServing ((s.bucket b).entry x)

-- ---- owners

abbrev pub is_sending : Option Status → Bool
is_sending (Some (Sending d)) = true
is_sending entry = false

-- the set that has the bucket active, pinned or sending, else the one that receives it
abbrev pub owner_at : (ℕ → Option Status) → ℕ → Option ℕ
owner_at entry n =
    or_else (least_to (λ x. is_active (entry x) || is_pinned (entry x) || is_sending (entry x)) n)
    (least_to (λ x. is_receiving (entry x)) n)

abbrev pub dest_or : ℕ → Option Transfer → ℕ
dest_or o None = o
dest_or o (Some t) = t.dest

-- a change that makes a bucket sent hands it over
abbrev pub handed_by : (ℕ → ℕ) → Option Change → ℕ → ℕ
handed_by own (Some (SetStatus b (Sent d))) = put own b d
handed_by own change = own

-- the owners after an event that is possible: a seal hands the bucket over, and so does a pending one that takes effect
abbrev pub owners : (ℕ → ℕ) → State → Event → ℕ → ℕ
owners own s (Seal x b) = put own b (dest_or (own b) ((s.bucket b).transfer x))
owners own s (Restart x true by) = handed_by own (if s.up x then None else s.pending x)
owners own s e = own
