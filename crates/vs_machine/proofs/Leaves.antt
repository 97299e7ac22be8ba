-- What an event leaves of the transfers and the asks of a bucket.
use Rattle.std.proofs.Common.{◌≡◌, ℕ, Bool, true, false, refl, List, Option, Result, Ok, Err}
use Rattle.std.specs.Prelude.{if◌then◌else◌}
use Rattle.vs_base.specs.declared.numbers.CallId.{CallId}
use Rattle.vs_base.specs.declared.numbers.Mode.{Mode}
use Rattle.vs_base.specs.declared.numbers.Mode.TheVariants.{Ro, Rw}
use Rattle.vs_rows.specs.declared.op.Op.{Op}
use Rattle.vs_space.specs.declared.status.Status.{Status}
use Rattle.vs_space.specs.declared.status.Status.TheVariants.{Active, Pinned, Sending, Receiving, Sent, Garbage}
use Rattle.vs_space.specs.declared.reply.RecvFault.{RecvFault}
use Rattle.vs_link.specs.Connection.{Message, Chunk, Last, Stat}
use Rattle.vs_record.specs.Change.{Change, SetStatus, AddRows, Write, Wipe, Forget}
use Rattle.vs_recover.specs.declared.decision.Decision.{Decision}
use Rattle.vs_recover.specs.declared.decision.Decision.TheVariants.{Stay, ToActive, ToGarbage}
use Rattle.vs_recv.specs.declared.took.Took.{Took}
use Rattle.vs_machine.specs.State.{Bucket}
use Rattle.vs_machine.specs.Kinds.Calls.{bucket_after}
use Rattle.vs_machine.specs.Kinds.Connections.{bucket_taking, decided, recovered, counts_at, decision_by}
use Rattle.vs_machine.specs.Kinds.Stops.{with_status, with_change}

-- a call runs
pub acted_transfer : (b : Bucket) (x : ℕ) (id : CallId) (mode : Mode) (ops : List Op) → (bucket_after b x id mode ops).transfer ≡ b.transfer
acted_transfer b x id Ro ops = refl
acted_transfer b x id Rw ops = refl

pub acted_ask : (b : Bucket) (x : ℕ) (id : CallId) (mode : Mode) (ops : List Op) → (bucket_after b x id mode ops).ask ≡ b.ask
acted_ask b x id Ro ops = refl
acted_ask b x id Rw ops = refl

-- a message is taken
pub taking_transfer : (b : Bucket) (x y : ℕ) (m : Message) (r : Result Took RecvFault) → (bucket_taking b x y m r).transfer ≡ b.transfer
taking_transfer b x y (Chunk q page) (Ok took) = refl
taking_transfer b x y (Chunk q page) (Err fault) = refl
taking_transfer b x y (Last q) (Ok took) = refl
taking_transfer b x y (Last q) (Err fault) = refl
taking_transfer b x y (Stat q) (Ok took) = refl
taking_transfer b x y (Stat q) (Err fault) = refl

-- a set decides
decided_transfer : (b : Bucket) (x : ℕ) (d : Decision) → (decided b x d).transfer ≡ b.transfer
decided_transfer b x Stay = refl
decided_transfer b x ToActive = refl
decided_transfer b x ToGarbage = refl

pub recovered_transfer : (b : Bucket) (epoch x y n : ℕ) (remote : Option Status) (live : Bool) → (recovered b epoch x y n remote live).transfer ≡ b.transfer
recovered_transfer b epoch x y n remote live = by (counts_at b epoch x y n)
  where
    by : (t : Bool) → (if t then decided b x (decision_by (b.entry x) remote live) else b).transfer ≡ b.transfer
    by true = decided_transfer b x (decision_by (b.entry x) remote live)
    by false = refl

-- a change takes effect
status_transfer : (b : Bucket) (x : ℕ) (st : Status) → (with_status b x st).transfer ≡ b.transfer
status_transfer b x Active = refl
status_transfer b x Pinned = refl
status_transfer b x (Sending d) = refl
status_transfer b x (Receiving y) = refl
status_transfer b x (Sent d) = refl
status_transfer b x Garbage = refl

status_ask : (b : Bucket) (x : ℕ) (st : Status) → (with_status b x st).ask ≡ b.ask
status_ask b x Active = refl
status_ask b x Pinned = refl
status_ask b x (Sending d) = refl
status_ask b x (Receiving y) = refl
status_ask b x (Sent d) = refl
status_ask b x Garbage = refl

pub changed_transfer : (b : Bucket) (x : ℕ) (change : Change) → (with_change b x change).transfer ≡ b.transfer
changed_transfer b x (SetStatus q st) = status_transfer b x st
changed_transfer b x (AddRows q z page) = refl
changed_transfer b x (Write id q ops) = refl
changed_transfer b x (Wipe q n) = refl
changed_transfer b x (Forget q) = refl

pub changed_ask : (b : Bucket) (x : ℕ) (change : Change) → (with_change b x change).ask ≡ b.ask
changed_ask b x (SetStatus q st) = status_ask b x st
changed_ask b x (AddRows q z page) = refl
changed_ask b x (Write id q ops) = refl
changed_ask b x (Wipe q n) = refl
changed_ask b x (Forget q) = refl
