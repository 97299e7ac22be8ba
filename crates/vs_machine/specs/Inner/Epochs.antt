-- The epochs in which transfers wait for a reply.
use Rattle.std.specs.Prelude.{◌≡◌, ℕ, ◌≤◌, Some}
use Rattle.vs_link.specs.Connection.{Connection}
use Rattle.vs_send.specs.declared.transfer.Phase.{Phase}
use Rattle.vs_send.specs.declared.transfer.Phase.TheVariants.{Waiting, WaitingLast}
use Rattle.vs_send.specs.declared.transfer.Transfer.{Transfer}
use Rattle.vs_machine.specs.State.{Bucket}

-- a message that is waited for was sent in an epoch of this connection that has begun
abbrev pub EpochFits : Connection → Phase → Type 0
EpochFits l (Waiting e n k) = e ≤ l.epoch
EpochFits l (WaitingLast e n) = e ≤ l.epoch
EpochFits l phase = Unit {0}

abbrev pub WaitsBelow : (ℕ → Bucket) → (ℕ → ℕ → Connection) → Type 0
WaitsBelow bs ls = (b x : ℕ) (t : Transfer) → (bs b).transfer x ≡ Some t → EpochFits (ls x t.dest) t.phase
