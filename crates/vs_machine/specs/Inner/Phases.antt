-- What a set has a bucket as, by the phase of its transfer.
use Rattle.std.specs.Prelude.{◌≡◌, ℕ, ◌⊎◌, Option, Some}
use Rattle.vs_space.specs.declared.status.Status.{Status}
use Rattle.vs_space.specs.declared.status.Status.TheVariants.{Active, Sending, Sent}
use Rattle.vs_send.specs.declared.transfer.Phase.{Phase}
use Rattle.vs_send.specs.declared.transfer.Phase.TheVariants.{Draining, Ready, Waiting, Copied, Sealed, WaitingLast, Refused, Done}

-- a transfer to set d
abbrev pub PhaseFits : ℕ → Option Status → Phase → Type 0
PhaseFits d has (Draining n) = has ≡ Some Active
PhaseFits d has (Ready k) = has ≡ Some (Sending d)
PhaseFits d has (Waiting e n k) = has ≡ Some (Sending d)
PhaseFits d has Copied = has ≡ Some (Sending d)
PhaseFits d has Sealed = has ≡ Some (Sent d)
PhaseFits d has (WaitingLast e n) = has ≡ Some (Sent d)
PhaseFits d has Done = has ≡ Some (Sent d)
PhaseFits d has (Refused f) = (has ≡ Some (Sending d)) ⊎ (has ≡ Some (Sent d))
