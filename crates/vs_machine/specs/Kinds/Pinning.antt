-- A bucket is pinned at a set, so that it isn't moved; or unpinned.
use Rattle.std.specs.Prelude.{ℕ, Option, Some, None, Result, Ok}
use Rattle.vs_space.specs.declared.status.Status.{Status}
use Rattle.vs_space.specs.declared.status.Status.TheVariants as status
use Rattle.vs_event.specs.declared.reason.Reason.{Reason}
use Rattle.vs_event.specs.declared.reason.Reason.TheVariants as reason
use Rattle.vs_script.specs.declared.command.Command.{Command}
use Rattle.vs_script.specs.declared.command.Command.TheVariants.{Pin, Unpin}
use Rattle.vs_machine.specs.declared.outcome.CommandFault.{CommandFault}
use Rattle.vs_machine.specs.declared.outcome.CommandOutcome.TheVariants.{Done, Refused}
use Rattle.vs_machine.specs.Check.{◌>>=◌, ◌>>◌, needs, wants}
use Rattle.vs_machine.specs.State.{State, has_operator, next_command, answer, put_bucket, put_operator, with_entry}
use Rattle.vs_machine.specs.Kinds.Faults.{pin_fault, unpin_fault}

-- the bucket, the set, and the status that the bucket is to have there
pub record Pinning : Type 0 where
  pub bucket : ℕ
  pub at : ℕ
  pub status : Status

abbrev pub pinning_of : Option Command → Option Pinning
pinning_of (Some (Pin b x)) = Some (record { bucket = b; at = x; status = status.Pinned })
pinning_of (Some (Unpin b x)) = Some (record { bucket = b; at = x; status = status.Active })
pinning_of command = None

abbrev pub pinning_fault : State → Pinning → Status → Option CommandFault
pinning_fault s p status.Pinned = pin_fault s p.bucket p.at
pinning_fault s p other = unpin_fault s p.bucket p.at

abbrev pub after_pin : State → ℕ → Pinning → Option CommandFault → State
after_pin s o p (Some fault) = put_operator s o (answer (s.operator o) (Refused fault))
after_pin s o p None = put_operator (put_bucket s p.bucket (with_entry (s.bucket p.bucket) p.at (Some p.status))) o (answer (s.operator o) Done)

abbrev pub pin : State → ℕ → Result State Reason
pin s o = do
  needs (has_operator s o) reason.Unknown
  p ← wants (pinning_of (next_command (s.operator o))) reason.NoCommand
  Ok (after_pin s o p (pinning_fault s p p.status))
