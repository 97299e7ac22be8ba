-- The table by which interrupted transfers are settled.
use Rattle.std.specs.Prelude.{Bool, true, false, Option, None, Some}
use Rattle.vs_space.specs.declared.status.Status.{Status}
use Rattle.vs_space.specs.declared.status.Status.TheVariants.{Active, Pinned, Sending, Receiving, Sent, Garbage}
use Rattle.vs_recover.specs.declared.decision.Decision.{Decision}
use Rattle.vs_recover.specs.declared.decision.Decision.TheVariants.{Stay, ToActive, ToGarbage}

-- by the status here, that at the other set, and whether a transfer of the bucket is live there
abbrev pub decision_of : Status → Option Status → Bool → Decision
decision_of (Sending _) None _ = ToActive
decision_of (Sending _) (Some (Sent _)) _ = ToActive
decision_of (Sending _) (Some Garbage) _ = ToActive
decision_of (Sending _) (Some Active) _ = Stay
decision_of (Sending _) (Some Pinned) _ = Stay
decision_of (Sending _) (Some (Sending _)) _ = Stay
decision_of (Sending _) (Some (Receiving _)) _ = Stay
decision_of (Receiving _) _ true = Stay
decision_of (Receiving _) (Some (Sending _)) false = ToGarbage
decision_of (Receiving _) (Some Active) false = ToGarbage
decision_of (Receiving _) (Some Pinned) false = ToGarbage
decision_of (Receiving _) None false = ToActive
decision_of (Receiving _) (Some (Sent _)) false = ToActive
decision_of (Receiving _) (Some Garbage) false = ToActive
decision_of (Receiving _) (Some (Receiving _)) false = Stay
decision_of _ _ _ = Stay
