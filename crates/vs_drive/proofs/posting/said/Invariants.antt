use Rattle.std.proofs.Common.{◌≡◌}
use Rattle.vs_machine.specs.Tables.{list_to}
use Rattle.vs_state.specs.Plain.{plain}
use Rattle.vs_drive.specs.Posting.{said_at}
use Rattle.vs_drive.proofs.posting.said.Given as goal

abbrev pub invariant-loop-index : goal.invariant-loop-index
invariant-loop-index l = l.said.items ≡ list_to (said_at (plain l.state) l.bucket) l.index
