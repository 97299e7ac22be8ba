use Rattle.std.proofs.Common.{map}
use Rattle.vs_machine.specs.Actors as actors
use Rattle.vs_machine.specs.Tables.{list_to}
use Rattle.vs_state.specs.Plain.{plain}
use Rattle.vs_drive.specs.Drivers.{actor_of}
use Rattle.vs_drive.proofs.Adding.{HasAdded}
use Rattle.vs_drive.proofs.driver.add_operators.Given as goal

abbrev pub invariant-loop-index : goal.invariant-loop-index
invariant-loop-index l = HasAdded (plain l.state) (map actor_of l.fn.drivers.items) (list_to actors.Operator l.index) l.drivers.items
