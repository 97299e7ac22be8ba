use Rattle.std.proofs.Common.{map}
use Rattle.vs_state.specs.Plain.{plain}
use Rattle.vs_drive.specs.Drivers.{actor_of, sets_to}
use Rattle.vs_drive.proofs.Adding.{HasAdded}
use Rattle.vs_drive.proofs.driver.add_sets.Given as goal

abbrev pub invariant-loop-index : goal.invariant-loop-index
invariant-loop-index l = HasAdded (plain l.state) (map actor_of l.fn.drivers.items) (sets_to l.index) l.drivers.items
