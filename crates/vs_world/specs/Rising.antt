-- Which events bring no set up.
use Rattle.std.specs.Prelude.{◌≡◌, true}
use Rattle.vs_event.specs.declared.event.Event.{Event}
use Rattle.vs_event.specs.declared.event.Event.TheVariants.{Restart}
use Rattle.vs_machine.specs.State.{State}

-- it is no restart of a set that is down
abbrev pub RaisesNone : State → Event → Type 0
RaisesNone s (Restart x kept by) = s.up x ≡ true
RaisesNone s e = Unit {0}
