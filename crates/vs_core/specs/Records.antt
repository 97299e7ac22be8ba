-- What events record in the journals of the sets.
use Rattle.std.specs.Prelude.{Option, None}
use Rattle.vs_event.specs.declared.event.Event.{Event}
use Rattle.vs_event.specs.declared.event.Event.TheVariants.{Restart}
use Rattle.vs_record.specs.Change.{change}
use Rattle.vs_machine.specs.Journals.{written}
use Rattle.vs_machine.specs.Kinds.Stops as stops
use Rattle.vs_machine.specs.State.{State}
use Rattle.vs_core.specs.declared.records.Recording.{Recording}

-- The change that an event records, and at which set: what it writes. A restart records nothing, since what it keeps was
-- recorded by an earlier event.
abbrev pub records : State → Event → Option stops.Recording
records s (Restart x kept by) = None
records s e = written s e

abbrev pub recording : Recording → stops.Recording
recording r = record { at = r.set; change = change r.change }
