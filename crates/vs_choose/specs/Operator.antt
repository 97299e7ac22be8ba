-- The events of an operator's commands.
use Rattle.std.specs.Prelude.{ℕ, false}
use Rattle.vs_event.specs.declared.event.Event.{Event}
use Rattle.vs_event.specs.declared.event.Event.TheVariants as event
use Rattle.vs_event.specs.declared.event.RestartBy.TheVariants.{Line}
use Rattle.vs_script.specs.declared.command.Command.{Command}
use Rattle.vs_script.specs.declared.command.Command.TheVariants as command

-- the event by which operator o carries out the command, begins to, or plans a round of it
abbrev pub event_of : ℕ → Command → Event
event_of o (command.Send b x y) = event.Start o
event_of o (command.Pin b x) = event.Pin o
event_of o (command.Unpin b x) = event.Pin o
event_of o (command.Close x y) = event.Close o
event_of o (command.Cut c n) = event.Cut o
event_of o (command.Stop x) = event.Stop o
event_of o (command.Restart x) = event.Restart x false (Line o)
event_of o command.Balance = event.Plan o
