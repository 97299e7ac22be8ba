-- One event, and a run of events.
use Rattle.std.specs.Prelude.{List, [], ◌∷◌, Result, Ok}
use Rattle.vs_event.specs.declared.event.Event.{Event}
use Rattle.vs_event.specs.declared.event.Event.TheVariants.{Post, Begin, Act, End, Take, Cut, Start, Haul, NotYet, Freeze, Chunk, Seal, Last, Abort, EndMove, Deliver, Hear, Close, Ask, Condemn, Wipe, Forget, Pin, Plan, Stop, Fault, Restart}
use Rattle.vs_event.specs.declared.reason.Reason.{Reason}
use Rattle.vs_machine.specs.Check.{◌>>=◌}
use Rattle.vs_machine.specs.State.{State}
use Rattle.vs_machine.specs.Kinds.Calls.{post, begin, act, «end», take, cut_call}
use Rattle.vs_machine.specs.Kinds.Sender.{start, not_yet, freeze, chunk, seal, last, abort, end_move}
use Rattle.vs_machine.specs.Kinds.Connections.{deliver, hear, close}
use Rattle.vs_machine.specs.Kinds.Recovery.{ask}
use Rattle.vs_machine.specs.Kinds.Collection.{condemn, wipe, forget}
use Rattle.vs_machine.specs.Kinds.Pinning.{pin}
use Rattle.vs_machine.specs.Kinds.Rebalancing.{haul, plan}
use Rattle.vs_machine.specs.Kinds.Stops.{stop, fault, restart}

-- the state after the event, or the first of its guards that fails
abbrev pub step : State → Event → Result State Reason
step s (Post c x) = post s c x
step s (Begin c) = begin s c
step s (Act c) = act s c
step s (End c) = «end» s c
step s (Take c) = take s c
step s (Cut o) = cut_call s o
step s (Start o) = start s o
step s (Haul o x d) = haul s o x d
step s (NotYet x b) = not_yet s x b
step s (Freeze x b) = freeze s x b
step s (Chunk x b) = chunk s x b
step s (Seal x b) = seal s x b
step s (Last x b) = last s x b
step s (Abort x b) = abort s x b
step s (EndMove x b) = end_move s x b
step s (Deliver x y) = deliver s x y
step s (Hear x y) = hear s x y
step s (Close o) = close s o
step s (Ask x b) = ask s x b
step s (Condemn x b) = condemn s x b
step s (Wipe x b) = wipe s x b
step s (Forget x b) = forget s x b
step s (Pin o) = pin s o
step s (Plan o) = plan s o
step s (Stop o) = stop s o
step s (Fault x n e) = fault s x n e
step s (Restart x kept by) = restart s x kept by

-- the events in order, each of them possible
abbrev pub run : State → List Event → Result State Reason
run s [] = Ok s
run s (e ∷ es) = do
  next ← step s e
  run next es
