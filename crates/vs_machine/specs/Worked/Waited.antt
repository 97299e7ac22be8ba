-- A move waits for a write, and is given up.
use Rattle.std.specs.Prelude.{◌≡◌, ℕ, List, [], ◌∷◌, ◌++◌, replicate, Some, codes}
use Rattle.vs_event.specs.declared.event.Event.{Event}
use Rattle.vs_event.specs.declared.event.Event.TheVariants.{Post, Begin, Start, NotYet, Freeze, Abort}
use Rattle.vs_event.specs.declared.reason.Reason.TheVariants.{Referenced, TurnsSpent, Standing}
use Rattle.vs_script.specs.declared.command.Command.TheVariants.{Send}
use Rattle.vs_machine.specs.State.{State}
use Rattle.vs_machine.specs.Step.{run}
use Rattle.vs_machine.specs.Worked.Cluster.{start_with, put_a, report_of, refusal_of}

abbrev writer_and_sender : State
writer_and_sender = start_with ((put_a ∷ []) ∷ []) ((Send 3 1 2 ∷ []) ∷ [])

abbrev turns : ℕ → List Event
turns n = Post 1 1 ∷ Begin 1 ∷ Start 1 ∷ replicate n (NotYet 1 3)

pub record Waited : Type 0 where
  pub freeze : refusal_of (run writer_and_sender (turns 0 ++ Freeze 1 3 ∷ [])) ≡ Some (Referenced 1)
  pub turn_257 : refusal_of (run writer_and_sender (turns 257)) ≡ Some TurnsSpent
  pub early : refusal_of (run writer_and_sender (turns 255 ++ Abort 1 3 ∷ [])) ≡ Some Standing
  pub given_up : report_of (run writer_and_sender (turns 256 ++ Abort 1 3 ∷ [])) ≡ codes "cluster 2 4\nset 1 up 3 0 0 0 0 0\nset 2 up 1 0 0 0 0 0\nbucket 1 1 active\nbucket 2 1 active\nbucket 3 1 active\nbucket 4 2 active\ncall 1 1 open\ncommand 1 1 aborted drained\nend\n"
