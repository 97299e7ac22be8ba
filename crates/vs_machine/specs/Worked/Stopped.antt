-- A set goes down, or its disk fails while a write is recorded; a call is cut, or its tries are spent.
use Rattle.std.specs.Prelude.{◌≡◌, ℕ, zero, suc, true, false, List, [], ◌∷◌, ◌++◌, Some, codes}
use Rattle.vs_event.specs.declared.event.Event.{Event}
use Rattle.vs_event.specs.declared.event.Event.TheVariants.{Post, Begin, Act, End, Take, Cut, Fault, Restart}
use Rattle.vs_event.specs.declared.event.Recorded.TheVariants as recorded
use Rattle.vs_event.specs.declared.event.RestartBy.TheVariants.{Service}
use Rattle.vs_event.specs.declared.reason.Reason.TheVariants.{TriesSpent, TriesLeft, NotReached}
use Rattle.vs_script.specs.declared.command.Command.TheVariants as command
use Rattle.vs_machine.specs.State.{State}
use Rattle.vs_machine.specs.Step.{run}
use Rattle.vs_machine.specs.Worked.Cluster.{start_with, does, put_a, get_a, report_of, refusal_of}

abbrev writer : State
writer = start_with ((put_a ∷ get_a ∷ []) ∷ []) []

abbrev failed : List Event
failed = Post 1 1 ∷ Begin 1 ∷ Fault 1 1 (recorded.Act 1) ∷ Take 1 ∷ []

-- the journal has the write, or it doesn't
pub record Failed : Type 0 where
  pub kept : report_of (run writer (failed ++ Restart 1 true Service ∷ does 1 1)) ≡ codes "cluster 2 4\nset 1 up 3 0 0 0 0 0\nset 2 up 1 0 0 0 0 0\nbucket 1 1 active\nbucket 2 1 active\nbucket 3 1 active\nbucket 4 2 active\nhistory 3 0 1 1\nwrite 1 1 1 put a 1 => done\nread 1 1 2 get a => value 1\ncall 1 1 lost\ncall 1 2 reply 1 value 1\nend\n"
  pub bare : report_of (run writer (failed ++ Restart 1 false Service ∷ does 1 1)) ≡ codes "cluster 2 4\nset 1 up 3 0 0 0 0 0\nset 2 up 1 0 0 0 0 0\nbucket 1 1 active\nbucket 2 1 active\nbucket 3 1 active\nbucket 4 2 active\nhistory 3 0 0 1\nread 0 1 2 get a => none\ncall 1 1 lost\ncall 1 2 reply 0 none\nend\n"

-- ---- cuts

abbrev writer_and_cutter : State
writer_and_cutter = start_with ((put_a ∷ []) ∷ []) ((command.Cut 1 1 ∷ []) ∷ [])

abbrev cut_report : List Event → List ℕ → Type 0
cut_report events lines = report_of (run writer_and_cutter events) ≡ codes "cluster 2 4\nset 1 up 3 0 0 0 0 0\nset 2 up 1 0 0 0 0 0\nbucket 1 1 active\nbucket 2 1 active\nbucket 3 1 active\nbucket 4 2 active\nhistory 3 0 1 0\nwrite 1 1 1 put a 1 => done\n" ++ lines

pub record CutCalls : Type 0 where
  pub running : cut_report (Post 1 1 ∷ Begin 1 ∷ Cut 1 ∷ Act 1 ∷ End 1 ∷ Take 1 ∷ []) (codes "call 1 1 lost\ncommand 1 1 done\nend\n")
  pub late : cut_report (does 1 1 ++ Cut 1 ∷ []) (codes "call 1 1 reply 1 done\ncommand 1 1 late\nend\n")
  pub early : refusal_of (run writer_and_cutter (Cut 1 ∷ [])) ≡ Some NotReached

-- ---- tries

-- the call is posted so often to a set that doesn't have its bucket
abbrev tries : ℕ → List Event
tries zero = []
tries (suc n) = Post 1 2 ∷ Begin 1 ∷ tries n

pub record Spent : Type 0 where
  pub spent : report_of (run writer (tries 128 ++ Take 1 ∷ [])) ≡ codes "cluster 2 4\nset 1 up 3 0 0 0 0 0\nset 2 up 1 0 0 0 0 0\nbucket 1 1 active\nbucket 2 1 active\nbucket 3 1 active\nbucket 4 2 active\ncall 1 1 spent wrong\nend\n"
  pub post : refusal_of (run writer (tries 128 ++ Post 1 1 ∷ [])) ≡ Some TriesSpent
  pub early : refusal_of (run writer (tries 127 ++ Take 1 ∷ [])) ≡ Some TriesLeft
