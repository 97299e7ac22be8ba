use Rattle.std.proofs.Common.{◌≤◌}
use Rattle.vs_frame.specs.Scan.{MayGoOn}
use Rattle.vs_test_journal.proofs.tests.frame.read.Given as goal

abbrev pub invariant-loop-total : goal.invariant-loop-total
invariant-loop-total l = record { going : MayGoOn l.scan; first : l.first ≤ l.total }
