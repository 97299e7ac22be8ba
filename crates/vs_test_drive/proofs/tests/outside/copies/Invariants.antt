use Rattle.std.proofs.Common.{◌≡◌, length}
use Rattle.vs_test_drive.proofs.tests.outside.copies.Given as goal

abbrev pub invariant-loop-place : goal.invariant-loop-place
invariant-loop-place l = length l.copies.items ≡ l.place
