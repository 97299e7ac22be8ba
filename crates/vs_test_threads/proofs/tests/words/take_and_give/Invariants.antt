use Rattle.std.proofs.Common.{◌≡◌, None}
use Rattle.vs_test_threads.proofs.tests.words.take_and_give.Given as goal

abbrev pub invariant-loop : goal.invariant-loop
invariant-loop l = (l.pass.of ≡ l.words) × (l.pass.held ≡ None)
