use Rattle.std.proofs.Common.{All}
use Rattle.vs_pool.specs.Results.{IsWithin}
use Rattle.vs_test_threads.proofs.tests.pool.reads.Given as goal

abbrev pub invariant-loop-call : goal.invariant-loop-call
invariant-loop-call l = All (IsWithin 4 4) l.jobs.items
