use Rattle.std.proofs.Common.{◌≡◌, length}
use Rattle.vs_test_threads.proofs.tests.pool.four_buckets.Given as goal

abbrev pub invariant-loop-place : goal.invariant-loop-place
invariant-loop-place l = length l.maps.items ≡ l.place
