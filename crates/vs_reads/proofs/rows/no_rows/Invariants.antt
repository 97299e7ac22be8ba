use Rattle.std.proofs.Common.{◌≡◌, ℕ, [], length}
use Rattle.vs_reads.specs.Jobs.{rows_of}
use Rattle.vs_reads.proofs.rows.no_rows.Given as goal

abbrev pub invariant-loop : goal.invariant-loop
invariant-loop l = record {
  len : length l.maps.items ≡ l.counter;
  empty : (b : ℕ) → rows_of l.maps.items b ≡ [];
}
