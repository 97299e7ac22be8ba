use Rattle.std.proofs.Common.{◌≡◌, ℕ, [], ◌<◌, nat_lt, nat_le, ◌&&◌, if◌then◌else◌}
use Rattle.vs_record.specs.RowTable.{row_map_at, AreOfBuckets}
use Rattle.vs_record.proofs.row_table.RowTable.try_clone.Given as goal

abbrev pub invariant-loop-number : goal.invariant-loop-number
invariant-loop-number l = record {
  so_far : (b : ℕ) → row_map_at l.copy b ≡ (if nat_le 1 b && nat_lt b l.number then row_map_at l.self b else []);
  ids : 1 < l.number → AreOfBuckets l.self;
}
