use Rattle.std.proofs.Common.{◌≡◌, ◌-◌, length}
use Rattle.vs_record.specs.Reading.{ops_from, ops_at}
use Rattle.vs_record.proofs.read.ops_at.Given as goal

abbrev pub invariant-loop : goal.invariant-loop
invariant-loop l = record {
  so_far : ops_from l.version (l.count - l.counter) l.ops.items l.rest ≡ ops_at l.version l.bytes;
  many : length l.ops.items ≡ l.counter;
}
