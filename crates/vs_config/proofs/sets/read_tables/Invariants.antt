use Rattle.std.proofs.Common.{◌≡◌, ◌≤◌, ◌+◌, length}
use Rattle.vs_config.proofs.SetTables.{ReadSoFar}
use Rattle.vs_config.proofs.sets.read_tables.Given as goal

abbrev pub invariant-loop-i : goal.invariant-loop-i
invariant-loop-i l =
    record {
      read : ReadSoFar l.fn.values l.i l.sets.items;
      room : length l.fn.values ≤ l.sets.room + l.i;
      count : length l.sets.items ≡ l.i;
    }
