use Rattle.std.proofs.Common.{◌≡◌}
use Rattle.toml.specs.View.{table_view}
use Rattle.vs_config.specs.Reading.{has_other_key}
use Rattle.vs_config.proofs.Tables.{others}
use Rattle.vs_config.proofs.table.has_other.Given as goal

abbrev pub invariant-loop-key : goal.invariant-loop-key
invariant-loop-key l =
    record {
      can_next : (goal.iterator-loop-key).can_next l.key-iterator;
      is_finite : (goal.iterator-loop-key).is_finite l.key-iterator;
      rest : others l.keys l.key-iterator ≡ has_other_key l.keys (table_view l.fn.table);
    }
