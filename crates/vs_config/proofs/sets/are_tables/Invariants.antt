use Rattle.std.proofs.Common.{◌≡◌, is_some, drop}
use Rattle.toml.specs.View.{items_view}
use Rattle.vs_config.specs.Reading.{tables_of}
use Rattle.vs_config.proofs.sets.are_tables.Given as goal

abbrev pub invariant-loop-value : goal.invariant-loop-value
invariant-loop-value l =
    is_some (tables_of (items_view l.fn.values)) ≡ is_some (tables_of (items_view (drop l.value-index l.fn.values)))
