-- What a table ends as, where a `&mut` to one of its values is returned.
use Rattle.std.specs.Prelude.{Option, Bool}
use Rattle.std.specs.declared.cmp.Ordering.{Ordering}
use Rattle.std.specs.Borrow.{LendsIf, Fml, RattleType, MutBor}
use Rattle.vs_base.specs.Listed.{Listed}
use Rattle.vs_table.specs.Entries.{with_value}
use Rattle.vs_table.specs.contracts.table.Table.{the_row}

module _ (K V : RattleType) (cmp : K.Denot → K.Denot → Ordering) (eq : K.Denot → K.Denot → Bool)
    (partial_cmp : K.Denot → K.Denot → Option Ordering) where
  -- the table's type, as the logic holds it
  abbrev pub table_row : RattleType
  table_row =
      the_row K V (record { cmp = cmp }) (record { eq = eq }) (record { partial_cmp = partial_cmp })

  -- once the borrow r ends, the key has the last value written through r; at `None` nothing changes
  abbrev pub lends_value : MutBor (Listed (K.Denot × V.Denot)) → K.Denot →
      Option (MutBor V.Denot) → Fml
  lends_value t key r =
      LendsIf table_row V t r
      (λ w. record t.now { items = with_value cmp t.now.items key w })
      t.now
