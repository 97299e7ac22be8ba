use Rattle.std.proofs.Common.{◌≡◌, ◌≤◌, ◌+◌, ◌-◌, length, vec_len, vec_capacity}
use Rattle.std.specs.Vec.Iter.{into_iter_items}
use Rattle.vs_rows.specs.RowMap.{IsRising, with_rows}
use Rattle.vs_rows.proofs.rows.Rows.put_page.Given as goal

abbrev pub invariant-loop-key : goal.invariant-loop-key
invariant-loop-key l =
    (goal.iterator-loop-key).can_next l.key-iterator
    × (goal.iterator-loop-key).is_finite l.key-iterator
    × (with_rows l.self-inside.rows.items (into_iter_items l.key-iterator) ≡ with_rows l.fn.self.items l.fn.page.items)
    × (l.fn.self.room + length (into_iter_items l.key-iterator) ≤ vec_capacity l.self-inside.rows - vec_len l.self-inside.rows + length l.fn.page.items)
    × IsRising l.self-inside.rows.items
