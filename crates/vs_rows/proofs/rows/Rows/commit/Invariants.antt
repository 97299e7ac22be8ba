use Rattle.std.proofs.Common.{◌≡◌, ◌≤◌, ◌+◌, ◌-◌, length, vec_len, vec_capacity}
use Rattle.std.specs.Vec.Iter.{into_iter_items}
use Rattle.vs_rows.specs.RowMap.{IsRising}
use Rattle.vs_rows.specs.Changes.{with_changes}
use Rattle.vs_rows.proofs.rows.Rows.commit.Given as goal

abbrev pub invariant-loop-key : goal.invariant-loop-key
invariant-loop-key l =
    (goal.iterator-loop-key).can_next l.key-iterator
    × (goal.iterator-loop-key).is_finite l.key-iterator
    × (with_changes l.self-inside.rows.items (into_iter_items l.key-iterator) ≡ with_changes l.fn.self.items l.fn.changes.items)
    × (l.fn.self.room + length (into_iter_items l.key-iterator) ≤ vec_capacity l.self-inside.rows - vec_len l.self-inside.rows + length l.fn.changes.items)
    × IsRising l.self-inside.rows.items
