use Rattle.std.proofs.Common.{◌≡◌, ◌≤◌, Bool, true, false, cond, is_some, arith, rules}
use Rattle.vs_rows.specs.RowMap.{IsRising, value_of}
use Rattle.vs_rows.proofs.Changed.{length-changes_more}
use Rattle.vs_rows.proofs.changes.Changes.count.Goals as goal

one_at_most : (b : Bool) → cond b 1 0 ≤ 1
one_at_most true = omega arith
one_at_most false = omega arith

pub overflow_sub-count : goal.overflow_sub-count
overflow_sub-count c =
    let change = c.loop-key-item.result in
    let added : c.from.result ≡ cond (is_some change.1) 1 0 = search rules in
    let had : c.from-in-loop-key.result ≡ cond (is_some (value_of c.args.rows.now change.0)) 1 0 = search rules in
    let rising : IsRising c.deref-key-items.result.now = search rules in
    let step = length-changes_more c.args.rows.now c.deref-key-items.result.now c.loop-key.key-index change c.loop-key-test.true c.loop-key-item.is c.requires rising in
    omega arith

pub loop-key-preserved : goal.loop-key-preserved
loop-key-preserved c =
    let change = c.loop-key-item.result in
    let added : c.from.result ≡ cond (is_some change.1) 1 0 = search rules in
    let had : c.from-in-loop-key.result ≡ cond (is_some (value_of c.args.rows.now change.0)) 1 0 = search rules in
    let rising : IsRising c.deref-key-items.result.now = search rules in
    let step = length-changes_more c.args.rows.now c.deref-key-items.result.now c.loop-key.key-index change c.loop-key-test.true c.loop-key-item.is c.requires rising in
    record { count = omega arith; small = omega (arith, one_at_most (is_some change.1)) }
