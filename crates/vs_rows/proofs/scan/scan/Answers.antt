use Rattle.std.proofs.Common.{◌≡◌, ◌+◌, ◌++◌, take, drop, ap, ◌∙◌, arith, length-take, rules}
use Rattle.vs_rows.specs.RowMap.{rows_below}
use Rattle.vs_rows.specs.Changes.{with_changes, row_of}
use Rattle.vs_rows.proofs.Scanned.{read_more, read_all, page-from}
use Rattle.vs_rows.proofs.scan.scan.Goals as goal

pub loop-change-preserved : goal.loop-change-preserved
loop-change-preserved c =
    let n = c.args.n in
    let cs = c.rows_from-change-items.result.now in
    let change = c.change-item.result in
    let rest = c.loop-change.rest.now in
    let below : c.read_rows.new.read.items ≡ take n (c.loop-change.read.items ++ rows_below rest change.0) = search rules in
    let left : c.read_change.new.read.items ≡ take n (c.read_rows.new.read.items ++ row_of change) = search rules in
    record {
      read =
          ap (λ m. take n (c.read_change.new.read.items ++ with_changes m (drop (c.loop-change.change-index + 1) cs))) c.rows_above-rest.ensures.items
          ∙ read_more n c.loop-change.read.items rest cs c.loop-change.change-index change _ _ c.loop-change-test.true c.change-item.is c.loop-change.invariant.rising c.loop-change.invariant.changes below left
          ∙ c.loop-change.invariant.read;
      short = rw left (omega (arith, length-take n (c.read_rows.new.read.items ++ row_of change)));
      rising = c.rows_above-rest.ensures.rising;
      changes = c.loop-change.invariant.changes;
    }

pub from_items-requires : goal.from_items-requires
from_items-requires c =
    page-from c.args.n c.args.rows.now c.args.changes.now c.args.from.now c.read_rows-2.new.read.items c.requires.short c.requires.rows
    (read_all c.args.n c.args.rows.now c.args.changes.now c.args.from.now c.loop-change.read.items c.loop-change.rest.now c.read_rows-2.new.read.items c.loop-change.change-index c.requires.rows c.requires.changes (search rules) (search rules) (search rules))

pub returns : goal.returns
returns c =
    c.from_items.ensures
    ∙ read_all c.args.n c.args.rows.now c.args.changes.now c.args.from.now c.loop-change.read.items c.loop-change.rest.now c.read_rows-2.new.read.items c.loop-change.change-index c.requires.rows c.requires.changes (search rules) (search rules) (search rules)
