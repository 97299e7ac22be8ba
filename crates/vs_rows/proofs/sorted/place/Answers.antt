use Rattle.std.proofs.Common.{◌≡◌, drop, arith, Less, Equal, Greater}
use Rattle.vs_rows.specs.RowMap.{key_cmp}
use Rattle.vs_rows.proofs.Rising.{IsAbove, below_of_above}
use Rattle.vs_rows.proofs.Placed.{missing, found, above-from, below-upto}
use Rattle.vs_rows.proofs.sorted.place.Goals as goal

pub loop-low-preserved-in-Less : goal.loop-low-preserved-in-Less
loop-low-preserved-in-Less g c =
    let less : key_cmp c.args.key.now c.index-rows-mid.result.0 ≡ Less = cc in
    record {
      order = omega arith;
      within = omega arith;
      below = c.loop-low.invariant.below;
      above = above-from c.args.rows.now c.args.key.now _ c.index-rows-mid.result (omega arith) c.index-rows-mid.is less c.requires;
    }

pub returns-in-Equal : goal.returns-in-Equal
returns-in-Equal g c =
    let same : key_cmp c.args.key.now c.index-rows-mid.result.0 ≡ Equal = cc in
    found c.args.rows.now c.args.key.now _ c.index-rows-mid.result (omega arith) c.index-rows-mid.is same c.requires

pub loop-low-preserved : goal.loop-low-preserved
loop-low-preserved g c =
    let greater : key_cmp c.args.key.now c.index-rows-mid.result.0 ≡ Greater = cc in
    let less = below_of_above c.args.key.now c.index-rows-mid.result.0 greater in
    record {
      order = omega arith;
      within = c.loop-low.invariant.within;
      below = below-upto c.args.rows.now c.args.key.now _ c.index-rows-mid.result (omega arith) c.index-rows-mid.is less c.requires;
      above = c.loop-low.invariant.above;
    }

pub returns : goal.returns
returns g c =
    let end : c.loop-low.high ≡ c.loop-low.low = omega arith in
    let above : IsAbove c.args.key.now (drop c.loop-low.low c.args.rows.now) = rw end at c.loop-low.invariant.above in
    missing c.args.rows.now c.args.key.now c.loop-low.low (omega arith) c.loop-low.invariant.below above
