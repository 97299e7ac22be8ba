use Rattle.std.proofs.Common.{arith, length-take}
use Rattle.vs_rows.proofs.Rising.{rising_take}
use Rattle.vs_rows.proofs.rows.Rows.page.Goals as goal

pub of-requires : goal.of-requires
of-requires c = record {
  rising = rising_take c.rows_above-rows.result.now c.min-n.result c.rows_above-rows.ensures.rising;
  short = omega (arith, length-take c.min-n.result c.rows_above-rows.result.now);
}
