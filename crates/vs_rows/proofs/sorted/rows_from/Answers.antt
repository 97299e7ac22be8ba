use Rattle.vs_rows.proofs.Rising.{rising_drop, rising_take}
use Rattle.vs_rows.proofs.sorted.rows_from.Goals as goal

pub returns-clause-rising : goal.returns-clause-rising
returns-clause-rising g c = rising_take _ _ (rising_drop _ _ c.requires)
