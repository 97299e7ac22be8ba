use Rattle.vs_rows.proofs.Rising.{rising_drop, rising_take}
use Rattle.vs_rows.proofs.sorted.rows_above.Goals as goal

pub returns-in-Ok-clause-rising : goal.returns-in-Ok-clause-rising
returns-in-Ok-clause-rising g c = rising_take _ _ (rising_drop _ _ c.requires)

pub returns-in-Err-clause-rising : goal.returns-in-Err-clause-rising
returns-in-Err-clause-rising g c = rising_take _ _ (rising_drop _ _ c.requires)
