use Rattle.std.proofs.Common.{◌≡◌, drop, subst, sym, rules}
use Rattle.vs_rows.specs.RowMap.{IsRising}
use Rattle.vs_rows.proofs.Rising.{rising_drop}
use Rattle.vs_rows.proofs.rows.Rows.wipe.Goals as goal

pub invariant_of-self : goal.invariant_of-self
invariant_of-self c =
    let e : c.drop.new.self.0.items ≡ drop c.min-gone.result c.self.inside.rows.items = search rules in
    subst IsRising (sym e) (rising_drop c.self.inside.rows.items c.min-gone.result c.self.invariant)
