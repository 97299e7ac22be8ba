use Rattle.std.proofs.Common.{◌≡◌, subst, sym, rules}
use Rattle.vs_rows.specs.RowMap.{IsRising, without_key}
use Rattle.vs_rows.proofs.Rising.{rising_without}
use Rattle.vs_rows.proofs.sorted.remove.Goals as goal

pub returns-in-Ok-clause-rising : goal.returns-in-Ok-clause-rising
returns-in-Ok-clause-rising g c =
    let e : c.remove.new.self.items ≡ without_key c.args.rows.now.items c.args.key.now = search rules in
    subst IsRising (sym e) (rising_without c.args.rows.now.items c.args.key.now c.requires)
