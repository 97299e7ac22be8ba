use Rattle.std.proofs.Common.{◌≡◌, ap, ◌∙◌, option_copied, rules}
use Rattle.vs_rows.specs.RowMap.{IsRising, with_value}
use Rattle.vs_rows.specs.Changes.{with_changes}
use Rattle.vs_rows.proofs.Changed.{changes_set}
use Rattle.vs_rows.proofs.changes.Changes.set.Goals as goal

pub returns : goal.returns
returns c m rising =
    let items : c.put.new.rows.items ≡ with_value c.args.self.now.items c.args.key.now (option_copied c.args.value) = search rules in
    let up : IsRising c.args.self.now.items = search rules in
    ap (with_changes m) items ∙ changes_set m c.args.self.now.items (c.args.key.now, option_copied c.args.value) rising up
