use Rattle.std.proofs.Common.{sym, ◌∙◌, rules}
use Rattle.vs_rows.specs.RowMap.{IsRising}
use Rattle.vs_rows.proofs.Changed.{value_changed, value_unchanged}
use Rattle.vs_rows.proofs.changes.Changes.value.Goals as goal

pub returns-in-Some : goal.returns-in-Some
returns-in-Some c =
    let up : IsRising c.args.self.now.items = search rules in
    c.as_ref.ensures.value ∙ sym (value_changed c.args.rows.now c.args.self.now.items c.args.key.now c.in-Some.change.now c.requires up (search rules))

pub returns-in-None : goal.returns-in-None
returns-in-None c =
    let up : IsRising c.args.self.now.items = search rules in
    c.value-in-None.ensures ∙ sym (value_unchanged c.args.rows.now c.args.self.now.items c.args.key.now c.requires up (search rules))
