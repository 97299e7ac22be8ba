use Rattle.std.proofs.Common.{◌≡◌, subst, sym, arith}
use Rattle.std.proofs.lemmas.Grind.{common_steps}
use Rattle.std.specs.Prelude.{None}
use Rattle.vs_table.specs.Entries.{IsRising, without_key, Updates}
use Rattle.vs_table.proofs.Edits.{rising_without, updates_without}
use Rattle.vs_table.proofs.table.Table.remove.Goals as goal

pub invariant_of-self : goal.invariant_of-self
invariant_of-self g c =
    let cmp = g.K.Ord.cmp in
    let old = c.self.inside.entries.items in
    let e : c.remove-value.new.self.items ≡ without_key cmp old c.args.key.now = grind (arith, common_steps, c.in-Ok.ensures.taken) in
    subst (IsRising cmp) (sym e) (rising_without cmp g.met.K.Ord.total old c.args.key.now c.self.invariant)

pub returns-in-Ok-clause-updates : goal.returns-in-Ok-clause-updates
returns-in-Ok-clause-updates g c =
    let cmp = g.K.Ord.cmp in
    let old = c.self.inside.entries.items in
    let e : c.remove-value.new.self.items ≡ without_key cmp old c.args.key.now = grind (arith, common_steps, c.in-Ok.ensures.taken) in
    let updates : Updates cmp old c.remove-value.new.self.items c.args.key.now None =
    subst (λ new. Updates cmp old new c.args.key.now None) (sym e) (updates_without cmp g.met.K.Ord.total old c.args.key.now c.self.invariant) in
    rw (← c.self.view_is) updates
