use Rattle.std.proofs.Common.{◌≡◌, subst, sym, arith, rules}
use Rattle.std.proofs.lemmas.Grind.{common_steps}
use Rattle.std.specs.Prelude.{slice_set, Some}
use Rattle.vs_table.specs.Entries.{IsRising, with_value, Updates}
use Rattle.vs_table.proofs.Edits.{rising_with, updates_with}
use Rattle.vs_table.proofs.table.Table.insert.Goals as goal

-- the key was there, and its entry takes the value
pub invariant_of-self : goal.invariant_of-self
invariant_of-self g c =
    let cmp = g.K.Ord.cmp in
    let old = c.self.inside.entries.items in
    let e : slice_set old c.in-Ok.i (c.index_mut.result.now.0, c.replace.new.dest) ≡ with_value cmp old c.args.key c.args.value = grind (arith, common_steps, c.in-Ok.ensures.put c.index_mut.result.now c.args.value) in
    subst (IsRising cmp) (sym e) (rising_with cmp g.met.K.Ord.total old c.args.key c.args.value c.self.invariant)

pub returns-in-Ok-clause-updates : goal.returns-in-Ok-clause-updates
returns-in-Ok-clause-updates g c =
    let cmp = g.K.Ord.cmp in
    let old = c.args.self.now.items in
    let e : slice_set c.self.inside.entries.items c.in-Ok.i (c.index_mut.result.now.0, c.replace.new.dest) ≡ with_value cmp old c.args.key c.args.value = grind (arith, common_steps, c.in-Ok.ensures.put c.index_mut.result.now c.args.value) in
    subst (λ new. Updates cmp old new c.args.key (Some c.args.value)) (sym e) (updates_with cmp g.met.K.Ord.total old c.args.key c.args.value)

-- the entry is added where it is to stand
pub invariant_of-self-in-Err : goal.invariant_of-self-in-Err
invariant_of-self-in-Err g c =
    let cmp = g.K.Ord.cmp in
    let old = c.self.inside.entries.items in
    let e : c.insert.new.self.items ≡ with_value cmp old c.args.key c.args.value = search rules in
    subst (IsRising cmp) (sym e) (rising_with cmp g.met.K.Ord.total old c.args.key c.args.value c.self.invariant)

pub returns-in-Err-clause-updates : goal.returns-in-Err-clause-updates
returns-in-Err-clause-updates g c =
    let cmp = g.K.Ord.cmp in
    let old = c.args.self.now.items in
    let e : c.insert.new.self.items ≡ with_value cmp old c.args.key c.args.value = search rules in
    subst (λ new. Updates cmp old new c.args.key (Some c.args.value)) (sym e) (updates_with cmp g.met.K.Ord.total old c.args.key c.args.value)
