use Rattle.std.proofs.Common.{◌≡◌, ◌⊎◌, ◌-◌, List, inl, inr, subst, sym, arith, slice_set, vec_len, vec_capacity, ap}
use Rattle.std.proofs.lemmas.Grind.{common_steps}
use Rattle.vs_base.specs.Listed.{Listed}
use Rattle.vs_table.specs.Entries.{IsRising, with_value}
use Rattle.vs_table.proofs.Edits.{rising_with, updates_with}
use Rattle.vs_table.proofs.table.Table.get_mut.Goals as goal

-- two functions that agree say the same of a loan
left_alike : {N W T : Type 0} (name : N) (f g : W → T) → ((w : W) → f w ≡ g w) → ◌≡◌ {A = (N × (W → T)) ⊎ T} (inl (name, f)) (inl (name, g))
left_alike name f g alike i = inl (name, λ w. alike w i)

-- the entry keeps its key, whatever is written
pub invariant_of-self-lent : goal.invariant_of-self-lent
invariant_of-self-lent g c w =
    let cmp = g.K.Ord.cmp in
    let old = c.self.inside.entries.items in
    let e : slice_set old c.in-Ok.i (c.index_mut.result.now.0, w) ≡ with_value cmp old c.args.key.now w = grind (arith, common_steps, c.in-Ok.ensures.put c.index_mut.result.now w) in
    subst (IsRising cmp) (sym e) (rising_with cmp g.met.K.Ord.total old c.args.key.now w c.self.invariant)

pub returns-in-Ok : goal.returns-in-Ok
returns-in-Ok g c =
    let cmp = g.K.Ord.cmp in
    let entries = c.self.inside.entries in
    let e : (w : g.row.V.Denot) → slice_set entries.items c.in-Ok.i (c.index_mut.result.now.0, w) ≡ with_value cmp entries.items c.args.key.now w = λ w. grind (arith, common_steps, c.in-Ok.ensures.put c.index_mut.result.now w) in
    let shown : List (g.row.K.Denot × g.row.V.Denot) → Listed (g.row.K.Denot × g.row.V.Denot) = λ items. record { items = items; room = vec_capacity entries - vec_len entries } in
    rw (← c.self.view_is) (
      left_alike _ _ _ (λ w. ap shown (e w)),
      record { writes_back = tt; value = grind (arith, common_steps, c.in-Ok.ensures.value c.index_mut.result.now); updates = updates_with cmp g.met.K.Ord.total entries.items c.args.key.now },
    )

pub returns-in-Err : goal.returns-in-Err
returns-in-Err g c = (
  ap (λ (t : Listed (g.row.K.Denot × g.row.V.Denot)). inr t) c.self.view_is,
  record { writes_back = tt; value = rw (← c.self.view_is) (sym c.in-Err.ensures.value); updates = updates_with g.K.Ord.cmp g.met.K.Ord.total c.args.self.now.items c.args.key.now },
)
