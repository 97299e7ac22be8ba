use Rattle.std.proofs.Common.{◌∙◌, ◌++◌, ◌∷◌, [], ap, refl, arith}
use Rattle.vs_stores.proofs.Lifting.{limits_push}
use Rattle.vs_stores.proofs.Lists.{first_of, removed}
use Rattle.vs_stores.proofs.Opening.{no_memory}
use Rattle.vs_stores.proofs.stores.Stores.add.Goals as goal

pub returns-then-is_err-clause-refused : goal.returns-then-is_err-clause-refused
returns-then-is_err-clause-refused g c =
    let first = first_of c.args.self.now.spare.items c.requires.some in
    record {
      was = first.0;
      is = first.0;
      rest = first.1;
      stores = c.reserve.ensures.items;
      spare = first.2;
      spare_now = first.2;
      limit = refl;
      refused = no_memory (g.D.Disk.told first.0) (g.met.D.Disk.lawful first.0) c.args.head.now c.args.self.now.limit;
    }

pub invariant_of-self-in-Ok-clause-limits : goal.invariant_of-self-in-Ok-clause-limits
invariant_of-self-in-Ok-clause-limits g c =
    limits_push c.args.self.now.limit c.args.self.now.stores.items c.push_reserved.new.self.items c.in-Ok.store (c.push_reserved.ensures.items ∙ ap (λ l. l ++ c.in-Ok.store ∷ []) c.reserve.ensures.items)
    c.args.self.now.limits c.in-Ok.ensures.opened.limit_is

pub returns-in-Ok-clause-added : goal.returns-in-Ok-clause-added
returns-in-Ok-clause-added g c = record {
  was = c.remove-disk.result;
  it = c.in-Ok.store;
  stores = c.push_reserved.ensures.items ∙ ap (λ l. l ++ c.in-Ok.store ∷ []) c.reserve.ensures.items;
  spare = removed c.args.self.now.spare.items c.remove-disk.new.self.items c.remove-disk.result (omega (arith, c.requires.some)) c.remove-disk.ensures.value c.remove-disk.ensures.items;
  limit = refl;
  opened = c.in-Ok.ensures.opened;
}
