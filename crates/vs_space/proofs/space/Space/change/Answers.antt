use Rattle.std.proofs.Common.{◌∙◌, sym, ap, arith}
use Rattle.std.proofs.lemmas.Grind.{common_steps}
use Rattle.vs_space.specs.Entries.{status_of, with_status, Entries}
use Rattle.vs_space.proofs.Places.{entries_from-set, status_at, present, numbers_fit, table_set, has_place_in}
use Rattle.vs_space.proofs.Marks.{tells_renewed}
use Rattle.vs_space.specs.declared.search.Class.TheVariants as class
use Rattle.vs_space.proofs.space.Space.change.Goals as goal

pub replace-requires-clause-counted : goal.replace-requires-clause-counted
replace-requires-clause-counted c =
    present c.self.inside.places.items c.self.inside.counts c.self.invariant.table c.index_of-index.result c.args.id c.get-old.result c.index_of-index.ensures.place
    (c.get-old.ensures.status ∙ ap (λ (s : Entries). status_of s.entries c.args.id) (sym c.self.view_is))

pub replace-requires-clause-room : goal.replace-requires-clause-room
replace-requires-clause-room c = numbers_fit c.self.inside.places.items c.self.inside.counts c.self.invariant.table

pub invariant_of-self : goal.invariant_of-self
invariant_of-self c =
    let places = c.self.inside.places.items in
    let i = c.index_of-index.result in
    let old = c.get-old.ensures.status ∙ ap (λ (s : Entries). status_of s.entries c.args.id) (sym c.self.view_is) in
    record {
      table =
          table_set places c.self.inside.counts c.self.invariant.table i c.get-old.result c.args.new c.replace.new.self
          (has_place_in places c.self.inside.counts c.self.invariant.table c.args.self.now i c.args.id c.get-old.result c.self.view_is c.index_of-index.ensures.place c.index_of-index.ensures.within c.get-old.ensures.status c.requires)
          (old ∙ status_at places i c.args.id c.index_of-index.ensures.place)
          c.replace.ensures;
      active = tells_renewed class.Active places c.deref.result.now c.self.inside.active_marks c.renew.new.self i c.args.new (grind (arith, common_steps)) c.self.invariant.active.told c.renew.ensures.marks c.renew.ensures.told;
      opened = tells_renewed class.Open places c.deref-2.result.now c.self.inside.open_marks c.renew-2.new.self i c.args.new (grind (arith, common_steps)) c.self.invariant.opened.told c.renew-2.ensures.marks c.renew-2.ensures.told;
    }

pub returns-clause-ok : goal.returns-clause-ok
returns-clause-ok c =
    entries_from-set c.self.inside.places.items 1 c.index_of-index.result c.args.id c.args.new
    (has_place_in c.self.inside.places.items c.self.inside.counts c.self.invariant.table c.args.self.now c.index_of-index.result c.args.id c.get-old.result c.self.view_is c.index_of-index.ensures.place c.index_of-index.ensures.within c.get-old.ensures.status c.requires)
    (omega (arith, c.index_of-index.ensures.place)) ∙ ap (λ (s : Entries). with_status s.entries c.args.id c.args.new) c.self.view_is
