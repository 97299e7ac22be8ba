use Rattle.std.proofs.Common.{◌≡◌, sym, ◌∙◌, arith, refl}
use Rattle.vs_refs.proofs.Changes.{left, none_left, room_kept}
use Rattle.vs_refs.proofs.refs.Refs.keep.Goals as goal

pub insert-requires : goal.insert-requires
insert-requires c = rw c.self.view_is (λ none. absurd (c.requires none))

pub returns-then-is_none-clause-counts : goal.returns-then-is_none-clause-counts
returns-then-is_none-clause-counts c =
    none_left c.args.id c.args.counts c.args.self.now.items c.drop_bucket.new.self.items (c.is_none.ensures.0 c.if-is_none.true) c.drop_bucket.ensures.dropped

pub returns-else-is_none-clause-counts : goal.returns-else-is_none-clause-counts
returns-else-is_none-clause-counts c = left c.args.id c.args.counts c.args.self.now.items c.insert.new.self.items (rw c.self.view_is at c.insert.ensures.updates)

pub returns-else-is_none-clause-room : goal.returns-else-is_none-clause-room
returns-else-is_none-clause-room c =
    let kept = room_kept c.insert.result _ _ (λ none. c.requires (rw (← c.self.view_is) (sym c.insert.ensures.old ∙ none))) c.insert.ensures.room in
    let same : c.self.inside.table.room ≡ c.args.self.now.room = rw c.self.view_is refl in
    omega (arith, kept, same)
