use Rattle.std.proofs.Common.{rules}
use Rattle.std.proofs.lemmas.Fn.{always_returns_same}
use Rattle.vs_table.proofs.Keys.{placed}
use Rattle.vs_table.proofs.table.Table.place.Goals as goal

-- the closure compares an entry's key with the one that is looked for
pub returns : goal.returns
returns g c =
    let facts = c.binary_search_by.ensures in
    let by_key = facts.position (λ e. g.K.Ord.cmp e.0 c.args.key.now) (always_returns_same _ _ _ (λ a r h called. search rules)) in
    rw (← c.self.view_is, ← c.deref.ensures.value) (placed g.K.Ord.cmp g.met.K.Ord.total c.args.key.now _ _ (rw c.deref.ensures.value c.self.invariant) facts.bound by_key)
