use Rattle.std.proofs.Common.{◌≡◌, false, Some, refl, sym, ◌∙◌}
use Rattle.std.specs.Ordering.{nat_cmp}
use Rattle.vs_table.specs.Entries.{value_of}
use Rattle.vs_refs.specs.declared.counts.Counts.{Counts}
use Rattle.vs_refs.specs.Counts.{with_lock}
use Rattle.vs_refs.specs.Refs.{counts_of}
use Rattle.vs_refs.proofs.Changes.{by_change}
use Rattle.vs_refs.proofs.refs.Refs.unlock.Goals as goal

pub returns-in-Some-clause-unlocked : goal.returns-in-Some-clause-unlocked
returns-in-Some-clause-unlocked c =
    let change : Counts → Counts = λ x. with_lock x c.args.mode false in
    let old = c.args.self.now.items in
    let at : value_of nat_cmp old c.args.id ≡ Some c.in-Some.counts = rw (← c.self.view_is) (sym c.get.ensures ∙ sym c.copied.ensures ∙ c.in-Some.is) in
    let e : c.with_lock.result ≡ change (counts_of old c.args.id) = rw (c.with_lock.ensures, at) refl in
    by_change change c.args.id c.with_lock.result old c.keep.new.self.items e c.keep.ensures.counts
