use Rattle.std.proofs.Common.{◌≡◌, true, Some, subst, refl}
use Rattle.std.specs.Ordering.{nat_cmp}
use Rattle.vs_table.specs.Entries.{Updates}
use Rattle.vs_refs.specs.declared.counts.Counts.{Counts}
use Rattle.vs_refs.specs.Counts.{with_lock}
use Rattle.vs_refs.specs.Refs.{counts_of}
use Rattle.vs_refs.proofs.Changes.{changed}
use Rattle.vs_refs.proofs.refs.Refs.lock.Goals as goal

pub insert-requires : goal.insert-requires
insert-requires c = rw c.self.view_is c.requires

pub returns-clause-locked : goal.returns-clause-locked
returns-clause-locked c =
    let change : Counts → Counts = λ x. with_lock x c.args.mode true in
    let old = c.args.self.now.items in
    let e : c.with_lock.result ≡ change (counts_of old c.args.id) = rw (c.with_lock.ensures, c.counts-counts.ensures) refl in
    changed change old c.insert.new.self.items c.args.id (subst (λ v. Updates nat_cmp old c.insert.new.self.items c.args.id (Some v)) e (rw c.self.view_is at c.insert.ensures.updates))
