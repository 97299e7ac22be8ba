use Rattle.std.proofs.Common.{◌≡◌, ◌+◌, Some, subst, refl}
use Rattle.std.specs.Ordering.{nat_cmp}
use Rattle.vs_table.specs.Entries.{Updates}
use Rattle.vs_refs.specs.declared.counts.Counts.{Counts}
use Rattle.vs_refs.specs.Counts.{count_of, with_count}
use Rattle.vs_refs.specs.Refs.{counts_of}
use Rattle.vs_refs.proofs.Changes.{changed}
use Rattle.vs_refs.proofs.refs.Refs.take.Goals as goal

pub insert-requires : goal.insert-requires
insert-requires c = rw c.self.view_is c.requires.room

pub returns-clause-taken : goal.returns-clause-taken
returns-clause-taken c =
    let change : Counts → Counts = λ x. with_count x c.args.mode (count_of x c.args.mode + 1) in
    let old = c.args.self.now.items in
    let e : c.with_count.result ≡ change (counts_of old c.args.id) = rw (c.with_count.ensures, c.count.ensures, c.counts-counts.ensures) refl in
    changed change old c.insert.new.self.items c.args.id (subst (λ v. Updates nat_cmp old c.insert.new.self.items c.args.id (Some v)) e (rw c.self.view_is at c.insert.ensures.updates))
