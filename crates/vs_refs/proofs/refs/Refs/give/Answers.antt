use Rattle.std.proofs.Common.{◌≡◌, ◌-◌, refl}
use Rattle.vs_refs.specs.declared.counts.Counts.{Counts}
use Rattle.vs_refs.specs.Counts.{count_of, with_count}
use Rattle.vs_refs.specs.Refs.{counts_of}
use Rattle.vs_refs.proofs.Changes.{by_change, has_entry}
use Rattle.vs_refs.proofs.refs.Refs.give.Goals as goal

pub keep-requires : goal.keep-requires
keep-requires c = has_entry c.args.self.now.items c.args.id c.args.mode c.requires

pub returns-clause-given : goal.returns-clause-given
returns-clause-given c =
    let change : Counts → Counts = λ x. with_count x c.args.mode (count_of x c.args.mode - 1) in
    let old = c.args.self.now.items in
    let e : c.with_count.result ≡ change (counts_of old c.args.id) = rw (c.with_count.ensures, c.count.ensures, c.counts-counts.ensures) refl in
    by_change change c.args.id c.with_count.result old c.keep.new.self.items e c.keep.ensures.counts
