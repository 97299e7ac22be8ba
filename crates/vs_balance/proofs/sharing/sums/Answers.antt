use Rattle.std.proofs.Common.{sym, ap, ◌∙◌, arith}
use Rattle.std.specs.List.{sum_by}
use Rattle.std.proofs.lemmas.List.{take_all}
use Rattle.std.proofs.lemmas.List.Sums.{sum_by-take-le}
use Rattle.vs_balance.proofs.Weighing.{buckets_of, buckets_below, shared_count-sum}
use Rattle.vs_balance.proofs.sharing.sums.Goals as goal

pub overflow_add-buckets : goal.overflow_add-buckets
overflow_add-buckets c =
    let members = c.args.members.now in
    omega (arith, sum_by-take-le buckets_of members c.loop-member.member-index, buckets_below members)

pub returns-clause-buckets : goal.returns-clause-buckets
returns-clause-buckets c =
    let members = c.args.members.now in
    c.loop-member.invariant.buckets ∙ ap (sum_by buckets_of) (take_all c.loop-member.member-index members (omega arith)) ∙ sym (shared_count-sum members c.requires.pinned)

pub returns-clause-few : goal.returns-clause-few
returns-clause-few c =
    let members = c.args.members.now in
    omega (arith, sum_by-take-le buckets_of members c.loop-member.member-index, buckets_below members)
