use Rattle.std.proofs.Common.{◌≡◌, ◌-◌, ◌≤◌, ℕ, sym, ap, ◌∙◌, arith, get_or, sum, false}
use Rattle.std.specs.List.{sum_by}
use Rattle.std.proofs.lemmas.List.{take_all}
use Rattle.std.proofs.lemmas.List.Sums.{get_or-le-sum_by, sum_by_more, sum-map}
use Rattle.vs_balance.specs.declared.member.Member.{Member}
use Rattle.vs_balance.specs.Member.{weight_of, weights_of}
use Rattle.vs_balance.specs.Sharing.{rounded_up}
use Rattle.vs_balance.proofs.Shares.{rounded_up-le, rounded_up_enough, sum_by-map}
use Rattle.vs_balance.proofs.sharing.Sharing.among.Goals as goal
use Rattle.vs_balance.proofs.sharing.Sharing.among.Goals.{After-div_ceil-rounded_up, After-loop-member}

abbrev nobody : Member
nobody = record { view = record { count = 0; pinned = 0; weight = 0; locked = false }; left = false }

-- this iteration's share, and a bound on it
shared : (c : After-div_ceil-rounded_up) → c.div_ceil-rounded_up.result ≡ rounded_up c.sums-buckets.result.0 c.sums-buckets.result.1 (weight_of (get_or c.args.members.now c.loop-member.member-index nobody))
shared c = c.div_ceil-rounded_up.ensures ∙ ap (rounded_up c.sums-buckets.result.0 c.sums-buckets.result.1) (c.from.ensures ∙ c.weight.ensures)

small : (c : After-div_ceil-rounded_up) → c.div_ceil-rounded_up.result ≤ c.sums-buckets.result.0
small c =
    let members = c.args.members.now in
    let weight = weight_of (get_or members c.loop-member.member-index nobody) in
    let total : c.sums-buckets.result.1 ≡ sum_by weight_of members = c.sums-buckets.ensures.total ∙ sum-map weight_of members in
    let part = get_or-le-sum_by weight_of members c.loop-member.member-index nobody (omega arith) in
    let is = shared c in
    let weighted = c.requires.weighted in
    omega (arith, is, rounded_up-le c.sums-buckets.result.0 c.sums-buckets.result.1 weight (omega arith) (omega arith))

pub overflow_add-rounded_up : goal.overflow_add-rounded_up
overflow_add-rounded_up c = let fits = small c in omega arith

pub loop-member-preserved : goal.loop-member-preserved
loop-member-preserved c =
    let members = c.args.members.now in
    let i = c.loop-member.member-index in
    let fits = small c in
    let is = shared c in
    let more = sum_by_more (λ (m : Member). rounded_up c.sums-buckets.result.0 c.sums-buckets.result.1 (weight_of m)) members i nobody (omega arith) in
    record {
      counted = omega arith;
      small = omega arith;
    }

-- all shares, at the end of the loop
all : (c : After-loop-member) → c.loop-member.rounded_up ≡ sum_by (rounded_up c.sums-buckets.result.0 (sum (weights_of c.args.members.now))) (weights_of c.args.members.now)
all c =
    let members = c.args.members.now in
    let share = λ (t : ℕ) (m : Member). rounded_up c.sums-buckets.result.0 t (weight_of m) in
    let whole = take_all c.loop-member.member-index members (omega arith) in
    c.loop-member.invariant.counted
    ∙ ap (sum_by (share c.sums-buckets.result.1)) whole
    ∙ ap (λ (t : ℕ). sum_by (share t) members) c.sums-buckets.ensures.total
    ∙ sym (sum_by-map (rounded_up c.sums-buckets.result.0 (sum (weights_of members))) weight_of members)

pub overflow_sub-result : goal.overflow_sub-result
overflow_sub-result c = omega (arith, all c, rounded_up_enough c.sums-buckets.result.0 (weights_of c.args.members.now) c.requires.weighted)

pub returns-clause-surplus : goal.returns-clause-surplus
returns-clause-surplus c = ap (λ (n : ℕ). n - c.sums-buckets.result.0) (all c)
