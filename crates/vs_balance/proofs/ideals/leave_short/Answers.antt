use Rattle.std.proofs.Common.{◌≡◌, ◌+◌, ◌-◌, ℕ, sym, refl, ap, ◌∙◌, arith, get_or, false}
use Rattle.std.specs.List.{count_by}
use Rattle.std.proofs.lemmas.List.{take_all, drop_all, drop-set-lt, append-nil}
use Rattle.std.proofs.lemmas.Grind.{drop_more_same}
use Rattle.vs_balance.specs.declared.member.Member.{Member}
use Rattle.vs_balance.specs.Member.{stays, weight_of, leave}
use Rattle.vs_balance.specs.Sharing.{is_broken, number_with}
use Rattle.vs_balance.proofs.Shares.{one_if}
use Rattle.vs_balance.proofs.Weighing.{weight-part}
use Rattle.vs_balance.proofs.Leaving.{none_more, some_more, left_more, get_or-ahead, next-in_a_row}
use Rattle.vs_balance.proofs.ideals.leave_short.Goals as goal

abbrev nobody : Member
nobody = record { view = record { count = 0; pinned = 0; weight = 0; locked = false }; left = false }

pub number-number-requires-clause-part : goal.number-number-requires-clause-part
number-number-requires-clause-part c =
    let same = get_or-ahead c.loop-member.members c.args.members.now c.loop-member.member-index nobody c.loop-member.invariant.ahead in
    let weight = ap weight_of same in
    let part = weight-part c.args.members.now c.loop-member.member-index nobody (omega arith) in
    omega arith

pub loop-member-preserved : goal.loop-member-preserved
loop-member-preserved c =
    let members = c.loop-member.members in
    let i = c.loop-member.member-index in
    let m = get_or members i nobody in
    let b = c.loop-member.sharing.buckets in
    let t = c.loop-member.sharing.total in
    let s = c.loop-member.sharing.surplus in
    let number : c.number-number.result ≡ number_with b t s (weight_of m) = c.number-number.ensures.value ∙ ap (number_with b t s) c.weight.ensures in
    let sharing : c.number-number.new.self ≡ record c.loop-member.sharing { surplus = s - one_if (is_broken b t (weight_of m)) } =
    c.number-number.ensures.rest ∙ ap (λ (w : ℕ). record c.loop-member.sharing { surplus = s - one_if (is_broken b t w) }) c.weight.ensures
    in
    let after = c.leave_if_short-some_left.ensures.after in
    let gone : c.leave_if_short-some_left.new.self ≡ leave m (number_with b t s (weight_of m)) = after ∙ ap (λ (n : ℕ). leave m n) number in
    let written = drop-set-lt (i + 1) members i c.leave_if_short-some_left.new.self (omega arith) in
    let more = left_more b t s members i m nobody (omega arith) refl in
    record {
      few = rw sharing c.loop-member.invariant.few;
      total = rw sharing c.loop-member.invariant.total;
      ahead = written ∙ drop_more_same members c.args.members.now i c.loop-member.invariant.ahead;
      rest = rw (sharing, gone) (more ∙ c.loop-member.invariant.rest);
      none = λ left. rw after (none_more c.args.members.now members i nobody c.number-number.result c.loop-member.some_left c.leave_if_short-some_left.result c.leave_if_short-some_left.ensures.short c.loop-member.invariant.none left);
      some = rw after (some_more (count_by stays c.args.members.now) members i nobody c.number-number.result c.loop-member.some_left c.leave_if_short-some_left.result (omega arith) c.leave_if_short-some_left.ensures.short c.loop-member.invariant.some);
    }

pub returns-clause-after : goal.returns-clause-after
returns-clause-after c =
    let members = c.loop-member.members in
    let i = c.loop-member.member-index in
    let front = take_all i members (omega arith) in
    let back = drop_all i members (omega arith) in
    let all = rw (front, back) at c.loop-member.invariant.rest in
    sym (append-nil members) ∙ all ∙ sym (next-in_a_row c.args.members.now)
