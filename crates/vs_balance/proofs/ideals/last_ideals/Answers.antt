use Rattle.std.proofs.Common.{sym, ◌∙◌, arith, false}
use Rattle.std.proofs.lemmas.List.{drop_all, append-nil}
use Rattle.vs_balance.specs.declared.member.Member.{Member}
use Rattle.vs_balance.proofs.Weighing.{weight-part}
use Rattle.vs_balance.proofs.Rows.{ideals-in_a_row}
use Rattle.vs_balance.proofs.ideals.last_ideals.Goals as goal

abbrev nobody : Member
nobody = record { view = record { count = 0; pinned = 0; weight = 0; locked = false }; left = false }

pub number-number-requires-clause-part : goal.number-number-requires-clause-part
number-number-requires-clause-part c =
    let part = weight-part c.args.members.now c.loop-member.member-index nobody (omega arith) in
    omega arith

pub returns : goal.returns
returns c =
    let back = drop_all c.loop-member.member-index c.args.members.now (omega arith) in
    let all = rw back at c.loop-member.invariant.rest in
    sym (append-nil c.loop-member.ideals.items) ∙ all ∙ sym (ideals-in_a_row c.args.members.now)
