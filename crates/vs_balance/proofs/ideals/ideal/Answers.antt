use Rattle.std.proofs.Common.{◌≡◌, ℕ, sym, ap, ◌∙◌, subst, arith, List, length, drop, IfOk, Vec, Global}
use Rattle.std.proofs.lemmas.List.{take_at}
use Rattle.std.proofs.lemmas.Result.{IfOk-weaker}
use Rattle.vs_balance.specs.declared.member.Member.{Member}
use Rattle.vs_balance.specs.Member.{repeated, ideals_in, CanShare}
use Rattle.vs_balance.specs.Ideal.{counts_of, joined, settled, ideal_of, unlocked_weight, AreIdeals}
use Rattle.vs_balance.proofs.Settled.{weighted_where_any, weightless_where_none, CanShare-joined, settled-joined, ideal_of-weighted, ideal_of-weightless, AreIdeals-weighted, AreIdeals-weightless}
use Rattle.vs_balance.proofs.ideals.ideal.Goals as goal
use Rattle.vs_balance.proofs.ideals.ideal.Goals.{After-present, After-drop-members}

abbrev Counts : Type 0
Counts = Vec ℕ Global

weightless : (c : After-present) → unlocked_weight c.args.views.now ≡ 0
weightless c = weightless_where_none c.args.views.now (sym c.if-not-any_weight.ensures)

pub returns-then-not-any_weight-clause-value : goal.returns-then-not-any_weight-clause-value
returns-then-not-any_weight-clause-value c =
    let views = c.args.views.now in
    IfOk-weaker c.present.result (λ (v : Counts). v.items ≡ counts_of views) (λ (v : Counts). v.items ≡ ideal_of views) (λ v is. is ∙ sym (ideal_of-weightless views (weightless c))) c.present.ensures

pub returns-then-not-any_weight-clause-right : goal.returns-then-not-any_weight-clause-right
returns-then-not-any_weight-clause-right c =
    let views = c.args.views.now in
    IfOk-weaker c.present.result (λ (v : Counts). v.items ≡ counts_of views) (λ (v : Counts). AreIdeals views v.items) (λ v is. subst (AreIdeals views) (sym is) (AreIdeals-weightless views c.requires.pinned (weightless c))) c.present.ensures

pub settle-requires : goal.settle-requires
settle-requires c =
    let views = c.args.views.now in
    let lent : c.deref_mut.result.now ≡ joined views = c.deref_mut.ensures.value ∙ c.in_ok-members.ensures in
    subst CanShare (sym lent) (CanShare-joined views c.requires.sets c.requires.pinned c.requires.counts (weighted_where_any views (sym c.if-not-any_weight.ensures)))

-- the sets whose ideals are read
last : (c : After-drop-members) → c.deref.result.now ≡ settled c.args.views.now
last c =
    let views = c.args.views.now in
    let lent : c.deref_mut.result.now ≡ joined views = c.deref_mut.ensures.value ∙ c.in_ok-members.ensures in
    let long : length c.settle.new.members ≡ c.in_ok-members.members.len = omega (arith, c.settle.auto.members, c.deref_mut.ensures.len) in
    c.deref.ensures.value
    ∙ take_at c.settle.new.members (drop (length c.settle.new.members) c.in_ok-members.members.items) c.in_ok-members.members.len long
    ∙ c.settle.ensures.after
    ∙ ap (λ (ms : List Member). repeated (length ms) ms) lent
    ∙ sym (settled-joined views)

read : (c : After-drop-members) → IfOk c.last_ideals.result (λ (v : Counts). v.items ≡ ideal_of c.args.views.now)
read c =
    let views = c.args.views.now in
    let weighted = weighted_where_any views (sym c.if-not-any_weight.ensures) in
    IfOk-weaker c.last_ideals.result (λ (v : Counts). v.items ≡ ideals_in c.deref.result.now) (λ (v : Counts). v.items ≡ ideal_of views) (λ v is. is ∙ ap ideals_in (last c) ∙ sym (ideal_of-weighted views weighted)) c.last_ideals.ensures

pub returns-clause-value : goal.returns-clause-value
returns-clause-value c = read c

pub returns-clause-right : goal.returns-clause-right
returns-clause-right c =
    let views = c.args.views.now in
    let weighted = weighted_where_any views (sym c.if-not-any_weight.ensures) in
    let right = AreIdeals-weighted views (CanShare-joined views c.requires.sets c.requires.pinned c.requires.counts weighted) in
    IfOk-weaker c.last_ideals.result (λ (v : Counts). v.items ≡ ideal_of views) (λ (v : Counts). AreIdeals views v.items) (λ v is. subst (AreIdeals views) (sym is) right) (read c)
