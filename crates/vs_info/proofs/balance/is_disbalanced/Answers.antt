use Rattle.std.proofs.Common.{◌≡◌, ◌≤◌, sym, ap, subst, ◌∙◌, arith, length, All}
use Rattle.std.specs.List.{sum_by}
use Rattle.vs_balance.specs.declared.view.SetView.{SetView}
use Rattle.vs_machine.proofs.Ideals.{as_many_ideals}
use Rattle.vs_machine.specs.Kinds.Rebalancing.{view_of, views_of}
use Rattle.vs_machine.specs.State.{sets_of}
use Rattle.vs_state.specs.Plain.{plain}
use Rattle.vs_core.proofs.Planning.{as_many, all_pinned_within, all_few}
use Rattle.vs_info.proofs.balance.is_disbalanced.Goals as goal
use Rattle.vs_info.proofs.balance.is_disbalanced.Goals.{After-deref}

seen : (c : After-deref) → c.deref.result.now ≡ views_of (plain c.args.state.now)
seen c = c.deref.ensures.value ∙ c.in_ok-views.ensures

pub ideal-requires-clause-sets : goal.ideal-requires-clause-sets
ideal-requires-clause-sets c =
    let s = plain c.args.state.now in
    omega (arith, ap length (seen c), as_many (view_of s) (sets_of s), c.requires.sets)

pub ideal-requires-clause-pinned : goal.ideal-requires-clause-pinned
ideal-requires-clause-pinned c =
    let s = plain c.args.state.now in
    subst (All (λ (v : SetView). v.pinned ≤ v.count)) (sym (seen c)) (all_pinned_within s (sets_of s))

pub ideal-requires-clause-counts : goal.ideal-requires-clause-counts
ideal-requires-clause-counts c =
    let s = plain c.args.state.now in
    omega (arith, ap (sum_by (λ (v : SetView). v.count)) (seen c), all_few s c.requires.sized.buckets (sets_of s), c.requires.sets)

pub disbalanced-is_far-requires : goal.disbalanced-is_far-requires
disbalanced-is_far-requires c =
    ap length (c.deref-2.ensures.value ∙ sym c.deref.ensures.value) ∙ sym (as_many_ideals c.deref.result.now)
    ∙ ap length (sym (c.deref-3.ensures.value ∙ c.in_ok-ideals.ensures.value))
