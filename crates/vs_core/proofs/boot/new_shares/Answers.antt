use Rattle.std.proofs.Common.{◌≡◌, ℕ, List, ◌≤◌, sym, ap, subst, ◌∙◌, arith, length, sum, All}
use Rattle.std.proofs.lemmas.Result.{IfOk-weaker}
use Rattle.std.specs.List.{sum_by}
use Rattle.vs_config.specs.Configuration.{configuration}
use Rattle.vs_balance.specs.declared.view.SetView.{SetView}
use Rattle.vs_balance.specs.Ideal.{ideal_of}
use Rattle.vs_core.specs.Booted.{views_of, shares_of}
use Rattle.vs_core.proofs.Booted.{as_many_views, counts_few, none_pinned, are_shares}
use Rattle.vs_core.proofs.boot.new_shares.Goals as goal
use Rattle.vs_core.proofs.boot.new_shares.Goals.{After-deref, After-drop-views}

seen : (c : After-deref) → c.deref.result.now ≡ views_of c.args.config.now.bucket_count c.args.config.now.sets.items
seen c = c.deref.ensures.value ∙ c.in_ok-views.ensures

pub ideal-requires-clause-sets : goal.ideal-requires-clause-sets
ideal-requires-clause-sets c = omega (arith, ap length (seen c), as_many_views c.args.config.now.bucket_count c.args.config.now.sets.items)

pub ideal-requires-clause-pinned : goal.ideal-requires-clause-pinned
ideal-requires-clause-pinned c =
    subst (All (λ (v : SetView). v.pinned ≤ v.count)) (sym (seen c)) (none_pinned c.args.config.now.bucket_count c.args.config.now.sets.items)

pub ideal-requires-clause-counts : goal.ideal-requires-clause-counts
ideal-requires-clause-counts c =
    omega (arith, ap (sum_by (λ (v : SetView). v.count)) (seen c), counts_few c.args.config.now.bucket_count c.args.config.now.sets.items)

-- what is returned are the shares of the configuration
shared : (c : After-drop-views) (shares : List ℕ) → shares ≡ ideal_of c.deref.result.now → shares ≡ shares_of (configuration c.args.config.now)
shared c shares is = is ∙ ap ideal_of (c.deref.ensures.value ∙ c.in_ok-views.ensures)

pub returns-clause-sets : goal.returns-clause-sets
returns-clause-sets c =
    let all = are_shares (configuration c.args.config.now) c.requires.sets c.requires.buckets in
    IfOk-weaker c.ideal.result _ _ (λ shares is. ap length (shared c shares.items is) ∙ all.each) c.ideal.ensures.value

pub returns-clause-buckets : goal.returns-clause-buckets
returns-clause-buckets c =
    let all = are_shares (configuration c.args.config.now) c.requires.sets c.requires.buckets in
    IfOk-weaker c.ideal.result _ _ (λ shares is. omega (arith, ap sum (shared c shares.items is), all.all)) c.ideal.ensures.value
