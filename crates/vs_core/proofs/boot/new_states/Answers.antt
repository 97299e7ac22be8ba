use Rattle.std.proofs.Common.{◌≡◌, ap, subst, ◌∙◌, arith, sum}
use Rattle.std.proofs.lemmas.Result.{IfOk-weaker}
use Rattle.vs_config.specs.Configuration.{configuration}
use Rattle.vs_core.specs.Booted.{shares_of}
use Rattle.vs_core.specs.Booting.{AreNewStates}
use Rattle.vs_core.proofs.Booted.{are_shares, opens}
use Rattle.vs_core.proofs.Booting.{a_state_each, all_within, held_is}
use Rattle.vs_core.proofs.boot.new_states.Goals as goal

pub states_of-requires : goal.states_of-requires
states_of-requires c =
    let all = are_shares (configuration c.args.config.now) c.requires.sets c.requires.buckets in
    omega (arith, ap sum (c.deref.ensures.value ∙ c.in_ok-shares.ensures.shares), all.all, c.requires.buckets.1)

-- the shares are those of the configuration
shared : (c : goal.After-drop-shares) → c.deref.result.now ≡ shares_of (configuration c.args.config.now)
shared c = c.deref.ensures.value ∙ c.in_ok-shares.ensures.shares

pub returns-clause-states : goal.returns-clause-states
returns-clause-states c = IfOk-weaker c.states_of.result _ _ (λ ds made. held_is (configuration c.args.config.now) ds.items (subst (λ ns. AreNewStates 1 ns ds.items) (shared c) made)) c.states_of.ensures

pub returns-clause-sets : goal.returns-clause-sets
returns-clause-sets c = IfOk-weaker c.states_of.result _ _ (λ ds made. a_state_each (configuration c.args.config.now) c.requires.sets c.requires.buckets ds.items (subst (λ ns. AreNewStates 1 ns ds.items) (shared c) made)) c.states_of.ensures

pub returns-clause-buckets : goal.returns-clause-buckets
returns-clause-buckets c = IfOk-weaker c.states_of.result _ _ (λ ds made. all_within (configuration c.args.config.now) c.requires.sets c.requires.buckets ds.items (subst (λ ns. AreNewStates 1 ns ds.items) (shared c) made)) c.states_of.ensures

pub returns-clause-opens : goal.returns-clause-opens
returns-clause-opens c = λ scripts lawful. opens (configuration c.args.config.now) scripts lawful

pub returns-in_err-shares-clause-opens : goal.returns-in_err-shares-clause-opens
returns-in_err-shares-clause-opens c = λ scripts lawful. opens (configuration c.args.config.now) scripts lawful
