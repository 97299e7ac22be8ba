use Rattle.std.proofs.Common.{◌≡◌, ℕ, Option, Some, [], ◌∷◌, ap, ◌∙◌, subst}
use Rattle.vs_cluster.specs.Calls.{IsPostAllowed}
use Rattle.vs_machine.specs.Driven.{would_grant}
use Rattle.vs_machine.specs.State.{State, sets_of}
use Rattle.vs_machine.specs.Tables.{least_to}
use Rattle.vs_script.specs.Calls.{call}
use Rattle.vs_state.specs.Plain.{plain}
use Rattle.vs_world.specs.Played.{state_of}
use Rattle.vs_drive.specs.Posting.{set_round, IsFirstAllowed}
use Rattle.vs_drive.proofs.Searching.{first_is, goes_on, third}
use Rattle.vs_drive.proofs.posting.further_set.Goals as goal

pub returns-in-Some-if_steered : goal.returns-in-Some-if_steered
returns-in-Some-if_steered g c =
    let k = call c.args.call.now in
    let s = state_of c.args.cluster.now.world.played in
    let set = c.in-Some-if_steered.set in
    let May : ℕ → Type 0 = IsPostAllowed c.args.cluster.now c.args.client in
    let last = set_round (sets_of s) (s.client c.args.client).present.tries ∷ [] in
    let grants : c.granting_set.result ≡ least_to (λ x. would_grant s x k) (sets_of s) =
    c.granting_set.ensures ∙ ap (λ (t : State). least_to (λ x. would_grant t x k) (sets_of t)) c.state_in-state.ensures.state in
    let all = goes_on May c.args.cached (c.granting_set.result ∷ last) (Some set) c.in_default.ensures (first_is May c.granting_set.result last set c.in-Some-if_steered.ensures) in
    subst (λ (o : Option ℕ). IsFirstAllowed May (c.args.cached ∷ o ∷ last) (Some set)) grants all

pub returns : goal.returns
returns g c =
    let k = call c.args.call.now in
    let s = state_of c.args.cluster.now.world.played in
    let client = c.args.client in
    let chosen = c.if_steered-3.result in
    let May : ℕ → Type 0 = IsPostAllowed c.args.cluster.now client in
    let grants : c.granting_set.result ≡ least_to (λ x. would_grant s x k) (sets_of s) =
    c.granting_set.ensures ∙ ap (λ (t : State). least_to (λ x. would_grant t x k) (sets_of t)) c.state_in-state.ensures.state in
    let round : c.set_by_tries.result ≡ set_round (sets_of s) (s.client client).present.tries =
    c.set_by_tries.ensures ∙ ap (λ (n : ℕ). set_round (sets_of (plain c.state_in-state.result.now)) n) c.tries.ensures
    ∙ ap (λ (t : State). set_round (sets_of t) (t.client client).present.tries) c.state_in-state.ensures.state in
    let all = third May c.args.cached c.granting_set.result c.set_by_tries.result chosen c.in_default.ensures c.in_default-if_steered.ensures c.if_steered-3.ensures in
    subst (λ (o : Option ℕ). IsFirstAllowed May (c.args.cached ∷ least_to (λ x. would_grant s x k) (sets_of s) ∷ o ∷ []) chosen) round
    (subst (λ (o : Option ℕ). IsFirstAllowed May (c.args.cached ∷ o ∷ c.set_by_tries.result ∷ []) chosen) grants all)
