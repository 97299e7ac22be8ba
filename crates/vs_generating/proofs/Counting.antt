-- What the summary counts, client by client and set by set.
use Rattle.std.proofs.Common.{◌≡◌, ℕ, ◌+◌, ◌<◌, ◌≤◌, List, [], length, get_or, ap, ◌∙◌, arith}
use Rattle.std.proofs.lemmas.List.{length-map}
use Rattle.vs_calls.specs.Outcomes.{outcome}
use Rattle.vs_machine.specs.Inputs.{HasFew}
use Rattle.vs_machine.specs.Laws.{IsWithinScripts}
use Rattle.vs_machine.specs.Opening.{client_at}
use Rattle.vs_machine.specs.State as machine
use Rattle.vs_report.proofs.Numbers.{numbered_next}
use Rattle.vs_state.specs.declared.actors.ClientTables.{ClientTables}
use Rattle.vs_state.specs.declared.state.State.{State}
use Rattle.vs_state.specs.Plain.{plain, client}

-- how many calls of one client are answered
pub answered_at : (s : State) (ys : List ClientTables) (i : ℕ) (t : ClientTables) → ys ≡ s.clients.items → i < length ys → t ≡ get_or ys i t → length ((plain s).client (i + 1)).answered ≡ length t.outcomes.items
answered_at s ys i t same within is =
    ap (λ (c : machine.Client). length c.answered) (numbered_next client (client_at []) same i t within is) ∙ length-map t.outcomes.items outcome

pub answered_few : (s : machine.State) (c : ℕ) → HasFew s → IsWithinScripts s → length (s.client c).answered ≤ 200000
answered_few s c few within = omega (arith, few.calls c, within.clients c)
