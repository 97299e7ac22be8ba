use Rattle.std.proofs.Common.{◌∙◌, ap, []}
use Rattle.std.specs.List.{list_all}
use Rattle.vs_machine.specs.Kinds.Stops.{is_client_done}
use Rattle.vs_machine.specs.Opening.{client_at}
use Rattle.vs_state.specs.Plain.{client}
use Rattle.vs_state.proofs.Numbered.{all_counted}
use Rattle.vs_state.proofs.state.State.clients_done.Goals as goal

pub returns : goal.returns
returns c =
    c.all_clients_done.ensures
    ∙ ap (list_all (λ k. is_client_done (client k))) c.as_slice.ensures.value
    ∙ all_counted is_client_done client (client_at []) c.args.self.now.clients.items
