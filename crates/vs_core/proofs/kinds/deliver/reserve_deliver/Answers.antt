use Rattle.std.proofs.Common.{◌≡◌, length, Some, sym, ap, subst, ◌∙◌}
use Rattle.std.specs.Option.{option_copied}
use Rattle.std.specs.Prelude.{option_map}
use Rattle.vs_link.specs.Connection.{message, sent}
use Rattle.vs_link.specs.declared.message.Msg.{Msg}
use Rattle.vs_machine.specs.Kinds.Connections.{first_call}
use Rattle.vs_machine.specs.State as machine
use Rattle.vs_state.specs.Plain.{plain}
use Rattle.vs_core.specs.Delivering.{HasPageRoomAt, IsDeliverReady, IsMessageReady}
use Rattle.vs_core.proofs.Delivering.{first_ready}
use Rattle.vs_core.proofs.Ending.{on_ok}
use Rattle.vs_core.proofs.kinds.deliver.reserve_deliver.Goals as goal

pub returns-in-Ok-clause-ready : goal.returns-in-Ok-clause-ready
returns-in-Ok-clause-ready c =
    let new = c.reserve_rows.new.state in
    let x = c.args.from in
    let y = c.args.to in
    let m = sent c.in-Some.posted.now in
    let same = c.reserve_rows.ensures.same in
    let head : first_call (plain new) x y ≡ Some m =
    ap (λ (n : machine.State). first_call n x y) same ∙ sym c.head_call.ensures ∙ ap (λ r. option_map sent (option_copied r)) c.in-Some.is in
    on_ok c.reserve_rows.result (HasPageRoomAt new y c.in-Chunk.bucket (length c.in-Chunk.page.items)) (IsDeliverReady new x y)
    (λ room. first_ready new x y m head (subst (λ (n : Msg). IsMessageReady new x y (message n)) (sym c.in-Chunk.is) (λ took taken. room)))
    (rw c.len-count.ensures.value at c.reserve_rows.ensures.room)
