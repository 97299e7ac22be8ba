use Rattle.std.proofs.Common.{refl, sym, ap, ◌∙◌}
use Rattle.std.specs.Prelude.{is_some}
use Rattle.vs_link.specs.Connection.{sent}
use Rattle.vs_machine.specs.State.{State}
use Rattle.vs_machine.specs.Kinds.Connections.{first_call, first_reply}
use Rattle.vs_state.specs.Plain.{plain}
use Rattle.vs_settle.proofs.Reading.{mapped_some, none_there}
use Rattle.vs_settle.proofs.reads.next_message.Goals as goal

pub returns-then-is_some : goal.returns-then-is_some
returns-then-is_some g c = (
  refl,
  refl,
  ap (λ (s : State). is_some (first_call s c.args.from c.args.to)) (sym (ap plain c.state-state.ensures.value ∙ c.core.ensures.state))
      ∙ ap is_some (sym c.head_call.ensures) ∙ mapped_some sent _ ∙ mapped_some _ c.head_call.result ∙ sym c.is_some.ensures ∙ c.if-is_some.true,
)

pub returns-then-is_some-2 : goal.returns-then-is_some-2
returns-then-is_some-2 g c = (
  refl,
  refl,
  ap (λ (s : State). is_some (first_reply s c.args.from c.args.to)) (sym (ap plain c.state-state.ensures.value ∙ c.core.ensures.state))
      ∙ ap is_some (sym c.head_reply.ensures) ∙ mapped_some _ c.head_reply.result ∙ sym c.is_some-2.ensures ∙ c.if-is_some-2.true,
)

pub returns : goal.returns
returns g c =
    let whole = sym (ap plain c.state-state.ensures.value ∙ c.core.ensures.state) in
    record {
      calls = none_there _
          (ap (λ (s : State). is_some (first_call s c.args.from c.args.to)) whole
          ∙ ap is_some (sym c.head_call.ensures) ∙ mapped_some sent _ ∙ mapped_some _ c.head_call.result ∙ sym c.is_some.ensures ∙ c.if-is_some.false);
      replies = none_there _
          (ap (λ (s : State). is_some (first_reply s c.args.from c.args.to)) whole
          ∙ ap is_some (sym c.head_reply.ensures) ∙ mapped_some _ c.head_reply.result ∙ sym c.is_some-2.ensures ∙ c.if-is_some-2.false);
    }
