use Rattle.std.proofs.Common.{Ok, sym, ap, ◌∙◌}
use Rattle.std.specs.Option.{option_copied}
use Rattle.vs_link.specs.Connection.{without_reply}
use Rattle.vs_machine.specs.State as machine
use Rattle.vs_state.specs.Plain.{plain}
use Rattle.vs_core.proofs.Hearing.{hear_is, hear_link, hear_to, hear_up}
use Rattle.vs_core.proofs.kinds.hear.hear.Goals as goal

pub hear_reply-requires-clause-set : goal.hear_reply-requires-clause-set
hear_reply-requires-clause-set c = hear_to (plain c.args.state.now) c.args.set c.args.from c.requires.possible

pub hear_reply-requires-clause-up : goal.hear_reply-requires-clause-up
hear_reply-requires-clause-up c = hear_up (plain c.args.state.now) c.args.set c.args.from c.in-Some.heard.now (sym c.head_reply.ensures ∙ ap option_copied c.in-Some.is) c.requires.known

pub drop_reply-requires-clause-link : goal.drop_reply-requires-clause-link
drop_reply-requires-clause-link c =
    ap (λ m. machine.is_link m c.args.set c.args.from) c.hear_reply.ensures.heard
    ∙ hear_link (plain c.args.state.now) c.args.set c.args.from c.requires.possible

pub returns-clause-step : goal.returns-clause-step
returns-clause-step c =
    let s = plain c.args.state.now in
    let x = c.args.set in
    let y = c.args.from in
    hear_is s x y c.in-Some.heard.now (sym c.head_reply.ensures ∙ ap option_copied c.in-Some.is) c.requires.possible
    ∙ ap Ok (sym (
    c.drop_reply.ensures.dropped
    ∙ ap (λ (m : machine.State). machine.put_link m x y (without_reply (m.link x y))) c.hear_reply.ensures.heard
    ))
