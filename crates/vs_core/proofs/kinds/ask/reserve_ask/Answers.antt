use Rattle.std.proofs.Common.{sym, ap, ◌∙◌}
use Rattle.vs_machine.specs.State as machine
use Rattle.vs_machine.specs.Kinds.Connections.{asked_set}
use Rattle.vs_state.specs.Plain.{plain}
use Rattle.vs_core.specs.Asking.{IsAskReady}
use Rattle.vs_core.specs.Sending.{HasLineRoom}
use Rattle.vs_core.proofs.Asked.{ask_from, asked_link, ask_ready}
use Rattle.vs_core.proofs.Ending.{on_ok}
use Rattle.vs_core.proofs.kinds.ask.reserve_ask.Goals as goal

pub reserve_ask-requires-clause-set : goal.reserve_ask-requires-clause-set
reserve_ask-requires-clause-set c = ask_from (plain c.args.state.now) c.args.set c.args.bucket c.requires.possible

pub reserve_post-requires-clause-link : goal.reserve_post-requires-clause-link
reserve_post-requires-clause-link c =
    let s = plain c.args.state.now in
    ap (λ m. machine.is_link m c.args.set c.in-Some.other) c.reserve_ask.ensures.same
    ∙ asked_link s c.requires.known c.args.set c.args.bucket c.in-Some.other (ap asked_set (sym c.entry-entry.ensures) ∙ sym c.asked_set.ensures ∙ c.in-Some.is)

pub returns-clause-ready : goal.returns-clause-ready
returns-clause-ready c =
    let new = c.reserve_post.new.state in
    let x = c.args.set in
    let y = c.in-Some.other in
    let named = ap asked_set (sym c.entry-entry.ensures) ∙ sym c.asked_set.ensures ∙ c.in-Some.is in
    let same = c.reserve_post.ensures.same ∙ c.reserve_ask.ensures.same in
    on_ok c.reserve_post.result (HasLineRoom new.links x y) (IsAskReady new x c.args.bucket)
    (ask_ready c.args.state.now c.reserve_ask.new.state new x c.args.bucket y same named c.reserve_post.ensures.sets c.in_ok-reserve_ask.ensures.room)
    c.reserve_post.ensures.ready

pub returns-clause-same : goal.returns-clause-same
returns-clause-same c = c.reserve_post.ensures.same ∙ c.reserve_ask.ensures.same
