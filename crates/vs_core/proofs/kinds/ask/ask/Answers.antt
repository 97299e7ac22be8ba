use Rattle.std.proofs.Common.{ℕ, Ok, Some, sym, ap, ◌∙◌}
use Rattle.vs_link.specs.Connection.{Stat, with_message}
use Rattle.vs_machine.specs.State as machine
use Rattle.vs_machine.specs.Kinds.Connections.{asked_set}
use Rattle.vs_state.specs.Plain.{plain}
use Rattle.vs_core.proofs.Asked.{ask_from, ask_is, asked_link}
use Rattle.vs_core.proofs.kinds.ask.ask.Goals as goal

pub post-sync-requires-clause-link : goal.post-sync-requires-clause-link
post-sync-requires-clause-link c =
    asked_link (plain c.args.state.now) c.requires.known c.args.set c.args.bucket c.in-Some.other (ap asked_set (sym c.entry-entry.ensures) ∙ sym c.asked_set.ensures ∙ c.in-Some.is)

pub post-sync-requires-clause-room : goal.post-sync-requires-clause-room
post-sync-requires-clause-room c = c.requires.ready.line c.in-Some.other (ap asked_set (sym c.entry-entry.ensures) ∙ sym c.asked_set.ensures ∙ c.in-Some.is)

pub put_ask-requires-clause-set : goal.put_ask-requires-clause-set
put_ask-requires-clause-set c =
    ap (λ m. machine.has_set m c.args.set) c.post-sync.ensures.posted
    ∙ ask_from (plain c.args.state.now) c.args.set c.args.bucket c.requires.possible

pub returns-clause-step : goal.returns-clause-step
returns-clause-step c =
    let s = plain c.args.state.now in
    let x = c.args.set in
    let b = c.args.bucket in
    let y = c.in-Some.other in
    let named = ap asked_set (sym c.entry-entry.ensures) ∙ sym c.asked_set.ensures ∙ c.in-Some.is in
    let posted = machine.put_link s x y (with_message (s.link x y) (Stat b)) in
    let after : ℕ → ℕ → machine.State = λ e n. machine.put_bucket posted b (machine.with_ask (s.bucket b) x (Some (record { epoch = e; sync = n }))) in
    let asked : machine.State → machine.State = λ m. machine.put_bucket m b (machine.with_ask (m.bucket b) x (Some (record { epoch = c.epoch-epoch.result; sync = c.post-sync.result }))) in
    ask_is s x b c.requires.possible y named
    ∙ ap Ok (sym (
    c.put_ask.ensures.asked
    ∙ ap asked c.post-sync.ensures.posted
    ∙ (λ i. after (c.epoch-epoch.ensures i) (c.post-sync.ensures.number i))
    ))
