use Rattle.std.proofs.Common.{ℕ, Ok, Some, sym, ap, ◌∙◌}
use Rattle.std.specs.Option.{option_copied, option_map}
use Rattle.vs_link.specs.Connection.{Last, with_message}
use Rattle.vs_send.specs.declared.transfer.Phase.TheVariants.{WaitingLast}
use Rattle.vs_machine.specs.State as machine
use Rattle.vs_machine.specs.Kinds.Sender.{in_phase}
use Rattle.vs_state.specs.Plain.{plain}
use Rattle.vs_core.proofs.Sender.{linked, last_set, last_is}
use Rattle.vs_core.proofs.kinds.last.last.Goals as goal

pub post-sync-requires-clause-link : goal.post-sync-requires-clause-link
post-sync-requires-clause-link c =
    let s = plain c.args.state.now in
    linked s c.requires.known c.args.set c.args.bucket c.in-Some.transfer.now (sym c.transfer.ensures ∙ ap option_copied c.in-Some.is) (last_set s c.args.set c.args.bucket c.requires.possible)

pub post-sync-requires-clause-room : goal.post-sync-requires-clause-room
post-sync-requires-clause-room c = c.requires.ready c.in-Some.transfer.now (sym c.transfer.ensures ∙ ap option_copied c.in-Some.is)

pub returns-clause-step : goal.returns-clause-step
returns-clause-step c =
    let s = plain c.args.state.now in
    let x = c.args.set in
    let b = c.args.bucket in
    let t = c.in-Some.transfer.now in
    let is = sym c.transfer.ensures ∙ ap option_copied c.in-Some.is in
    let posted = machine.put_link s x t.dest (with_message (s.link x t.dest) (Last b)) in
    let after : ℕ → ℕ → machine.State = λ e n. machine.put_bucket posted b (machine.with_transfer (s.bucket b) x (Some (in_phase t (WaitingLast e n)))) in
    let phase : machine.State → machine.State = λ m. machine.put_bucket m b (machine.with_transfer (m.bucket b) x (option_map (λ t. in_phase t (WaitingLast c.epoch-epoch.result c.post-sync.result)) ((m.bucket b).transfer x))) in
    last_is s x b c.requires.possible t is
    ∙ ap Ok (sym (
    c.wait_for_last.ensures.waits
    ∙ ap phase c.post-sync.ensures.posted
    ∙ ap (λ m. machine.put_bucket posted b (machine.with_transfer (s.bucket b) x (option_map (λ t. in_phase t (WaitingLast c.epoch-epoch.result c.post-sync.result)) m))) is
    ∙ (λ i. after (c.epoch-epoch.ensures i) (c.post-sync.ensures.number i))
    ))
