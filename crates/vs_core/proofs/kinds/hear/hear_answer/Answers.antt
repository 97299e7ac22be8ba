use Rattle.std.proofs.Common.{ℕ, Bool, sym, ap, subst, ◌∙◌}
use Rattle.std.specs.Prelude.{if◌then◌else◌, Option}
use Rattle.vs_space.specs.declared.status.Status.{Status}
use Rattle.vs_machine.specs.State as machine
use Rattle.vs_machine.specs.Kinds.Connections.{decided, decision_by}
use Rattle.vs_core.specs.Hearing.{MayTake}
use Rattle.vs_state.specs.Plain.{plain}
use Rattle.vs_core.proofs.Hearing.{bucket_put, counted_bucket, decision_may}
use Rattle.vs_core.proofs.kinds.hear.hear_answer.Goals as goal

-- the state where the answer counts, or doesn't
abbrev answered_by : machine.State → ℕ → ℕ → Option Status → Bool → Bool → machine.State
answered_by s x b remote live counts = machine.put_bucket s b (if counts then decided (s.bucket b) x (decision_by ((s.bucket b).entry x) remote live) else s.bucket b)

pub returns-then-not-answer_counts-clause-recovered : goal.returns-then-not-answer_counts-clause-recovered
returns-then-not-answer_counts-clause-recovered c =
    let s = plain c.args.state.now in
    let b = c.args.heard.now.bucket in
    sym (bucket_put s b) ∙ ap (answered_by s c.args.set b c.args.remote.now c.args.live) (sym (sym c.answer_counts.ensures ∙ c.if-not-answer_counts.true))

pub settle-requires-clause-bucket : goal.settle-requires-clause-bucket
settle-requires-clause-bucket c =
    let s = plain c.args.state.now in
    counted_bucket s c.requires.known (s.link c.args.set c.args.from).epoch c.args.set c.args.from c.args.heard.now.sync c.args.heard.now.bucket (sym c.answer_counts.ensures ∙ c.if-not-answer_counts.false)

pub settle-requires-clause-may : goal.settle-requires-clause-may
settle-requires-clause-may c =
    let s = plain c.args.state.now in
    let e = (s.bucket c.args.heard.now.bucket).entry c.args.set in
    subst (MayTake e) (sym c.decision-decision.ensures) (decision_may e c.args.remote.now c.args.live)

pub returns-clause-recovered : goal.returns-clause-recovered
returns-clause-recovered c =
    let s = plain c.args.state.now in
    let b = c.args.heard.now.bucket in
    c.settle.ensures.settled
    ∙ ap (λ d. machine.put_bucket s b (decided (s.bucket b) c.args.set d)) c.decision-decision.ensures
    ∙ ap (answered_by s c.args.set b c.args.remote.now c.args.live) (sym (sym c.answer_counts.ensures ∙ c.if-not-answer_counts.false))
