use Rattle.std.proofs.Common.{◌∙◌}
use Rattle.vs_space.specs.declared.status.StatusKind.TheVariants as kind
use Rattle.vs_machine.specs.Kinds.Connections.{is_receiving}
use Rattle.vs_state.specs.Plain.{plain}
use Rattle.vs_state.specs.Statuses.{has_kind}
use Rattle.vs_state.proofs.Counts.{counts_same}
use Rattle.vs_state.proofs.Statuses.{receiving_is}
use Rattle.vs_state.proofs.state.State.receiving.Goals as goal

pub returns : goal.returns
returns c =
    let s = plain c.args.self.now in
    let x = c.args.set in
    c.count.ensures.number
    ∙ counts_same (λ b. has_kind kind.Receiving ((s.bucket b).entry x)) (λ b. is_receiving ((s.bucket b).entry x)) s.config.bucket_count (λ b f l. receiving_is ((s.bucket b).entry x))
