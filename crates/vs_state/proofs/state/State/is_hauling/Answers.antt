use Rattle.std.proofs.Common.{◌∙◌, ap, None}
use Rattle.std.specs.List.{list_any}
use Rattle.vs_machine.specs.Kinds.Rebalancing.{is_haul_of}
use Rattle.vs_state.specs.Plain.{transfer_in}
use Rattle.vs_state.specs.Tables.{numbered}
use Rattle.vs_state.proofs.Counts.{any_to}
use Rattle.vs_state.proofs.Hauls.{any_haul}
use Rattle.vs_state.proofs.state.State.is_hauling.Goals as goal

pub returns : goal.returns
returns c =
    let o = c.args.operator in
    let n = c.args.self.now.config.bucket_count in
    let sets = c.args.self.now.sets.items in
    c.any_hauling.ensures
    ∙ ap (list_any (λ t. any_to (λ b. is_haul_of o (transfer_in t b)) n)) c.as_slice.ensures.value
    ∙ any_haul o n sets
    ∙ ap (λ m. any_to (λ b. any_to (λ x. is_haul_of o (numbered (λ t. transfer_in t b) None sets x)) m) n) c.requires.sets
