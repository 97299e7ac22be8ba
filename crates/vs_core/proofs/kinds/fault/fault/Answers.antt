use Rattle.std.proofs.Common.{Some, Ok, sym, ap, ◌∙◌}
use Rattle.vs_record.specs.Change as changes
use Rattle.vs_machine.specs.State as machine
use Rattle.vs_machine.specs.Tables.{put}
use Rattle.vs_state.specs.Plain.{plain}
use Rattle.vs_core.proofs.Stopping.{fault_is, fault_set}
use Rattle.vs_core.proofs.kinds.fault.fault.Goals as goal

pub go_down-requires-clause-set : goal.go_down-requires-clause-set
go_down-requires-clause-set c = fault_set (plain c.args.state.now) c.args.set c.args.number c.args.recorded c.requires.possible

pub mark-requires-clause-set : goal.mark-requires-clause-set
mark-requires-clause-set c =
    ap (λ (m : machine.State). machine.has_set m c.args.set) c.go_down.ensures.down
    ∙ fault_set (plain c.args.state.now) c.args.set c.args.number c.args.recorded c.requires.possible

pub returns-clause-step : goal.returns-clause-step
returns-clause-step c =
    let s = plain c.args.state.now in
    let x = c.args.set in
    let n = c.args.number in
    let change = changes.change c.args.prepared.change in
    fault_is s x n c.args.recorded c.requires.possible change c.requires.ready.records
    ∙ ap Ok (sym (
    c.mark.ensures.marked
    ∙ ap (λ (m : machine.State). record m { pending = put m.pending x (Some change); last_fault = put m.last_fault x n }) c.go_down.ensures.down
    ))
