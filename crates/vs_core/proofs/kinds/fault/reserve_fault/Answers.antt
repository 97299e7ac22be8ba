use Rattle.std.proofs.Common.{sym, ap, ◌∙◌}
use Rattle.std.specs.Prelude.{option_map}
use Rattle.vs_record.specs.Change as changes
use Rattle.vs_machine.specs.State as machine
use Rattle.vs_machine.specs.Kinds.Stops.{recording_of}
use Rattle.vs_state.specs.Plain.{plain}
use Rattle.vs_core.proofs.Stopping.{fault_records, fault_set}
use Rattle.vs_core.proofs.kinds.fault.reserve_fault.Goals as goal

pub change_of-requires-clause-buckets : goal.change_of-requires-clause-buckets
change_of-requires-clause-buckets c = c.requires.known.whole.known

pub unreachable-requires : goal.unreachable-requires
unreachable-requires c =
    fault_records (plain c.args.state.now) c.args.set c.args.number c.args.recorded c.requires.possible (sym c.in_ok-change.ensures ∙ ap (option_map changes.change) c.in_default.is)

pub reserve_going_down-requires-clause-set : goal.reserve_going_down-requires-clause-set
reserve_going_down-requires-clause-set c = fault_set (plain c.args.state.now) c.args.set c.args.number c.args.recorded c.requires.possible

pub returns-clause-ready : goal.returns-clause-ready
returns-clause-ready c = record {
  records =
      ap (λ (m : machine.State). option_map (λ r. r.change) (recording_of m c.args.recorded)) c.reserve_going_down.ensures.same
      ∙ sym c.in_ok-change.ensures
      ∙ ap (option_map changes.change) c.in-Some.is;
  down = c.in_ok-reserve_going_down.ensures.ready;
}
