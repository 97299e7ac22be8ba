use Rattle.std.proofs.Common.{sym, ap, ◌∙◌}
use Rattle.std.specs.Option.{option_map}
use Rattle.vs_event.specs.Recorded.{event_of}
use Rattle.vs_machine.specs.State as machine
use Rattle.vs_state.specs.Plain.{plain}
use Rattle.vs_core.specs.Records.{records, recording}
use Rattle.vs_core.proofs.Journaled.{records_of}
use Rattle.vs_core.proofs.Staying.{ready_kept}
use Rattle.vs_core.proofs.failing.reserve_recorded.Goals as goal

pub reserve_going_down-requires-clause-set : goal.reserve_going_down-requires-clause-set
reserve_going_down-requires-clause-set c = c.requires.set (recording c.in-Some.recording) (sym c.in_ok-recording.ensures ∙ ap (option_map recording) c.in-Some.is)

pub returns-clause-ready : goal.returns-clause-ready
returns-clause-ready c =
    let s = plain c.args.state.now in
    record {
      at = c.in-Some.recording.set;
      recorded =
          ap (λ (m : machine.State). records m (event_of c.args.event)) c.reserve_going_down.ensures.same
          ∙ records_of s c.args.event ∙ sym c.in_ok-recording.ensures ∙ ap (option_map recording) c.in-Some.is;
      down = c.in_ok-reserve_going_down.ensures.ready;
    }

pub returns-clause-kept : goal.returns-clause-kept
returns-clause-kept c = λ p ready. ready_kept c.args.state.now c.reserve_going_down.new.state c.reserve_going_down.ensures.rest c.in_ok-reserve_going_down.ensures.ready.answers c.args.event p ready
