use Rattle.std.proofs.Common.{refl, ap, ◌∙◌}
use Rattle.vs_config.specs.Configuration.{configuration}
use Rattle.vs_script.specs.Scripts.{scripts}
use Rattle.vs_state.specs.declared.state.State.{State}
use Rattle.vs_state.specs.declared.state.State.{State}
use Rattle.vs_state.specs.Plain.{plain}
use Rattle.vs_core.specs.Opened.{held}
use Rattle.vs_core.proofs.Opened.{incoherent_in, its_sets, opens, placement_in, plain_is, reached, sound}
use Rattle.vs_core.proofs.cores.Core.new.Goals as goal

pub first_incoherent-requires : goal.first_incoherent-requires
first_incoherent-requires c = its_sets (configuration c.args.config.now) (scripts c.args.scripts) c.args.states.items c.in_ok-state.state c.in_ok-state.ensures c.requires.lawful c.requires.sets

pub placement-requires : goal.placement-requires
placement-requires c = its_sets (configuration c.args.config.now) (scripts c.args.scripts) c.args.states.items c.in_ok-state.state c.in_ok-state.ensures c.requires.lawful c.requires.sets

pub returns-in-Some-clause-fault : goal.returns-in-Some-clause-fault
returns-in-Some-clause-fault c = (
  incoherent_in (configuration c.args.config.now) (scripts c.args.scripts) c.args.states.items c.in_ok-state.state c.in_ok-state.ensures c.in-Some.bucket c.in-Some.ensures,
  c.in_ok-entries.ensures ∙ placement_in (configuration c.args.config.now) (scripts c.args.scripts) c.args.states.items c.in_ok-state.state c.in_ok-state.ensures c.in-Some.bucket,
)

pub new_histories-requires : goal.new_histories-requires
new_histories-requires c = its_sets (configuration c.args.config.now) (scripts c.args.scripts) c.args.states.items c.in_ok-state.state c.in_ok-state.ensures c.requires.lawful c.requires.sets

pub of_state-requires-clause-reached : goal.of_state-requires-clause-reached
of_state-requires-clause-reached c =
    let config = configuration c.args.config.now in
    let given = scripts c.args.scripts in
    let ds = c.args.states.items in
    let s = c.in_ok-state.state in
    let t : State = record s { histories = c.in_ok-state-2.field-0 } in
    reached t config given (held ds)
    (opens config given ds s c.in_ok-state.ensures c.requires.lawful c.requires.sets c.requires.buckets c.in_default.ensures)
    (plain_is config given ds s c.in_ok-state.ensures c.in_ok-state-2.field-0.items t refl refl c.in_ok-state-2.ensures c.requires.buckets)

pub of_state-requires-clause-sound : goal.of_state-requires-clause-sound
of_state-requires-clause-sound c =
    let s = c.in_ok-state.state in
    let t : State = record s { histories = c.in_ok-state-2.field-0 } in
    sound (configuration c.args.config.now) (scripts c.args.scripts) c.args.states.items s c.in_ok-state.ensures
    c.in_ok-state-2.field-0.items t refl refl c.in_ok-state-2.ensures c.requires.buckets c.requires.lawful c.requires.sets

pub returns-clause-opening : goal.returns-clause-opening
returns-clause-opening c =
    let s = c.in_ok-state.state in
    let t : State = record s { histories = c.in_ok-state-2.field-0 } in
    ap plain c.of_state.ensures.state
    ∙ plain_is (configuration c.args.config.now) (scripts c.args.scripts) c.args.states.items s c.in_ok-state.ensures
    c.in_ok-state-2.field-0.items t refl refl c.in_ok-state-2.ensures c.requires.buckets

pub returns-clause-coherent : goal.returns-clause-coherent
returns-clause-coherent c =
    opens (configuration c.args.config.now) (scripts c.args.scripts) c.args.states.items c.in_ok-state.state c.in_ok-state.ensures
    c.requires.lawful c.requires.sets c.requires.buckets c.in_default.ensures
