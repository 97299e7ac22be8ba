use Rattle.std.proofs.Common.{◌≡◌, map, ap, sym, ◌∙◌}
use Rattle.vs_config.specs.Configuration.{configuration}
use Rattle.vs_machine.specs.Journals.{nothing}
use Rattle.vs_record.specs.States.{durable}
use Rattle.vs_script.specs.Scripts as script
use Rattle.vs_state.specs.Tables.{numbered}
use Rattle.vs_world.specs.Began.{begun}
use Rattle.vs_world.proofs.Beginning.{opens_as, starts_as}
use Rattle.vs_world.proofs.States.{same_by_number}
use Rattle.vs_world.proofs.opened.begin_core.Goals as goal

pub returns-clause-states : goal.returns-clause-states
returns-clause-states c = c.new-2.ensures.states ∙ same_by_number durable nothing c.in_ok-copies.copies.items c.args.states.items (c.in_ok-copies.ensures ∙ ap (map durable) c.deref.ensures.value)

pub returns-clause-state : goal.returns-clause-state
returns-clause-state c =
    let start = begun c.new-2.result in
    let states : start.states ≡ numbered durable nothing c.args.states.items = c.new-2.ensures.states ∙ same_by_number durable nothing c.in_ok-copies.copies.items c.args.states.items (c.in_ok-copies.ensures ∙ ap (map durable) c.deref.ensures.value) in
    c.in_ok-core.ensures.opening
    ∙ starts_as (configuration c.args.config) start.config (script.scripts c.in_ok-given.given) start.scripts (numbered durable nothing c.args.states.items) start.states (sym c.new-2.ensures.config) (c.in_ok-given.ensures ∙ sym c.new-2.ensures.scripts) (sym states)

pub returns-clause-opens : goal.returns-clause-opens
returns-clause-opens c =
    let start = begun c.new-2.result in
    let states : start.states ≡ numbered durable nothing c.args.states.items = c.new-2.ensures.states ∙ same_by_number durable nothing c.in_ok-copies.copies.items c.args.states.items (c.in_ok-copies.ensures ∙ ap (map durable) c.deref.ensures.value) in
    opens_as (configuration c.args.config) start.config (script.scripts c.in_ok-given.given) start.scripts (numbered durable nothing c.args.states.items) start.states (sym c.new-2.ensures.config) (c.in_ok-given.ensures ∙ sym c.new-2.ensures.scripts) (sym states) c.in_ok-core.ensures.coherent
