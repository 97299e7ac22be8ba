use Rattle.std.proofs.Common.{◌≡◌, map, ap, ◌∙◌, rules}
use Rattle.vs_machine.specs.Journals.{nothing}
use Rattle.vs_record.specs.States.{durable}
use Rattle.vs_state.specs.Tables.{numbered}
use Rattle.vs_world.proofs.States.{same_by_number}
use Rattle.vs_world.proofs.opening.Opening.try_clone.Goals as goal

pub returns : goal.returns
returns c =
    let own = c.args.self.now in
    let faults : c.in_ok-faults.faults.items ≡ own.faults.items = search rules in
    λ i. record {
      config = c.in_ok-config.ensures i;
      scripts = c.in_ok-scripts.ensures i;
      limit = own.limit;
      states = same_by_number durable nothing c.in_ok-states.states.items own.states.items (c.in_ok-states.ensures ∙ ap (map durable) c.deref.ensures.value) i;
      faults = numbered (λ n. n) 0 (faults i);
    }
