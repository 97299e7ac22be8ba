use Rattle.std.specs.Prelude.{◌≡◌, ℕ, true}
use Rattle.std.proofs.Common.{arith}
use Rattle.vs_send.specs.declared.transfer.By.{By}
use Rattle.vs_send.specs.declared.transfer.By.TheVariants.{Command, Haul}
use Rattle.vs_machine.specs.Laws.{IsBegunBy}
use Rattle.vs_machine.specs.State as machine
use Rattle.vs_machine.specs.Tables.{is_to}
use Rattle.vs_state.specs.Plain.{plain}
use Rattle.vs_core.specs.Keeps.{operator_of}
use Rattle.vs_core.proofs.cores.know.Goals as goal

begun_by : (n : ℕ) (operators : ℕ → machine.Operator) (b x d : ℕ) (by : By) → IsBegunBy n operators b x d by → is_to n (operator_of by) ≡ true
begun_by n operators b x d (Command o) begun = begun.0
begun_by n operators b x d (Haul o) begun = begun

pub returns : goal.returns
returns c =
    let s = plain c.args.state.now in
    let known = c.every_event.ensures.whole s c.requires in
    let inputs = c.given_inputs.ensures.inputs s c.requires in
    record {
      own = known.0;
      whole = known.1;
      few = inputs.lawful.buckets.1;
      movers = λ b x t there. begun_by s.operators s.operator b x t.dest t.by (c.due_answers.ensures.begun s c.requires b x t there);
      buckets = λ client k next. (c.given_inputs.ensures.calls s c.requires client k next).bucket;
      posted = c.due_answers.ensures.posted s c.requires;
      commands = c.given_inputs.ensures.commands s c.requires;
      inputs = inputs;
      within = c.due_answers.ensures.within s c.requires;
      numbers = λ client.
          let number = c.given_inputs.ensures.numbered s c.requires client in
          let answered = (c.due_answers.ensures.within s c.requires).clients client in
          let calls = (c.given_inputs.ensures.few s c.requires).calls client in
          grind (arith, number, answered, calls);
    }
