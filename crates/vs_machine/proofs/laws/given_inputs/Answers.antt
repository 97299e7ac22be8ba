use Rattle.vs_machine.proofs.Inputs.{input_runs, kept_inputs, begun_inputs, few_runs, call_runs, command_runs, numbered_runs}
use Rattle.vs_machine.proofs.laws.given_inputs.Goals as goal

pub returns : goal.returns
returns c = record { inputs = input_runs; kept = kept_inputs; begun = begun_inputs; few = few_runs; calls = call_runs; commands = command_runs; numbered = numbered_runs }
