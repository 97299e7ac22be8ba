use Rattle.std.proofs.Common.{sym}
use Rattle.vs_script.specs.declared.limit.Limit.TheVariants.{Commands}
use Rattle.vs_script.proofs.Gathered.{each_script_within}
use Rattle.vs_script.proofs.gathering.test.Goals as goal

pub test_cuts-requires-clause-few_commands : goal.test_cuts-requires-clause-few_commands
test_cuts-requires-clause-few_commands c = each_script_within Commands c.args.given.now c.in_ok-test-5.field-0 (sym c.in_ok-test-5.ensures)
