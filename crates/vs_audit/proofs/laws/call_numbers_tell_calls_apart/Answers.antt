use Rattle.vs_audit.proofs.SameCalls.{same_call}
use Rattle.vs_audit.proofs.laws.call_numbers_tell_calls_apart.Goals as goal

pub returns : goal.returns
returns c = same_call
