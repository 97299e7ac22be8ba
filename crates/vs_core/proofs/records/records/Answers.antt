use Rattle.std.proofs.Common.{sym}
use Rattle.vs_state.specs.Plain.{plain}
use Rattle.vs_core.proofs.Journaled.{records_none}
use Rattle.vs_core.proofs.records.records.Goals as goal

pub returns-in-None : goal.returns-in-None
returns-in-None c = sym (records_none (plain c.args.state.now) c.args.event c.in-None.ensures)
