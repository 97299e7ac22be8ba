use Rattle.std.proofs.Common.{ap, ◌∙◌}
use Rattle.vs_state.specs.Plain.{plain}
use Rattle.vs_core.specs.Records.{records}
use Rattle.vs_core.proofs.Journaled.{records_none, records_of}
use Rattle.vs_core.proofs.failing.reserve_failure.Goals as goal

pub reserve_recorded-requires-clause-set : goal.reserve_recorded-requires-clause-set
reserve_recorded-requires-clause-set c = λ r is. c.requires.set r (ap (records (plain c.args.state.now)) c.in-Some.ensures ∙ records_of (plain c.args.state.now) c.in-Some.recorded ∙ is)

pub returns-in-None-clause-ready : goal.returns-in-None-clause-ready
returns-in-None-clause-ready c = records_none (plain c.args.state.now) c.args.event c.in-None.ensures
