use Rattle.std.proofs.Common.{◌≡◌, IfOk, subst}
use Rattle.std.specs.Option.{option_map}
use Rattle.vs_core.specs.Core.{Shown, means}
use Rattle.vs_core.specs.Records.{records, recording}
use Rattle.vs_core.proofs.cores.Core.records.Goals as goal

pub returns : goal.returns
returns c = subst (λ (v : Shown). IfOk c.records.result (λ r. option_map recording r ≡ records (means v) c.args.event.now)) c.self.view_is c.records.ensures
