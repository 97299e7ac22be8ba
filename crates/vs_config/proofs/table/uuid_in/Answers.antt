use Rattle.std.proofs.Common.{ap}
use Rattle.std.proofs.lemmas.Bool.{false≢true}
use Rattle.uuid.specs.Text.{parsed}
use Rattle.vs_config.specs.Reading.{or_bad}
use Rattle.vs_config.specs.declared.fault.ConfigKind.TheVariants.{BadUuid}
use Rattle.vs_config.specs.declared.key.ConfigKey.TheVariants.{Uuid}
use Rattle.vs_config.proofs.Tables.{bad_uuid}
use Rattle.vs_config.proofs.table.uuid_in.Goals as goal

pub returns-in-Ok : goal.returns-in-Ok
returns-in-Ok c = ap (λ o. or_bad o BadUuid c.args.set Uuid) (rw c.in-Ok.is at c.try_parse.ensures.bytes)

pub returns-in-Err : goal.returns-in-Err
returns-in-Err c =
    rw c.at.ensures (bad_uuid (parsed c.args.text.now) c.args.set (λ u h. false≢true (c.in-Err.ensures.ok.1 (u, h))))
