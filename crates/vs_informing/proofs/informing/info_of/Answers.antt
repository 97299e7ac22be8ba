use Rattle.std.proofs.Common.{◌≡◌, subst, rules}
use Rattle.vs_config.specs.Configuration.{configuration}
use Rattle.vs_informing.specs.Cluster.{IsRefusal}
use Rattle.vs_informing.proofs.informing.info_of.Goals as goal

pub returns-in-Err-clause-err : goal.returns-in-Err-clause-err
returns-in-Err-clause-err g c =
    let same : c.replace-given.result.items ≡ c.args.disks.now.items = search rules in (
      c.in-Err.fault,
      c.of_opening.ensures.is,
      subst (λ before. IsRefusal g.D.Disk.told (configuration c.args.config.now) before c.in-Err.fault c.in-Err.back.items) same c.in-Err.ensures.err,
    )
