use Rattle.std.proofs.Common.{◌≡◌, subst, rules}
use Rattle.vs_config.specs.Configuration.{configuration}
use Rattle.vs_script.specs.Scripts.{scripts}
use Rattle.vs_top.specs.Plays.{IsPlayCause, played_on}
use Rattle.vs_top.proofs.top.report_of.Goals as goal

pub returns-clause-err : goal.returns-clause-err
returns-clause-err g c =
    let same : c.replace-given.result.items ≡ c.args.disks.now.items = search rules in
    let inputs = c.args.inputs in (
      c.in-Err.fault,
      c.of_play.ensures.is,
      subst (λ before. IsPlayCause c.in-Err.fault (played_on g.D.Disk.told (configuration inputs.config) (scripts inputs.scripts) inputs.trace.items before c.in-Err.back.items)) same c.in-Err.ensures.err,
    )
