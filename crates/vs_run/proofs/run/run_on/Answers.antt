use Rattle.std.proofs.Common.{◌≡◌, List, [], length, ap, subst, ◌∙◌}
use Rattle.std.specs.Global.{Vec}
use Rattle.vs_config.specs.Configuration.{Configuration, configuration}
use Rattle.vs_script.specs.Scripts.{scripts}
use Rattle.vs_world.specs.NotOpened.{IsNotOpened}
use Rattle.vs_world.specs.Opened.{IsOpened}
use Rattle.vs_top.specs.Plays.{journal_limit}
use Rattle.vs_top.specs.declared.play.PlayFault.TheVariants as play
use Rattle.vs_top.proofs.Possible.{good_fault}
use Rattle.vs_run.proofs.Ended.{end_is, cause_is, good_is}
use Rattle.vs_run.proofs.FromFiles.{opening_cause}
use Rattle.vs_run.proofs.run.run_on.Goals as goal

pub returns-in-Ok-clause-ends : goal.returns-in-Ok-clause-ends
returns-in-Ok-clause-ends g c =
    let inputs = c.args.inputs in
    let same : c.replace-given.result.items ≡ c.args.disks.now.items = ap (λ (v : Vec g.row.D.Denot). v.items) c.replace-given.ensures.value in
    let here = subst (λ (k : Configuration). IsOpened g.D.Disk.told k (scripts inputs.scripts) journal_limit c.replace-given.result.items c.in-Ok.world) c.in_ok-copy.ensures c.in-Ok.ensures.opened in
    let opened = subst (λ (ds : List g.row.D.Denot). IsOpened g.D.Disk.told (configuration inputs.config) (scripts inputs.scripts) journal_limit ds c.in-Ok.world) same here in
    end_is g.D.Disk.told (configuration inputs.config) (scripts inputs.scripts) c.args.disks.now.items c.in-Ok.world opened c.given_inputs.ensures.begun c.safe_runs.ensures.runs _ _ c.run_world-answer.result.1.items c.run_world-answer.result.0 c.run_world-answer.ensures.ends c.reports_are_legal.ensures

pub returns-in-Ok-clause-cause : goal.returns-in-Ok-clause-cause
returns-in-Ok-clause-cause g c =
    let inputs = c.args.inputs in
    let same : c.replace-given.result.items ≡ c.args.disks.now.items = ap (λ (v : Vec g.row.D.Denot). v.items) c.replace-given.ensures.value in
    let here = subst (λ (k : Configuration). IsOpened g.D.Disk.told k (scripts inputs.scripts) journal_limit c.replace-given.result.items c.in-Ok.world) c.in_ok-copy.ensures c.in-Ok.ensures.opened in
    let opened = subst (λ (ds : List g.row.D.Denot). IsOpened g.D.Disk.told (configuration inputs.config) (scripts inputs.scripts) journal_limit ds c.in-Ok.world) same here in
    cause_is g.D.Disk.told (configuration inputs.config) (scripts inputs.scripts) c.args.disks.now.items c.in-Ok.world opened c.given_inputs.ensures.begun c.safe_runs.ensures.runs _ _ c.run_world-answer.result.1.items c.run_world-answer.result.0 c.run_world-answer.ensures.ends

pub returns-clause-cause : goal.returns-clause-cause
returns-clause-cause g c =
    let inputs = c.args.inputs in
    let same : c.replace-given.result.items ≡ c.args.disks.now.items = ap (λ (v : Vec g.row.D.Denot). v.items) c.replace-given.ensures.value in
    let here = subst (λ (k : Configuration). IsNotOpened g.D.Disk.told k journal_limit c.replace-given.result.items c.in-Err.fault c.in-Err.back.items) c.in_ok-copy.ensures c.in-Err.ensures.refused in
    let refused = subst (λ (ds : List g.row.D.Denot). IsNotOpened g.D.Disk.told (configuration inputs.config) journal_limit ds c.in-Err.fault c.in-Err.back.items) same here in
    rw c.of_opening.ensures.is (opening_cause g.D.Disk.told (configuration inputs.config) (scripts inputs.scripts) c.args.disks.now.items c.in-Err.back.items (g.H.Host.told c.args.host.now) c.in-Err.fault (rw (← c.of_opening.ensures.is) c.of_opening.ensures.numbered) refused)

pub returns-clause-good : goal.returns-clause-good
returns-clause-good g c = λ good.
    let inputs = c.args.inputs in
    let same : c.replace-given.result.items ≡ c.args.disks.now.items = ap (λ (v : Vec g.row.D.Denot). v.items) c.replace-given.ensures.value in
    let here = subst (λ (k : Configuration). IsNotOpened g.D.Disk.told k journal_limit c.replace-given.result.items c.in-Err.fault c.in-Err.back.items) c.in_ok-copy.ensures c.in-Err.ensures.refused in
    let refused = subst (λ (ds : List g.row.D.Denot). IsNotOpened g.D.Disk.told (configuration inputs.config) journal_limit ds c.in-Err.fault c.in-Err.back.items) same here in
    rw c.of_opening.ensures.is (good_fault g.D.Disk.told (configuration inputs.config) c.args.disks.now.items c.in-Err.back.items c.requires.disks (c.in-Err.ensures.refused.disks.count ∙ (ap length same ∙ c.requires.disks)) c.requires.lawful.sets.1 good (scripts inputs.scripts) [] (play.Opening c.in-Err.fault) refused)

pub returns-in-Ok-clause-good : goal.returns-in-Ok-clause-good
returns-in-Ok-clause-good g c = λ good. good_is g.D.Disk.told c.in-Ok.world _ _ c.run_world-answer.result.1.items c.run_world-answer.result.0 c.run_world-answer.ensures.ends

pub returns-in-Ok-clause-count : goal.returns-in-Ok-clause-count
returns-in-Ok-clause-count g c = c.run_world-answer.ensures.count
