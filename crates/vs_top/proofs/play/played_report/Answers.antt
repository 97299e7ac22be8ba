use Rattle.std.proofs.Common.{length, sym, ap, subst, ◌∙◌}
use Rattle.vs_config.specs.Configuration.{Configuration, configuration}
use Rattle.vs_script.specs.Scripts.{scripts}
use Rattle.vs_world.specs.NotOpened.{IsNotOpened}
use Rattle.vs_world.specs.Opened.{IsOpened}
use Rattle.vs_top.specs.Plays.{journal_limit}
use Rattle.vs_top.proofs.Playing.{is_fresh, is_report}
use Rattle.vs_top.proofs.Stopped.{stop_cause, stop_named, opening_named}
use Rattle.vs_top.proofs.play.played_report.Goals as goal

pub report_after-requires : goal.report_after-requires
report_after-requires g c = is_fresh g.D.Disk.told (configuration c.in-Ok.config) (scripts c.args.scripts) c.args.disks.items c.in-Ok-open.world c.in-Ok-open.ensures.opened

pub returns-in-Err-open-clause-err_count : goal.returns-in-Err-open-clause-err_count
returns-in-Err-open-clause-err_count g c = c.in-Err-open.ensures.refused.disks.count ∙ c.requires.disks

pub returns-in-Err-open-clause-err : goal.returns-in-Err-open-clause-err
returns-in-Err-open-clause-err g c = subst (λ (k : Configuration). IsNotOpened g.D.Disk.told k journal_limit c.args.disks.items c.in-Err-open.fault c.in-Err-open.disks.items) c.in-Ok.ensures c.in-Err-open.ensures.refused

pub returns-in-Err-open-clause-named : goal.returns-in-Err-open-clause-named
returns-in-Err-open-clause-named g c =
    opening_named g.D.Disk.told (configuration c.args.config.now) journal_limit c.args.disks.items c.in-Err-open.disks.items c.in-Err-open.fault
    (subst (λ (k : Configuration). IsNotOpened g.D.Disk.told k journal_limit c.args.disks.items c.in-Err-open.fault c.in-Err-open.disks.items) c.in-Ok.ensures c.in-Err-open.ensures.refused)

pub returns-in-Ok-report_after-clause-ok_count : goal.returns-in-Ok-report_after-clause-ok_count
returns-in-Ok-report_after-clause-ok_count g c = ap length c.close.ensures.disks ∙ c.close.ensures.kept.disks

pub returns-in-Ok-report_after-clause-ok : goal.returns-in-Ok-report_after-clause-ok
returns-in-Ok-report_after-clause-ok g c =
    let opened = subst (λ (k : Configuration). IsOpened g.D.Disk.told k (scripts c.args.scripts) journal_limit c.args.disks.items c.in-Ok-open.world) c.in-Ok.ensures c.in-Ok-open.ensures.opened in
    let goes = c.in-Ok-report_after.ensures.goes in
    is_report g.D.Disk.told (configuration c.args.config.now) (scripts c.args.scripts) c.args.disks.items c.in-Ok-open.world opened c.given_inputs.ensures.begun c.report_after.new.world c.close.ensures.kept goes.opening c.safe_runs.ensures.runs
    c.args.trace.now.items c.close.result.items c.in-Ok-report_after.text.items (sym c.close.ensures.disks) goes c.in-Ok-report_after.ensures.text c.in-Ok-report_after.ensures.named

pub returns-in-Err-report_after-clause-err_count : goal.returns-in-Err-report_after-clause-err_count
returns-in-Err-report_after-clause-err_count g c = ap length c.close-in-Err-report_after.ensures.disks ∙ c.close-in-Err-report_after.ensures.kept.disks

pub returns-in-Err-report_after-clause-err : goal.returns-in-Err-report_after-clause-err
returns-in-Err-report_after-clause-err g c =
    let opened = subst (λ (k : Configuration). IsOpened g.D.Disk.told k (scripts c.args.scripts) journal_limit c.args.disks.items c.in-Ok-open.world) c.in-Ok.ensures c.in-Ok-open.ensures.opened in
    stop_cause g.D.Disk.told (configuration c.args.config.now) (scripts c.args.scripts) c.args.disks.items c.in-Ok-open.world opened c.given_inputs.ensures.begun c.args.trace.now.items c.close-in-Err-report_after.result.items
    c.report_after.new.world c.close-in-Err-report_after.ensures.kept (sym c.close-in-Err-report_after.ensures.disks) c.in-Err-report_after.fault c.in-Err-report_after.ensures.stops

pub returns-in-Err-report_after-clause-named : goal.returns-in-Err-report_after-clause-named
returns-in-Err-report_after-clause-named g c =
    stop_named g.D.Disk.told c.in-Ok-open.world c.report_after.new.world c.args.trace.now.items (length c.args.config.now.sets.items) c.in-Err-report_after.fault c.in-Err-report_after.ensures.stops
