use Rattle.std.proofs.Common.{length, sym, ap, ◌∙◌, inl, inr, refl}
use Rattle.vs_config.specs.Configuration.{configuration}
use Rattle.vs_script.specs.Scripts.{scripts}
use Rattle.vs_top.specs.Plays.{journal_limit}
use Rattle.vs_top.proofs.Stopped.{opening_named}
use Rattle.vs_informing.proofs.Opened.{config_is, is_info, lawful_as, opened_as, refused_as}
use Rattle.vs_informing.proofs.cluster.opened_info.Goals as goal

pub open-requires-clause-lawful : goal.open-requires-clause-lawful
open-requires-clause-lawful g c = lawful_as (configuration c.args.config.now) (configuration c.in-Ok.copy) (scripts c.no_scripts.result) c.in-Ok.ensures c.no_scripts.ensures c.requires.lawful

pub info_of-requires : goal.info_of-requires
info_of-requires g c =
    config_is g.D.Disk.told (configuration c.args.config.now) c.args.disks.items c.in-Ok-open.world
    (opened_as (configuration c.args.config.now) (configuration c.in-Ok.copy) (scripts c.no_scripts.result) c.in-Ok.ensures c.no_scripts.ensures g.D.Disk.told c.args.disks.items c.in-Ok-open.world c.in-Ok-open.ensures.opened)

pub returns-in-Err-clause-err : goal.returns-in-Err-clause-err
returns-in-Err-clause-err g c = inl refl

pub returns-in-Err-open-clause-err_count : goal.returns-in-Err-open-clause-err_count
returns-in-Err-open-clause-err_count g c = c.in-Err-open.ensures.refused.disks.count ∙ c.requires.disks

pub returns-in-Err-open-clause-err : goal.returns-in-Err-open-clause-err
returns-in-Err-open-clause-err g c =
    inr (refused_as (configuration c.args.config.now) (configuration c.in-Ok.copy) (scripts c.no_scripts.result) c.in-Ok.ensures c.no_scripts.ensures g.D.Disk.told c.args.disks.items c.in-Err-open.disks.items c.in-Err-open.fault c.in-Err-open.ensures.refused)

pub returns-in-Err-open-clause-named : goal.returns-in-Err-open-clause-named
returns-in-Err-open-clause-named g c =
    opening_named g.D.Disk.told (configuration c.args.config.now) journal_limit c.args.disks.items c.in-Err-open.disks.items c.in-Err-open.fault
    (refused_as (configuration c.args.config.now) (configuration c.in-Ok.copy) (scripts c.no_scripts.result) c.in-Ok.ensures c.no_scripts.ensures g.D.Disk.told c.args.disks.items c.in-Err-open.disks.items c.in-Err-open.fault c.in-Err-open.ensures.refused)

pub returns-in-Ok-info_of-clause-ok_count : goal.returns-in-Ok-info_of-clause-ok_count
returns-in-Ok-info_of-clause-ok_count g c = ap length c.close.ensures.disks ∙ c.close.ensures.kept.disks

pub returns-in-Ok-info_of-clause-ok : goal.returns-in-Ok-info_of-clause-ok
returns-in-Ok-info_of-clause-ok g c =
    is_info g.D.Disk.told (configuration c.args.config.now) c.args.disks.items c.in-Ok-open.world
    (opened_as (configuration c.args.config.now) (configuration c.in-Ok.copy) (scripts c.no_scripts.result) c.in-Ok.ensures c.no_scripts.ensures g.D.Disk.told c.args.disks.items c.in-Ok-open.world c.in-Ok-open.ensures.opened)
    c.given_inputs.ensures.begun c.close.result.items c.in-Ok-info_of.text.items (sym c.close.ensures.disks) c.in-Ok-info_of.ensures

pub returns-in-Err-info_of-clause-err_count : goal.returns-in-Err-info_of-clause-err_count
returns-in-Err-info_of-clause-err_count g c = ap length c.close-in-Err-info_of.ensures.disks ∙ c.close-in-Err-info_of.ensures.kept.disks

pub returns-in-Err-info_of-clause-err : goal.returns-in-Err-info_of-clause-err
returns-in-Err-info_of-clause-err g c = inl refl
