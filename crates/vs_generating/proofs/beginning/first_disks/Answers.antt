use Rattle.std.proofs.Common.{◌^◌, ◌-◌, lit≤, refl, sym, subst}
use Rattle.vs_config.specs.Configuration.{Configuration}
use Rattle.vs_gen.specs.Generated.{first_configuration}
use Rattle.vs_gen.proofs.Lawful.{lawful_configuration}
use Rattle.vs_machine.specs.Opening.{IsLawful}
use Rattle.vs_script.specs.Scripts.{scripts}
use Rattle.vs_script.specs.declared.scripts.Scripts as code
use Rattle.vs_world.specs.NotOpened.{IsNotOpened}
use Rattle.vs_world.specs.Opened.{IsOpened}
use Rattle.vs_generating.proofs.DisksInMemory.{told_of}
use Rattle.vs_generating.proofs.Lawful.{lawful_none}
use Rattle.vs_generating.proofs.Opening.{refused_new, opened_new}
use Rattle.vs_generating.proofs.beginning.first_disks.Goals as goal

pub open-requires-clause-lawful : goal.open-requires-clause-lawful
open-requires-clause-lawful c =
    subst (λ (k : Configuration). IsLawful k (scripts (record { clients = c.new.result; operators = c.new-2.result }))) (sym c.requires)
    (lawful_none first_configuration _ _ c.new.result.items c.new-2.result.items (lawful_configuration 1 (lit≤ tt)) c.new.ensures c.new-2.ensures)

pub of_opening-requires : goal.of_opening-requires
of_opening-requires c =
    let none : code.Scripts = record { clients = c.new.result; operators = c.new-2.result } in
    let lawful : IsLawful first_configuration (scripts none) = lawful_none first_configuration _ _ c.new.result.items c.new-2.result.items (lawful_configuration 1 (lit≤ tt)) c.new.ensures c.new-2.ensures in
    refused_new told_of (λ d. refl) (λ d. refl) first_configuration (scripts none) c.in_ok-disks.disks.items c.in_ok-disks.ensures c.in-Err._disks.items c.in-Err.fault lawful
    (subst (λ (k : Configuration). IsNotOpened told_of k (2 ^ 64 - 1) c.in_ok-disks.disks.items c.in-Err.fault c.in-Err._disks.items) c.requires c.in-Err.ensures.refused)

pub returns-in-Ok : goal.returns-in-Ok
returns-in-Ok c =
    let none : code.Scripts = record { clients = c.new.result; operators = c.new-2.result } in
    opened_new told_of (λ d. refl) (λ d. refl) first_configuration (scripts none) c.in_ok-disks.disks.items c.in_ok-disks.ensures c.close.result.items c.in-Ok.world
    (subst (λ (k : Configuration). IsOpened told_of k (scripts none) (2 ^ 64 - 1) c.in_ok-disks.disks.items c.in-Ok.world) c.requires c.in-Ok.ensures.opened) c.close.ensures.kept c.close.ensures.disks
