use Rattle.std.proofs.Common.{◌^◌, ◌-◌, refl, subst}
use Rattle.vs_config.specs.Configuration.{Configuration, configuration}
use Rattle.vs_script.specs.Scripts.{Scripts, scripts}
use Rattle.vs_gen.specs.Generated.{scripts_of}
use Rattle.vs_world.specs.NotOpened.{IsNotOpened}
use Rattle.vs_world.specs.Opened.{IsOpened}
use Rattle.vs_generating.proofs.DisksInMemory.{told_of}
use Rattle.vs_generating.proofs.Lawful.{lawful_with}
use Rattle.vs_generating.proofs.Opening.{refused_left, opened_left}
use Rattle.vs_generating.proofs.beginning.begin.Goals as goal

pub open-requires-clause-lawful : goal.open-requires-clause-lawful
open-requires-clause-lawful c =
    let generated = c.in_ok-generated.generated in
    let known = c.in_ok-generated.ensures in
    lawful_with (configuration generated.second) (scripts generated.scripts) known.configurations.1 known.together known.calls known.commands

pub of_opening-requires : goal.of_opening-requires
of_opening-requires c =
    refused_left told_of (λ d. refl) (λ d. refl) c.in_ok-disks.disks.items c.in_ok-disks.ensures c.in-Err._disks.items c.in-Err.fault
    (subst (λ (k : Configuration). IsNotOpened told_of k (2 ^ 64 - 1) c.in_ok-disks.disks.items c.in-Err.fault c.in-Err._disks.items) c.in_ok-generated.ensures.second c.in-Err.ensures.refused)

pub returns-in-Ok-clause-beginning : goal.returns-in-Ok-clause-beginning
returns-in-Ok-clause-beginning c =
    opened_left told_of (λ d. refl) (λ d. refl) c.in_ok-disks.disks.items c.in_ok-disks.ensures c.args.number c.in-Ok.world
    (subst (λ (k : Configuration). IsOpened told_of k (scripts_of c.args.number) (2 ^ 64 - 1) c.in_ok-disks.disks.items c.in-Ok.world) c.in_ok-generated.ensures.second
    (subst (λ (s : Scripts). IsOpened told_of (configuration c.in_ok-generated.generated.second) s (2 ^ 64 - 1) c.in_ok-disks.disks.items c.in-Ok.world) c.in_ok-generated.ensures.scripts c.in-Ok.ensures.opened))
