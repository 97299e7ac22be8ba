use Rattle.std.proofs.Common.{IfErr, refl, sym, subst}
use Rattle.vs_event.specs.declared.event.Event.{Event}
use Rattle.vs_event.specs.declared.event.Event.TheVariants.{Restart}
use Rattle.vs_world.specs.Steps.{IsStepCause}
use Rattle.vs_world.specs.Whole.{shown}
use Rattle.vs_world.specs.World.{World}
use Rattle.vs_world.proofs.Kept.{kept, same_disks, shown_listed}
use Rattle.vs_world.proofs.steps.play.Goals as goal

pub returns-in_err-reserve-clause-disks : goal.returns-in_err-reserve-clause-disks
returns-in_err-reserve-clause-disks g c = same_disks g.D.Disk.told g.met.D.Disk.lawful (shown c.args.core.now c.args.events.now c.args.opening.now c.args.stores.now) (shown c.args.core.now c.reserve.new.self c.args.opening.now c.args.stores.now) (kept c.args.core.now c.args.events.now c.args.opening.now c.args.stores.now c.requires.whole) refl c.args.event

pub returns-in-Restart-clause-cause : goal.returns-in-Restart-clause-cause
returns-in-Restart-clause-cause g c =
    let new = shown c.play_given.new.core c.play_given.new.events c.args.opening.now c.play_given.new.stores in
    subst (λ (e : Event). IfErr c.play_given.result (IsStepCause g.D.Disk.told (shown c.args.core.now c.args.events.now c.args.opening.now c.args.stores.now) new e)) (sym c.in-Restart.is)
    (subst (λ (w : World g.row.D.Denot). IfErr c.play_given.result (IsStepCause g.D.Disk.told w new (Restart c.in-Restart.set c.in-Restart.kept c.in-Restart.by)))
    (shown_listed c.args.core.now c.args.events.now c.reserve.new.self c.args.opening.now c.args.stores.now c.in_ok-reserve.ensures.items)
    c.play_given.ensures.cause)
