use Rattle.std.proofs.Common.{◌≡◌, ◌+◌, ◌∙◌}
use Rattle.vs_settle.specs.Causes.{IsGoingDown}
use Rattle.vs_settle.proofs.Following.{follows_one}
use Rattle.vs_settle.proofs.Keeping.{faults_one, service_no_fault}
use Rattle.vs_settle.proofs.Possible.{next_of}
use Rattle.vs_settle.proofs.Stopping.{ends_by, stops_at}
use Rattle.vs_settle.proofs.carrying.carry_out.Goals as goal
use Rattle.vs_settle.proofs.carrying.carry_out.Goals.{then-is_going_down, else-is_going_down}

pub cause_of-requires : goal.cause_of-requires
cause_of-requires g c = λ reason e.
    let refused = (c.step.ensures.refused reason).0 (cc (c.in-Err.is, e)) in
    absurd (cc ((next_of _ c.requires.possible).1, refused))

pub returns-in-Ok-clause-goes : goal.returns-in-Ok-clause-goes
returns-in-Ok-clause-goes g c = record {
  follows = follows_one c.finished_is_quiet.ensures c.args.world.now.played c.step.new.self.played c.args.steps.now c.tick.new.self c.args.event c.requires.rests c.requires.service c.in-Ok.ensures.ok c.tick.ensures;
  faults = faults_one g.D.Disk.told c.args.world.now c.step.new.self c.args.event c.know.ensures.kept c.step.ensures.kept c.step.ensures.disks (c.step.ensures.counted (service_no_fault c.args.event c.requires.service));
}

pub returns-after-is_going_down-clause-stops : goal.returns-after-is_going_down-clause-stops
returns-after-is_going_down-clause-stops g c =
    let m = c.args.steps.now in
    let n = c.if-is_going_down.steps in
    let down : IsGoingDown c.in-Err.fault → n ≡ m + 1 = λ h. elim c.if-is_going_down.branch [
      | then-is_going_down w ↦ w.steps-is ∙ w.tick-then-is_going_down.ensures
      | else-is_going_down w ↦ absurd (cc (c.is_going_down.ensures.1 h, w.if-is_going_down.false))
    ] in
    let other : (IsGoingDown c.in-Err.fault → ⊥) → n ≡ m = λ no. elim c.if-is_going_down.branch [
      | then-is_going_down w ↦ absurd (no (c.is_going_down.ensures.0 w.if-is_going_down.true))
      | else-is_going_down w ↦ w.steps-is
    ] in
    stops_at g.D.Disk.told c.args.world.now c.step.new.self m n c.args.event c.cause_of.result c.requires.service c.requires.possible
    (ends_by g.D.Disk.told c.args.world.now c.step.new.self m n c.args.event c.in-Err.fault c.cause_of.result c.in-Err.ensures.cause c.cause_of.ensures down other)
    (faults_one g.D.Disk.told c.args.world.now c.step.new.self c.args.event c.know.ensures.kept c.step.ensures.kept c.step.ensures.disks (c.step.ensures.counted (service_no_fault c.args.event c.requires.service)))
