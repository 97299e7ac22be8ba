use Rattle.std.proofs.Common.{length, refl, sym, ap, ◌∙◌, inl}
use Rattle.vs_run.proofs.Ended.{run_on}
use Rattle.vs_run.proofs.run.run_world.Goals as goal

pub returns-in-Ok-clause-ends : goal.returns-in-Ok-clause-ends
returns-in-Ok-clause-ends g c =
    run_on g.D.Disk.told c.args.world c.in-Ok.driven c.end-answer.new.world c.close.result.items _ _ c.end-answer.result
    (record { driven = c.in-Ok.ensures.driven; before = c.in-Ok.ensures.kept; began = c.end-answer.ensures.began; steered = c.end-answer.ensures.steered c.in-Ok.ensures.driven.steered; kept = c.end-answer.ensures.kept; disks = sym c.close.ensures.disks })
    c.end-answer.ensures.ends c.end-answer.ensures.cause

pub returns-in-Err-clause-ends : goal.returns-in-Err-clause-ends
returns-in-Err-clause-ends g c = inl (
  c.in-Err.world,
  c.in-Err.fault,
  c.of_drivers.ensures,
  record { cause = c.in-Err.ensures.cause; length_is = c.in-Err.ensures.length; kept = c.close-in-Err.ensures.kept; disks = sym c.close-in-Err.ensures.disks },
  record { out = refl; log = refl },
)

pub returns-in-Ok-clause-count : goal.returns-in-Ok-clause-count
returns-in-Ok-clause-count g c = ap length c.close.ensures.disks ∙ c.close.ensures.kept.disks

pub returns-in-Err-clause-count : goal.returns-in-Err-clause-count
returns-in-Err-clause-count g c = ap length c.close-in-Err.ensures.disks ∙ c.close-in-Err.ensures.kept.disks
