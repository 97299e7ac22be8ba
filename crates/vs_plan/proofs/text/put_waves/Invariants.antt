use Rattle.std.proofs.Common.{◌≡◌, ◌++◌, take}
use Rattle.vs_waves.specs.Plan.{plan_of}
use Rattle.vs_plan.specs.Text.{wave_lines}
use Rattle.vs_plan.proofs.text.put_waves.Given as goal

abbrev pub invariant-loop-i : goal.invariant-loop-i
invariant-loop-i l = l.out.items ≡ l.initial.out.items ++ wave_lines 1 (plan_of (take l.i l.waves.items))
