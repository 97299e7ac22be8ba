use Rattle.vs_plan.proofs.WaveTexts.{one_more}
use Rattle.vs_plan.proofs.text.put_waves.Goals as goal

pub loop-i-preserved : goal.loop-i-preserved
loop-i-preserved c = one_more _ _ _ _ _ c.loop-i.i c.wave-item.result _ c.loop-i.invariant c.as_slice-wave-items.ensures c.loop-i-test.true c.wave-item.is c.as_slice.ensures c.in_ok-put_wave.ensures
