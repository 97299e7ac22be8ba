use Rattle.std.proofs.Common.{◌≡◌, ◌+◌, ℕ, arith}
use Rattle.vs_rows.specs.RowMap.{IsRising}
use Rattle.vs_machine.specs.State.{sets_of}
use Rattle.vs_state.specs.Plain.{plain}
use Rattle.vs_core.specs.Opened.{IsCoherentAt}
use Rattle.vs_core.specs.Opening.{held_in}
use Rattle.vs_core.proofs.Coherent.{and_next}
use Rattle.vs_core.proofs.coherence.first_incoherent.Goals as goal

pub returns-then-not-is_coherent : goal.returns-then-not-is_coherent
returns-then-not-is_coherent c =
    let at : c.in-Some.bucket ≡ c.loop-before.before + 1 = omega (arith, c.in-Some.ensures) in
    record {
      first = omega (arith, at);
      last = omega (arith, at);
      incoherent = λ h. absurd (cc (c.is_coherent.ensures.coherent.1 h, c.if-not-is_coherent.true));
      least = λ k f l. (c.loop-before.invariant k f (omega (arith, at, l))).0;
    }

pub loop-before-preserved : goal.loop-before-preserved
loop-before-preserved c =
    let s = plain c.args.state.now in
    let at : c.in-Some.bucket ≡ c.loop-before.before + 1 = omega (arith, c.in-Some.ensures) in
    and_next (λ b. IsCoherentAt (sets_of s) (held_in s) b × ((x : ℕ) → IsRising ((s.bucket b).rows x))) c.loop-before.before c.in-Some.bucket at
    (c.is_coherent.ensures.coherent.0 c.if-not-is_coherent.false, c.if-not-is_coherent.ensures.rising) c.loop-before.invariant

pub returns : goal.returns
returns c = λ b first last. c.loop-before.invariant b first (omega arith)
