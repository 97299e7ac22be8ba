use Rattle.std.proofs.Common.{◌≡◌, ◌+◌, refl, arith}
use Rattle.vs_rows.specs.RowMap.{IsRising}
use Rattle.vs_machine.specs.State.{sets_of}
use Rattle.vs_state.specs.Plain.{plain}
use Rattle.vs_core.specs.Opening.{IsFitting}
use Rattle.vs_core.proofs.Coherent.{and_next, everywhere, past_fits, past_rising}
use Rattle.vs_core.proofs.coherence.all_fit.Goals as goal

pub returns-then-not-fits-clause-fit : goal.returns-then-not-fits-clause-fit
returns-then-not-fits-clause-fit c = (λ h. absurd (cc h), λ all. absurd (cc (c.fits.ensures.fits.1 (all c.in-Some.set), c.if-not-fits.true)))

pub loop-index-preserved : goal.loop-index-preserved
loop-index-preserved c =
    let s = plain c.args.state.now in
    let b = c.args.bucket in
    let at : c.in-Some.set ≡ c.loop-index.index + 1 = omega (arith, c.in-Some.ensures) in
    and_next (λ x. IsFitting s b c.args.owner x × IsRising ((s.bucket b).rows x)) c.loop-index.index c.in-Some.set at
    (c.fits.ensures.fits.0 c.if-not-fits.false, c.fits.ensures.rising) c.loop-index.invariant

pub returns-clause-fit : goal.returns-clause-fit
returns-clause-fit c =
    let s = c.args.state.now in
    let b = c.args.bucket in
    let all = everywhere (IsFitting (plain s) b c.args.owner) (sets_of (plain s)) (λ k f l. (c.loop-index.invariant k f (omega arith)).0) (past_fits s c.requires b c.args.owner) in
    (λ h. all, λ h. refl)

pub returns-clause-rising : goal.returns-clause-rising
returns-clause-rising c =
    let s = c.args.state.now in
    let b = c.args.bucket in
    everywhere (λ x. IsRising (((plain s).bucket b).rows x)) (sets_of (plain s)) (λ k f l. (c.loop-index.invariant k f (omega arith)).1) (past_rising s c.requires b)
