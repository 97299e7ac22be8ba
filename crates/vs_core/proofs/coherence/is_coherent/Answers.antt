use Rattle.std.proofs.Common.{sym, ◌∙◌}
use Rattle.vs_core.proofs.Coherent.{coherent_fits, fits_coherent, no_owner}
use Rattle.vs_core.proofs.coherence.is_coherent.Goals as goal

pub returns-in-Some-clause-coherent : goal.returns-in-Some-clause-coherent
returns-in-Some-clause-coherent c =
    let s = c.args.state.now in
    let b = c.args.bucket in
    let o = c.in-Some.owner in
    let is = sym c.owner.ensures ∙ c.in-Some.is in
    (λ h. coherent_fits s c.requires b o is (c.all_fit.ensures.fit.0 h), λ h. c.all_fit.ensures.fit.1 (fits_coherent s c.requires b o is h))

pub returns-in-None-clause-coherent : goal.returns-in-None-clause-coherent
returns-in-None-clause-coherent c = (λ h. absurd (cc h), λ h. absurd (no_owner c.args.state.now c.requires c.args.bucket (sym c.owner.ensures ∙ c.in-None.is) h))
