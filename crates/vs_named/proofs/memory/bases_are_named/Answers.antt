use Rattle.std.proofs.Common.{◌≡◌, ℕ, ◌+◌, true, ap, subst, inl, inr, ◌∙◌, arith, All}
use Rattle.std.proofs.lemmas.Bool.{cases_lt}
use Rattle.vs_history.specs.History.{History}
use Rattle.vs_state.specs.Plain.{plain}
use Rattle.vs_legal.specs.Account.{is_told}
use Rattle.vs_legal.specs.Named.{IsNamedRow}
use Rattle.vs_named.proofs.memory.bases_are_named.Goals as goal

pub loop-index-preserved : goal.loop-index-preserved
loop-index-preserved c =
    let s = plain c.args.state.now in
    let n = c.loop-index.index + 1 in
    let at : c.in-Some.bucket ≡ n = omega (arith, c.in-Some.ensures) in
    let same = c.history.ensures ∙ ap (λ (b : ℕ). (s.bucket b).history) at in
    let here = subst (λ (h : History). is_told h ≡ true → All IsNamedRow h.base) same c.base_is_named.ensures in
    λ b low high. elim (cases_lt b n) [
      | inl below ↦ c.loop-index.invariant b low (omega (arith, below))
      | inr above ↦
          let last : n ≡ b = omega (arith, high, above) in
          subst (λ (k : ℕ). is_told (s.bucket k).history ≡ true → All IsNamedRow (s.bucket k).history.base) last here
    ]
