use Rattle.std.proofs.Common.{◌≡◌, ◌≤◌, ℕ, true, All}
use Rattle.vs_state.specs.Plain.{plain}
use Rattle.vs_legal.specs.Account.{is_told}
use Rattle.vs_legal.specs.Named.{IsNamedRow}
use Rattle.vs_named.proofs.memory.bases_are_named.Given as goal

abbrev pub invariant-loop-index : goal.invariant-loop-index
invariant-loop-index l = (b : ℕ) → 1 ≤ b → b ≤ l.index → is_told ((plain l.state).bucket b).history ≡ true → All IsNamedRow ((plain l.state).bucket b).history.base
