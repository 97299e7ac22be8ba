use Rattle.std.proofs.Common.{◌≡◌, ℕ, ◌<◌, ◌≤◌, ◌∙◌, true, false, sym, arith}
use Rattle.std.proofs.lemmas.Bool.Decides.{nat_tests}
use Rattle.vs_machine.specs.Kinds.Rebalancing.{is_free}
use Rattle.vs_machine.specs.Tables.{is_to}
use Rattle.vs_state.specs.Plain.{plain}
use Rattle.vs_state.proofs.Least.{least_at, least_none}
use Rattle.vs_state.proofs.state.State.first_free.Goals as goal

within : (n b : ℕ) → is_to n b ≡ true → b ≤ n
within n b here = grind (arith, nat_tests, here)

beyond : (n b : ℕ) → 0 < b → is_to n b ≡ false → n < b
beyond n b first here = grind (arith, nat_tests, here)

pub returns-in_err-bucket : goal.returns-in_err-bucket
returns-in_err-bucket c =
    let s = plain c.args.self.now in
    c.from_residual.ensures ∙ sym (least_none (is_free s c.args.set) s.config.bucket_count (λ k f l. c.in_err-bucket.ensures k (omega arith)))

pub returns-then-has_bucket : goal.returns-then-has_bucket
returns-then-has_bucket c =
    let s = plain c.args.self.now in
    let b = c.in_ok-bucket.bucket in
    let is = c.in_ok-bucket.ensures in
    sym (least_at (is_free s c.args.set) s.config.bucket_count b (omega (arith, is.0)) (within s.config.bucket_count b (sym c.has_bucket.ensures ∙ c.if-has_bucket.true)) is.1
    (λ k f l. is.2 k (omega arith) l))

pub returns-else-has_bucket : goal.returns-else-has_bucket
returns-else-has_bucket c =
    let s = plain c.args.self.now in
    let b = c.in_ok-bucket.bucket in
    let is = c.in_ok-bucket.ensures in
    let above : s.config.bucket_count < b = beyond s.config.bucket_count b is.0 (sym c.has_bucket.ensures ∙ c.if-has_bucket.false) in
    sym (least_none (is_free s c.args.set) s.config.bucket_count (λ k f l. is.2 k (omega arith) (omega (arith, above))))
