-- Calls of one number.
use Rattle.std.proofs.Common.{◌≡◌, ℕ, ◌^◌, ◌<◌, ◌/◌, ap, sym, ◌∙◌, arith}
use Rattle.std.proofs.lemmas.Nat.{div-mul-add}
use Rattle.vs_base.specs.declared.numbers.CallId.{CallId}
use Rattle.vs_audit.specs.Legal.{number_of}

of_parts : (a b : CallId) → a.client ≡ b.client → a.call ≡ b.call → a ≡ b
of_parts a b client call =
    ap (λ (n : ℕ). record { client = n; call = a.call }) client ∙ ap (λ (n : ℕ). record { client = b.client; call = n }) call

pub same_call : (a b : CallId) → a.call < 2 ^ 32 → b.call < 2 ^ 32 → number_of a ≡ number_of b → a ≡ b
same_call a b a-fits b-fits same =
    let client : a.client ≡ b.client =
    sym (div-mul-add a.client (2 ^ 32) a.call a-fits) ∙ ap (λ n. n / 2 ^ 32) same ∙ div-mul-add b.client (2 ^ 32) b.call b-fits in
    let call : a.call ≡ b.call = omega arith in
    of_parts a b client call
