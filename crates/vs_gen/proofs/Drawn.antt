-- Draws one after the other.
use Rattle.std.proofs.Common.{◌≡◌, ℕ, ◌+◌, ◌*◌, ◌/◌, ◌%◌, ◌^◌, zero, suc, refl, ap, ◌∙◌, arith}
use Rattle.std.proofs.Math.Nat.{mod-add-mod}
use Rattle.vs_gen.specs.Draws.{next_state, state_after, draw}

-- what is computed modulo 2^64, step by step
pub state_wrapped : (x : ℕ) → (x * 6364136223846793005 % 2 ^ 64 + 1442695040888963407) % 2 ^ 64 ≡ state_after x 1
unfolding state_after next_state
state_wrapped x = mod-add-mod (x * 6364136223846793005) (2 ^ 64) 1442695040888963407

pub draw_wrapped : (x : ℕ) → (x * 6364136223846793005 % 2 ^ 64 + 1442695040888963407) % 2 ^ 64 / 2 ^ 33 ≡ draw x 1
unfolding draw
draw_wrapped x = ap (λ s. s / 2 ^ 33) (state_wrapped x)

pub state_after-add : (x a b : ℕ) → state_after (state_after x a) b ≡ state_after x (a + b)
unfolding state_after
state_after-add x a zero = ap (state_after x) (omega arith)
state_after-add x a (suc b) = ap next_state (state_after-add x a b) ∙ ap (state_after x) (let e : suc (a + b) ≡ a + suc b = omega arith in e)

pub draw-after : (x a k : ℕ) → draw (state_after x a) k ≡ draw x (a + k)
unfolding draw
draw-after x a k = ap (λ s. s / 2 ^ 33) (state_after-add x a k)

pub state_after-zero : (x : ℕ) → state_after x 0 ≡ x
unfolding state_after
state_after-zero x = refl
