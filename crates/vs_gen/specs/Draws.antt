-- Numbers that are drawn one after the other.
use Rattle.std.specs.Prelude.{ℕ, ◌+◌, ◌*◌, ◌/◌, ◌%◌, ◌^◌, zero, suc}

-- what one draw makes of a state
unfoldable pub next_state : ℕ → ℕ
next_state x = (x * 6364136223846793005 + 1442695040888963407) % 2 ^ 64

-- what so many draws make of it
unfoldable pub state_after : ℕ → ℕ → ℕ
state_after x zero = x
state_after x (suc k) = next_state (state_after x k)

-- the draw of this number, from 1, where the first state is n
unfoldable pub draw : ℕ → ℕ → ℕ
draw n k = state_after n k / 2 ^ 33
