-- What a round of a balance command waits for.
use Rattle.std.specs.Prelude.{ℕ, not, Option}
use Rattle.vs_machine.specs.Kinds.Rebalancing.{is_in_move}
use Rattle.vs_machine.specs.State.{State, sets_of}
use Rattle.vs_machine.specs.Tables.{least_to}

-- the lowest set that is down
abbrev pub first_down : State → Option ℕ
first_down s = least_to (λ x. not (s.up x)) (sets_of s)

-- the lowest bucket that some set sends or receives
abbrev pub first_in_move : State → Option ℕ
first_in_move s = least_to (is_in_move s) s.config.bucket_count
