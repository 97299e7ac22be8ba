-- The summary of a run: five lines, as a function of the number, of the state that the run led to and of its events.
use Rattle.std.specs.Prelude.{ℕ, Bool, true, false, List, ◌++◌, length, codes, slice_get}
use Rattle.std.specs.List.{count_by, flat_map}
use Rattle.std.specs.Option.{option_map_or}
use Rattle.vs_event.specs.declared.event.Event.{Event}
use Rattle.vs_event.specs.declared.event.Event.TheVariants.{EndMove}
use Rattle.vs_machine.specs.Report.{number, numbers_to, kind_count}
use Rattle.vs_machine.specs.State.{State, sets_of}
use Rattle.vs_machine.specs.Tables.{sum_to}
use Rattle.vs_machine.specs.declared.outcome.CommandOutcome.{CommandOutcome}
use Rattle.vs_machine.specs.declared.outcome.CommandOutcome.TheVariants.{Balanced, Stuck}
use Rattle.vs_space.specs.declared.status.StatusKind.TheVariants.{Active}

-- a transfer is ended
abbrev pub is_end_move : Event → Bool
is_end_move (EndMove x b) = true
is_end_move e = false

-- after how many rounds a balancing was answered
abbrev pub rounds_of : CommandOutcome → ℕ
rounds_of (Balanced rounds) = rounds
rounds_of (Stuck rounds) = rounds
rounds_of outcome = 0

-- after how many rounds the first command of operator 1 was answered
abbrev pub rounds : State → ℕ
rounds s = option_map_or rounds_of (slice_get (s.operator 1).answered 0) 0

-- how many calls of all clients are answered, whatever the answer
abbrev pub answered : State → ℕ
answered s = sum_to (λ c. length (s.client c).answered) s.clients

-- how many buckets each set has active
abbrev pub active_text : State → List ℕ
active_text s = flat_map (λ x. number (kind_count s x Active)) (numbers_to (sets_of s))

abbrev pub summary_text : ℕ → State → List Event → List ℕ
summary_text n s events =
    codes "gen" ++ number n
    ++ codes "\nsets 4 buckets 3000\ncounts" ++ active_text s
    ++ codes "\nrounds" ++ number (rounds s) ++ codes " moved" ++ number (count_by is_end_move events)
    ++ codes "\ncalls 20000 answered" ++ number (answered s) ++ codes "\n"
