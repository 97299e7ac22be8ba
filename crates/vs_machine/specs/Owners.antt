-- Who owns the buckets, read off the events of a run; no set stores it.
use Rattle.std.specs.Prelude.{ℕ, List, [], ◌∷◌, unwrap_or, Ok, Err}
use Rattle.vs_event.specs.declared.event.Event.{Event}
use Rattle.vs_machine.specs.State.{State, sets_of}
use Rattle.vs_machine.specs.Step.{step}
use Rattle.vs_machine.specs.Coherence.{owner_at, owners}
use Rattle.vs_machine.specs.Opening.{opening}
use Rattle.vs_machine.specs.Runs.{IsReached}

-- the set that a bucket's entries make its owner; a bucket that isn't in the cluster is owned by 0, which is no set
abbrev pub owners_at : State → ℕ → ℕ
owners_at s b = unwrap_or (owner_at (s.bucket b).entry (sets_of s)) 0

-- the owners after a run of events from a state
abbrev pub owners_after : (ℕ → ℕ) → State → List Event → ℕ → ℕ
owners_after own s [] = own
owners_after own s (e ∷ es) = elim (step s e) [ Ok next ↦ owners_after (owners own s e) next es | Err reason ↦ own ]

-- the owners that the events of a run give, from those at its opening on
abbrev pub owners_of : (s : State) → IsReached s → ℕ → ℕ
owners_of s r = let start = opening r.config r.scripts r.held in owners_after (owners_at start) start r.events
