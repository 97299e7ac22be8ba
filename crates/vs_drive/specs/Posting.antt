-- To which set a client's call is posted.
use Rattle.std.specs.Prelude.{◌≡◌, ◌⊎◌, ℕ, ◌+◌, ◌%◌, List, [], ◌∷◌, Option, Some, None, unwrap_or, zero, suc}
use Rattle.std.specs.Option.{option_map}
use Rattle.vs_machine.specs.Driven.{would_grant}
use Rattle.vs_machine.specs.State.{State, sets_of}
use Rattle.vs_machine.specs.Tables.{least_to}
use Rattle.vs_router.specs.Known.{known_of}
use Rattle.vs_router.specs.declared.router.Known.{Known}
use Rattle.vs_router.specs.declared.said.SetSaid.{SetSaid}
use Rattle.vs_script.specs.Calls.{Call}
use Rattle.vs_state.specs.Serving.{serves}

-- what set x says of a bucket
abbrev pub said_at : State → ℕ → ℕ → SetSaid
said_at s b x = record { set = x; up = s.up x; serves = serves s x b }

-- the set that is cached for a bucket
abbrev pub cached : List (Option Known) → ℕ → Option ℕ
cached known b = option_map (λ k. k.set) (known_of known b)

-- a call goes first to the set that is cached, else to the lowest that serves its bucket, else to set 1
abbrev pub first_set : State → Option ℕ → ℕ → ℕ
first_set s known b = unwrap_or known (unwrap_or (least_to (λ x. serves s x b) (sets_of s)) 1)

-- the set of a number, counted round and round
abbrev pub set_round : ℕ → ℕ → Option ℕ
set_round zero n = None
set_round (suc sets) n = Some (1 + n % suc sets)

-- a refused call goes to the set that is cached, or to the lowest that would grant it, or to the one of the number of its tries
abbrev pub further_sets : State → ℕ → Option ℕ → Call → List (Option ℕ)
further_sets s c known k =
    known ∷ least_to (λ x. would_grant s x k) (sets_of s) ∷ set_round (sets_of s) (s.client c).present.tries ∷ []

-- the first of these that is allowed, or none where none is
abbrev pub IsFirstAllowed : (ℕ → Type 0) → List (Option ℕ) → Option ℕ → Type 0
IsFirstAllowed May [] chosen = chosen ≡ None
IsFirstAllowed May (None ∷ sets) chosen = IsFirstAllowed May sets chosen
IsFirstAllowed May (Some x ∷ sets) chosen = (May x × (chosen ≡ Some x)) ⊎ ((¬ (May x)) × IsFirstAllowed May sets chosen)
