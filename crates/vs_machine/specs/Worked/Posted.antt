-- A call is refused twice, follows a hint that is old, and is then replied to.
use Rattle.std.specs.Prelude.{◌≡◌, ℕ, ◌==◌, Bool, true, false, if◌then◌else◌, List, [], ◌∷◌, Option, Some, None, Result, Ok, Err, take}
use Rattle.vs_space.specs.declared.status.Status.TheVariants.{Active, Sent}
use Rattle.vs_rows.specs.Said.{NoValue}
use Rattle.vs_calls.specs.Outcomes.{Outcome, Reply}
use Rattle.vs_calls.specs.Progress.{outcome_of}
use Rattle.vs_event.specs.declared.event.Event.{Event}
use Rattle.vs_event.specs.declared.event.Event.TheVariants.{Post, Begin, Act, End, Take}
use Rattle.vs_event.specs.declared.reason.Reason.{Reason}
use Rattle.vs_config.specs.Configuration.{Configuration}
use Rattle.vs_machine.specs.State.{State}
use Rattle.vs_machine.specs.Opening.{Holdings, opening}
use Rattle.vs_machine.specs.Step.{run}
use Rattle.vs_machine.specs.Driven.{is_post_allowed, goes_by_hint}
use Rattle.vs_machine.specs.Completeness.{refusals, posts_that}
use Rattle.vs_machine.specs.Worked.Cluster.{get_a}

abbrev three_sets : Configuration
three_sets = record {
  bucket_count = 3;
  threshold = 1;
  max_receiving = 100;
  max_sending = 1;
  sets = (record { uuid = 1 ∷ []; weight = 1; lock = false }) ∷ (record { uuid = 2 ∷ []; weight = 1; lock = false }) ∷ (record { uuid = 3 ∷ []; weight = 1; lock = false }) ∷ [];
}

-- bucket 3 went from set 1 to set 2, and on to set 3
abbrev went : Holdings
went = record {
  entry = λ x b. if b == 3 then (if x == 3 then Some Active else if x == 2 then Some (Sent 3) else if x == 1 then Some (Sent 2) else None) else if x == 1 then Some Active else None;
  rows = λ x b. [];
}

abbrev start : State
start = opening three_sets (record { clients = (get_a ∷ []) ∷ []; operators = [] }) went

abbrev events : List Event
events = Post 1 1 ∷ Begin 1 ∷ Post 1 2 ∷ Begin 1 ∷ Post 1 3 ∷ Begin 1 ∷ Act 1 ∷ End 1 ∷ Take 1 ∷ []

-- in a state that isn't still, with this flag
abbrev allowed : Result State Reason → Bool → ℕ → Option (Bool × Bool)
allowed (Ok s) flag x = Some (is_post_allowed s false flag 1 x get_a, goes_by_hint s false 1 x get_a)
allowed (Err r) flag x = None

abbrev outcome_at : Result State Reason → Option Outcome
outcome_at (Ok s) = Some (outcome_of (s.client 1).present)
outcome_at (Err r) = None

pub record Posted : Type 0 where
  pub replied : outcome_at (run start (take 8 events)) ≡ Some (Reply 0 (NoValue ∷ []))
  pub refused : refusals start events 1 0 8 ≡ 2
  pub further : posts_that (λ m. true) events 1 0 8 ≡ 2
  -- the first post may go anywhere, the next to the set of the hint alone or to set 3
  pub first : allowed (run start []) false 2 ≡ Some (true, false)
  pub hinted : allowed (run start (take 2 events)) false 2 ≡ Some (true, true)
  pub granted : allowed (run start (take 2 events)) false 3 ≡ Some (true, false)
  pub again : allowed (run start (take 2 events)) false 1 ≡ Some (false, false)
  -- and not twice in a row for a hint alone
  pub once : allowed (run start (take 2 events)) true 2 ≡ Some (false, true)
