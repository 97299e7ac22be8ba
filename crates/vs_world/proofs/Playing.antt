-- How a list of events grows.
use Rattle.std.proofs.Common.{◌≡◌, List, [], ◌∷◌, ◌++◌, Result, Ok, Err, refl, sym, ap, subst, ◌∙◌}
use Rattle.vs_event.specs.declared.event.Event.{Event}
use Rattle.vs_event.specs.declared.reason.Reason.{Reason}
use Rattle.vs_machine.specs.Check.{◌>>=◌}
use Rattle.vs_machine.specs.Journals.{held_as}
use Rattle.vs_machine.specs.Laws.{BegunInputs}
use Rattle.vs_machine.specs.Runs.{IsOpening, IsReached}
use Rattle.vs_machine.specs.State.{State}
use Rattle.vs_machine.specs.Step.{step, run}
use Rattle.vs_state.specs.Guard.{verdict}
use Rattle.vs_world.specs.Began.{begun, start_of}
use Rattle.vs_world.specs.declared.opening.Opening.{Opening}
use Rattle.vs_world.specs.Played.{Played, state_of, began, IsRun, IsAdvanced, IsSame}

run_none : (r : Result State Reason) → (r >>= (λ t. run t [])) ≡ r
run_none (Ok s) = refl
run_none (Err e) = refl

run_after : (events : List Event) (e : Event) (r : Result State Reason) → ((t : State) → run t (events ++ e ∷ []) ≡ (run t events >>= (λ u. step u e)))
    → (r >>= (λ t. run t (events ++ e ∷ []))) ≡ ((r >>= (λ t. run t events)) >>= (λ u. step u e))
run_after events e (Ok t) rest = rest t
run_after events e (Err x) rest = refl

run_push : (s : State) (events : List Event) (e : Event) → run s (events ++ e ∷ []) ≡ (run s events >>= (λ t. step t e))
run_push s [] e = run_none (step s e)
run_push s (first ∷ events) e = run_after events e (step s first) (λ t. run_push t events e)

-- one more event
pub run_more : (s t u : State) (events : List Event) (e : Event) → run s events ≡ Ok t → step t e ≡ Ok u → run s (events ++ e ∷ []) ≡ Ok u
run_more s t u events e so_far next = run_push s events e ∙ ap (λ (r : Result State Reason). r >>= (λ t. step t e)) so_far ∙ next

pub is_run_more : (p q : Played) (e : Event) → IsRun p → IsAdvanced p q e → IsRun q
is_run_more p q e before more = record {
  opens = subst (λ (o : Opening). IsOpening (begun o).config (begun o).scripts (held_as (begun o).states)) (sym more.opening) before.opens;
  runs =
      ap (λ (o : Opening). run (start_of (begun o)) q.events) more.opening
      ∙ ap (λ (events : List Event). run (start_of (began p)) events) more.events
      ∙ run_more (start_of (began p)) (state_of p) (state_of q) p.events e before.runs more.step;
}

-- where the state is the same, the run is
pub is_run_same : (p q : Played) → IsRun p → IsSame p q → IsRun q
is_run_same p q before same = record {
  opens = subst (λ (o : Opening). IsOpening (begun o).config (begun o).scripts (held_as (begun o).states)) (sym same.opening) before.opens;
  runs =
      ap (λ (o : Opening). run (start_of (begun o)) q.events) same.opening
      ∙ ap (λ (events : List Event). run (start_of (began p)) events) same.events
      ∙ before.runs
      ∙ ap Ok (sym same.state);
}

-- a run reaches its state
pub is_reached : (p : Played) → IsRun p → IsReached (state_of p)
is_reached p r = record { config = (began p).config; scripts = (began p).scripts; held = held_as (began p).states; events = p.events; opens = r.opens; runs = r.runs }

-- the configuration is that of the beginning
pub config_is : BegunInputs → (p : Played) → IsRun p → (state_of p).config ≡ (began p).config
config_is law p r = (law (start_of (began p)) (state_of p) p.events r.runs).config

-- ---- refusals

-- an event that can happen isn't refused
pub possible_step : (r : Result State Reason) → verdict r ≡ Ok tt → (t : State) × (r ≡ Ok t)
possible_step (Ok t) is = (t, refl)
possible_step (Err e) is = absurd (cc is)
