-- Where a client has no event.
use Rattle.std.proofs.Common.{◌≡◌, ℕ, true, Option, Some, None, refl, sym, ap, subst}
use Rattle.std.specs.Prelude.{◌||◌, ◌↔◌, IfSome}
use Rattle.std.specs.Option.{SomeIff}
use Rattle.vs_calls.specs.Progress.{is_posted, is_running, is_acted, is_refused, is_over}
use Rattle.vs_calls.specs.declared.stage.Stage.{Stage}
use Rattle.vs_calls.specs.declared.stage.Stage.TheVariants as stage
use Rattle.vs_event.specs.declared.event.Event.{Event}
use Rattle.vs_event.specs.declared.event.Event.TheVariants.{Post, Begin, Act, End, Take}
use Rattle.vs_machine.specs.Actors as actors
use Rattle.vs_machine.specs.Actors.{IsOf, IsPossible}
use Rattle.vs_machine.specs.Kinds.Calls.{begin, act, «end», take}
use Rattle.vs_machine.specs.State.{State}
use Rattle.vs_machine.proofs.Can.Calls.{can_begin, can_act, can_end, can_take}
use Rattle.vs_choose.specs.Client.{step_at, HasClientEvent, HasNoStep, IsClientChoice, IsPostedTo}
use Rattle.vs_choose.proofs.Chosen.{exactly, gives, if_chosen, if_refused}

-- ---- each stage has its event

begin_at : (c : ℕ) (p : Stage) → is_posted p ≡ true → step_at c p ≡ Some (Begin c)
begin_at c stage.Posted h = refl
begin_at c p h = absurd (cc h)

act_at : (c : ℕ) (p : Stage) → is_running p ≡ true → step_at c p ≡ Some (Act c)
act_at c stage.Running h = refl
act_at c p h = absurd (cc h)

end_at : (c : ℕ) (p : Stage) → is_acted p ≡ true → step_at c p ≡ Some (End c)
end_at c stage.Acted h = refl
end_at c p h = absurd (cc h)

take_at : (c : ℕ) (p : Stage) → (is_refused p || is_over p) ≡ true → step_at c p ≡ Some (Take c)
take_at c stage.Refused h = refl
take_at c stage.Ended h = refl
take_at c stage.Lost h = refl
take_at c p h = absurd (cc h)

-- where the stage's event isn't possible, no other is but a post
pub no_step : (s : State) (c : ℕ) → ((e : Event) → step_at c (s.client c).present.stage ≡ Some e → IsPossible s e → ⊥) → HasNoStep s c
no_step s c none = let p = (s.client c).present.stage in record {
  begin = λ possible. let g = gives (begin s c) possible in none (Begin c) (begin_at c p (can_begin s g.0 c g.1).posted) possible;
  act = λ possible. let g = gives (act s c) possible in none (Act c) (act_at c p (can_act s g.0 c g.1).running) possible;
  ends = λ possible. let g = gives («end» s c) possible in none (End c) (end_at c p (can_end s g.0 c g.1).acted) possible;
  take = λ possible. let g = gives (take s c) possible in none (Take c) (take_at c p (can_take s g.0 c g.1).ready) possible;
}

-- a step is the client's own, and no post
pub step_chosen : (s : State) (c : ℕ) (to : Option ℕ) (p : Stage) → IfSome (step_at c p) (λ e. IsPossible s e → IsClientChoice s c to e)
step_chosen s c to stage.Idle = tt
step_chosen s c to stage.Posted = λ possible. record { choice = record { its_own = refl; possible = possible; wanted = λ aside. aside }; posted = tt }
step_chosen s c to stage.Running = λ possible. record { choice = record { its_own = refl; possible = possible; wanted = λ aside. aside }; posted = tt }
step_chosen s c to stage.Acted = λ possible. record { choice = record { its_own = refl; possible = possible; wanted = λ aside. aside }; posted = tt }
step_chosen s c to stage.Refused = λ possible. record { choice = record { its_own = refl; possible = possible; wanted = λ aside. aside }; posted = tt }
step_chosen s c to stage.Ended = λ possible. record { choice = record { its_own = refl; possible = possible; wanted = λ aside. aside }; posted = tt }
step_chosen s c to stage.Lost = λ possible. record { choice = record { its_own = refl; possible = possible; wanted = λ aside. aside }; posted = tt }

pub post_chosen : (s : State) (c : ℕ) (to : Option ℕ) (x : ℕ) → to ≡ Some x → IsPossible s (Post c x) → IsClientChoice s c to (Post c x)
post_chosen s c to x there possible = record { choice = record { its_own = refl; possible = possible; wanted = λ aside. aside }; posted = there }

-- ---- the whole

module _ (s : State) (c : ℕ) (to : Option ℕ) (step : HasNoStep s c) (post : (x : ℕ) → to ≡ Some x → IsPossible s (Post c x) → ⊥) where
  none_of : (e : Event) → IsOf (actors.Client c) e → IsPossible s e → IsPostedTo to e → ⊥
  none_of (Post k x) own possible there = post x there (subst (λ (n : ℕ). IsPossible s (Post n x)) own possible)
  none_of (Begin k) own possible there = step.begin (subst (λ (n : ℕ). IsPossible s (Begin n)) own possible)
  none_of (Act k) own possible there = step.act (subst (λ (n : ℕ). IsPossible s (Act n)) own possible)
  none_of (End k) own possible there = step.ends (subst (λ (n : ℕ). IsPossible s (End n)) own possible)
  none_of (Take k) own possible there = step.take (subst (λ (n : ℕ). IsPossible s (Take n)) own possible)
  none_of e own possible there = own

  pub no_client_event : HasClientEvent s c to → ⊥
  no_client_event h = none_of h.0 h.1.choice.its_own h.1.choice.possible h.1.posted

-- ---- as the code goes

module _ (s : State) (c : ℕ) where
  -- the stage's event is possible
  pub step_choice : (to : Option ℕ) (p : Stage) (e : Event) → Some e ≡ step_at c p → IsPossible s e → IsClientChoice s c to e
  step_choice to p e is possible =
      let own : IfSome (Some e) (λ f. IsPossible s f → IsClientChoice s c to f) =
      subst (λ (q : Option Event). IfSome q (λ f. IsPossible s f → IsClientChoice s c to f)) (sym is) (step_chosen s c to p) in
      own possible

  -- it isn't
  pub step_none : (p : Stage) (e : Event) → p ≡ (s.client c).present.stage → Some e ≡ step_at c p → (IsPossible s e → ⊥) → HasNoStep s c
  step_none p e here is refused = no_step s c (λ f at possible. refused (subst (λ (g : Event). IsPossible s g) (same f at) possible))
    where
      same : (f : Event) → step_at c (s.client c).present.stage ≡ Some f → f ≡ e
      same f at = let there : step_at c p ≡ step_at c (s.client c).present.stage = ap (step_at c) here in cc (at, is, there)

  pub no_stage : (p : Stage) → p ≡ (s.client c).present.stage → None ≡ step_at c p → HasNoStep s c
  no_stage p here is = no_step s c (λ f at possible. let there : step_at c p ≡ step_at c (s.client c).present.stage = ap (step_at c) here in absurd (cc (at, is, there)))

  -- the post was tried
  pub post_answer : (to : Option ℕ) (x : ℕ) (o : Option Event) → to ≡ Some x → HasNoStep s c → SomeIff o (IsPossible s (Post c x)) (Post c x) → (o ≡ None) ↔ (HasClientEvent s c to → ⊥)
  post_answer to x o there step answer =
      exactly (IsClientChoice s c to) (IsClientChoice s c to) o (λ e h. h)
      (if_chosen o (IsPossible s (Post c x)) (Post c x) (IsClientChoice s c to) answer (post_chosen s c to x there))
      (if_refused o (IsPossible s (Post c x)) (Post c x) (HasClientEvent s c to → ⊥) answer
      (λ refused. no_client_event s c to step (λ y at possible. refused (subst (λ (n : ℕ). IsPossible s (Post c n)) (same y at) possible))))
    where
      same : (y : ℕ) → to ≡ Some y → y ≡ x
      same y at = cc (at, there)
