-- Where no set has had a fault at the end of a run, there is none in it.
use Rattle.std.proofs.Common.{◌≡◌, ℕ, zero, suc, ◌≤◌, Bool, true, false, List, [], ◌∷◌, length, Some, Ok, refl, sym, ap, subst, ◌∙◌, arith}
use Rattle.std.specs.Prelude.{slice_get, ◌==◌, if◌then◌else◌}
use Rattle.std.proofs.lemmas.Bool.Decides.{nat_tests}
use Rattle.std.proofs.lemmas.Bool.{eq-eqb, eqb-true}
use Rattle.vs_config.specs.Configuration.{Configuration}
use Rattle.vs_event.specs.declared.event.Event.{Event}
use Rattle.vs_event.specs.declared.event.Event.TheVariants.{Fault}
use Rattle.vs_event.specs.declared.event.Recorded.{Recorded}
use Rattle.vs_machine.specs.Driven.{FaultNumbers, numbers_after}
use Rattle.vs_machine.specs.Kinds.Stops.{is_next_fault}
use Rattle.vs_machine.specs.Laws.{BegunInputs}
use Rattle.vs_machine.specs.State.{State, has_set}
use Rattle.vs_machine.specs.Step.{step, run}
use Rattle.vs_machine.specs.Tables.{put, is_to}
use Rattle.vs_machine.proofs.Can.Stops.{can_fault}
use Rattle.vs_machine.proofs.Possible.{bind_ok}

-- the next number is one at least, and none below
next_fault : (last n : ℕ) → is_next_fault last n ≡ true → (1 ≤ n) × (last ≤ n)
next_fault last n next = (grind (arith, nat_tests, next), grind (arith, nat_tests, next))

put_rises : (numbers : ℕ → ℕ) (x n y : ℕ) → numbers x ≤ n → numbers y ≤ put numbers x n y
put_rises numbers x n y more = by (y == x) refl
  where
    by : (t : Bool) → (y == x) ≡ t → numbers y ≤ (if t then n else numbers y)
    by true is = let same : y ≡ x = eqb-true y x is in subst (λ (z : ℕ). numbers z ≤ n) (sym same) more
    by false is = omega arith

numbers_rise : (s t : State) (e : Event) (y : ℕ) → step s e ≡ Ok t → s.last_fault y ≤ numbers_after s.last_fault e y
numbers_rise s t (Fault x n r) y ok = put_rises s.last_fault x n y (next_fault (s.last_fault x) n (can_fault s t x n r ok).numbered).1
numbers_rise s t e y ok = omega arith

module _ (law : FaultNumbers) where
  -- the number of a set's last fault doesn't fall
  step_rises : (s t : State) (e : Event) (y : ℕ) → step s e ≡ Ok t → s.last_fault y ≤ t.last_fault y
  step_rises s t e y ok = subst (λ (numbers : ℕ → ℕ). s.last_fault y ≤ numbers y) (sym (law s t e ok)) (numbers_rise s t e y ok)

  run_rises : (s t : State) (events : List Event) (y : ℕ) → run s events ≡ Ok t → s.last_fault y ≤ t.last_fault y
  run_rises s t [] y ran = let same : s ≡ t = cc in subst (λ (u : State). s.last_fault y ≤ u.last_fault y) same (omega arith)
  run_rises s t (e ∷ es) y ran =
      let first = bind_ok (step s e) (λ u. run u es) t ran in
      omega (arith, step_rises s first.0 e y first.1, run_rises first.0 t es y first.2)

  -- a fault gives its set a number
  numbered : (s t : State) (x n : ℕ) (r : Recorded) → step s (Fault x n r) ≡ Ok t → 1 ≤ t.last_fault x
  numbered s t x n r ok =
      let some = (next_fault (s.last_fault x) n (can_fault s t x n r ok).numbered).0 in
      let here : put s.last_fault x n x ≡ n = ap (λ (b : Bool). if b then n else s.last_fault x) (eq-eqb x x refl) in
      let is : t.last_fault x ≡ n = ap (λ (numbers : ℕ → ℕ). numbers x) (law s t (Fault x n r) ok) ∙ here in
      omega (arith, some, is)

  module _ (inputs : BegunInputs) where
    -- a set that has a fault in a run is there at its end, with a number
    pub record HasNumber (t : State) (x : ℕ) : Type 0 where
      pub set : has_set t x ≡ true
      pub some : 1 ≤ t.last_fault x

    pub fault_in : (s t : State) (events : List Event) (m x n : ℕ) (r : Recorded) → run s events ≡ Ok t → slice_get events m ≡ Some (Fault x n r) → HasNumber t x
    fault_in s t [] m x n r ran at = absurd cc
    fault_in s t (e ∷ es) zero x n r ran at =
        let first = bind_ok (step s e) (λ u. run u es) t ran in
        let is : e ≡ Fault x n r = cc in
        let ok : step s (Fault x n r) ≡ Ok first.0 = subst (λ (v : Event). step s v ≡ Ok first.0) is first.1 in
        record {
          set = subst (λ (c : Configuration). is_to (length c.sets) x ≡ true) (sym (inputs s t (e ∷ es) ran).config) (can_fault s first.0 x n r ok).set;
          some = omega (arith, numbered s first.0 x n r ok, run_rises first.0 t es x first.2);
        }
    fault_in s t (e ∷ es) (suc m) x n r ran at =
        let first = bind_ok (step s e) (λ u. run u es) t ran in
        fault_in first.0 t es m x n r first.2 at
