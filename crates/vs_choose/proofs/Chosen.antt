-- What follows from an event that can happen, from one that can't, and from what was answered.
use Rattle.std.proofs.Common.{◌≡◌, ℕ, ◌+◌, ◌≤◌, Bool, true, false, Option, Some, None, Result, Ok, Err, refl, sym, ap, subst, arith, inl, inr}
use Rattle.std.specs.Prelude.{◌⊎◌, ◌↔◌, ◌&&◌, ◌||◌, not, IfSome, IfNone, IsOk, is_some}
use Rattle.std.specs.Option.{SomeIff}
use Rattle.std.proofs.lemmas.Bool.Decides.{nat_tests}
use Rattle.vs_event.specs.declared.event.Event.{Event}
use Rattle.vs_event.specs.declared.event.Event.TheVariants.{Restart}
use Rattle.vs_event.specs.declared.event.RestartBy.TheVariants.{Line, Service}
use Rattle.vs_event.specs.declared.reason.Reason.{Reason}
use Rattle.vs_event.specs.declared.reason.Reason.TheVariants as reason
use Rattle.vs_machine.specs.Actors.{IsPossible}
use Rattle.vs_machine.specs.Check.{◌>>◌, needs}
use Rattle.vs_machine.specs.Kinds.Stops.{is_finished, is_restart_of, restart}
use Rattle.vs_machine.specs.Tables.{is_to}
use Rattle.vs_machine.specs.State.{State, has_operator, has_set, next_command}
use Rattle.vs_machine.proofs.Can.Stops.{can_restart, can_restart_line}
use Rattle.vs_state.specs.Guard.{verdict}

-- ---- numbers of the cluster

pub within : (n k : ℕ) → is_to n k ≡ true → (1 ≤ k) × (k ≤ n)
within n k h = (grind (arith, nat_tests, h), grind (arith, nat_tests, h))

last_or : (i n k : ℕ) → n ≡ i + 1 → k ≤ i + 1 → (k ≡ n) ⊎ (k ≤ i)
last_or i n k at last = grind arith

-- one number further holds too
pub one_more : (P : ℕ → Type 0) (i n : ℕ) → n ≡ i + 1 → P n → ((k : ℕ) → 1 ≤ k → k ≤ i → P k) → (k : ℕ) → 1 ≤ k → k ≤ i + 1 → P k
one_more P i n at here before k first last = by (last_or i n k at last)
  where
    by : (k ≡ n) ⊎ (k ≤ i) → P k
    by (inl same) = subst P (sym same) here
    by (inr below) = before k first below

-- ---- the state after an event that is possible

pub gives : (r : Result State Reason) → IsOk r → (t : State) × (r ≡ Ok t)
gives (Ok t) possible = (t, refl)
gives (Err e) possible = absurd (cc possible)

-- the verdict says whether it is possible
pub told : (r : Result State Reason) → IsOk (verdict r) ↔ IsOk r
told (Ok t) = (λ h. h, λ h. h)
told (Err e) = (λ h. h, λ h. h)

-- ---- what is answered

-- an answer is the event that was tried
pub if_chosen : (o : Option Event) (P : Type 0) (e : Event) (Q : Event → Type 0) → SomeIff o P e → (P → Q e) → IfSome o Q
if_chosen None P e Q answer then = tt
if_chosen (Some x) P e Q answer then = subst Q (sym answer.1) (then answer.0)

-- where there is no answer, it can't happen
pub if_refused : (o : Option Event) (P : Type 0) (e : Event) (Q : Type 0) → SomeIff o P e → ((P → ⊥) → Q) → IfNone o Q
if_refused None P e Q answer then = then answer
if_refused (Some x) P e Q answer then = tt

-- what follows where there is none
pub none_then : {T : Type 0} (o : Option T) {P Q : Type 0} → IfNone o P → (P → Q) → IfNone o Q
none_then None h then = then h
none_then (Some x) h then = h

-- there is no answer exactly where there is no such event
pub exactly : (P Q : Event → Type 0) (o : Option Event) → ((e : Event) → P e → Q e) → IfSome o P → IfNone o (((e : Event) × Q e) → ⊥) → (o ≡ None) ↔ (((e : Event) × Q e) → ⊥)
exactly P Q None weaker some none = (λ same. none, λ h. refl)
exactly P Q (Some e) weaker some none = (λ same. absurd (cc same), λ h. absurd (h (e, weaker e some)))

-- ---- a restart that is possible is possible as a bare one

past : {B : Type 0} (t : Bool) (r : Reason) (rest : Result B Reason) → t ≡ true → IsOk rest → IsOk (needs t r >> rest)
past true r rest e h = h
past false r rest e h = absurd (cc e)

both : (p q : Bool) → p ≡ true → q ≡ true → (p && q) ≡ true
both true q e h = h
both false q e h = absurd (cc e)

pub bare_service : (s : State) (x : ℕ) (kept : Bool) → IsPossible s (Restart x kept Service) → IsPossible s (Restart x false Service)
bare_service s x kept possible =
    let g = gives (restart s x kept Service) possible in
    let can = can_restart s g.0 x kept g.1 in
    past (has_set s x) reason.Unknown _ can.set
    (past (not (s.up x)) (reason.Up x) _ (ap not can.x_down)
    (past (is_some (s.pending x) || is_finished s) reason.NotFinished _ can.due refl))

pub bare_line : (s : State) (x o : ℕ) (kept : Bool) → IsPossible s (Restart x kept (Line o)) → IsPossible s (Restart x false (Line o))
bare_line s x o kept possible =
    let g = gives (restart s x kept (Line o)) possible in
    let can = can_restart_line s g.0 x o kept g.1 in
    past (has_set s x && has_operator s o) reason.Unknown _ (both (has_set s x) (has_operator s o) can.set can.operator)
    (past (is_restart_of (next_command (s.operator o)) x) reason.NoCommand _ can.named refl)
