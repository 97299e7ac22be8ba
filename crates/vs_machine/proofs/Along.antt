-- Along the events of a run, from one index to another.
use Rattle.std.proofs.Common.{◌≡◌, ℕ, zero, suc, ◌+◌, ◌≤◌, ◌<◌, arith, refl, ap, subst, ◌∙◌, List, [], ◌∷◌, length, take, Some, Ok}
use Rattle.std.specs.Prelude.{slice_get}
use Rattle.vs_event.specs.declared.event.Event.{Event}
use Rattle.vs_machine.specs.Check.{◌>>=◌}
use Rattle.vs_machine.specs.State.{State}
use Rattle.vs_machine.specs.Step.{step, run}
use Rattle.vs_machine.specs.Runs.{IsReached}
use Rattle.vs_machine.specs.Completeness.{IsAfter, IsRun}
use Rattle.vs_machine.proofs.Possible.{bind_ok}

-- the state before an event
pub record IsSplit (s t : State) (es : List Event) (m : ℕ) (e : Event) : Type 0 where
  pub before : State
  pub ran : run s (take m es) ≡ Ok before
  pub stepped : step before e ≡ Ok t

split_suc : (s t : State) (es : List Event) (m : ℕ) (e : Event) → slice_get es m ≡ Some e → run s (take (suc m) es) ≡ Ok t → IsSplit s t es m e
split_suc s t [] m e at h = absurd cc
split_suc s t (v ∷ es) zero e at h =
    let one = bind_ok (step s v) (λ u. run u []) t h in
    let same : v ≡ e = cc in
    record { before = s; ran = refl; stepped = subst (λ (w : Event). step s w ≡ Ok t) same (one.1 ∙ one.2) }
split_suc s t (v ∷ es) (suc m) e at h =
    let one = bind_ok (step s v) (λ u. run u (take (suc m) es)) t h in
    let more = split_suc one.0 t es m e at one.2 in
    record { before = more.before; ran = ap (λ r. r >>= (λ u. run u (take m es))) one.1 ∙ more.ran; stepped = more.stepped }

pub split : (s t : State) (es : List Event) (m : ℕ) (e : Event) → slice_get es m ≡ Some e → IsAfter s es (m + 1) t → IsSplit s t es m e
split s t es m e at h = let next : m + 1 ≡ suc m = omega arith in split_suc s t es m e at (subst (λ (n : ℕ). run s (take n es) ≡ Ok t) next h)

-- each place of a run has a state
pub state_at : (s t : State) (es : List Event) (m : ℕ) → run s es ≡ Ok t → (u : State) × IsAfter s es m u
state_at s t [] zero h = (s, refl)
state_at s t [] (suc m) h = (s, refl)
state_at s t (v ∷ es) zero h = (s, refl)
state_at s t (v ∷ es) (suc m) h =
    let one = bind_ok (step s v) (λ u. run u es) t h in
    let more = state_at one.0 t es m one.2 in
    (more.0, ap (λ r. r >>= (λ u. run u (take m es))) one.1 ∙ more.1)

-- and each index within it an event
pub event_at : (es : List Event) (m : ℕ) → m < length es → (e : Event) × (slice_get es m ≡ Some e)
event_at [] m lt = absurd (omega arith)
event_at (v ∷ es) zero lt = (v, refl)
event_at (v ∷ es) (suc m) lt = event_at es m (omega (arith, lt))

-- the states of a run are reached
pub reached_at : (start s : State) (events : List Event) → IsRun start events s → (m : ℕ) (u : State) → IsAfter start events m u → IsReached u
reached_at start s events r m u h = record { config = r.config; scripts = r.scripts; held = r.held; events = take m events; opens = r.opens; runs = subst (λ (v : State). run v (take m events) ≡ Ok u) r.opened h }

-- what holds after the event of index first, and goes on from each event to the next, holds up to the index last
module _ (start : State) (es : List Event) (first last : ℕ) (P : ℕ → State → Type 0) (within : last < length es)
    (base : (s : State) → IsAfter start es (first + 1) s → P 0 s)
    (on : (d : ℕ) (s t : State) (e : Event) → first + suc d < last → slice_get es (first + suc d) ≡ Some e → IsAfter start es (first + suc d) s → step s e ≡ Ok t → IsAfter start es (first + suc d + 1) t → P d s → P (suc d) t) where
  pub along : (d : ℕ) (s : State) → first + suc d ≤ last → IsAfter start es (first + suc d) s → P d s
  along zero s le h = base s h
  along (suc d) s le h =
      let lt : first + suc d < last = omega (arith, le) in
      let e = event_at es (first + suc d) (omega (arith, lt, within)) in
      let next : first + suc (suc d) ≡ first + suc d + 1 = omega arith in
      let after : IsAfter start es (first + suc d + 1) s = subst (λ (n : ℕ). IsAfter start es n s) next h in
      let was = split start s es (first + suc d) e.0 e.1 after in
      on d was.before s e.0 lt e.1 was.ran was.stepped after (along d was.before (omega (arith, lt)) was.ran)
