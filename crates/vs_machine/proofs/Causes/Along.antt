-- What holds at the start of a run, and is kept by each event of it, holds at each of its states.
use Rattle.std.proofs.Common.{◌≡◌, ℕ, zero, suc, inl, inr, ◌≤◌, ◌<◌, arith, refl, ap, subst, ◌∙◌, List, [], ◌∷◌, ◌++◌, length, take, Some, Ok}
use Rattle.std.specs.Prelude.{◌≢◌, ◌⊎◌, slice_get}
use Rattle.std.proofs.lemmas.Bool.{cases_eq}
use Rattle.vs_event.specs.declared.event.Event.{Event}
use Rattle.vs_machine.specs.Check.{◌>>=◌}
use Rattle.vs_machine.specs.Tables.{put}
use Rattle.vs_machine.specs.State.{State}
use Rattle.vs_machine.specs.Step.{step, run}
use Rattle.vs_machine.specs.Causes.Events.{IsEvent, AreTimes}
use Rattle.vs_machine.proofs.Frame.{put_here, put_there, put_others}
use Rattle.vs_machine.proofs.Possible.{bind_ok, ok_is}

-- ---- the last event

take_next : (es : List Event) (i : ℕ) → i < length es → (e : Event) × (slice_get es i ≡ Some e) × (take (suc i) es ≡ take i es ++ e ∷ [])
take_next [] i lt = absurd (omega arith)
take_next (e ∷ es) zero lt = (e, refl, refl)
take_next (e ∷ es) (suc i) lt = let next = take_next es i (omega arith) in (next.0, next.1, ap (λ l. e ∷ l) next.2)

run_back : (s t : State) (es : List Event) (e : Event) → run s (es ++ e ∷ []) ≡ Ok t → (m : State) × (run s es ≡ Ok m) × (step m e ≡ Ok t)
run_back s t [] e h = let next = bind_ok (step s e) (λ u. run u []) t h in (s, refl, next.1 ∙ next.2)
run_back s t (v ∷ es) e h =
    let next = bind_ok (step s v) (λ u. run u (es ++ e ∷ [])) t h in
    let back = run_back next.0 t es e next.2 in
    (back.0, ap (λ r. r >>= (λ u. run u es)) next.1 ∙ back.1, back.2)

module _ (start : State) (events : List Event) where
  -- the event that led to a state
  record Ends (i : ℕ) (t : State) : Type 0 where
    before : State
    event : Event
    it : IsEvent start events i before event t

  ends : (i : ℕ) (t : State) → i < length events → run start (take (suc i) events) ≡ Ok t → Ends i t
  ends i t lt h =
      let next = take_next events i lt in
      let back = run_back start t (take i events) next.0 (subst (λ es. run start es ≡ Ok t) next.2 h) in
      record { before = back.0; event = next.0; it = record { reached = back.1; there = next.1; gives = back.2 } }

  pub along : (P : ℕ → State → Type 0) → P zero start → ((i : ℕ) (s t : State) (e : Event) → IsEvent start events i s e t → run start (take (suc i) events) ≡ Ok t → P i s → P (suc i) t)
      → (i : ℕ) (s : State) → i ≤ length events → run start (take i events) ≡ Ok s → P i s
  along P first next zero s le h = subst (P zero) (ok_is start s h) first
  along P first next (suc i) s le h =
      let v = ends i s le h in
      next i v.before s v.event v.it h (along P first next i v.before (omega arith) v.it.reached)

-- ---- so many of the events before one

pub record Rises (i times : ℕ) (P : ℕ → Type 0) : Type 0 where
  pub all : AreTimes times P
  pub below : (k : ℕ) → k < times → all.index k < i

pub none_yet : (i : ℕ) (P : ℕ → Type 0) → Rises i 0 P
none_yet i P = record { all = record { index = λ k. 0; rising = λ j k lt le. absurd (omega arith); each = λ k lt. absurd (omega arith) }; below = λ k lt. absurd (omega arith) }

pub still : (i times : ℕ) (P : ℕ → Type 0) → Rises i times P → Rises (suc i) times P
still i times P r = record { all = r.all; below = λ k lt. let b = r.below k lt in omega arith }

module _ (i n : ℕ) (P : ℕ → Type 0) (r : Rises i n P) (p : P i) where
  abbrev index : ℕ → ℕ
  index = put r.all.index n i

  earlier : (k : ℕ) → k < suc n → k ≢ n → k < n
  earlier k lt ne = grind (arith, lt, ne)

  rising : (j k : ℕ) → j < k → k < suc n → index j < index k
  rising j k lt le =
      let old : index j ≡ r.all.index j = put_there r.all.index n i j (λ e. absurd (omega (arith, e, lt, le))) in
      by old (cases_eq k n)
    where
      by : index j ≡ r.all.index j → (k ≡ n) ⊎ (k ≢ n) → index j < index k
      by old (inl is) =
          let here : index k ≡ i = ap index is ∙ put_here r.all.index n i in
          let below = r.below j (omega (arith, lt, is)) in
          omega (arith, old, here, below)
      by old (inr ne) =
          let here : index k ≡ r.all.index k = put_there r.all.index n i k ne in
          let less = r.all.rising j k lt (earlier k le ne) in
          omega (arith, old, here, less)

  -- the event of this index is one more
  pub one_more : Rises (suc i) (suc n) P
  one_more = record {
    all = record {
      index = index;
      rising = rising;
      each = put_others (λ k v. k < suc n → P v) r.all.index n i (λ lt. p) (λ k ne lt. r.all.each k (earlier k lt ne));
    };
    below = put_others (λ k v. k < suc n → v < suc i) r.all.index n i (λ lt. omega arith) (λ k ne lt. let b = r.below k (earlier k lt ne) in omega (arith, b));
  }

  pub last_index : one_more.all.index n ≡ i
  unfolding one_more
  last_index = put_here r.all.index n i
