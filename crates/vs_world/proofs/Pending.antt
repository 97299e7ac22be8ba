-- What is pending after an event, and where it writes.
use Rattle.std.proofs.Common.{◌≡◌, ◌≢◌, ◌⊎◌, inl, inr, ⊎_elim, ℕ, true, false, Option, Some, None, Ok, refl, sym, ap, subst, ◌∙◌, arith, ◌≤◌, ◌+◌, ◌-◌, ◌^◌}
use Rattle.std.proofs.lemmas.Bool.{cases_eq}
use Rattle.std.proofs.lemmas.Bool.Decides.{nat_tests}
use Rattle.vs_event.specs.declared.event.Event.{Event}
use Rattle.vs_event.specs.declared.event.Event.TheVariants.{Fault, Restart}
use Rattle.vs_event.specs.declared.event.Recorded.{Recorded}
use Rattle.vs_event.specs.Recorded.{event_of}
use Rattle.vs_record.specs.Change.{Change}
use Rattle.vs_machine.specs.Journals.{written, pending_after, IsNoRestart, WritesAt, LeavesSet, KeepsJournals, WritesRecorded}
use Rattle.vs_machine.specs.Kinds.Stops.{Recording, is_next_fault}
use Rattle.vs_machine.specs.Laws.{PendingRuns}
use Rattle.vs_machine.specs.Runs.{IsReached}
use Rattle.vs_machine.specs.State.{State}
use Rattle.vs_machine.specs.Step.{step}
use Rattle.vs_machine.specs.Tables.{put}
use Rattle.vs_machine.proofs.Can.Stops.{CanFault, can_fault}
use Rattle.vs_machine.proofs.Frame.{put_there, put_here}
use Rattle.vs_world.specs.Rising.{RaisesNone}

-- nothing is pending at a set that is up
pub none_up : PendingRuns → (s : State) → IsReached s → (x : ℕ) → s.up x ≡ true → s.pending x ≡ None
none_up law s reached x up = by (s.pending x) refl
  where
    by : (p : Option Change) → s.pending x ≡ p → s.pending x ≡ None
    by None is = is
    by (Some c) is = absurd (cc (up, (law s reached x c is).down))

-- what was pending still is, and there may be more
abbrev pub MorePending : State → State → ℕ → Type 0
MorePending s t x = (t.pending x ≡ s.pending x) ⊎ ((s.pending x ≡ None) × (c : Change) × (t.pending x ≡ Some c))

put_of : {A : Type 0} (f : ℕ → A) (z : ℕ) (v : A) (x : ℕ) → x ≡ z → put f z v x ≡ v
put_of {A = A} f z v x e = subst (λ (y : ℕ). put f z v y ≡ v) (sym e) (put_here f z v)

-- a fault makes its change pending
pub fault_pending : (s t : State) (x n : ℕ) (v : Recorded) (can : CanFault s x n v t) → t.pending x ≡ Some can.change
fault_pending s t x n v can = ap (λ (q : State). q.pending x) (sym can.gives) ∙ put_of s.pending x (Some can.change) x refl

pub fault_down : (s t : State) (x n : ℕ) (v : Recorded) (can : CanFault s x n v t) → t.up x ≡ false
fault_down s t x n v can = ap (λ (q : State). q.up x) (sym can.gives) ∙ put_of s.up x false x refl

pub fault_others : (s t : State) (x n : ℕ) (v : Recorded) (can : CanFault s x n v t) (y : ℕ) → y ≢ x → t.pending y ≡ s.pending y
fault_others s t x n v can y ne = ap (λ (q : State). q.pending y) (sym can.gives) ∙ put_there s.pending x (Some can.change) y ne

pub more_pending : PendingRuns → (s t : State) (e : Event) → IsReached s → RaisesNone s e → step s e ≡ Ok t → KeepsJournals s t e → (x : ℕ) → MorePending s t x
more_pending law s t (Fault z n v) reached bare h k x =
    let can = can_fault s t z n v h in
    ⊎_elim
    (λ e. inr (none_up law s reached x (ap s.up e ∙ can.x_up), can.change, subst (λ (y : ℕ). t.pending y ≡ Some can.change) (sym e) (fault_pending s t z n v can)))
    (λ ne. inl (fault_others s t z n v can x ne))
    (cases_eq x z)
more_pending law s t (Restart z kept by) reached up h k x =
    let is = ap (λ (f : ℕ → Option Change). f x) k.pending_is in
    ⊎_elim
    (λ e. inl (is ∙ put_of s.pending z None x e ∙ sym (none_up law s reached x (ap s.up e ∙ up))))
    (λ ne. inl (is ∙ put_there s.pending z None x ne))
    (cases_eq x z)
more_pending law s t e reached bare h k x = inl (ap (λ (f : ℕ → Option Change). f x) k.pending_is)

-- ---- an event that writes, and is no restart

pub writes_up : (s : State) (e : Event) (r : Recording) → IsNoRestart e → WritesAt s e r → s.up r.at ≡ true
writes_up s (Restart x kept by) r bare at = absurd bare
writes_up s e r bare at = at

pub writes_pending : (s : State) (e : Event) (r : Recording) → IsNoRestart e → written s e ≡ Some r → pending_after s e ≡ s.pending
writes_pending s (Restart x kept by) r bare is = absurd bare
writes_pending s (Fault x n v) r bare is = absurd (cc is)
writes_pending s e r bare is = refl

pub leaves_away : (s : State) (e : Event) (r : Recording) → IsNoRestart e → written s e ≡ Some r → (y : ℕ) → LeavesSet s e y → y ≢ r.at
leaves_away s (Restart x kept by) r bare is y leaves = absurd bare
leaves_away s e r bare is y leaves = leaves r is

pub one_written : (s : State) (e : Event) (p r : Recording) → written s e ≡ Some p → written s e ≡ Some r → p ≡ r
one_written s e p r is also = cc (is, also)

-- it is of a kind that may fail
pub writes_recorded : (s : State) (e : Event) (r : Recording) → WritesRecorded s → IsNoRestart e → written s e ≡ Some r → ((v : Recorded) → e ≢ event_of v) → ⊥
writes_recorded s e r law bare is none = absurd (cc (is, law.none_by e none bare))

-- ---- the number of a fault

pub next_number : (last n : ℕ) → last ≤ 2 ^ 64 - 1 → (last ≡ 2 ^ 64 - 1 → n ≡ 2 ^ 64 - 1) → (last ≢ 2 ^ 64 - 1 → last + 1 ≤ n) → is_next_fault last n ≡ true
next_number last n small full more = grind (arith, nat_tests, small, full, more)
