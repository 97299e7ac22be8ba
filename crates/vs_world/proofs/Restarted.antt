-- What a restart makes of a cluster in which the set was down.
use Rattle.std.proofs.Common.{◌≡◌, ◌≢◌, ℕ, Bool, true, false, Option, Some, None, Result, Ok, Err, refl, sym, ap, subst, ◌∙◌}
use Rattle.std.specs.Prelude.{if◌then◌else◌, not, ◌||◌, ◌&&◌, is_some}
use Rattle.std.specs.Option.{option_and_then}
use Rattle.vs_event.specs.declared.event.Event.TheVariants.{Restart}
use Rattle.vs_event.specs.declared.event.RestartBy.{RestartBy}
use Rattle.vs_event.specs.declared.event.RestartBy.TheVariants.{Line, Service}
use Rattle.vs_event.specs.declared.reason.Reason.{Reason}
use Rattle.vs_record.specs.Change.{Change}
use Rattle.vs_store.specs.Files.{taken}
use Rattle.vs_machine.specs.declared.outcome.CommandOutcome.TheVariants.{Done, WasUp}
use Rattle.vs_machine.specs.Check.{◌>>◌, needs}
use Rattle.vs_machine.specs.Journals.{durable_of, written, AreWritten, KeepsJournals}
use Rattle.vs_machine.specs.Kinds.Stops.{recording, restarted, is_finished, is_restart_of}
use Rattle.vs_machine.specs.State.{State, has_set, has_operator, answer, put_operator, next_command}
use Rattle.vs_machine.specs.Step.{step}
use Rattle.vs_machine.specs.Tables.{put}
use Rattle.vs_machine.proofs.Can.Stops.{can_restart, can_restart_line}
use Rattle.vs_machine.proofs.Frame.{put_there}
use Rattle.vs_state.specs.Guard.{verdict}

-- ---- which sets are up

raised_up : (s : State) (x : ℕ) (kept : Bool) (pending : Option Change) → (restarted s x kept pending).up ≡ put s.up x true
raised_up s x true (Some c) = refl
raised_up s x true None = refl
raised_up s x false (Some c) = refl
raised_up s x false None = refl

pub restart_up : (s t : State) (x : ℕ) (kept : Bool) (by : RestartBy) → s.up x ≡ false → step s (Restart x kept by) ≡ Ok t → t.up ≡ put s.up x true
restart_up s t x kept Service down h = subst (λ (u : State). u.up ≡ put s.up x true) (can_restart s t x kept h).gives (raised_up s x kept (s.pending x))
restart_up s t x kept (Line o) down h = subst (λ (u : State). u.up ≡ put s.up x true) (can_restart_line s t x o kept h).gives (by (s.up x) down)
  where
    by : (up : Bool) → up ≡ false → (if up then put_operator s o (answer (s.operator o) WasUp) else put_operator (restarted s x kept (s.pending x)) o (answer (s.operator o) Done)).up ≡ put s.up x true
    by true e = absurd cc
    by false e = raised_up s x kept (s.pending x)

-- a set that is up after it was up before, but for this one
pub was_up : (s t : State) (x : ℕ) (kept : Bool) (by : RestartBy) → s.up x ≡ false → step s (Restart x kept by) ≡ Ok t → (y : ℕ) → y ≢ x → t.up y ≡ true → s.up y ≡ true
was_up s t x kept by down h y ne up =
    let same : t.up y ≡ put s.up x true y = λ i. restart_up s t x kept by down h i y in
    sym (same ∙ put_there s.up x true y ne) ∙ up

-- ---- which set it is

verdict_ok : (r : Result State Reason) → verdict r ≡ Ok tt → (t : State) × (r ≡ Ok t)
verdict_ok (Ok t) is = (t, refl)
verdict_ok (Err reason) is = absurd cc

pub restarts_set : (s : State) (x : ℕ) (kept : Bool) (by : RestartBy) → verdict (step s (Restart x kept by)) ≡ Ok tt → has_set s x ≡ true
restarts_set s x kept (Line o) may = let p = verdict_ok (step s (Restart x kept (Line o))) may in (can_restart_line s p.0 x o kept p.1).set
restarts_set s x kept Service may = let p = verdict_ok (step s (Restart x kept Service)) may in (can_restart s p.0 x kept p.1).set

-- ---- what the sets have

module _ (s t : State) (x : ℕ) (by : RestartBy) where
  pub has_here : (kept : Bool) → s.up x ≡ false → KeepsJournals s t (Restart x kept by) → durable_of t x ≡ (if kept then taken (durable_of s x) (s.pending x) else durable_of s x)
  has_here false down k = k.written_is x
  has_here true down k = is (s.up x) (s.pending x) down k.written_is
    where
      is : (up : Bool) (pending : Option Change) → up ≡ false → AreWritten s.bucket t.bucket (option_and_then (recording x) (if up then None else pending)) → durable_of t x ≡ taken (durable_of s x) pending
      is true pending e w = absurd cc
      is false None e w = w x
      is false (Some c) e w = w.here

  pub has_away : (kept : Bool) → KeepsJournals s t (Restart x kept by) → (y : ℕ) → y ≢ x → durable_of t y ≡ durable_of s y
  has_away false k y ne = k.written_is y
  has_away true k y ne = is (s.up x) (s.pending x) k.written_is
    where
      is : (up : Bool) (pending : Option Change) → AreWritten s.bucket t.bucket (option_and_then (recording x) (if up then None else pending)) → durable_of t y ≡ durable_of s y
      is true pending w = w y
      is false None w = w y
      is false (Some c) w = w.others y ne

-- what is written
pub kept_written : (s : State) (x : ℕ) (by : RestartBy) (c : Change) → s.up x ≡ false → s.pending x ≡ Some c → written s (Restart x true by) ≡ recording x c
kept_written s x by c down there = is (s.up x) (s.pending x) down there
  where
    is : (up : Bool) (pending : Option Change) → up ≡ false → pending ≡ Some c → option_and_then (recording x) (if up then None else pending) ≡ recording x c
    is true pending e f = absurd cc
    is false pending e f = ap (λ (o : Option Change). option_and_then (recording x) o) f

-- ---- a change that is pending may be kept

keeps_by_line : (known named up : Bool) (pending : Option Change) (c : Change) (p q r : Reason) (u v : State) → up ≡ false → pending ≡ Some c
    → verdict (needs known p >> (needs named q >> (needs (not false || is_some (if up then None else pending)) r >> Ok u))) ≡ Ok tt
    → verdict (needs known p >> (needs named q >> (needs (not true || is_some (if up then None else pending)) r >> Ok v))) ≡ Ok tt
keeps_by_line true true false (Some d) c p q r u v down there may = refl
keeps_by_line true true false None c p q r u v down there may = absurd cc
keeps_by_line true true true pending c p q r u v down there may = absurd cc
keeps_by_line true false up pending c p q r u v down there may = absurd cc
keeps_by_line false named up pending c p q r u v down there may = absurd cc

keeps_by_service : (known up finished : Bool) (pending : Option Change) (c : Change) (p q r n : Reason) (u v : State) → up ≡ false → pending ≡ Some c
    → verdict (needs known p >> (needs (not up) q >> (needs (is_some pending || finished) r >> (needs (not false || is_some (if up then None else pending)) n >> Ok u)))) ≡ Ok tt
    → verdict (needs known p >> (needs (not up) q >> (needs (is_some pending || finished) r >> (needs (not true || is_some (if up then None else pending)) n >> Ok v)))) ≡ Ok tt
keeps_by_service true false finished (Some d) c p q r n u v down there may = refl
keeps_by_service true false finished None c p q r n u v down there may = absurd cc
keeps_by_service true true finished pending c p q r n u v down there may = absurd cc
keeps_by_service false up finished pending c p q r n u v down there may = absurd cc

pub may_be_kept : (s : State) (x : ℕ) (by : RestartBy) (c : Change) → s.up x ≡ false → s.pending x ≡ Some c → verdict (step s (Restart x false by)) ≡ Ok tt → verdict (step s (Restart x true by)) ≡ Ok tt
may_be_kept s x (Line o) c down there may = keeps_by_line (has_set s x && has_operator s o) (is_restart_of (next_command (s.operator o)) x) (s.up x) (s.pending x) c _ _ _ _ _ down there may
may_be_kept s x Service c down there may = keeps_by_service (has_set s x) (s.up x) (is_finished s) (s.pending x) c _ _ _ _ _ _ down there may

-- so may what was found, where nothing is found if nothing is pending
pub may_be_found : (s : State) (x : ℕ) (by : RestartBy) (found : Bool) → s.up x ≡ false → (s.pending x ≡ None → found ≡ false) → verdict (step s (Restart x false by)) ≡ Ok tt → verdict (step s (Restart x found by)) ≡ Ok tt
may_be_found s x by false down none may = may
may_be_found s x by true down none may = is (s.pending x) refl
  where
    is : (pending : Option Change) → s.pending x ≡ pending → verdict (step s (Restart x true by)) ≡ Ok tt
    is None e = absurd (cc (none e))
    is (Some c) e = may_be_kept s x by c down e may
