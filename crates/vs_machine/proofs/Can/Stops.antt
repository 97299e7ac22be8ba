-- What is known where a set goes down, or is up again.
use Rattle.std.proofs.Common.{◌≡◌, ℕ, Bool, true, false, Some, Ok}
use Rattle.std.specs.Prelude.{◌&&◌, ◌||◌, ◌==◌, not, is_some}
use Rattle.std.proofs.Common.{arith, subst}
use Rattle.std.proofs.lemmas.Bool.Decides.{nat_tests}
use Rattle.vs_event.specs.declared.reason.Reason.TheVariants as reason
use Rattle.vs_event.specs.declared.event.Recorded.{Recorded}
use Rattle.vs_event.specs.declared.event.RestartBy.TheVariants.{Line, Service}
use Rattle.vs_record.specs.Change.{Change}
use Rattle.vs_machine.specs.State.{State, has_set, has_operator, next_command}
use Rattle.vs_machine.specs.Kinds.Stops.{set_to_stop, stop, after_stop, has_recorded, is_next_fault, recorded_step, recording_of, fault, after_fault, is_restart_of, may_keep, after_restart, is_finished, restart, restarted}
use Rattle.vs_machine.proofs.Possible.{needs_ok, wants_ok, bind_ok, ok_is, both_are, not_is}

pub record CanStop (s : State) (o : ℕ) (t : State) : Type 0 where
  pub operator : has_operator s o ≡ true
  pub x : ℕ
  pub named : set_to_stop (next_command (s.operator o)) ≡ Some x
  pub gives : after_stop s o x ≡ t

pub can_stop : (s t : State) (o : ℕ) → stop s o ≡ Ok t → CanStop s o t
can_stop s t o e =
    let g1 = needs_ok (has_operator s o) reason.Unknown _ t e in
    let g2 = wants_ok (set_to_stop (next_command (s.operator o))) reason.NoCommand _ t g1.1 in
    record { operator = g1.0; x = g2.0; named = g2.1; gives = ok_is _ t g2.2 }

-- the event that is recorded is possible by itself, and records this change at the set
pub record CanFault (s : State) (x n : ℕ) (e : Recorded) (t : State) : Type 0 where
  pub set : has_set s x ≡ true
  pub known : has_recorded s e ≡ true
  pub x_up : s.up x ≡ true
  pub numbered : is_next_fault (s.last_fault x) n ≡ true
  pub next : State
  pub possible : recorded_step s e ≡ Ok next
  pub change : Change
  pub records : recording_of s e ≡ Some (record { at = x; change = change })
  pub gives : after_fault s x n change ≡ t

pub can_fault : (s t : State) (x n : ℕ) (e : Recorded) → fault s x n e ≡ Ok t → CanFault s x n e t
can_fault s t x n e h =
    let g1 = needs_ok (has_set s x && has_recorded s e) reason.Unknown _ t h in
    let g2 = needs_ok (s.up x) (reason.Down x) _ t g1.1 in
    let g3 = needs_ok (is_next_fault (s.last_fault x) n) (reason.FaultNumber (s.last_fault x)) _ t g2.1 in
    let g4 = bind_ok (recorded_step s e) _ t g3.1 in
    let g5 = wants_ok (recording_of s e) reason.NoRecord _ t g4.2 in
    let g6 = needs_ok (g5.0.at == x) reason.NoRecord _ t g5.2 in
    let known = both_are (has_set s x) (has_recorded s e) g1.0 in
    let here : g5.0.at ≡ x = grind (arith, nat_tests, g6.0) in
    record {
      set = known.0;
      known = known.1;
      x_up = g2.0;
      numbered = g3.0;
      next = g4.0;
      possible = g4.1;
      change = g5.0.change;
      records = subst (λ y. recording_of s e ≡ Some (record { at = y; change = g5.0.change })) here g5.1;
      gives = ok_is _ t g6.1;
    }

pub record CanRestartLine (s : State) (x o : ℕ) (kept : Bool) (t : State) : Type 0 where
  pub set : has_set s x ≡ true
  pub operator : has_operator s o ≡ true
  pub named : is_restart_of (next_command (s.operator o)) x ≡ true
  pub keeps : may_keep s x kept ≡ true
  pub gives : after_restart s x kept o ≡ t

pub can_restart_line : (s t : State) (x o : ℕ) (kept : Bool) → restart s x kept (Line o) ≡ Ok t → CanRestartLine s x o kept t
can_restart_line s t x o kept e =
    let g1 = needs_ok (has_set s x && has_operator s o) reason.Unknown _ t e in
    let g2 = needs_ok (is_restart_of (next_command (s.operator o)) x) reason.NoCommand _ t g1.1 in
    let g3 = needs_ok (may_keep s x kept) reason.NoPending _ t g2.1 in
    let known = both_are (has_set s x) (has_operator s o) g1.0 in
    record { set = known.0; operator = known.1; named = g2.0; keeps = g3.0; gives = ok_is _ t g3.1 }

pub record CanRestart (s : State) (x : ℕ) (kept : Bool) (t : State) : Type 0 where
  pub set : has_set s x ≡ true
  pub x_down : s.up x ≡ false
  pub due : (is_some (s.pending x) || is_finished s) ≡ true
  pub keeps : may_keep s x kept ≡ true
  pub gives : restarted s x kept (s.pending x) ≡ t

pub can_restart : (s t : State) (x : ℕ) (kept : Bool) → restart s x kept Service ≡ Ok t → CanRestart s x kept t
can_restart s t x kept e =
    let g1 = needs_ok (has_set s x) reason.Unknown _ t e in
    let g2 = needs_ok (not (s.up x)) (reason.Up x) _ t g1.1 in
    let g3 = needs_ok (is_some (s.pending x) || is_finished s) reason.NotFinished _ t g2.1 in
    let g4 = needs_ok (may_keep s x kept) reason.NoPending _ t g3.1 in
    record { set = g1.0; x_down = not_is _ g2.0; due = g3.0; keeps = g4.0; gives = ok_is _ t g4.1 }
