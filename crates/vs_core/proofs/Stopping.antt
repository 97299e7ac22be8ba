-- What stop and fault are, where they are possible.
use Rattle.std.proofs.Common.{◌≡◌, ℕ, Bool, true, false, Some, None, Ok, refl, sym, ap, ◌∙◌, arith}
use Rattle.std.specs.Prelude.{◌&&◌, if◌then◌else◌, option_map}
use Rattle.std.proofs.lemmas.Bool.Decides.{nat_tests}
use Rattle.vs_event.specs.declared.event.Recorded.{Recorded}
use Rattle.vs_record.specs.Change.{Change}
use Rattle.vs_script.specs.declared.command.Command.TheVariants.{Stop}
use Rattle.vs_machine.specs.declared.outcome.CommandOutcome.TheVariants.{Aborted}
use Rattle.vs_send.specs.declared.abort.AbortCause.TheVariants.{Stopped}
use Rattle.vs_machine.specs.State as machine
use Rattle.vs_machine.specs.Kinds.Sender.{move_of}
use Rattle.vs_machine.specs.Kinds.Stops.{after_fault, after_stop, fault, is_move_from, recording_of, stop, stopped_move}
use Rattle.vs_machine.proofs.Can.Stops.{can_fault}
use Rattle.vs_state.specs.Guard.{verdict}
use Rattle.vs_core.specs.GoingDown.{moves_from}
use Rattle.vs_core.specs.Keeps.{IsKnown}
use Rattle.vs_core.proofs.Sender.{goes_on}

-- ---- stop

module _ (s : machine.State) (o x : ℕ) (next : machine.next_command (s.operator o) ≡ Some (Stop x)) where
  pub stop_is : verdict (stop s o) ≡ Ok tt → stop s o ≡ Ok (after_stop s o x)
  stop_is h = grind (arith, h, next)

  pub stop_set : IsKnown s → machine.has_set s x ≡ true
  stop_set known =
      let l = (known.commands o (Stop x) next).lawful in
      grind (arith, nat_tests, l.0, l.1)

  -- a command that stops a set moves no bucket
  pub stop_idle : (y : ℕ) → moves_from y (s.operator o) ≡ false
  stop_idle y = (λ i. (s.operator o).moving && is_move_from y (move_of (next i))) ∙ and_false (s.operator o).moving
    where
      and_false : (e : Bool) → (e && false) ≡ false
      and_false true = refl
      and_false false = refl

  pub stop_stays : (y : ℕ) → stopped_move y (s.operator o) ≡ s.operator o
  stop_stays y = ap (λ e. if e then machine.answer (s.operator o) (Aborted Stopped) else s.operator o) (stop_idle y)

pub stop_operator : (s : machine.State) (o : ℕ) → verdict (stop s o) ≡ Ok tt → machine.has_operator s o ≡ true
stop_operator s o h = grind (arith, h)

-- ---- fault

module _ (s : machine.State) (x n : ℕ) (e : Recorded) (h : verdict (fault s x n e) ≡ Ok tt) where
  pub fault_set : machine.has_set s x ≡ true
  fault_set = let after = goes_on (fault s x n e) h in (can_fault s after.0 x n e after.1).set

  -- something is recorded
  pub fault_records : option_map (λ r. r.change) (recording_of s e) ≡ None → ⊥
  fault_records none =
      let after = goes_on (fault s x n e) h in
      let can = can_fault s after.0 x n e after.1 in
      let was : Some can.change ≡ None = sym (ap (option_map (λ r. r.change)) can.records) ∙ none in
      absurd (cc was)

  -- it leaves the change that was recorded
  pub fault_is : (change : Change) → option_map (λ r. r.change) (recording_of s e) ≡ Some change → fault s x n e ≡ Ok (after_fault s x n change)
  fault_is change records =
      let after = goes_on (fault s x n e) h in
      let can = can_fault s after.0 x n e after.1 in
      let was : Some can.change ≡ Some change = sym (ap (option_map (λ r. r.change)) can.records) ∙ records in
      let same : can.change ≡ change = cc in
      after.1 ∙ ap Ok (sym can.gives) ∙ ap (λ change. Ok (after_fault s x n change)) same
