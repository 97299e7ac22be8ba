-- A transfer that begins, by a command or by a haul.
use Rattle.std.proofs.Common.{◌≡◌, ℕ, zero, suc, ◌+◌, ◌≤◌, Bool, true, false, Option, Some, None, Ok, inl, inr, length, refl, sym, ap, ◌∙◌, arith}
use Rattle.std.specs.Prelude.{◌==◌, if◌then◌else◌}
use Rattle.std.proofs.lemmas.Bool.Decides.{nat_tests}
use Rattle.vs_script.specs.declared.command.Command.TheVariants.{Send}
use Rattle.vs_send.specs.declared.transfer.Phase.{Phase}
use Rattle.vs_send.specs.declared.transfer.Phase.TheVariants.{Draining, Ready, Waiting, Copied, Sealed, WaitingLast, Refused, Done}
use Rattle.vs_send.specs.declared.transfer.Transfer.{Transfer}
use Rattle.vs_space.specs.declared.status.Status.{Status}
use Rattle.vs_space.specs.declared.status.Status.TheVariants.{Active}
use Rattle.vs_machine.specs.declared.outcome.CommandFault.TheVariants as fault
use Rattle.vs_machine.specs.State as machine
use Rattle.vs_script.specs.Lawful.{IsLawfulCommand}
use Rattle.vs_machine.specs.Tables.{count_to}
use Rattle.vs_machine.specs.Inner.Phases.{PhaseFits}
use Rattle.vs_machine.specs.Kinds.Faults.{fault_if, unless_active, if_down, if_draining, send_fault}
use Rattle.vs_machine.specs.Kinds.Rebalancing.{hauls_at, is_haul}
use Rattle.vs_machine.specs.Kinds.Sender.{Move, move_of, start, after_start}
use Rattle.vs_machine.proofs.Can.Sender.{can_start}
use Rattle.vs_machine.proofs.Kept.Sending.{each_of, or_none, no_fault, may_send}
use Rattle.vs_state.specs.Guard.{verdict}
use Rattle.vs_core.specs.Keeps.{IsKnown}
use Rattle.vs_core.proofs.Sender.{goes_on, fits}

-- ---- hauls

count_within : (p : ℕ → Bool) (n : ℕ) → count_to p n ≤ n
count_within p zero = omega arith
count_within p (suc n) = by (p (suc n)) (count_within p n)
  where
    by : (t : Bool) → count_to p n ≤ n → count_to p n + (if t then 1 else 0) ≤ suc n
    by true before = omega arith
    by false before = omega arith

-- a set has no more hauls than there are buckets
pub few_hauls : (s : machine.State) → IsKnown s → (x : ℕ) → hauls_at s x ≤ 30000
few_hauls s known x =
    let within = count_within (λ b. is_haul ((s.bucket b).transfer x)) s.config.bucket_count in
    omega (arith, known.few)

-- ---- a bucket that is active

module _ (s : machine.State) (known : IsKnown s) (x b : ℕ) (active : (s.bucket b).entry x ≡ Some Active) where
  active_drains : (d : ℕ) (has : Option Status) (p : Phase) → has ≡ Some Active → PhaseFits d has p → machine.is_draining_in p ≡ true
  active_drains d has (Draining n) is f = refl
  active_drains d has (Ready k) is f = absurd (cc (is, f))
  active_drains d has (Waiting e n k) is f = absurd (cc (is, f))
  active_drains d has Copied is f = absurd (cc (is, f))
  active_drains d has Sealed is f = absurd (cc (is, f))
  active_drains d has (WaitingLast e n) is f = absurd (cc (is, f))
  active_drains d has (Refused e) is f = absurd (elim f [ inl sending ↦ cc (is, sending) | inr sent ↦ cc (is, sent) ])
  active_drains d has Done is f = absurd (cc (is, f))

  -- it has no transfer, where none drains
  pub no_transfer : machine.is_draining ((s.bucket b).transfer x) ≡ false → (s.bucket b).transfer x ≡ None
  no_transfer still = by ((s.bucket b).transfer x) refl still
    where
      by : (m : Option Transfer) → (s.bucket b).transfer x ≡ m → machine.is_draining m ≡ false → m ≡ None
      by None is still = refl
      by (Some t) is still = absurd (cc (active_drains t.dest ((s.bucket b).entry x) t.phase active (fits s known x b t is).phase, still))

-- ---- a command to move a bucket

module _ (s : machine.State) (o b x d : ℕ) (next : machine.next_command (s.operator o) ≡ Some (Send b x d)) where
  lawful : IsKnown s → IsLawfulCommand s.config.bucket_count (machine.sets_of s) (Send b x d)
  lawful known = each_of (IsLawfulCommand s.config.bucket_count (machine.sets_of s)) (s.operator o).script (length (s.operator o).answered) (Send b x d) (known.whole.inner.operators o).lawful next

  pub sent_bucket : IsKnown s → machine.has_bucket s b ≡ true
  sent_bucket known =
      let l = lawful known in
      grind (arith, nat_tests, l.0.0, l.0.1)

  pub sent_from : IsKnown s → machine.has_set s x ≡ true
  sent_from known =
      let l = lawful known in
      grind (arith, nat_tests, l.1.0, l.1.1)

  pub move_is : (m : Move) → move_of (machine.next_command (s.operator o)) ≡ Some m → record { bucket = b; from = x; to = d } ≡ m
  move_is m named =
      let both : Some (record { bucket = b; from = x; to = d }) ≡ Some m = sym (ap move_of next) ∙ named in
      cc

  pub start_is : verdict (start s o) ≡ Ok tt → start s o ≡ Ok (after_start s o (record { bucket = b; from = x; to = d }) (send_fault s b x d))
  start_is h =
      let after = goes_on (start s o) h in
      let can = can_start s after.0 o after.1 in
      after.1 ∙ ap Ok (sym can.gives) ∙ ap (λ (m : Move). Ok (after_start s o m (send_fault s m.bucket m.from m.to))) (sym (move_is can.m can.named))

-- what is known where it isn't refused
module _ (s : machine.State) (b x d : ℕ) (h : send_fault s b x d ≡ None) where
  pub start_active : (s.bucket b).entry x ≡ Some Active
  start_active = (may_send s b x d h).active

  pub start_still : machine.is_draining ((s.bucket b).transfer x) ≡ false
  start_still =
      let g1 = or_none (fault_if (x == d) fault.MoveToSelf) _ h in
      let g2 = or_none (if_down s x) _ g1.1 in
      let g3 = or_none (if_down s d) _ g2.1 in
      let g4 = or_none (unless_active ((s.bucket b).entry x)) _ g3.1 in
      let g5 = or_none (fault_if (machine.is_locked s x) (fault.SetLocked x)) (if_draining s x b) g4.1 in
      no_fault (machine.is_draining ((s.bucket b).transfer x)) fault.BucketIsLocked g5.1
