-- Only a fault changes a set's last fault number.
use Rattle.std.proofs.Common.{◌≡◌, ℕ, Bool, true, false, refl, subst, Option, Some, None, Ok}
use Rattle.std.specs.Prelude.{not, if◌then◌else◌}
use Rattle.vs_calls.specs.Progress.{cut}
use Rattle.vs_event.specs.declared.event.Event.TheVariants.{Post, Begin, Act, End, Take, Cut, Start, Haul, NotYet, Freeze, Chunk, Seal, Last, Abort, EndMove, Deliver, Hear, Close, Ask, Condemn, Wipe, Forget, Pin, Plan, Stop, Fault, Restart}
use Rattle.vs_event.specs.declared.event.RestartBy.{RestartBy}
use Rattle.vs_event.specs.declared.event.RestartBy.TheVariants.{Line, Service}
use Rattle.vs_event.specs.declared.reason.Reason.TheVariants as reason
use Rattle.vs_link.specs.Connection as link
use Rattle.vs_record.specs.Change.{Change}
use Rattle.vs_machine.specs.declared.outcome.CommandFault.{CommandFault}
use Rattle.vs_machine.specs.declared.outcome.CommandOutcome.TheVariants.{Done, Late, WasDown, WasUp}
use Rattle.vs_machine.specs.Tables.{put, least_to}
use Rattle.vs_machine.specs.State.{State, sets_of, answer, put_client, put_operator, with_progress}
use Rattle.vs_machine.specs.Driven.{FaultNumbers}
use Rattle.vs_machine.specs.Kinds.Calls.{cut_call, is_answered}
use Rattle.vs_machine.specs.Kinds.Connections.{deliver, after_deliver}
use Rattle.vs_machine.specs.Kinds.Faults.{send_fault}
use Rattle.vs_machine.specs.Kinds.Pinning.{Pinning, pinning_fault, pin, after_pin}
use Rattle.vs_machine.specs.Kinds.Rebalancing.{haul, after_haul, bucket_to_haul, plan, plan_round, is_in_move}
use Rattle.vs_machine.specs.Kinds.Sender.{Move, start, after_start}
use Rattle.vs_machine.specs.Kinds.Stops.{gone_down, stop, restart, restarted}
use Rattle.vs_machine.proofs.Can.Calls.{can_post, can_begin, can_act, can_end, can_take, can_cut}
use Rattle.vs_machine.proofs.Can.Others.{can_deliver, can_hear, can_close, can_ask, can_condemn, can_wipe, can_forget, can_pin, can_haul, can_plan}
use Rattle.vs_machine.proofs.Can.Sender.{can_start, can_wait, can_freeze, can_chunk, can_seal, can_last, can_abort, can_end_move}
use Rattle.vs_machine.proofs.Can.Stops.{can_stop, can_fault, can_restart, can_restart_line}
use Rattle.vs_machine.proofs.Possible.{ok_is, wants_none_ok}

abbrev SameNumbers : State → State → Type 0
SameNumbers s t = t.last_fault ≡ s.last_fault

module _ (s t : State) where
  cut_numbers : (o : ℕ) → cut_call s o ≡ Ok t → SameNumbers s t
  cut_numbers o h = let p = can_cut s t o h in subst (SameNumbers s) p.gives (by p.c (is_answered (s.client p.c) p.n))
    where
      by : (d : ℕ) (late : Bool) → SameNumbers s (if late then put_operator s o (answer (s.operator o) Late) else put_operator (put_client s d (with_progress (s.client d) (cut (s.client d).present))) o (answer (s.operator o) Done))
      by d true = refl
      by d false = refl

  start_numbers : (o : ℕ) → start s o ≡ Ok t → SameNumbers s t
  start_numbers o h = let p = can_start s t o h in subst (SameNumbers s) p.gives (by p.m (send_fault s p.m.bucket p.m.from p.m.to))
    where
      by : (m : Move) (f : Option CommandFault) → SameNumbers s (after_start s o m f)
      by m (Some f) = refl
      by m None = refl

  haul_numbers : (o x d : ℕ) → haul s o x d ≡ Ok t → SameNumbers s t
  haul_numbers o x d h = let p = can_haul s t o x d h in subst (SameNumbers s) p.gives (by (bucket_to_haul s x d))
    where
      by : (v : Option ℕ) → SameNumbers s (after_haul s o x d v)
      by None = refl
      by (Some b) = refl

  deliver_numbers : (x y : ℕ) → deliver s x y ≡ Ok t → SameNumbers s t
  deliver_numbers x y h = let p = can_deliver s t x y h in subst (SameNumbers s) p.gives (by p.sent p.sent.message)
    where
      by : (m : link.Sent) (v : link.Message) → SameNumbers s (after_deliver s x y m v)
      by m (link.Chunk b page) = refl
      by m (link.Last b) = refl
      by m (link.Stat b) = refl

  pin_numbers : (o : ℕ) → pin s o ≡ Ok t → SameNumbers s t
  pin_numbers o h = let p = can_pin s t o h in subst (SameNumbers s) p.gives (by p.p (pinning_fault s p.p p.p.status))
    where
      by : (q : Pinning) (f : Option CommandFault) → SameNumbers s (after_pin s o q f)
      by q (Some f) = refl
      by q None = refl

  plan_numbers : (o : ℕ) → plan s o ≡ Ok t → SameNumbers s t
  plan_numbers o h = by (least_to (λ x. not (s.up x)) (sets_of s)) (can_plan s t o h).gives
    where
      by : (down : Option ℕ) → plan_round s o down ≡ Ok t → SameNumbers s t
      by (Some x) g = subst (SameNumbers s) (ok_is _ t g) refl
      by None g = let k = wants_none_ok (least_to (is_in_move s) s.config.bucket_count) reason.Moving _ t g in subst (SameNumbers s) (ok_is _ t k.1) refl

  stop_numbers : (o : ℕ) → stop s o ≡ Ok t → SameNumbers s t
  stop_numbers o h = let p = can_stop s t o h in subst (SameNumbers s) p.gives (by p.x (s.up p.x))
    where
      by : (x : ℕ) (up : Bool) → SameNumbers s (if up then put_operator (gone_down s x) o (answer (s.operator o) Done) else put_operator s o (answer (s.operator o) WasDown))
      by x true = refl
      by x false = refl

  restarted_numbers : (x : ℕ) (kept : Bool) (pending : Option Change) → SameNumbers s (restarted s x kept pending)
  restarted_numbers x true (Some change) = refl
  restarted_numbers x true None = refl
  restarted_numbers x false (Some change) = refl
  restarted_numbers x false None = refl

  restart_numbers : (x : ℕ) (kept : Bool) (by : RestartBy) → restart s x kept by ≡ Ok t → SameNumbers s t
  restart_numbers x kept Service h = subst (SameNumbers s) (can_restart s t x kept h).gives (restarted_numbers x kept (s.pending x))
  restart_numbers x kept (Line o) h = subst (SameNumbers s) (can_restart_line s t x o kept h).gives (by (s.up x))
    where
      by : (u : Bool) → SameNumbers s (if u then put_operator s o (answer (s.operator o) WasUp) else put_operator (restarted s x kept (s.pending x)) o (answer (s.operator o) Done))
      by true = refl
      by false = restarted_numbers x kept (s.pending x)

pub fault_numbers : FaultNumbers
fault_numbers s t (Post c x) h = subst (SameNumbers s) (can_post s t c x h).gives refl
fault_numbers s t (Begin c) h = subst (SameNumbers s) (can_begin s t c h).gives refl
fault_numbers s t (Act c) h = subst (SameNumbers s) (can_act s t c h).gives refl
fault_numbers s t (End c) h = subst (SameNumbers s) (can_end s t c h).gives refl
fault_numbers s t (Take c) h = subst (SameNumbers s) (can_take s t c h).gives refl
fault_numbers s t (Cut o) h = cut_numbers s t o h
fault_numbers s t (Start o) h = start_numbers s t o h
fault_numbers s t (Haul o x d) h = haul_numbers s t o x d h
fault_numbers s t (Deliver x y) h = deliver_numbers s t x y h
fault_numbers s t (Pin o) h = pin_numbers s t o h
fault_numbers s t (Plan o) h = plan_numbers s t o h
fault_numbers s t (Stop o) h = stop_numbers s t o h
fault_numbers s t (Fault x n r) h = subst (λ (u : State). u.last_fault ≡ put s.last_fault x n) (can_fault s t x n r h).gives refl
fault_numbers s t (Restart x kept by) h = restart_numbers s t x kept by h
fault_numbers s t (NotYet x b) h = subst (SameNumbers s) (can_wait s t x b h).gives refl
fault_numbers s t (Freeze x b) h = subst (SameNumbers s) (can_freeze s t x b h).gives refl
fault_numbers s t (Chunk x b) h = subst (SameNumbers s) (can_chunk s t x b h).gives refl
fault_numbers s t (Seal x b) h = subst (SameNumbers s) (can_seal s t x b h).gives refl
fault_numbers s t (Last x b) h = subst (SameNumbers s) (can_last s t x b h).gives refl
fault_numbers s t (Abort x b) h = subst (SameNumbers s) (can_abort s t x b h).gives refl
fault_numbers s t (EndMove x b) h = subst (SameNumbers s) (can_end_move s t x b h).gives refl
fault_numbers s t (Hear x y) h = subst (SameNumbers s) (can_hear s t x y h).gives refl
fault_numbers s t (Close o) h = subst (SameNumbers s) (can_close s t o h).gives refl
fault_numbers s t (Ask x b) h = subst (SameNumbers s) (can_ask s t x b h).gives refl
fault_numbers s t (Condemn x b) h = subst (SameNumbers s) (can_condemn s t x b h).gives refl
fault_numbers s t (Wipe x b) h = subst (SameNumbers s) (can_wipe s t x b h).gives refl
fault_numbers s t (Forget x b) h = subst (SameNumbers s) (can_forget s t x b h).gives refl
