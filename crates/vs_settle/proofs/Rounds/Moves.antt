-- Kept by the events of calls, of commands, of transfers and of connections.
use Rattle.std.proofs.Common.{◌≡◌, ℕ, Bool, true, false, refl, subst, Option, Some, None, Ok}
use Rattle.std.specs.Prelude.{◌==◌, if◌then◌else◌}
use Rattle.vs_calls.specs.Progress.{cut}
use Rattle.vs_link.specs.Connection as link
use Rattle.vs_link.specs.declared.message.Heard.{Heard}
use Rattle.vs_rows.specs.RowMap.{RowMap}
use Rattle.vs_send.specs.Phases.{heard_phase}
use Rattle.vs_send.specs.declared.abort.AbortCause.{AbortCause}
use Rattle.vs_send.specs.declared.transfer.By.{By}
use Rattle.vs_send.specs.declared.transfer.By.TheVariants as by
use Rattle.vs_send.specs.declared.transfer.Phase.{Phase}
use Rattle.vs_send.specs.declared.transfer.Transfer.{Transfer}
use Rattle.vs_space.specs.declared.reply.Reply.{Reply}
use Rattle.vs_space.specs.declared.reply.Reply.TheVariants as reply
use Rattle.vs_machine.specs.declared.outcome.CommandFault.{CommandFault}
use Rattle.vs_machine.specs.declared.outcome.CommandOutcome.{CommandOutcome}
use Rattle.vs_machine.specs.declared.outcome.CommandOutcome.TheVariants.{Done, Late, Aborted, Moved}
use Rattle.vs_machine.specs.Kinds.Calls.{act, cut_call, call_to_cut, is_answered}
use Rattle.vs_machine.specs.Kinds.Connections.{deliver, after_deliver, received_at, hear, bucket_hearing, heard_by, has_more, close, connection_to_close}
use Rattle.vs_machine.specs.Kinds.Faults.{send_fault}
use Rattle.vs_machine.specs.Kinds.Pinning.{Pinning, pinning_of, pinning_fault, pin, after_pin}
use Rattle.vs_machine.specs.Kinds.Sender.{Move, move_of, in_phase, start, after_start, after_abort, after_end_move}
use Rattle.vs_machine.specs.Laws.{IsMoving, IsBegunBy}
use Rattle.vs_machine.specs.State.{State, Bucket, Operator, call_id, answer, put_client, put_operator, with_progress, with_transfer}
use Rattle.vs_machine.specs.Tables.{put}
use Rattle.vs_machine.proofs.Can.Calls.{can_act, can_cut}
use Rattle.vs_machine.proofs.Can.Others.{can_deliver, can_hear, can_close, can_pin}
use Rattle.vs_machine.proofs.Can.Sender.{can_start}
use Rattle.vs_machine.proofs.Leaves.{acted_transfer, taking_transfer, recovered_transfer}
use Rattle.vs_settle.proofs.Rounds.Frame.{IsBalancing, HaulFits, RoundsFit, Fits, still_fits, transfer_fits, operator_fits, other, answer_fits}

-- ---- calls

pub act_rounds : (s t : State) (c : ℕ) → Fits s → act s c ≡ Ok t → Fits t
act_rounds s t c i h =
    let p = can_act s t c h in
    subst Fits p.gives (still_fits s.operator s.bucket p.k.bucket _ i (acted_transfer (s.bucket p.k.bucket) p.x (call_id c (s.client c)) p.k.mode p.k.ops))

pub cut_rounds : (s t : State) (o : ℕ) → Fits s → cut_call s o ≡ Ok t → Fits t
cut_rounds s t o i h =
    let p = can_cut s t o h in
    subst Fits p.gives (at p.c p.n (other call_to_cut (Some (p.c, p.n)) (s.operator o) (λ e. absurd cc) p.named) (is_answered (s.client p.c) p.n))
  where
    at : (c n : ℕ) → (IsBalancing (s.operator o) → ⊥) → (late : Bool)
        → Fits (let old = s.client c in if late then put_operator s o (answer (s.operator o) Late) else put_operator (put_client s c (with_progress old (cut old.present))) o (answer (s.operator o) Done))
    at c n not_balance true = answer_fits s.operator s.bucket o Late i not_balance
    at c n not_balance false = answer_fits s.operator s.bucket o Done i not_balance

-- ---- commands

pub start_rounds : (s t : State) (o : ℕ) → Fits s → start s o ≡ Ok t → Fits t
start_rounds s t o i h =
    let p = can_start s t o h in
    subst Fits p.gives (at p.m (other move_of (Some p.m) (s.operator o) (λ e. absurd cc) p.named) (send_fault s p.m.bucket p.m.from p.m.to))
  where
    at : (m : Move) → (IsBalancing (s.operator o) → ⊥) → (f : Option CommandFault) → Fits (after_start s o m f)
    at m not_balance (Some f) = answer_fits s.operator s.bucket o _ i not_balance
    at m not_balance None =
        let old = s.operator o in
        let new : Operator = record old { moving = true } in
        transfer_fits (put s.operator o new) s.bucket m.bucket m.from _ _ (operator_fits s.operator s.bucket o new i (i.routes o) (λ b x u there e g. g)) refl tt

pub close_rounds : (s t : State) (o : ℕ) → Fits s → close s o ≡ Ok t → Fits t
close_rounds s t o i h =
    let p = can_close s t o h in
    subst Fits p.gives (answer_fits s.operator s.bucket o Done i (other connection_to_close (Some (p.x, p.y)) (s.operator o) (λ e. absurd cc) p.named))

pub pin_rounds : (s t : State) (o : ℕ) → Fits s → pin s o ≡ Ok t → Fits t
pin_rounds s t o i h =
    let p = can_pin s t o h in
    subst Fits p.gives (at p.p (other pinning_of (Some p.p) (s.operator o) (λ e. absurd cc) p.named) (pinning_fault s p.p p.p.status))
  where
    at : (q : Pinning) → (IsBalancing (s.operator o) → ⊥) → (f : Option CommandFault) → Fits (after_pin s o q f)
    at q not_balance (Some f) = answer_fits s.operator s.bucket o _ i not_balance
    at q not_balance None = answer_fits s.operator (put s.bucket q.bucket _) o Done (still_fits s.operator s.bucket q.bucket _ i refl) not_balance

-- ---- a transfer ends, and with it the command that began it

module _ (s : State) (b x : ℕ) (u : Transfer) (i : Fits s) (begun : IsBegunBy s.operators s.operator b x u.dest u.by) where
  abbrev gone : ℕ → Bucket
  gone = put s.bucket b (with_transfer (s.bucket b) x None)

  gone_fits : RoundsFit s.operator gone
  gone_fits = transfer_fits s.operator s.bucket b x (with_transfer (s.bucket b) x None) None i refl tt

  end_command : (o : ℕ) (outcome : CommandOutcome) → IsMoving (s.operator o) b x u.dest → RoundsFit (put s.operator o (answer (s.operator o) outcome)) gone
  end_command o outcome moving = answer_fits s.operator gone o outcome gone_fits (λ balancing. absurd (cc (moving.named, balancing)))

  pub aborted_rounds : (cause : AbortCause) → Fits (after_abort s x b u cause)
  aborted_rounds cause = at u.by begun
    where
      at : (w : By) → IsBegunBy s.operators s.operator b x u.dest w → Fits (after_abort s x b (record u { by = w }) cause)
      at (by.Command o) h = end_command o (Aborted cause) h.1
      at (by.Haul o) h = gone_fits

  pub moved_rounds : Fits (after_end_move s x b u)
  moved_rounds = at u.by begun
    where
      at : (w : By) → IsBegunBy s.operators s.operator b x u.dest w → Fits (after_end_move s x b (record u { by = w }))
      at (by.Command o) h = end_command o Moved h.1
      at (by.Haul o) h = operator_fits s.operator gone o _ gone_fits (i.routes o) (λ q y t there e g. g)

-- ---- connections

pub deliver_rounds : (s t : State) (x y : ℕ) → Fits s → deliver s x y ≡ Ok t → Fits t
deliver_rounds s t x y i h = let p = can_deliver s t x y h in subst Fits p.gives (at p.sent p.sent.message)
  where
    at : (m : link.Sent) (v : link.Message) → Fits (after_deliver s x y m v)
    at m (link.Chunk b page) = let q = link.bucket_of m.message in still_fits s.operator s.bucket q _ i (taking_transfer (s.bucket q) x y m.message (received_at s x y b false))
    at m (link.Last b) = let q = link.bucket_of m.message in still_fits s.operator s.bucket q _ i (taking_transfer (s.bucket q) x y m.message (received_at s x y b true))
    at m (link.Stat b) = i

pub hear_rounds : (s t : State) (x y : ℕ) → Fits s → hear s x y ≡ Ok t → Fits t
hear_rounds s t x y i h = let p = can_hear s t x y h in subst Fits p.gives (at p.heard p.heard.bucket (s.link x y).epoch p.heard.reply)
  where
    -- a transfer that hears goes on
    heard_fits : (v : Option Transfer) (rows : RowMap) (m : Heard) → HaulFits s.operator v → HaulFits s.operator (heard_by v rows y m)
    heard_fits None rows m f = tt
    heard_fits (Some u) rows m f = on (u.dest == y) (heard_phase u.phase m.sync m.reply (has_more rows u.phase))
      where
        on : (t : Bool) (phase : Phase) → HaulFits s.operator (Some (if t then in_phase u phase else u))
        on true phase = f
        on false phase = f

    at : (m : Heard) (b epoch : ℕ) (r : Reply) → RoundsFit s.operator (put s.bucket b (bucket_hearing (s.bucket b) epoch x y m r))
    at m b epoch (reply.State remote live) = still_fits s.operator s.bucket b _ i (recovered_transfer (s.bucket b) epoch x y m.sync remote live)
    at m b epoch reply.Took = transfer_fits s.operator s.bucket b x _ _ i refl (heard_fits ((s.bucket b).transfer x) ((s.bucket b).rows x) m (i.hauls b x))
    at m b epoch (reply.Not f) = transfer_fits s.operator s.bucket b x _ _ i refl (heard_fits ((s.bucket b).transfer x) ((s.bucket b).rows x) m (i.hauls b x))
