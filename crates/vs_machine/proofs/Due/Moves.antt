-- Who began a transfer is there to be answered: kept by the events of transfers, of connections, and of rounds.
use Rattle.std.proofs.Common.{◌≡◌, ℕ, arith, Bool, true, false, refl, sym, ap, subst, ◌∙◌, List, length, Option, Some, None, Ok}
use Rattle.std.specs.Prelude.{◌==◌, ◌&&◌, ◌||◌, not, nat_lt, if◌then◌else◌}
use Rattle.std.proofs.lemmas.Option.{slice_get_within}
use Rattle.vs_balance.specs.declared.route.Route.{Route}
use Rattle.vs_event.specs.declared.reason.Reason.TheVariants as reason
use Rattle.vs_link.specs.Connection.{Connection}
use Rattle.vs_link.specs.Connection as link
use Rattle.vs_link.specs.declared.message.Heard.{Heard}
use Rattle.vs_rows.specs.RowMap.{RowMap}
use Rattle.vs_script.specs.declared.command.Command.{Command}
use Rattle.vs_script.specs.declared.command.Command.TheVariants as command
use Rattle.vs_send.specs.declared.abort.AbortCause.{AbortCause}
use Rattle.vs_send.specs.declared.transfer.By.{By}
use Rattle.vs_send.specs.declared.transfer.By.TheVariants as by
use Rattle.vs_send.specs.declared.transfer.Phase.{Phase}
use Rattle.vs_send.specs.declared.transfer.Transfer.{Transfer}
use Rattle.vs_send.specs.Phases.{heard_phase}
use Rattle.vs_space.specs.declared.reply.Reply.{Reply}
use Rattle.vs_space.specs.declared.reply.Reply.TheVariants as reply
use Rattle.vs_machine.specs.declared.outcome.CommandFault.{CommandFault}
use Rattle.vs_machine.specs.declared.outcome.CommandOutcome.{CommandOutcome}
use Rattle.vs_machine.specs.declared.outcome.CommandOutcome.TheVariants.{Done, Aborted, Stuck, Moved}
use Rattle.vs_machine.specs.Tables.{put, is_to, least_to}
use Rattle.vs_machine.specs.State.{State, Bucket, Operator, sets_of, next_command, answer, put_bucket, put_operator, with_transfer}
use Rattle.vs_machine.specs.Kinds.Connections.{deliver, after_deliver, received_at, hear, bucket_hearing, heard_by, has_more, close, connection_to_close, is_null}
use Rattle.vs_machine.specs.Kinds.Faults.{send_fault}
use Rattle.vs_machine.specs.Kinds.Pinning.{Pinning, pinning_of, pinning_fault, pin, after_pin}
use Rattle.vs_machine.specs.Kinds.Rebalancing.{haul, after_haul, bucket_to_haul, plan, plan_round, planned, with_round, with_left, is_balance, is_in_move}
use Rattle.vs_machine.specs.Kinds.Sender.{Move, move_of, in_phase, start, after_start, after_abort, after_end_move}
use Rattle.vs_machine.specs.Laws.{IsMoving, IsBegunBy}
use Rattle.vs_machine.proofs.Can.Others.{can_deliver, can_hear, can_close, can_pin, can_haul, can_plan}
use Rattle.vs_machine.proofs.Can.Sender.{can_start}
use Rattle.vs_machine.proofs.Frame.{put_here}
use Rattle.vs_machine.proofs.Leaves.{taking_transfer, recovered_transfer}
use Rattle.vs_machine.proofs.Possible.{ok_is, wants_none_ok}
use Rattle.vs_machine.proofs.Due.Frame.{still_fits, link_fits, MoveFits, IsAsked, DueFits, transfer_fits, operator_fits, IsDue, has_next, due, answered_asked, answer_fits}

-- ---- transfers

as_send : (k : Option Command) (m : Move) → move_of k ≡ Some m → k ≡ Some (command.Send m.bucket m.from m.to)
as_send (Some (command.Send b x d)) m h =
    let one : record { bucket = b; from = x; to = d } ≡ m = cc (h) in
    ap (λ (u : Move). Some (command.Send u.bucket u.from u.to)) one
as_send None m h = absurd (cc (h))
as_send (Some (command.Pin b x)) m h = absurd (cc (h))
as_send (Some (command.Unpin b x)) m h = absurd (cc (h))
as_send (Some (command.Close x y)) m h = absurd (cc (h))
as_send (Some (command.Cut c n)) m h = absurd (cc (h))
as_send (Some (command.Stop x)) m h = absurd (cc (h))
as_send (Some (command.Restart x)) m h = absurd (cc (h))
as_send (Some command.Balance) m h = absurd (cc (h))

pub start_due : (s t : State) (o : ℕ) → DueFits s → start s o ≡ Ok t → DueFits t
start_due s t o i h =
    let p = can_start s t o h in
    let old = s.operator o in
    let d : IsDue old = record { there = has_next move_of (Some p.m) old (λ e. absurd cc) p.named; still = λ b x e g. absurd (cc (g.moving, p.still)) } in
    subst DueFits p.gives (at p.m (as_send (next_command old) p.m p.named) p.operator d (send_fault s p.m.bucket p.m.from p.m.to))
  where
    at : (m : Move) → next_command (s.operator o) ≡ Some (command.Send m.bucket m.from m.to) → is_to s.operators o ≡ true → IsDue (s.operator o) → (f : Option CommandFault) → DueFits (after_start s o m f)
    at m named known d (Some f) = answer_fits s o _ i d
    at m named known d None =
        let old = s.operator o in
        let new : Operator = record old { moving = true } in
        let moves : IsMoving new m.bucket m.from m.to = record { moving = refl; named = named } in
        transfer_fits (put_operator s o new) m.bucket m.from _ _ s.link (operator_fits s o new i (i.operators o) (λ b x u at g. record { moving = refl; named = g.named })) refl
        (known, subst (λ (u : Operator). IsMoving u m.bucket m.from m.to) (sym (put_here s.operator o new)) moves)

pub haul_due : (s t : State) (o x d : ℕ) → DueFits s → haul s o x d ≡ Ok t → DueFits t
haul_due s t o x d i h = let p = can_haul s t o x d h in subst DueFits p.gives (at p.operator (bucket_to_haul s x d))
  where
    left : (n : ℕ) → DueFits (let old = s.operator o in put_operator s o (record old { routes = with_left old.routes x d n }))
    left n = operator_fits s o _ i (i.operators o) (λ b y u at g. record { moving = g.moving; named = g.named })

    at : is_to s.operators o ≡ true → (v : Option ℕ) → DueFits (after_haul s o x d v)
    at known None = left 0
    at known (Some b) = transfer_fits _ b x _ _ s.link (left _) refl known

-- the transfer goes on in another phase
pub phase_due : (s : State) (b x : ℕ) (u : Transfer) (new : Bucket) (v : Option Transfer) (ls : ℕ → ℕ → Connection) → DueFits s → (s.bucket b).transfer x ≡ Some u → (MoveFits s.operators s.operator b x (Some u) → MoveFits s.operators s.operator b x v)
    → new.transfer ≡ put (s.bucket b).transfer x v → DueFits (record s { bucket = put s.bucket b new; link = ls })
phase_due s b x u new v ls i there on is = transfer_fits s b x new v ls i is (on (subst (MoveFits s.operators s.operator b x) there (i.moves b x)))

-- a transfer ends, and with it the command that began it
module _ (s : State) (b x : ℕ) (u : Transfer) (i : DueFits s) (there : (s.bucket b).transfer x ≡ Some u) where
  abbrev gone : State
  gone = put_bucket s b (with_transfer (s.bucket b) x None)

  gone_fits : DueFits gone
  gone_fits = transfer_fits s b x (with_transfer (s.bucket b) x None) None s.link i refl tt

  none_there : (q y : ℕ) (t : Transfer) → (gone.bucket q).transfer y ≡ Some t → q ≡ b → y ≡ x → ⊥
  none_there q y t at is here =
      let moved : (gone.bucket b).transfer x ≡ Some t = subst (λ r. (gone.bucket r).transfer x ≡ Some t) is (subst (λ z. (gone.bucket q).transfer z ≡ Some t) here at) in
      let none : (gone.bucket b).transfer x ≡ None = ap (λ (w : Bucket). w.transfer x) (put_here s.bucket b (with_transfer (s.bucket b) x None)) ∙ put_here (s.bucket b).transfer x None in
      absurd (cc (moved, none))

  -- the command moved no other bucket
  end_command : (o : ℕ) (outcome : CommandOutcome) → IsMoving (s.operator o) b x u.dest → DueFits (put_operator gone o (answer (s.operator o) outcome))
  end_command o outcome h = operator_fits gone o (answer (s.operator o) outcome) gone_fits
      (answered_asked (s.operator o) outcome (slice_get_within (s.operator o).script (length (s.operator o).answered) _ h.named))
      (λ q y t at g.
      let same : command.Send q y t.dest ≡ command.Send b x u.dest = cc (g.named, h.named) in
      let one : q ≡ b = cc (same) in
      let here : y ≡ x = cc (same) in
      absurd (none_there q y t at one here))

  begun_by : IsBegunBy s.operators s.operator b x u.dest u.by
  begun_by = subst (MoveFits s.operators s.operator b x) there (i.moves b x)

  pub aborted_due : (cause : AbortCause) → DueFits (after_abort s x b u cause)
  aborted_due cause = at u.by begun_by
    where
      at : (w : By) → IsBegunBy s.operators s.operator b x u.dest w → DueFits (after_abort s x b (record u { by = w }) cause)
      at (by.Command o) h = end_command o (Aborted cause) h.1
      at (by.Haul o) h = gone_fits

  pub moved_due : DueFits (after_end_move s x b u)
  moved_due = at u.by begun_by
    where
      at : (w : By) → IsBegunBy s.operators s.operator b x u.dest w → DueFits (after_end_move s x b (record u { by = w }))
      at (by.Command o) h = end_command o Moved h.1
      at (by.Haul o) h = operator_fits gone o _ gone_fits (i.operators o) (λ q y t at g. record { moving = g.moving; named = g.named })

-- ---- connections

pub deliver_due : (s t : State) (x y : ℕ) → DueFits s → deliver s x y ≡ Ok t → DueFits t
deliver_due s t x y i h = let p = can_deliver s t x y h in subst DueFits p.gives (at p.sent p.sent.message)
  where
    at : (m : link.Sent) (v : link.Message) → DueFits (after_deliver s x y m v)
    at m (link.Chunk b page) = let q = link.bucket_of m.message in still_fits s q _ _ i (taking_transfer (s.bucket q) x y m.message (received_at s x y b false))
    at m (link.Last b) = let q = link.bucket_of m.message in still_fits s q _ _ i (taking_transfer (s.bucket q) x y m.message (received_at s x y b true))
    at m (link.Stat b) = link_fits s _ i

pub hear_due : (s t : State) (x y : ℕ) → DueFits s → hear s x y ≡ Ok t → DueFits t
hear_due s t x y i h = let p = can_hear s t x y h in subst DueFits p.gives (at p.heard p.heard.bucket (s.link x y).epoch p.heard.reply _)
  where
    -- a transfer that hears goes on
    heard_fits : (b : ℕ) (v : Option Transfer) (rows : RowMap) (m : Heard) → MoveFits s.operators s.operator b x v → MoveFits s.operators s.operator b x (heard_by v rows y m)
    heard_fits b None rows m f = tt
    heard_fits b (Some u) rows m f = on (u.dest == y) (heard_phase u.phase m.sync m.reply (has_more rows u.phase))
      where
        on : (t : Bool) (phase : Phase) → MoveFits s.operators s.operator b x (Some (if t then in_phase u phase else u))
        on true phase = f
        on false phase = f

    at : (m : Heard) (b epoch : ℕ) (r : Reply) (ls : ℕ → ℕ → Connection) → DueFits (record s { bucket = put s.bucket b (bucket_hearing (s.bucket b) epoch x y m r); link = ls })
    at m b epoch (reply.State remote live) ls = still_fits s b _ _ i (recovered_transfer (s.bucket b) epoch x y m.sync remote live)
    at m b epoch reply.Took ls = transfer_fits s b x _ _ _ i refl (heard_fits b ((s.bucket b).transfer x) ((s.bucket b).rows x) m (i.moves b x))
    at m b epoch (reply.Not f) ls = transfer_fits s b x _ _ _ i refl (heard_fits b ((s.bucket b).transfer x) ((s.bucket b).rows x) m (i.moves b x))

pub close_due : (s t : State) (o : ℕ) → DueFits s → close s o ≡ Ok t → DueFits t
close_due s t o i h =
    let p = can_close s t o h in
    subst DueFits p.gives (answer_fits (record s { link = _ }) o Done (link_fits s _ i) (due connection_to_close (Some (p.x, p.y)) (s.operator o) (λ e. absurd cc) (λ b x d e. absurd cc) p.named))

-- ---- pins and rounds

pub pin_due : (s t : State) (o : ℕ) → DueFits s → pin s o ≡ Ok t → DueFits t
pin_due s t o i h =
    let p = can_pin s t o h in
    subst DueFits p.gives (at p.p (due pinning_of (Some p.p) (s.operator o) (λ e. absurd cc) (λ b x d e. absurd cc) p.named) (pinning_fault s p.p p.p.status))
  where
    at : (q : Pinning) → IsDue (s.operator o) → (f : Option CommandFault) → DueFits (after_pin s o q f)
    at q d (Some f) = answer_fits s o _ i d
    at q d None = answer_fits (record s { bucket = put s.bucket q.bucket _ }) o Done (still_fits s q.bucket _ s.link i refl) d

planned_asked : (o : Operator) (balanced : Bool) (routes : List Route) → IsDue o → IsAsked (planned o balanced routes)
planned_asked o true routes d = answered_asked o _ d.there
planned_asked o false routes d = at ((nat_lt 0 o.rounds && (o.moved == 0)) || is_null routes)
  where
    at : (t : Bool) → IsAsked (if t then answer o (Stuck o.rounds) else with_round o routes)
    at true = answered_asked o _ d.there
    at false = let lt = d.there in omega (arith, lt)

pub plan_due : (s t : State) (o : ℕ) → DueFits s → plan s o ≡ Ok t → DueFits t
plan_due s t o i h =
    let p = can_plan s t o h in
    at (due is_balance true (s.operator o) (λ e. absurd cc) (λ b x d e. absurd cc) p.balance) (least_to (λ x. not (s.up x)) (sets_of s)) p.gives
  where
    at : IsDue (s.operator o) → (down : Option ℕ) → plan_round s o down ≡ Ok t → DueFits t
    at d (Some x) g = subst DueFits (ok_is _ t g) (answer_fits s o _ i d)
    at d None g =
        let k = wants_none_ok (least_to (is_in_move s) s.config.bucket_count) reason.Moving _ t g in
        subst DueFits (ok_is _ t k.1) (operator_fits s o _ i (planned_asked (s.operator o) _ _ d) (λ b x u there m. absurd (d.still b x u.dest m)))
