-- A transfer begins, goes on, sends a message or is gone.
use Rattle.std.proofs.Common.{◌≡◌, ℕ, Ok, ◌+◌, sym, refl, subst, Option, Some, None}
use Rattle.vs_history.specs.History.{write_count}
use Rattle.vs_link.specs.Connection.{Connection, Message, with_message}
use Rattle.vs_link.specs.Connection as link
use Rattle.vs_space.specs.declared.status.Status.TheVariants.{Sending, Sent}
use Rattle.vs_send.specs.declared.transfer.By.TheVariants as by_what
use Rattle.vs_send.specs.declared.transfer.Phase.{Phase}
use Rattle.vs_send.specs.declared.transfer.Phase.TheVariants.{Draining, Ready, Waiting, Sealed, WaitingLast}
use Rattle.vs_send.specs.declared.transfer.Transfer.{Transfer}
use Rattle.vs_machine.specs.declared.outcome.CommandFault.{CommandFault}
use Rattle.vs_machine.specs.State.{State, Bucket, with_transfer}
use Rattle.vs_machine.specs.Tables.{put, put_at}
use Rattle.vs_machine.specs.Kinds.Faults.{send_fault}
use Rattle.vs_machine.specs.Kinds.Rebalancing.{haul, after_haul, bucket_to_haul}
use Rattle.vs_machine.specs.Kinds.Sender.{Move, in_phase, last_key, next_page, with_begun, start, after_start, not_yet, freeze, chunk, seal, last, abort, end_move}
use Rattle.vs_machine.proofs.Can.Others.{can_haul}
use Rattle.vs_machine.proofs.Can.Sender.{can_start, can_wait, can_freeze, can_chunk, can_seal, can_last, can_abort, can_end_move}
use Rattle.vs_machine.proofs.Waits.Staying.{Waits, Stable}
use Rattle.vs_machine.proofs.Waits.Frame.{HoldsIn, pair_here, link_waits, moved_waits, gone_waits, still_waits}

module _ (P : Connection → ℕ → Phase → Type 0) (k : Stable P) where
  pub start_waits : (s t : State) (o : ℕ) → HoldsIn P s → start s o ≡ Ok t → HoldsIn P t
  start_waits s t o w e =
      let p = can_start s t o e in
      subst (HoldsIn P) p.gives (by p.m (send_fault s p.m.bucket p.m.from p.m.to))
    where
      by : (m : Move) (f : Option CommandFault) → HoldsIn P (after_start s o m f)
      by m (Some f) = w
      by m None =
          let u : Transfer = record { dest = m.to; by = by_what.Command o; phase = Draining 0 } in
          still_waits P k s.bucket s.link m.bucket m.from u (with_begun (s.bucket m.bucket) m.from m.to (by_what.Command o)) refl tt w

  pub haul_waits : (s t : State) (o x d : ℕ) → HoldsIn P s → haul s o x d ≡ Ok t → HoldsIn P t
  haul_waits s t o x d w e = subst (HoldsIn P) (can_haul s t o x d e).gives (by (bucket_to_haul s x d))
    where
      by : (v : Option ℕ) → HoldsIn P (after_haul s o x d v)
      by None = w
      by (Some b) =
          let u : Transfer = record { dest = d; by = by_what.Haul o; phase = Draining 0 } in
          still_waits P k s.bucket s.link b x u (with_begun (s.bucket b) x d (by_what.Haul o)) refl tt w

  pub not_yet_waits : (s t : State) (x b : ℕ) → HoldsIn P s → not_yet s x b ≡ Ok t → HoldsIn P t
  not_yet_waits s t x b w e =
      let p = can_wait s t x b e in
      let u : Transfer = in_phase p.u (Draining (p.turns + 1)) in
      subst (HoldsIn P) p.gives (still_waits P k s.bucket s.link b x u (with_transfer (s.bucket b) x (Some u)) refl tt w)

  pub freeze_waits : (s t : State) (x b : ℕ) → HoldsIn P s → freeze s x b ≡ Ok t → HoldsIn P t
  freeze_waits s t x b w e =
      let p = can_freeze s t x b e in
      let old = s.bucket b in
      let u : Transfer = in_phase p.u (Ready None) in
      let new : Bucket = record old { entry = put old.entry x (Some (Sending p.u.dest)); transfer = put old.transfer x (Some u) } in
      subst (HoldsIn P) p.gives (still_waits P k s.bucket s.link b x u new refl tt w)

  pub seal_waits : (s t : State) (x b : ℕ) → HoldsIn P s → seal s x b ≡ Ok t → HoldsIn P t
  seal_waits s t x b w e =
      let p = can_seal s t x b e in
      let old = s.bucket b in
      let u : Transfer = in_phase p.u Sealed in
      let new : Bucket = record old { entry = put old.entry x (Some (Sent p.u.dest)); kept = put old.kept x (write_count old.history); transfer = put old.transfer x (Some u) } in
      subst (HoldsIn P) p.gives (still_waits P k s.bucket s.link b x u new refl tt w)

  -- a message goes into the line, and the transfer waits for its answer
  sends : (s : State) (x b : ℕ) (u : Transfer) (m : Message) → P (with_message (s.link x u.dest) m) b u.phase → HoldsIn P s
      → Waits P (put s.bucket b (with_transfer (s.bucket b) x (Some u))) (put_at s.link x u.dest (with_message (s.link x u.dest) m))
  sends s x b u m fits w =
      let l = s.link x u.dest in
      let ls = put_at s.link x u.dest (with_message l m) in
      moved_waits P s.bucket ls b x (Some u) (with_transfer (s.bucket b) x (Some u)) refl
      (λ t e. let same : u ≡ t = cc in subst (λ (q : Transfer). P (ls x q.dest) b q.phase) same (subst (λ (c : Connection). P c b u.phase) (sym (pair_here s.link x u.dest (with_message l m))) fits))
      (link_waits P s.bucket s.link x u.dest (with_message l m) (λ q p. k.sent l q p m) w)

  pub chunk_waits : (s t : State) (x b : ℕ) → HoldsIn P s → chunk s x b ≡ Ok t → HoldsIn P t
  chunk_waits s t x b w e =
      let p = can_chunk s t x b e in
      let l = s.link x p.u.dest in
      let page = next_page ((s.bucket b).rows x) p.key in
      subst (HoldsIn P) p.gives (sends s x b (in_phase p.u (Waiting l.epoch l.next (last_key page))) (link.Chunk b page) (k.paged l b page (last_key page)) w)

  pub last_waits : (s t : State) (x b : ℕ) → HoldsIn P s → last s x b ≡ Ok t → HoldsIn P t
  last_waits s t x b w e =
      let p = can_last s t x b e in
      let l = s.link x p.u.dest in
      subst (HoldsIn P) p.gives (sends s x b (in_phase p.u (WaitingLast l.epoch l.next)) (link.Last b) (k.ended l b) w)

  pub abort_waits : (s t : State) (x b : ℕ) → HoldsIn P s → abort s x b ≡ Ok t → HoldsIn P t
  abort_waits s t x b w e = subst (HoldsIn P) (can_abort s t x b e).gives (gone_waits P s.bucket s.link b x (with_transfer (s.bucket b) x None) refl w)

  pub end_move_waits : (s t : State) (x b : ℕ) → HoldsIn P s → end_move s x b ≡ Ok t → HoldsIn P t
  end_move_waits s t x b w e = subst (HoldsIn P) (can_end_move s t x b e).gives (gone_waits P s.bucket s.link b x (with_transfer (s.bucket b) x None) refl w)
