-- A message is answered, a reply is heard, a connection is closed, and a question is sent.
use Rattle.std.proofs.Common.{◌≡◌, ℕ, Ok, Err, inl, inr, Bool, true, false, refl, sym, subst, ◌∷◌, Option, Some, None, Result}
use Rattle.std.specs.Prelude.{◌==◌, if◌then◌else◌}
use Rattle.std.proofs.lemmas.Bool.{eqb-false}
use Rattle.vs_rows.specs.RowMap.{RowMap}
use Rattle.vs_space.specs.declared.reply.Reply.{Reply}
use Rattle.vs_space.specs.declared.reply.Reply.TheVariants as reply
use Rattle.vs_space.specs.declared.reply.RecvFault.{RecvFault}
use Rattle.vs_link.specs.Connection.{Connection, Message, Chunk, Last, Stat, bucket_of, rest, with_message, without_reply, closed}
use Rattle.vs_link.specs.Connection as link
use Rattle.vs_link.specs.declared.message.Heard.{Heard}
use Rattle.vs_recv.specs.declared.took.Took.{Took}
use Rattle.vs_send.specs.Phases.{is_of_transfer, waits_for, replied_phase, heard_phase}
use Rattle.vs_send.specs.declared.transfer.Phase.{Phase}
use Rattle.vs_send.specs.declared.transfer.Phase.TheVariants.{Draining, Ready, Waiting, Copied, Sealed, WaitingLast, Refused, Done}
use Rattle.vs_send.specs.declared.transfer.Transfer.{Transfer}
use Rattle.vs_machine.specs.State.{State, Bucket, with_transfer, with_ask}
use Rattle.vs_machine.specs.Tables.{put, put_at}
use Rattle.vs_machine.specs.Kinds.Sender.{in_phase}
use Rattle.vs_machine.specs.Kinds.Connections.{deliver, after_deliver, after_message, answered, received_at, bucket_taking, reply_of, status_at, hear, after_hear, heard_by, has_more, recovered, close}
use Rattle.vs_machine.specs.Kinds.Recovery.{ask}
use Rattle.vs_machine.proofs.Frame.{put_others, put_split}
use Rattle.vs_machine.proofs.Leaves.{taking_transfer, recovered_transfer}
use Rattle.vs_machine.proofs.Can.Others.{can_deliver, can_hear, can_close, can_ask}
use Rattle.vs_machine.proofs.Kept.Delivering.{head_is}
use Rattle.vs_machine.proofs.Waits.Staying.{Waits, Stable, IsStill, IsAnswer, IsOther}
use Rattle.vs_machine.proofs.Waits.Frame.{HoldsIn, pair_waits, link_waits, same_waits}

-- a set takes rows or the last message, or it doesn't
paged_answer : (b : ℕ) (page : RowMap) (r : Result Took RecvFault) → IsAnswer (Chunk b page) (reply_of r)
paged_answer b page (Ok took) = tt
paged_answer b page (Err fault) = tt

last_answer : (b : ℕ) (r : Result Took RecvFault) → IsAnswer (Last b) (reply_of r)
last_answer b (Ok took) = tt
last_answer b (Err fault) = tt

-- once the reply that was waited for is heard, no reply is waited for
replied_still : (p : Phase) (n : ℕ) (r : Reply) (more : Bool) → is_of_transfer r ≡ true → waits_for p n ≡ true → IsStill (replied_phase p r more)
replied_still p n (reply.Not f) more turn h = tt
replied_still p n (reply.State st live) more turn h = absurd (cc turn)
replied_still (Waiting e m key) n reply.Took true turn h = tt
replied_still (Waiting e m key) n reply.Took false turn h = tt
replied_still (WaitingLast e m) n reply.Took more turn h = tt
replied_still (Draining m) n reply.Took more turn h = absurd (cc h)
replied_still (Ready key) n reply.Took more turn h = absurd (cc h)
replied_still Copied n reply.Took more turn h = absurd (cc h)
replied_still Sealed n reply.Took more turn h = absurd (cc h)
replied_still (Refused f) n reply.Took more turn h = absurd (cc h)
replied_still Done n reply.Took more turn h = absurd (cc h)

module _ (P : Connection → ℕ → Phase → Type 0) (k : Stable P) where
  pub deliver_waits : (s t : State) (x y : ℕ) → HoldsIn P s → deliver s x y ≡ Ok t → HoldsIn P t
  deliver_waits s t x y w e =
      let p = can_deliver s t x y e in
      subst (HoldsIn P) p.gives (by p.sent.sync p.sent.message (head_is (x == y) (s.link x y).calls p.sent p.head))
    where
      answers : (m : link.Sent) (r : Reply) → (s.link x y).calls ≡ m ∷ rest (s.link x y).calls → IsAnswer m.message r → Waits P s.bucket (put_at s.link x y (answered (s.link x y) m r))
      answers m r is answer = link_waits P s.bucket s.link x y (answered (s.link x y) m r) (λ q p. k.answers (s.link x y) q p m r is answer) w

      taken : (m : link.Sent) (r : Result Took RecvFault) → (s.link x y).calls ≡ m ∷ rest (s.link x y).calls → IsAnswer m.message (reply_of r) → HoldsIn P (after_message s x y m r)
      taken m r is answer =
          let b = bucket_of m.message in
          same_waits P s.bucket (put_at s.link x y (answered (s.link x y) m (reply_of r))) b (bucket_taking (s.bucket b) x y m.message r) (taking_transfer (s.bucket b) x y m.message r) (answers m (reply_of r) is answer)

      by : (n : ℕ) (m : Message) → (s.link x y).calls ≡ (record { sync = n; message = m }) ∷ rest (s.link x y).calls → HoldsIn P (after_deliver s x y (record { sync = n; message = m }) m)
      by n (Chunk b page) is = taken (record { sync = n; message = Chunk b page }) (received_at s x y b false) is (paged_answer b page (received_at s x y b false))
      by n (Last b) is = taken (record { sync = n; message = Last b }) (received_at s x y b true) is (last_answer b (received_at s x y b true))
      by n (Stat b) is = answers (record { sync = n; message = Stat b }) (status_at (s.bucket b) y) is tt

  -- the first reply is gone, and each transfer that stays waits for another, or waits no more
  module _ (s : State) (x y : ℕ) (heard : Heard) (is : (s.link x y).replies ≡ heard ∷ rest (s.link x y).replies) (w : HoldsIn P s) where
    abbrev next_link : ℕ → ℕ → Connection
    next_link = put_at s.link x y (without_reply (s.link x y))

    -- a transfer that stays
    stays : (q z : ℕ) (t : Transfer) → (s.bucket q).transfer z ≡ Some t → (z ≡ x → t.dest ≡ y → IsOther q t.phase heard) → P (next_link z t.dest) q t.phase
    stays q z t there other = pair_waits P s.link x y (without_reply (s.link x y)) q t.phase z t.dest (λ a c. k.heard (s.link x y) q t.phase heard is (other a c)) (w q z t there)

    -- the transfer that the reply may be for
    goes_on : is_of_transfer heard.reply ≡ true → (o : Option Transfer) (rows : RowMap) → (s.bucket heard.bucket).transfer x ≡ o → (t : Transfer) → heard_by o rows y heard ≡ Some t → P (next_link x t.dest) heard.bucket t.phase
    goes_on turn None rows there t h = absurd cc
    goes_on turn (Some u) rows there t h = by (u.dest == y) refl h
      where
        more : Bool
        more = has_more rows u.phase

        by_wait : (a : Bool) → waits_for u.phase heard.sync ≡ a → P (next_link x u.dest) heard.bucket (if a then replied_phase u.phase heard.reply more else u.phase)
        by_wait true at = k.still _ _ _ (replied_still u.phase heard.sync heard.reply more turn at)
        by_wait false at = stays heard.bucket x u there (λ _ _ _ _. at)

        by : (a : Bool) → (u.dest == y) ≡ a → Some (if a then in_phase u (heard_phase u.phase heard.sync heard.reply more) else u) ≡ Some t → P (next_link x t.dest) heard.bucket t.phase
        by true at e =
            let same : in_phase u (heard_phase u.phase heard.sync heard.reply more) ≡ t = cc in
            subst (λ (q : Transfer). P (next_link x q.dest) heard.bucket q.phase) same (by_wait (waits_for u.phase heard.sync) refl)
        by false at e =
            let same : u ≡ t = cc in
            subst (λ (q : Transfer). P (next_link x q.dest) heard.bucket q.phase) same (stays heard.bucket x u there (λ _ to. absurd (eqb-false u.dest y at to)))

    -- a reply for a transfer
    turned : is_of_transfer heard.reply ≡ true
        → Waits P (put s.bucket heard.bucket (with_transfer (s.bucket heard.bucket) x (heard_by ((s.bucket heard.bucket).transfer x) ((s.bucket heard.bucket).rows x) y heard))) next_link
    turned turn =
        let old = s.bucket heard.bucket in
        let v = heard_by (old.transfer x) (old.rows x) y heard in
        put_others (λ q (u : Bucket). (z : ℕ) (t : Transfer) → u.transfer z ≡ Some t → P (next_link z t.dest) q t.phase) s.bucket heard.bucket (with_transfer old x v)
        (λ z t h. elim (put_split old.transfer x v z (Some t) h) [
          | inl e ↦ subst (λ q. P (next_link q t.dest) heard.bucket t.phase) (sym e.0) (goes_on turn (old.transfer x) (old.rows x) refl t e.1)
          | inr e ↦ stays heard.bucket z t e.1 (λ here. absurd (e.0 here))
        ])
        (λ q ne z t h. stays q z t h (λ _ _ _ here. absurd (ne (sym here))))

    -- any other reply
    told : is_of_transfer heard.reply ≡ false → Waits P s.bucket next_link
    told about q z t h = stays q z t h (λ _ _ turn. absurd (cc (turn, about)))

  pub hear_waits : (s t : State) (x y : ℕ) → HoldsIn P s → hear s x y ≡ Ok t → HoldsIn P t
  hear_waits s t x y w e =
      let p = can_hear s t x y e in
      subst (HoldsIn P) p.gives (by p.heard.sync p.heard.bucket p.heard.reply (head_is (x == y) (s.link x y).replies p.heard p.head))
    where
      by : (n q : ℕ) (r : Reply) → (s.link x y).replies ≡ (record { sync = n; bucket = q; reply = r }) ∷ rest (s.link x y).replies → HoldsIn P (after_hear s x y (record { sync = n; bucket = q; reply = r }))
      by n q reply.Took is = turned s x y (record { sync = n; bucket = q; reply = reply.Took }) is w refl
      by n q (reply.Not f) is = turned s x y (record { sync = n; bucket = q; reply = reply.Not f }) is w refl
      by n q (reply.State st live) is =
          let heard : Heard = record { sync = n; bucket = q; reply = reply.State st live } in
          let l = s.link x y in
          same_waits P s.bucket (put_at s.link x y (without_reply l)) q (recovered (s.bucket q) l.epoch x y n st live) (recovered_transfer (s.bucket q) l.epoch x y n st live) (told s x y heard is w refl)

  pub close_waits : (s t : State) (o : ℕ) → HoldsIn P s → close s o ≡ Ok t → HoldsIn P t
  close_waits s t o w e =
      let p = can_close s t o e in
      let l = s.link p.x p.y in
      subst (HoldsIn P) p.gives (link_waits P s.bucket s.link p.x p.y (closed l) (k.cut l) w)

  pub ask_waits : (s t : State) (x b : ℕ) → HoldsIn P s → ask s x b ≡ Ok t → HoldsIn P t
  ask_waits s t x b w e =
      let p = can_ask s t x b e in
      let l = s.link x p.y in
      let ls = put_at s.link x p.y (with_message l (Stat b)) in
      subst (HoldsIn P) p.gives (same_waits P s.bucket ls b (with_ask (s.bucket b) x (Some (record { epoch = l.epoch; sync = l.next }))) refl
      (link_waits P s.bucket s.link x p.y (with_message l (Stat b)) (λ q p. k.sent l q p (Stat b)) w))
