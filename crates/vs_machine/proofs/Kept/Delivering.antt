-- A set takes the first message of a line, or doesn't, and its reply goes into the line of replies.
use Rattle.std.proofs.Common.{◌≡◌, ℕ, Ok, inl, inr, ◌<◌, Bool, true, false, refl, sym, ap, subst, ◌∙◌, arith, List, [], ◌∷◌, ◌++◌, Option, Some, None, Result, Err, append_assoc}
use Rattle.std.specs.Prelude.{◌≢◌, ◌==◌, if◌then◌else◌, All, map}
use Rattle.std.proofs.lemmas.Bool.{cases_eq}
use Rattle.std.proofs.lemmas.Bool.Decides.{nat_tests}
use Rattle.std.proofs.lemmas.List.Elements.{All-head, All-tail, All-push}
use Rattle.vs_rows.specs.RowMap.{RowMap}
use Rattle.vs_space.specs.declared.reply.Reply.{Reply}
use Rattle.vs_space.specs.declared.reply.Reply.TheVariants as reply
use Rattle.vs_space.specs.declared.reply.RecvFault.{RecvFault}
use Rattle.vs_space.specs.declared.status.Status.TheVariants.{Sending, Receiving}
use Rattle.vs_link.specs.Connection.{Connection, Message, Chunk, Last, Stat, bucket_of, first, rest}
use Rattle.vs_link.specs.Connection as link
use Rattle.vs_link.specs.declared.message.Heard.{Heard}
use Rattle.vs_recv.specs.declared.took.Took.{Took}
use Rattle.vs_send.specs.declared.transfer.Phase.TheVariants.{Waiting, WaitingLast}
use Rattle.vs_machine.specs.Tables.{put, put_at, is_to}
use Rattle.vs_machine.specs.State.{State, Bucket, sets_of, has_set, is_locked, put_link}
use Rattle.vs_script.specs.Lawful.{IsWithin}
use Rattle.vs_machine.specs.Kinds.Sender.{last_key}
use Rattle.vs_machine.specs.Kinds.Connections.{deliver, after_deliver, after_message, answered, received_at, receiving_at, status_at, with_page, with_last}
use Rattle.vs_machine.specs.Whole.{Inner}
use Rattle.vs_machine.specs.Inner.Owner.{Beside}
use Rattle.vs_machine.specs.Inner.Buckets.{BucketFits}
use Rattle.vs_machine.specs.Inner.Down.{IsStuck, IsWaiting}
use Rattle.vs_machine.specs.Inner.Lines.{MessageFits, ReplyFits, SentFits, HeardFits, LinkFits, IsIn, numbers, AreDistinct}
use Rattle.vs_machine.proofs.Frame.{put_each, put_here, put_pair, put_pair_others}
use Rattle.vs_machine.proofs.Keeping.{KeepsHolds, client_kept, calls_kept_at, replies_kept_at}
use Rattle.vs_machine.proofs.Numbers.{distinct_around, All-unmap, map-push}
use Rattle.vs_machine.proofs.Owners.{sending_owns, phase_of}
use Rattle.vs_machine.proofs.Can.Others.{can_deliver}
use Rattle.vs_machine.proofs.Kept.Taking.{data_taken, last_taken, paged_fits, paged_holds, paged_calls, paged_replies, paged_reply, one_wait, whole_fits, whole_holds, whole_calls, whole_replies}

pub first_is : {A : Type 0} (xs : List A) (x : A) → first xs ≡ Some x → xs ≡ x ∷ rest xs
first_is [] x e = absurd cc
first_is (y ∷ xs) x e = cc

-- the head of a line, and the set isn't its own other end
pub head_is : {A : Type 0} (t : Bool) (xs : List A) (x : A) → (if t then None else first xs) ≡ Some x → xs ≡ x ∷ rest xs
head_is true xs x e = absurd cc
head_is false xs x e = first_is xs x e

abbrev pub sync_of : link.Sent → ℕ
sync_of m = m.sync

abbrev pub heard_sync : Heard → ℕ
heard_sync r = r.sync

-- the numbers on a connection stay when its first message is answered
same_numbers : (l : Connection) (m : link.Sent) (r : Reply) → l.calls ≡ m ∷ rest l.calls → numbers (answered l m r) ≡ numbers l
same_numbers l m r is =
    let front = map heard_sync l.replies in
    let back = map sync_of (rest l.calls) in
    let h : Heard = record { sync = m.sync; bucket = bucket_of m.message; reply = r } in
    ap (λ ns. ns ++ back) (map-push heard_sync l.replies h) ∙ append_assoc front (m.sync ∷ []) back ∙ ap (λ ms. front ++ map sync_of ms) (sym is)

-- the numbers of the other messages and of the replies are others
others : (l : Connection) (m : link.Sent) → l.calls ≡ m ∷ rest l.calls → AreDistinct (numbers l) → All (λ u. sync_of u ≢ m.sync) (rest l.calls) × All (λ r. heard_sync r ≢ m.sync) l.replies
others l m is d =
    let around = distinct_around (map heard_sync l.replies) m.sync (map sync_of (rest l.calls)) (subst (λ ms. AreDistinct (map heard_sync l.replies ++ map sync_of ms)) is d) in
    (All-unmap (λ n. n ≢ m.sync) sync_of (rest l.calls) around.1, All-unmap (λ n. n ≢ m.sync) heard_sync l.replies around.0)

link_answered : (bs : ℕ → Bucket) (x y : ℕ) (l : Connection) (m : link.Sent) (r : Reply) → l.calls ≡ m ∷ rest l.calls
    → All (SentFits l.epoch bs x y) (rest l.calls) → All (HeardFits l.epoch bs x y) l.replies → ReplyFits l.epoch (bs (bucket_of m.message)) x y m.sync r
    → AreDistinct (numbers l) → All (λ n. n < l.next) (numbers l) → LinkFits bs x y (answered l m r)
link_answered bs x y l m r is calls replies fits distinct below = record {
  calls = calls;
  replies = All-push (HeardFits l.epoch bs x y) l.replies (record { sync = m.sync; bucket = bucket_of m.message; reply = r }) replies fits;
  distinct = subst AreDistinct (sym (same_numbers l m r is)) distinct;
  below = subst (All (λ n. n < l.next)) (sym (same_numbers l m r is)) below;
}

-- the message is the first of the line, and fits
pub head_fits : (bs : ℕ → Bucket) (x y : ℕ) (l : Connection) (m : link.Sent) → l.calls ≡ m ∷ rest l.calls → LinkFits bs x y l → SentFits l.epoch bs x y m × All (SentFits l.epoch bs x y) (rest l.calls)
head_fits bs x y l m is f =
    let all = subst (All (SentFits l.epoch bs x y)) is f.calls in
    (All-head (SentFits l.epoch bs x y) m (rest l.calls) all, All-tail (SentFits l.epoch bs x y) m (rest l.calls) all)

-- ---- a question is answered, and the bucket stays

stated_keeps : (own : ℕ → ℕ) (s : State) (x y : ℕ) (m : link.Sent) (r : Reply) → Inner own s → (s.link x y).calls ≡ m ∷ rest (s.link x y).calls
    → ReplyFits (s.link x y).epoch (s.bucket (bucket_of m.message)) x y m.sync r → Inner own (put_link s x y (answered (s.link x y) m r))
stated_keeps own s x y m r i is fits =
    let l = s.link x y in
    let f = i.links x y in
    let head = head_fits s.bucket x y l m is f in
    record {
      buckets = i.buckets;
      clients = i.clients;
      absent = i.absent;
      links = put_pair (LinkFits s.bucket) s.link x y _ (link_answered s.bucket x y l m r is head.1 f.replies fits f.distinct f.below) i.links;
      real = i.real;
      operators = i.operators;
    }

-- ---- the bucket changes, and every other message and reply still fits

message_keeps : (own : ℕ → ℕ) (s : State) (x y : ℕ) (m : link.Sent) (r : Reply) (new : Bucket) → Inner own s → (s.link x y).calls ≡ m ∷ rest (s.link x y).calls
    → BucketFits (sets_of s) (own (bucket_of m.message)) new → KeepsHolds (s.bucket (bucket_of m.message)) new
    → ((g z w k : ℕ) (u : Message) → (z ≡ x → w ≡ y → k ≢ m.sync) → MessageFits g (s.bucket (bucket_of m.message)) z w k u → MessageFits g new z w k u)
    → ((g z w k : ℕ) (u : Reply) → (z ≡ x → w ≡ y → k ≢ m.sync) → ReplyFits g (s.bucket (bucket_of m.message)) z w k u → ReplyFits g new z w k u)
    → ReplyFits (s.link x y).epoch new x y m.sync r
    → Inner own (record s { bucket = put s.bucket (bucket_of m.message) new; link = put_at s.link x y (answered (s.link x y) m r) })
message_keeps own s x y m r new i is fits holds calls replies fitting =
    let n = sets_of s in
    let b = bucket_of m.message in
    let l = s.link x y in
    let f = i.links x y in
    let next : ℕ → Bucket = put s.bucket b new in
    let other = others l m is f.distinct in
    let head = head_fits s.bucket x y l m is f in
    record {
      buckets = put_each (λ q. BucketFits n (own q)) s.bucket b new fits i.buckets;
      clients = λ c. client_kept s.bucket b new (s.client c) holds (i.clients c);
      absent = i.absent;
      links = put_pair_others (LinkFits next) s.link x y _
          (link_answered next x y l m r is
          (calls_kept_at s.bucket b new l.epoch x y (λ u. sync_of u ≢ m.sync) (rest l.calls) (λ u ne. calls l.epoch x y u.sync u.message (λ _ _. ne)) other.0 head.1)
          (replies_kept_at s.bucket b new l.epoch x y (λ u. heard_sync u ≢ m.sync) l.replies (λ u ne. replies l.epoch x y u.sync u.reply (λ _ _. ne)) other.1 f.replies)
          (subst (λ u. ReplyFits l.epoch u x y m.sync r) (sym (put_here s.bucket b new)) fitting) f.distinct f.below)
          (λ z w ne. let g = i.links z w in record {
            calls = calls_kept_at s.bucket b new (s.link z w).epoch z w (λ u. Unit {0}) (s.link z w).calls (λ u _. calls (s.link z w).epoch z w u.sync u.message (λ e h. absurd (ne e h))) (λ k d lt. tt) g.calls;
            replies = replies_kept_at s.bucket b new (s.link z w).epoch z w (λ u. Unit {0}) (s.link z w).replies (λ u _. replies (s.link z w).epoch z w u.sync u.reply (λ e h. absurd (ne e h))) (λ k d lt. tt) g.replies;
            distinct = g.distinct;
            below = g.below;
          });
      real = i.real;
      operators = i.operators;
    }

-- the set that takes the last message is the owner
pub last_owns : (n o : ℕ) (b : Bucket) (x y e t : ℕ) → BucketFits n o b → IsIn b.transfer x y (WaitingLast e t) → b.entry y ≡ Some (Receiving x) → y ≡ o
last_owns n o b x y e t f at from = elim (cases_eq y o) [
  | inl is ↦ is
  | inr ne ↦
      let g = subst (Beside o (b.entry o) y) from (f.placed.beside y ne) in
      absurd (cc (ap b.entry g.0, phase_of n o b x y (WaitingLast e t) f at, g.1))
]

pub within_of : (n k : ℕ) → is_to n k ≡ true → IsWithin n k
within_of n k h = (grind (arith, nat_tests, h), grind (arith, nat_tests, h))

-- ---- rows

rows_delivered : (own : ℕ → ℕ) (s : State) (x y k b : ℕ) (page : RowMap) (r : Result Took RecvFault) → Inner own s → has_set s x ≡ true
    → (s.link x y).calls ≡ (record { sync = k; message = Chunk b page }) ∷ rest (s.link x y).calls → received_at s x y b false ≡ r → Inner own (after_message s x y (record { sync = k; message = Chunk b page }) r)
rows_delivered own s x y k b page (Err fault) i known is e =
    let m : link.Sent = record { sync = k; message = Chunk b page } in
    let head = (head_fits s.bucket x y (s.link x y) m is (i.links x y)).0 in
    message_keeps own s x y m (reply.Not fault) (s.bucket b) i is (i.buckets b) (λ z posted mode h. h) (λ g z w t u _ h. h) (λ g z w t u _ h. h) (inr (record { key = last_key page; waits = head.0 }))
rows_delivered own s x y k b page (Ok took) i known is e =
    let m : link.Sent = record { sync = k; message = Chunk b page } in
    let n = sets_of s in
    let old = s.bucket b in
    let ep = (s.link x y).epoch in
    let head = (head_fits s.bucket x y (s.link x y) m is (i.links x y)).0 in
    let sends : old.entry x ≡ Some (Sending y) = phase_of n (own b) old x y (Waiting ep k (last_key page)) (i.buckets b) head.0 in
    let owner : own b ≡ x = sym (sending_owns (own b) old.entry x y (i.buckets b).placed sends) in
    let f : BucketFits n x old = subst (λ o. BucketFits n o old) owner (i.buckets b) in
    let apart : y ≢ x = subst (λ d. d ≢ x) head.0.to (f.transfers x head.0.it head.0.there).apart in
    let within = within_of n x known in
    let free = data_taken (old.entry y) (is_locked s y) (receiving_at s y) s.config.max_receiving x took e in
    let new : Bucket = with_page old x y page in
    let stuck : IsStuck (old.transfer x) = subst IsStuck (sym head.0.there) (subst IsWaiting (sym head.0.phase_is) tt) in
    let other : (g z w t : ℕ) → (z ≡ x → w ≡ y → t ≢ k) → (l : Option (List ℕ)) → IsIn old.transfer z w (Waiting g t l) → ⊥ =
    λ g z w t ne l h. let one = one_wait n x old y ep k (last_key page) f head.0 z w g t l h in ne one.0 (sym one.1) (sym one.2) in
    message_keeps own s x y m reply.Took new i is (subst (λ o. BucketFits n o new) (sym owner) (paged_fits n old x y page f sends apart within free stuck))
    (paged_holds n old x y page f sends apart within free stuck)
    (λ g z w t v ne. paged_calls n old x y page f sends apart within free stuck g z w t v (other g z w t ne))
    (λ g z w t v ne. paged_replies n old x y page f sends apart within free stuck g z w t v (other g z w t ne))
    (paged_reply n old x y page f sends apart within free stuck ep k head.0 head.1)

last_delivered : (own : ℕ → ℕ) (s : State) (x y k b : ℕ) (r : Result Took RecvFault) → Inner own s
    → (s.link x y).calls ≡ (record { sync = k; message = Last b }) ∷ rest (s.link x y).calls → received_at s x y b true ≡ r → Inner own (after_message s x y (record { sync = k; message = Last b }) r)
last_delivered own s x y k b (Err fault) i is e =
    let m : link.Sent = record { sync = k; message = Last b } in
    let head = (head_fits s.bucket x y (s.link x y) m is (i.links x y)).0 in
    message_keeps own s x y m (reply.Not fault) (s.bucket b) i is (i.buckets b) (λ z posted mode h. h) (λ g z w t u _ h. h) (λ g z w t u _ h. h) (inl head)
last_delivered own s x y k b (Ok took) i is e =
    let m : link.Sent = record { sync = k; message = Last b } in
    let n = sets_of s in
    let old = s.bucket b in
    let ep = (s.link x y).epoch in
    let head = (head_fits s.bucket x y (s.link x y) m is (i.links x y)).0 in
    let from = last_taken (old.entry y) (is_locked s y) (receiving_at s y) s.config.max_receiving x took e in
    let owner : own b ≡ y = sym (last_owns n (own b) old x y ep k (i.buckets b) head from) in
    let f : BucketFits n y old = subst (λ o. BucketFits n o old) owner (i.buckets b) in
    let new : Bucket = with_last old y in
    message_keeps own s x y m reply.Took new i is (subst (λ o. BucketFits n o new) (sym owner) (whole_fits n old x y f from)) (whole_holds n old x y f from)
    (λ g z w t v _. whole_calls n old x y f from g z w t v) (λ g z w t v _. whole_replies n old x y f from g z w t v) (inl head)

pub deliver_keeps : (own : ℕ → ℕ) (s t : State) (x y : ℕ) → Inner own s → deliver s x y ≡ Ok t → Inner own t
deliver_keeps own s t x y i e =
    let p = can_deliver s t x y e in
    subst (Inner own) p.gives (by_message p.sent.sync p.sent.message (head_is (x == y) (s.link x y).calls p.sent p.head) p.from)
  where
    by_message : (k : ℕ) (m : Message) → (s.link x y).calls ≡ (record { sync = k; message = m }) ∷ rest (s.link x y).calls → has_set s x ≡ true → Inner own (after_deliver s x y (record { sync = k; message = m }) m)
    by_message k (Chunk b page) is known = rows_delivered own s x y k b page (received_at s x y b false) i known is refl
    by_message k (Last b) is known = last_delivered own s x y k b (received_at s x y b true) i is refl
    by_message k (Stat b) is known = stated_keeps own s x y (record { sync = k; message = Stat b }) (status_at (s.bucket b) y) i is tt
