-- What a change of one bucket leaves as it was: what calls hold, and what lies in the lines.
use Rattle.std.proofs.Common.{◌≡◌, ℕ, true, refl, List, get_or, Some}
use Rattle.std.specs.Prelude.{All}
use Rattle.std.proofs.lemmas.List.Elements.{All-weaker}
use Rattle.vs_base.specs.declared.numbers.Mode.{Mode}
use Rattle.vs_space.specs.declared.reply.Reply.{Reply}
use Rattle.vs_link.specs.Connection.{Connection, Message, bucket_of}
use Rattle.vs_link.specs.Connection as link
use Rattle.vs_link.specs.declared.message.Heard.{Heard}
use Rattle.vs_script.specs.Calls.{Call}
use Rattle.vs_machine.specs.Tables.{put}
use Rattle.vs_machine.specs.State.{Bucket, Client, next_call}
use Rattle.vs_machine.specs.Inner.Calls.{HoldFits, ClientFits, is_held_at}
use Rattle.vs_machine.specs.Inner.Lines.{MessageFits, ReplyFits, SentFits, HeardFits, LinkFits}
use Rattle.vs_machine.proofs.Frame.{put_each}

abbrev pub KeepsHolds : Bucket → Bucket → Type 0
KeepsHolds old new = (x posted : ℕ) (mode : Mode) → HoldFits old x mode posted → HoldFits new x mode posted

pub record KeepsLines (old new : Bucket) : Type 0 where
  pub calls : (e x y n : ℕ) (m : Message) → MessageFits e old x y n m → MessageFits e new x y n m
  pub replies : (e x y n : ℕ) (r : Reply) → ReplyFits e old x y n r → ReplyFits e new x y n r

-- a client keeps what its call holds, where the call is of another bucket or holds the same of the new one
pub client_kept_at : (bs : ℕ → Bucket) (b : ℕ) (new : Bucket) (c : Client)
    → ((k : Call) (x : ℕ) → next_call c ≡ Some k → k.bucket ≡ b → is_held_at c.present x ≡ true → HoldFits (bs b) x k.mode c.present.writes → HoldFits new x k.mode c.present.writes)
    → ClientFits bs c → ClientFits (put bs b new) c
client_kept_at bs b new c keeps fits k x called held =
    put_each (λ q (u : Bucket). k.bucket ≡ q → HoldFits (bs q) x k.mode c.present.writes → HoldFits u x k.mode c.present.writes) bs b new
    (λ is. keeps k x called is held) (λ q _ f. f) k.bucket refl (fits k x called held)

pub client_kept : (bs : ℕ → Bucket) (b : ℕ) (new : Bucket) (c : Client) → KeepsHolds (bs b) new → ClientFits bs c → ClientFits (put bs b new) c
client_kept bs b new c keeps = client_kept_at bs b new c (λ k x _ _ _. keeps x c.present.writes k.mode)

-- the messages of one line, each with what is known of it beside
pub calls_kept_at : (bs : ℕ → Bucket) (b : ℕ) (new : Bucket) (e x y : ℕ) (S : link.Sent → Type 0) (ms : List link.Sent)
    → ((m : link.Sent) → S m → MessageFits e (bs b) x y m.sync m.message → MessageFits e new x y m.sync m.message)
    → All S ms → All (SentFits e bs x y) ms → All (SentFits e (put bs b new) x y) ms
calls_kept_at bs b new e x y S ms keeps known fits k d lt =
    let m = get_or ms k d in
    put_each (λ q (u : Bucket). MessageFits e (bs q) x y m.sync m.message → MessageFits e u x y m.sync m.message) bs b new (keeps m (known k d lt)) (λ q f. f) (bucket_of m.message) (fits k d lt)

pub replies_kept_at : (bs : ℕ → Bucket) (b : ℕ) (new : Bucket) (e x y : ℕ) (S : Heard → Type 0) (rs : List Heard)
    → ((r : Heard) → S r → ReplyFits e (bs b) x y r.sync r.reply → ReplyFits e new x y r.sync r.reply)
    → All S rs → All (HeardFits e bs x y) rs → All (HeardFits e (put bs b new) x y) rs
replies_kept_at bs b new e x y S rs keeps known fits k d lt =
    let r = get_or rs k d in
    put_each (λ q (u : Bucket). ReplyFits e (bs q) x y r.sync r.reply → ReplyFits e u x y r.sync r.reply) bs b new (keeps r (known k d lt)) (λ q f. f) r.bucket (fits k d lt)

pub link_kept : (bs : ℕ → Bucket) (b : ℕ) (new : Bucket) (x y : ℕ) (l : Connection) → KeepsLines (bs b) new → LinkFits bs x y l → LinkFits (put bs b new) x y l
link_kept bs b new x y l keeps fits = record {
  calls = All-weaker _ _ (λ m. put_each (λ q (u : Bucket). MessageFits l.epoch (bs q) x y m.sync m.message → MessageFits l.epoch u x y m.sync m.message) bs b new (keeps.calls l.epoch x y m.sync m.message) (λ q f. f) (bucket_of m.message)) l.calls fits.calls;
  replies = All-weaker _ _ (λ r. put_each (λ q (u : Bucket). ReplyFits l.epoch (bs q) x y r.sync r.reply → ReplyFits l.epoch u x y r.sync r.reply) bs b new (keeps.replies l.epoch x y r.sync r.reply) (λ q f. f) r.bucket) l.replies fits.replies;
  distinct = fits.distinct;
  below = fits.below;
}
