-- What lies in the lines of a connection.
use Rattle.std.specs.Prelude.{◌≡◌, ◌≢◌, ℕ, ◌<◌, ◌⊎◌, List, [], ◌∷◌, ◌++◌, map, All, Contains, Option, Some}
use Rattle.vs_rows.specs.RowMap.{RowMap}
use Rattle.vs_space.specs.declared.reply.Reply.{Reply}
use Rattle.vs_space.specs.declared.reply.Reply.TheVariants as reply
use Rattle.vs_space.specs.declared.reply.RecvFault.{RecvFault}
use Rattle.vs_link.specs.Connection.{Connection, Sent, Message, Chunk, Last, Stat, bucket_of}
use Rattle.vs_link.specs.declared.message.Heard.{Heard}
use Rattle.vs_send.specs.declared.transfer.Phase.{Phase}
use Rattle.vs_send.specs.declared.transfer.Phase.TheVariants.{Waiting, WaitingLast}
use Rattle.vs_send.specs.declared.transfer.Transfer.{Transfer}
use Rattle.vs_machine.specs.State.{Bucket}
use Rattle.vs_machine.specs.Kinds.Sender.{last_key}
use Rattle.vs_machine.specs.Inner.Copying.{IsNext, HasReceived}

-- the transfer from x to y is in this phase
pub record IsIn (transfer : ℕ → Option Transfer) (x y : ℕ) (phase : Phase) : Type 0 where
  pub it : Transfer
  pub there : transfer x ≡ Some it
  pub to : it.dest ≡ y
  pub phase_is : it.phase ≡ phase

-- a message in the line from x to y, whose epoch is e, is the one that the transfer waits for
abbrev pub MessageFits : ℕ → Bucket → ℕ → ℕ → ℕ → Message → Type 0
MessageFits e b x y n (Chunk _ page) = IsIn b.transfer x y (Waiting e n (last_key page)) × IsNext b.entry b.rows x y page
MessageFits e b x y n (Last _) = IsIn b.transfer x y (WaitingLast e n)
MessageFits e b x y n (Stat _) = Unit {0}

abbrev pub SentFits : ℕ → (ℕ → Bucket) → ℕ → ℕ → Sent → Type 0
SentFits e bs x y sent = MessageFits e (bs (bucket_of sent.message)) x y sent.sync sent.message

-- rows were taken up to the key that the transfer waits for
pub record IsTaken (e : ℕ) (b : Bucket) (x y n : ℕ) : Type 0 where
  pub key : Option (List ℕ)
  pub waits : IsIn b.transfer x y (Waiting e n key)
  pub received : HasReceived b.entry b.rows x y key

pub record IsRefused (e : ℕ) (b : Bucket) (x y n : ℕ) : Type 0 where
  pub key : Option (List ℕ)
  pub waits : IsIn b.transfer x y (Waiting e n key)

-- a reply in the line is for the message that the transfer waits for
abbrev pub ReplyFits : ℕ → Bucket → ℕ → ℕ → ℕ → Reply → Type 0
ReplyFits e b x y n reply.Took = IsIn b.transfer x y (WaitingLast e n) ⊎ IsTaken e b x y n
ReplyFits e b x y n (reply.Not f) = IsIn b.transfer x y (WaitingLast e n) ⊎ IsRefused e b x y n
ReplyFits e b x y n (reply.State st live) = Unit {0}

abbrev pub HeardFits : ℕ → (ℕ → Bucket) → ℕ → ℕ → Heard → Type 0
HeardFits e bs x y heard = ReplyFits e (bs heard.bucket) x y heard.sync heard.reply

-- the numbers on a connection, those answered first
abbrev pub numbers : Connection → List ℕ
numbers l = map (λ h. h.sync) l.replies ++ map (λ s. s.sync) l.calls

abbrev pub AreDistinct : List ℕ → Type 0
AreDistinct [] = Unit {0}
AreDistinct (n ∷ ns) = All (λ m. m ≢ n) ns × AreDistinct ns

pub record LinkFits (bs : ℕ → Bucket) (x y : ℕ) (l : Connection) : Type 0 where
  pub calls : All (SentFits l.epoch bs x y) l.calls
  pub replies : All (HeardFits l.epoch bs x y) l.replies
  pub distinct : AreDistinct (numbers l)
  pub below : All (λ n. n < l.next) (numbers l)

-- ---- what a transfer waits for is under way

abbrev pub IsSentIn : Connection → ℕ → Message → Type 0
IsSentIn l n m = Contains l.calls (record { sync = n; message = m })

abbrev pub IsAnsweredIn : Connection → ℕ → ℕ → Reply → Type 0
IsAnsweredIn l n b r = Contains l.replies (record { sync = n; bucket = b; reply = r })

-- the rows are in the line of calls, or the answer to them is in the line of replies
abbrev pub IsPageUnderWay : Connection → ℕ → ℕ → Type 0
IsPageUnderWay l n b =
    ((page : RowMap) × IsSentIn l n (Chunk b page)) ⊎ (IsAnsweredIn l n b reply.Took ⊎ ((f : RecvFault) × IsAnsweredIn l n b (reply.Not f)))

abbrev pub IsLastUnderWay : Connection → ℕ → ℕ → Type 0
IsLastUnderWay l n b = IsSentIn l n (Last b) ⊎ (IsAnsweredIn l n b reply.Took ⊎ ((f : RecvFault) × IsAnsweredIn l n b (reply.Not f)))

abbrev pub WaitFits : Connection → ℕ → Phase → Type 0
WaitFits l b (Waiting e n k) = e ≡ l.epoch → IsPageUnderWay l n b
WaitFits l b (WaitingLast e n) = e ≡ l.epoch → IsLastUnderWay l n b
WaitFits l b phase = Unit {0}

abbrev pub WaitsFit : (ℕ → Bucket) → (ℕ → ℕ → Connection) → Type 0
WaitsFit bs ls = (b x : ℕ) (t : Transfer) → (bs b).transfer x ≡ Some t → WaitFits (ls x t.dest) b t.phase
