-- Asks, and the answers that are under way to them.
use Rattle.std.specs.Prelude.{◌≡◌, ◌≢◌, ℕ, ◌≤◌, ◌⊎◌, Bool, true, false, All, Option, Some, None}
use Rattle.vs_space.specs.declared.status.Status.{Status}
use Rattle.vs_space.specs.declared.status.Status.TheVariants.{Active, Pinned, Sending, Receiving}
use Rattle.vs_space.specs.declared.reply.Reply.{Reply}
use Rattle.vs_space.specs.declared.reply.Reply.TheVariants as reply
use Rattle.vs_link.specs.Connection.{Connection, Stat}
use Rattle.vs_link.specs.declared.message.Heard.{Heard}
use Rattle.vs_recover.specs.declared.decision.Decision.{Decision}
use Rattle.vs_recover.specs.declared.decision.Decision.TheVariants.{Stay, ToActive, ToGarbage}
use Rattle.vs_send.specs.declared.transfer.Transfer.{Transfer}
use Rattle.vs_machine.specs.State.{Bucket, Ask}
use Rattle.vs_machine.specs.Coherence.{IsAway}
use Rattle.vs_machine.specs.Kinds.Connections.{asked_set}
use Rattle.vs_machine.specs.Inner.Lines.{IsSentIn, IsAnsweredIn}

-- an ask, live or not, stands at an entry that is receiving, or sending without a transfer
abbrev pub AskFits : Option Status → Option Transfer → Type 0
AskFits (Some (Sending d)) t = t ≡ None
AskFits (Some (Receiving x)) t = Unit {0}
AskFits entry t = ⊥

-- what is known where x is receiving, and y answered this: o is the owner
abbrev pub IsFound : ℕ → (ℕ → Option Status) → (ℕ → Option Transfer) → ℕ → ℕ → Option Status → Bool → Type 0
IsFound o has moves x y (Some (Sending d)) true = Unit {0}
IsFound o has moves x y (Some (Sending d)) false = (has y ≡ Some (Sending x)) × (moves y ≡ None)
IsFound o has moves x y (Some (Receiving d)) live = Unit {0}
IsFound o has moves x y (Some Active) live = ⊥
IsFound o has moves x y (Some Pinned) live = ⊥
IsFound o has moves x y entry live = o ≡ x

-- what is known where x has this entry, and y's answer is under way to it
abbrev pub AnswerFits : ℕ → (ℕ → Option Status) → (ℕ → Option Transfer) → ℕ → ℕ → Option Status → Option Status → Bool → Type 0
AnswerFits o has moves x y (Some (Sending d)) st live = IsAway st → has y ≢ Some (Receiving x)
AnswerFits o has moves x y (Some (Receiving d)) st live = IsFound o has moves x y st live
AnswerFits o has moves x y entry st live = Unit {0}

-- where x may take this decision, which y's answer made
abbrev pub DecisionFits : ℕ → (ℕ → Option Status) → (ℕ → Option Transfer) → ℕ → ℕ → Decision → Type 0
DecisionFits o has moves x y Stay = Unit {0}
DecisionFits o has moves x y ToActive =
    ((has x ≡ Some (Sending y)) × (moves x ≡ None) × (has y ≢ Some (Receiving x))) ⊎ ((has x ≡ Some (Receiving y)) × (o ≡ x))
DecisionFits o has moves x y ToGarbage = (has x ≡ Some (Receiving y)) × (has y ≡ Some (Sending x)) × (moves y ≡ None)

-- an answer in the line from x to y says something only where it is for the present ask, and comes from the set that the entry names
abbrev pub AnswerSays : ℕ → ℕ → (ℕ → Option Status) → (ℕ → Option Transfer) → (ℕ → Option Ask) → ℕ → ℕ → ℕ → Reply → Type 0
AnswerSays o epoch has moves asks x y n (reply.State st live) =
    asks x ≡ Some (record { epoch = epoch; sync = n }) → asked_set (has x) ≡ Some y → AnswerFits o has moves x y (has x) st live
AnswerSays o epoch has moves asks x y n r = Unit {0}

abbrev pub HeardSays : (ℕ → ℕ) → ℕ → (ℕ → Bucket) → ℕ → ℕ → Heard → Type 0
HeardSays own epoch bs x y heard =
    AnswerSays (own heard.bucket) epoch (bs heard.bucket).entry (bs heard.bucket).transfer (bs heard.bucket).ask x y heard.sync heard.reply

-- the question of this number is in the line of calls, or its answer in the line of replies
abbrev pub IsAskUnderWay : Connection → ℕ → ℕ → Type 0
IsAskUnderWay l n b = IsSentIn l n (Stat b) ⊎ ((st : Option Status) × (live : Bool) × IsAnsweredIn l n b (reply.State st live))

-- an ask is no newer than its connection, and under way where it is live
abbrev pub IsOpen : Connection → Ask → ℕ → Type 0
IsOpen l a b = (a.epoch ≤ l.epoch) × (a.epoch ≡ l.epoch → IsAskUnderWay l a.sync b)

pub record AsksFit (own : ℕ → ℕ) (bs : ℕ → Bucket) (ls : ℕ → ℕ → Connection) : Type 0 where
  pub asks : (b x : ℕ) (a : Ask) → (bs b).ask x ≡ Some a → AskFits ((bs b).entry x) ((bs b).transfer x)
  pub sought : (b x : ℕ) (a : Ask) → (bs b).ask x ≡ Some a → (y : ℕ) → asked_set ((bs b).entry x) ≡ Some y → IsOpen (ls x y) a b
  pub answers : (x y : ℕ) → All (HeardSays own (ls x y).epoch bs x y) (ls x y).replies
