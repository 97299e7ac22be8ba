-- The whole of what holds inside, for the owners of the buckets.
use Rattle.std.specs.Prelude.{◌≡◌, ◌≢◌, ℕ, ◌≤◌, true, All, None}
use Rattle.vs_machine.specs.State.{State, Operator, sets_of, has_bucket}
use Rattle.vs_script.specs.Lawful.{IsLawfulCommand}
use Rattle.vs_machine.specs.Inner.Buckets.{BucketFits}
use Rattle.vs_machine.specs.Inner.Calls.{ClientFits, AreAbsent}
use Rattle.vs_machine.specs.Inner.Lines.{LinkFits, WaitsFit}
use Rattle.vs_machine.specs.Inner.Epochs.{WaitsBelow}
use Rattle.vs_machine.specs.Inner.Asks.{AsksFit}
use Rattle.vs_machine.specs.Inner.Down.{UpFits, PendingFits, PairsFit}
use Rattle.vs_machine.specs.Inner.Once.{OnceFits}
use Rattle.vs_machine.specs.Inner.Sealed.{SealsFit}
use Rattle.vs_machine.specs.Inner.Answers.{AnswersFit, OrderFits}

-- an operator of a cluster of m buckets and n sets: its commands are lawful, and no route leads from a set to itself
pub record OperatorFits (m n : ℕ) (o : Operator) : Type 0 where
  pub lawful : All (IsLawfulCommand m n) o.script
  pub apart : All (λ r. r.giver ≢ r.taker) o.routes

-- the buckets with their transfers and their rows, the calls that hold references, and the lines
pub record Inner (own : ℕ → ℕ) (s : State) : Type 0 where
  pub buckets : (b : ℕ) → BucketFits (sets_of s) (own b) (s.bucket b)
  pub clients : (c : ℕ) → ClientFits s.bucket (s.client c)
  pub absent : AreAbsent s
  pub links : (x y : ℕ) → LinkFits s.bucket x y (s.link x y)
  -- a bucket of the cluster is owned by a set
  pub real : (b : ℕ) → has_bucket s b ≡ true → 1 ≤ own b
  pub operators : (o : ℕ) → OperatorFits s.config.bucket_count (sets_of s) (s.operator o)

pub record Whole (own : ℕ → ℕ) (s : State) : Type 0 where
  pub inner : Inner own s
  pub seals : SealsFit own s
  -- only sets of the cluster have entries, and only of its buckets
  pub bounds : (b x : ℕ) → (s.bucket b).entry x ≢ None → (1 ≤ x) × (x ≤ sets_of s)
  pub known : (b x : ℕ) → (s.bucket b).entry x ≢ None → has_bucket s b ≡ true
  pub waits : WaitsFit s.bucket s.link
  pub epochs : WaitsBelow s.bucket s.link
  pub ups : UpFits s
  pub asks : AsksFit own s.bucket s.link
  pub pending : PendingFits own s
  pub pairs : PairsFit s.pending
  pub once : OnceFits s
  pub answers : AnswersFit s
  pub order : OrderFits s
