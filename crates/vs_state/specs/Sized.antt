-- The tables have an item for each set, each bucket, each client and each operator.
use Rattle.std.specs.Prelude.{◌≡◌, ◌≢◌, ℕ, ◌≤◌, true, length, None}
use Rattle.vs_machine.specs.State as machine
use Rattle.vs_state.specs.declared.state.State.{State}

pub record IsSized (s : State) : Type 0 where
  pub sets : length s.sets.items ≡ length s.config.sets.items
  pub links : s.links.sets ≡ length s.config.sets.items
  pub buckets : s.config.bucket_count ≤ 30000
  pub histories : length s.histories.items ≡ s.config.bucket_count
  pub clients : length s.clients.items ≤ 64
  pub operators : length s.operators.items ≤ 16

-- only buckets of the cluster have entries, as in every state that a run reaches
abbrev pub OnlyItsBuckets : machine.State → Type 0
OnlyItsBuckets s = (b x : ℕ) → (s.bucket b).entry x ≢ None → machine.has_bucket s b ≡ true
