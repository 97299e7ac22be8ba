-- The tables of references agree with the calls, the transfers and the entries.
use Rattle.std.specs.Prelude.{◌≡◌, ℕ, ◌&&◌}
use Rattle.vs_base.specs.declared.numbers.Mode.TheVariants.{Ro, Rw}
use Rattle.vs_refs.specs.declared.counts.Counts.{Counts}
use Rattle.vs_refs.specs.Counts.{no_counts}
use Rattle.vs_refs.specs.Refs.{counts_of}
use Rattle.vs_machine.specs.State as machine
use Rattle.vs_machine.specs.Kinds.Collection.{is_garbage}
use Rattle.vs_machine.specs.Kinds.Rebalancing.{hauls_at}
use Rattle.vs_state.specs.declared.state.State.{State}
use Rattle.vs_state.specs.Plain.{plain}
use Rattle.vs_state.specs.Tables.{numbered}

-- what the references of a bucket at a set are to be: the calls that hold one; the read-write lock while a transfer
-- drains, and the read-only lock while the set is up and the bucket is garbage
abbrev pub agreed : machine.State → ℕ → ℕ → Counts
agreed s x b = record {
  ro = machine.references s Ro x b;
  rw = machine.references s Rw x b;
  ro_lock = s.up x && is_garbage ((s.bucket b).entry x);
  rw_lock = machine.is_draining ((s.bucket b).transfer x);
}

-- what the tables have
abbrev pub counts_at : State → ℕ → ℕ → Counts
counts_at s x b = numbered (λ t. counts_of t.refs.items b) no_counts s.sets.items x

abbrev pub hauls_in : State → ℕ → ℕ
hauls_in s x = numbered (λ t. t.hauls) 0 s.sets.items x

pub record Agrees (s : State) : Type 0 where
  pub counts : (x b : ℕ) → counts_at s x b ≡ agreed (plain s) x b
  pub hauls : (x : ℕ) → hauls_in s x ≡ hauls_at (plain s) x
