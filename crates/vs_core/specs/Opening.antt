-- The tables of a cluster in which nothing happened yet.
use Rattle.std.specs.Prelude.{◌≡◌, ◌≢◌, ◌||◌, ℕ, ◌≤◌, Bool, true, List, [], ◌∷◌, length, map, Option, Some, None}
use Rattle.vs_config.specs.Configuration.{Configuration, configuration}
use Rattle.vs_history.specs.Means as history
use Rattle.vs_history.specs.declared.history.History as code
use Rattle.vs_link.specs.Links.{IsUnused}
use Rattle.vs_record.specs.declared.set_state.SetState.{SetState}
use Rattle.vs_refs.specs.Counts.{no_counts}
use Rattle.vs_refs.specs.Refs.{counts_of}
use Rattle.vs_rows.specs.RowMap.{RowMap}
use Rattle.vs_script.specs.Scripts.{Scripts}
use Rattle.vs_space.specs.Entries.{status_of, RisesFrom}
use Rattle.vs_space.specs.declared.status.Status.{Status}
use Rattle.vs_machine.specs.Coherence.{is_sending, names}
use Rattle.vs_machine.specs.Inner.Owner.{Beside}
use Rattle.vs_machine.specs.Kinds.Collection.{is_garbage}
use Rattle.vs_space.specs.Status.{is_active}
use Rattle.vs_machine.specs.Kinds.Rebalancing.{is_pinned}
use Rattle.vs_machine.specs.Opening.{Holdings, base_of, client_at, operator_at}
use Rattle.vs_machine.specs.State as machine
use Rattle.vs_machine.specs.Tables.{list_to}
use Rattle.vs_state.specs.declared.state.State.{State}
use Rattle.vs_state.specs.declared.tables.SetTables.{SetTables}
use Rattle.vs_state.specs.Plain.{client, operator}

-- a set that is up, with the entries and the rows of this state, its buckets that are garbage locked against reads, and
-- nothing else
pub record IsOpenedSet (d : SetState) (t : SetTables) : Type 0 where
  pub up : t.is_up ≡ true
  pub space : t.space.entries ≡ d.space.entries
  pub rising : RisesFrom 1 d.space.entries
  pub rows : t.rows ≡ d.rows
  pub kept : t.kept.items ≡ []
  pub refs : (b : ℕ) → counts_of t.refs.items b ≡ record no_counts { ro_lock = is_garbage (status_of d.space.entries b) }
  pub transfers : t.transfers.items ≡ []
  pub hauls : t.hauls ≡ 0
  pub asks : t.asks.items ≡ []
  pub last_fault : t.last_fault ≡ 0
  pub pending : t.pending ≡ None

-- each set is so by its state
abbrev pub AreOpenedSets : List SetState → List SetTables → Type 0
AreOpenedSets [] [] = Unit {0}
AreOpenedSets (d ∷ ds) (t ∷ ts) = IsOpenedSet d t × AreOpenedSets ds ts
AreOpenedSets _ _ = ⊥

-- the tables of a cluster in which nothing happened, but for the histories of its buckets
pub record IsOpened (config : Configuration) (scripts : Scripts) (states : List SetState) (s : State) : Type 0 where
  pub config_is : configuration s.config ≡ config
  pub sets : AreOpenedSets states s.sets.items
  pub links : IsUnused s.links (length config.sets)
  pub clients : map client s.clients.items ≡ map client_at scripts.clients
  pub operators : map operator s.operators.items ≡ map operator_at scripts.operators

-- ---- histories

-- what the sets of a state hold
abbrev pub held_in : machine.State → Holdings
held_in s = record { entry = λ x b. (s.bucket b).entry x; rows = λ x b. (s.bucket b).rows x }

-- the rows of a bucket with which its history begins
abbrev pub base_in : machine.State → ℕ → RowMap
base_in s b = base_of (held_in s) (machine.sets_of s) b

-- the buckets' histories, on which no call acted, begin with the rows of their owners
abbrev pub AreBegun : machine.State → List code.History → ℕ → Type 0
AreBegun s histories n = map history.means histories ≡ list_to (λ b. record { base = base_in s b; writes = []; reads = [] }) n

-- ---- coherence, by the owner

-- the bucket is active or pinned there, or is being sent
abbrev pub has_it : Option Status → Bool
has_it entry = is_active entry || is_pinned entry || is_sending entry

-- What set x has of a bucket fits to its owner: its entry names another set of the cluster, if any; without an entry it has no
-- rows; and beside the owner's entry it may have its own.
pub record IsFitting (s : machine.State) (b o x : ℕ) : Type 0 where
  pub named : (y : ℕ) → names ((s.bucket b).entry x) ≡ Some y → (y ≢ x) × (1 ≤ y) × (y ≤ machine.sets_of s)
  pub empty : (s.bucket b).entry x ≡ None → (s.bucket b).rows x ≡ []
  pub beside : x ≢ o → Beside o ((s.bucket b).entry o) x ((s.bucket b).entry x)

-- there are tables for each set of the configuration, and no more sets and buckets than may be
pub record HasItsSets (s : State) : Type 0 where
  pub sets : length s.sets.items ≡ length s.config.sets.items
  pub few_sets : length s.config.sets.items ≤ 32
  pub few_buckets : s.config.bucket_count ≤ 30000
