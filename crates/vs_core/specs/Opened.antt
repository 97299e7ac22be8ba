-- What a core begins with: what the journals of its sets stand for.
use Rattle.std.specs.Prelude.{◌≡◌, ℕ, zero, suc, ◌<◌, ◌≤◌, List, [], ◌∷◌, ◌++◌, Option, Some, None}
use Rattle.vs_record.specs.States.{durable}
pub use Rattle.vs_record.specs.States.{IsOfBuckets}
use Rattle.vs_record.specs.declared.set_state.SetState.{SetState}
use Rattle.vs_space.specs.declared.status.Status.{Status}
use Rattle.vs_machine.specs.Coherence.{IsCoherentBucket}
use Rattle.vs_machine.specs.Journals.{held_as, nothing}
use Rattle.vs_machine.specs.Opening.{Holdings}
use Rattle.vs_state.specs.Tables.{numbered}
use Rattle.vs_core.specs.declared.fault.CoreFault.{CoreFault}
use Rattle.vs_core.specs.declared.fault.CoreFault.TheVariants.{Incoherent, NoMemory}

-- what the sets hold, of which the first has the first of these states
abbrev pub held : List SetState → Holdings
held states = held_as (numbered durable nothing states)

-- ---- what isn't coherent

-- what n sets hold of a bucket fits together
abbrev pub IsCoherentAt : ℕ → Holdings → ℕ → Type 0
IsCoherentAt n held b = IsCoherentBucket n (λ x. held.entry x b) (λ x. held.rows x b)

-- the least of m buckets of which that isn't so
pub record IsLeastIncoherent (n m : ℕ) (held : Holdings) (b : ℕ) : Type 0 where
  pub first : 1 ≤ b
  pub last : b ≤ m
  pub incoherent : ¬ (IsCoherentAt n held b)
  pub least : (c : ℕ) → 1 ≤ c → c < b → IsCoherentAt n held c

-- a set and its status, if it has one
abbrev pub placed : ℕ → Option Status → List (ℕ × Status)
placed x None = []
placed x (Some status) = (x, status) ∷ []

-- the sets up to n that have an entry, in order, with the status of each
abbrev pub placement_of : (ℕ → Option Status) → ℕ → List (ℕ × Status)
placement_of entry zero = []
placement_of entry (suc n) = placement_of entry n ++ placed (suc n) (entry (suc n))

-- Why what n sets hold of m buckets makes no core: the least bucket that isn't coherent, and who has it. Want of memory says
-- nothing of it.
abbrev pub IsCoreFault : ℕ → ℕ → Holdings → CoreFault → Type 0
IsCoreFault n m held (Incoherent b entries) = IsLeastIncoherent n m held b × (entries.items ≡ placement_of (λ x. held.entry x b) n)
IsCoreFault n m held NoMemory = Unit {0}
