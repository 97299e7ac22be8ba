-- The rule of the queue: what was put is what was taken and what the queue holds, however places are weighed.
use Rattle.std.specs.Prelude.{◌≡◌, ◌<◌, ℕ, ◌+◌, List, [], ◌∷◌, All}
use mathlib.Core.Option.{some}
use lib.ListN.{get_elem?}
use Rattle.vs_words.specs.Rule.{total}
use Rattle.vs_pool.specs.declared.queue.Hand.{Hand}

-- a view of these parts
abbrev pub hand : ℕ → ℕ → List ℕ → List ℕ → Hand
hand p limit put taken = record { parts = p; limit = limit; put = put; taken = taken }

-- the weights of the places, added up
abbrev pub weigh : (ℕ → ℕ) → List ℕ → ℕ
weigh h [] = 0
weigh h (x ∷ xs) = h x + weigh h xs

-- a pass with no part has put and taken nothing
abbrev pub IdleIsEmpty : List Hand → Type 0
IdleIsEmpty views = (id : ℕ) (v : Hand) → get_elem? views id ≡ some v → v.parts ≡ 0 → (v.put ≡ []) × (v.taken ≡ [])

-- each place in the queue is below the limit that a pass with a part knows
abbrev pub AreBelow : List ℕ → List Hand → Type 0
AreBelow items views = (id : ℕ) (v : Hand) → get_elem? views id ≡ some v → 0 < v.parts → All (λ x. x < v.limit) items

-- what holds whenever the queue is not in the midst of a call
pub record IsBalanced (items : List ℕ) (views : List Hand) : Type 0 where
  pub parts : total (λ v. v.parts) views ≡ 64
  pub weights : (h : ℕ → ℕ) → total (λ v. weigh h v.put) views ≡ total (λ v. weigh h v.taken) views + weigh h items
  pub idle : IdleIsEmpty views
  pub below : AreBelow items views
