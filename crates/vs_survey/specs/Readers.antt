-- What is read of a core.
use Rattle.std.specs.Prelude.{◌≡◌, ℕ, ◌≤◌, ◌&&◌, nat_lt, Bool, true, List, take, Option, Some, None}
use Rattle.std.specs.List.{filter}
use Rattle.vs_space.specs.declared.status.StatusKind.TheVariants.{Sending, Receiving, Sent, Garbage}
use Rattle.vs_calls.specs.declared.stage.Stage.TheVariants.{Idle}
use Rattle.vs_machine.specs.Settling.{HasNoMessage, IsAtOne}
use Rattle.vs_machine.specs.State.{State, sets_of}
use Rattle.vs_machine.specs.Tables.{list_to}
use Rattle.vs_state.specs.Serving.{serves}
use Rattle.vs_state.specs.Statuses.{number_at}

-- ---- a page of the buckets that a set serves

abbrev pub is_above : Option ℕ → ℕ → Bool
is_above None b = true
is_above (Some last) b = nat_lt last b

abbrev pub is_listed : State → ℕ → Option ℕ → ℕ → Bool
is_listed s x after b = is_above after b && serves s x b

-- the first 1,000 buckets of the cluster above this one that the set serves, rising
abbrev pub page : State → ℕ → Option ℕ → List ℕ
page s x after = take 1000 (filter (is_listed s x after) (list_to (λ b. b) s.config.bucket_count))

-- ---- whether a cluster is settled

-- the set has its buckets active or pinned, and nothing left of another
pub record IsAtRest (s : State) (x : ℕ) : Type 0 where
  pub sending : number_at s x Sending ≡ 0
  pub receiving : number_at s x Receiving ≡ 0
  pub sent : number_at s x Sent ≡ 0
  pub garbage : number_at s x Garbage ≡ 0

abbrev pub AreAtRest : State → Type 0
AreAtRest s = (x : ℕ) → 1 ≤ x → x ≤ sets_of s → IsAtRest s x

abbrev pub ArePlaced : State → Type 0
ArePlaced s = (b : ℕ) → 1 ≤ b → b ≤ s.config.bucket_count → IsAtOne (s.bucket b).entry

-- no transfer from the set is under way
abbrev pub HasNoTransfer : State → ℕ → Type 0
HasNoTransfer s x = (b : ℕ) → (s.bucket b).transfer x ≡ None

abbrev pub AreIdle : State → Type 0
AreIdle s = (c : ℕ) → (s.client c).present.stage ≡ Idle

-- no message and no reply lies between the set and another
abbrev pub IsSilentFrom : State → ℕ → Type 0
IsSilentFrom s x = (y : ℕ) → 1 ≤ y → y ≤ sets_of s → HasNoMessage s x y
