-- Sets while buckets are shared out among them.
use Rattle.std.specs.Prelude.{ℕ, zero, suc, Bool, ◌-◌, ◌<◌, ◌≤◌, ◌^◌, ◌&&◌, ◌||◌, not, nat_lt, if◌then◌else◌, List, map, length}
use Rattle.std.specs.List.{sum, sum_by, zip, All}
use Rattle.vs_balance.specs.declared.view.SetView.{SetView}
use Rattle.vs_balance.specs.declared.member.Member.{Member}
use Rattle.vs_balance.specs.Sharing.{numbers_of}

-- whether a set takes part in the sharing
abbrev pub stays : Member → Bool
stays m = not m.view.locked && not m.left

-- a set that takes no part counts with no weight
abbrev pub weight_of : Member → ℕ
weight_of m = if stays m then m.view.weight else 0

abbrev pub weights_of : List Member → List ℕ
weights_of members = map weight_of members

-- the buckets of a set that isn't locked
abbrev pub unlocked_count : SetView → ℕ
unlocked_count view = if view.locked then 0 else view.count

-- the pinned buckets of a set that has left
abbrev pub kept_count : Member → ℕ
kept_count m = if not m.view.locked && m.left then m.view.pinned else 0

-- What is shared out: the buckets of the unlocked sets, less the pinned ones of those that have
-- left.
abbrev pub shared_count : List Member → ℕ
shared_count members = sum_by (λ m. unlocked_count m.view) members - sum_by kept_count members

-- the numbers of this sharing
abbrev pub numbers : List Member → List ℕ
numbers members = numbers_of (shared_count members) (weights_of members)

-- a set that stays leaves where its number is below its pinned count
abbrev pub leave : Member → ℕ → Member
leave m number = record m { left = m.left || (stays m && nat_lt number m.view.pinned) }

-- the sets once those have left that would have fewer buckets than they have pinned
unfoldable pub next : List Member → List Member
next members = map (λ (m, number). leave m number) (zip members (numbers members))

abbrev pub repeated : ℕ → List Member → List Member
repeated zero members = members
repeated (suc n) members = repeated n (next members)

-- the ideal count of a set, where this is its number in the last sharing
abbrev pub ideal_in : Member → ℕ → ℕ
ideal_in m number =
    if m.view.locked then m.view.count else if m.left then m.view.pinned else number

abbrev pub ideals_in : List Member → List ℕ
ideals_in members = map (λ (m, number). ideal_in m number) (zip members (numbers members))

-- what sharing needs: pinned counts within the counts, few sets and buckets, and some weight
pub record CanShare (members : List Member) : Type 0 where
  pub pinned : All (λ m. m.view.pinned ≤ m.view.count) members
  pub counts : sum_by (λ m. m.view.count) members < 2 ^ 32
  pub sets : length members ≤ 32
  pub weighted : 0 < sum (weights_of members)
