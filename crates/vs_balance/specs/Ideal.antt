-- How many buckets each set is to have.
use Rattle.std.specs.Prelude.{ℕ, Bool, true, false, ◌≡◌, ◌≢◌, ◌*◌, ◌/◌, ◌<◌, ◌≤◌, ◌⊎◌, ◌&&◌, not, nat_lt, ◌==◌, if◌then◌else◌, List, map, length}
use Rattle.std.specs.List.{sum, sum_by, zip, AllZip}
use Rattle.vs_balance.specs.declared.view.SetView.{SetView}
use Rattle.vs_balance.specs.declared.member.Member.{Member}
use Rattle.vs_balance.specs.Sharing.{rounded_up}
use Rattle.vs_balance.specs.Member.{stays, weight_of, weights_of, unlocked_count, shared_count, next, repeated, ideals_in}

abbrev pub counts_of : List SetView → List ℕ
counts_of views = map (λ view. view.count) views

-- at first no set has left
abbrev pub joined : List SetView → List Member
joined views = map (λ view. record { view = view; left = false }) views

-- The sets at the first time that `next` changes nothing. Each `next` that changes something has
-- a set leave, so as many times as there are sets are enough.
unfoldable pub settled : List SetView → List Member
settled views = repeated (length views) (joined views)

abbrev pub unlocked_weight : List SetView → ℕ
unlocked_weight views = sum (weights_of (joined views))

-- whether a set adds to that weight
abbrev pub has_weight : SetView → Bool
has_weight view = not view.locked && nat_lt 0 view.weight

-- The ideal counts, in order of set number. Where the unlocked sets have no weight, and at a locked
-- set, they are the present counts; at a set that has left, the pinned count; elsewhere the number
-- of the last sharing.
unfoldable pub ideal_of : List SetView → List ℕ
ideal_of views =
    if unlocked_weight views == 0 then counts_of views else ideals_in (settled views)

-- the sum of the unlocked sets' ideals
abbrev pub unlocked_ideals : List SetView → List ℕ → ℕ
unlocked_ideals views ideals =
    sum_by (λ (view, ideal). if view.locked then 0 else ideal) (zip views ideals)

-- no bucket is made or lost, and none comes to a locked set or leaves it
pub record KeepsBuckets (views : List SetView) (ideals : List ℕ) : Type 0 where
  pub unlocked : unlocked_ideals views ideals ≡ sum_by unlocked_count views
  pub locked : AllZip (λ view ideal. view.locked ≡ true → ideal ≡ view.count) views ideals

-- a set's number is its share rounded up, or rounded down
abbrev pub IsShare : List Member → Member → ℕ → Type 0
IsShare members m number =
    let buckets = shared_count members in
    let total = sum (weights_of members) in
    (number ≡ rounded_up buckets total (weight_of m)) ⊎ (number ≡ buckets * weight_of m / total)

-- what is right of ideal counts
pub record AreIdeals (views : List SetView) (ideals : List ℕ) : Type 0 where
  pub kept : KeepsBuckets views ideals
  pub pinned : AllZip (λ view ideal. view.pinned ≤ ideal) views ideals
  -- some weight always stays, and each set that stays has its share
  pub weighted : unlocked_weight views ≢ 0 → 0 < sum (weights_of (settled views))
  pub shares : unlocked_weight views ≢ 0
      → AllZip (λ m ideal. stays m ≡ true → IsShare (settled views) m ideal) (settled views) ideals
  -- where there is no weight, all have what they had
  pub weightless : unlocked_weight views ≡ 0 → ideals ≡ counts_of views
  -- no further set leaves, and it is the first time that none does
  pub stands : next (settled views) ≡ settled views
  pub first : (n : ℕ) → next (repeated n (joined views)) ≡ repeated n (joined views)
      → repeated n (joined views) ≡ settled views
