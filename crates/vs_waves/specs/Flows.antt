-- Routes while their moves are laid out in waves.
use Rattle.std.specs.Prelude.{ℕ, Bool, true, false, ◌≡◌, ◌-◌, ◌*◌, ◌<◌, ◌≤◌, ◌⊎◌, min, max, ◌==◌, if◌then◌else◌, List, map, length, slice_index_or, slice_index}
use Rattle.std.specs.List.{sum_by, count_by, All}
use Rattle.vs_base.specs.Numbers.{IsSetNo}
use Rattle.vs_balance.specs.declared.route.Route.{Route}
use Rattle.vs_balance.specs.Routes.{route_of}
use Rattle.vs_waves.specs.declared.flow.Flow.{Flow}

-- what a near set and a far set have in this wave, and what they have that isn't in an earlier one
unfoldable pub near_now : ℕ → List Flow → ℕ
near_now set flows = sum_by (λ f. if f.near == set then f.now else 0) flows

unfoldable pub far_now : ℕ → List Flow → ℕ
far_now set flows = sum_by (λ f. if f.far == set then f.now else 0) flows

unfoldable pub near_rest : ℕ → List Flow → ℕ
near_rest set flows = sum_by (λ f. if f.near == set then f.rest else 0) flows

unfoldable pub far_rest : ℕ → List Flow → ℕ
far_rest set flows = sum_by (λ f. if f.far == set then f.rest else 0) flows

unfoldable pub all_now : List Flow → ℕ
all_now flows = sum_by (λ f. f.now) flows

unfoldable pub all_rest : List Flow → ℕ
all_rest flows = sum_by (λ f. f.rest) flows

-- the flow apart from what is in this wave
abbrev pub bare : Flow → Flow
bare f = record f { now = 0 }

-- sets are numbered to 32, and no wave has more than is left
pub record Fits (flows : List Flow) : Type 0 where
  pub near : All (λ f. (1 ≤ f.near) × (f.near < 33)) flows
  pub far : All (λ f. (1 ≤ f.far) × (f.far < 33)) flows
  pub within : All (λ f. f.now ≤ f.rest) flows
  pub few : all_rest flows ≤ 30000

-- no far set has more than its limit
abbrev pub FarWithin : ℕ → List Flow → Type 0
FarWithin limit flows = (set : ℕ) → far_now set flows ≤ limit

abbrev pub one_at : ℕ → ℕ → ℕ
one_at set at = if at == set then 1 else 0

-- What one more at a set leaves, where the near and far sets had these numbers: a near set loses
-- nothing below its least number, and a far set has more only up to its limit.
pub record IsShifted (lows : List ℕ) (limit : ℕ) (near far : ℕ → ℕ) (old new : List Flow)
    : Type 0 where
  pub routes : map bare new ≡ map bare old
  pub fits : Fits new
  pub near_least : (set : ℕ) → min (near set) (slice_index lows set) ≤ near_now set new
  pub near_most : (set : ℕ) → near_now set new ≤ near set
  pub far_least : (set : ℕ) → min (far set) limit ≤ far_now set new
  pub far_most : FarWithin limit new

abbrev pub is_seen : ℕ → List Bool → Bool
is_seen set seen = slice_index_or seen set false

-- how many far sets aren't seen
unfoldable pub unseen : List Bool → ℕ
unseen seen = count_by (λ b. if b then false else true) seen

-- each route of a near set that could have more in this wave leads to a far set that is seen
abbrev pub LeadsToSeen : List Bool → ℕ → Flow → Type 0
LeadsToSeen seen set f = f.near ≡ set → f.now < f.rest → is_seen f.far seen ≡ true

unfoldable pub IsOpenToSeen : List Bool → List Flow → ℕ → Type 0
IsOpenToSeen seen flows set = All (LeadsToSeen seen set) flows

-- whatever a far set has in this wave comes from near sets that need it, and that have no other way
abbrev pub IsNeeded : List ℕ → List Bool → List Flow → ℕ → Flow → Type 0
IsNeeded lows seen flows set f =
    f.far ≡ set → 0 < f.now
    → (near_now f.near flows ≤ slice_index lows f.near) × IsOpenToSeen seen flows f.near

unfoldable pub IsStuck : List ℕ → List Bool → List Flow → ℕ → Type 0
IsStuck lows seen flows set = All (IsNeeded lows seen flows set) flows

-- a search that found nothing: what it saw is full, and stuck
pub record IsBarred (lows : List ℕ) (limit : ℕ) (before after : List Bool) (flows : List Flow)
    : Type 0 where
  pub grown : (set : ℕ) → is_seen set before ≡ true → is_seen set after ≡ true
  pub shut : (set : ℕ) → is_seen set after ≡ true
      → (is_seen set before ≡ true) ⊎ (limit ≤ far_now set flows) × IsStuck lows after flows set

-- What is left, shared out evenly over so many waves, gives each near set its least number or more,
-- and each far set its limit or less.
pub record IsShare (waves : ℕ) (lows : List ℕ) (limit : ℕ) (flows : List Flow) : Type 0 where
  pub some : 1 ≤ waves
  pub near : (set : ℕ) → waves * slice_index lows set ≤ near_rest set flows
  pub far : (set : ℕ) → far_rest set flows ≤ waves * limit

-- some number of waves does so
abbrev pub HasShare : List ℕ → ℕ → List Flow → Type 0
HasShare lows limit flows = (waves : ℕ) × IsShare waves lows limit flows

-- each near set below `end` has its least number, and none that had enough has more
pub record IsFilled (lows : List ℕ) (limit end : ℕ) (old new : List Flow) : Type 0 where
  pub routes : map bare new ≡ map bare old
  pub fits : Fits new
  pub least : (set : ℕ) → set < end → slice_index lows set ≤ near_now set new
  pub most : (set : ℕ) → near_now set new ≤ max (near_now set old) (slice_index lows set)
  pub near_kept : (set : ℕ) → min (near_now set old) (slice_index lows set) ≤ near_now set new
  pub far_kept : (set : ℕ) → far_now set old ≤ far_now set new
  pub far_most : FarWithin limit new

-- the least numbers, by set: what doesn't fit into so many waves to come
pub record AreLows (left limit : ℕ) (flows : List Flow) (lows : List ℕ) : Type 0 where
  pub count : length lows ≡ 33
  pub each : (set : ℕ) → set < 33 → slice_index lows set ≡ near_rest set flows - left * limit

abbrev pub mirrored : Flow → Flow
mirrored f = record f { near = f.far; far = f.near }

-- the flow once this wave is over
abbrev pub after_wave : Flow → Flow
after_wave f = record f { rest = f.rest - f.now; now = 0 }

abbrev pub NothingNow : List Flow → Type 0
NothingNow flows = All (λ f. f.now ≡ 0) flows

-- no set has more left than fits into so many waves
pub record IsEnough (waves near_limit far_limit : ℕ) (flows : List Flow) : Type 0 where
  pub near : (set : ℕ) → near_rest set flows ≤ waves * near_limit
  pub far : (set : ℕ) → far_rest set flows ≤ waves * far_limit

-- a wave that fits its limits, and after which so many waves are enough
pub record IsLaid (left near_limit far_limit : ℕ) (old new : List Flow) : Type 0 where
  pub routes : map bare new ≡ map bare old
  pub fits : Fits new
  pub near_most : (set : ℕ) → near_now set new ≤ near_limit
  pub far_most : (set : ℕ) → far_now set new ≤ far_limit
  pub enough : IsEnough left near_limit far_limit (map after_wave new)

-- a route, with nothing in a wave
abbrev pub flow_of : Route → Flow
flow_of r = record { near = r.giver; far = r.taker; rest = r.number; now = 0 }

-- the move of a flow in this wave, if it has one
abbrev pub move_of : Flow → List Route
move_of f = route_of f.near f.far f.now

-- the sets of a route have numbers of sets
abbrev pub HasSetNos : Route → Type 0
HasSetNos r = IsSetNo r.giver × IsSetNo r.taker
