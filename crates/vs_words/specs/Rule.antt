-- Reference words: each counts the passes that hold it or must undo it, and 2 ^ 63 more once it is closed.
use Rattle.std.specs.Prelude.{◌≡◌, ◌≢◌, ℕ, suc, ◌+◌, ◌-◌, ◌^◌, ◌<◌, ◌≤◌, ◌==◌, Bool, true, false, List, [], ◌∷◌, ◌++◌, length, slice_index, Contains, Option, Some, None}
use Rattle.atomic_table.specs.Table.{State}
use mathlib.Core.Option.{some}
use lib.ListN.{get_elem?}
use Rattle.vs_words.specs.declared.rule.Grip.{Grip}
use Rattle.vs_words.specs.declared.rule.Grip.TheVariants.{Nothing, Holds, MustUndo}
use Rattle.vs_words.specs.declared.rule.View.{View}

-- ---- what one step makes of the view of its pass

-- a pass that holds nothing and has seen nothing
abbrev pub unused : ℕ → View
unused spare = record { spare = spare; grip = Nothing; seen = []; known = []; found = 0 }

abbrev pub IsUnused : View → Type 0
IsUnused v = v ≡ unused v.spare

-- a pass was split from it
abbrev pub lending : View → View
lending v = record v { spare = v.spare - 1 }

-- it took word i, and found n there
abbrev pub holding : ℕ → ℕ → View → View
holding i n v = record v { grip = Holds i; found = n }

-- it meant to take word i, and found it closed
abbrev pub undoing : ℕ → ℕ → View → View
undoing i n v = record v { grip = MustUndo i; seen = v.seen ++ i ∷ []; found = n }

-- it gave back, or undid, what it had
abbrev pub free : View → View
free v = record v { grip = Nothing }

-- it closed word i
abbrev pub closing : ℕ → View → View
closing i v = record v { seen = v.seen ++ i ∷ [] }

-- it looked at word i, and found it closed with no reference
abbrev pub knowing : ℕ → ℕ → View → View
knowing i n v = record v { known = v.known ++ i ∷ []; found = n }

-- it looked, and found n
abbrev pub looking : ℕ → View → View
looking n v = record v { found = n }

-- between two calls a pass holds the word that it says, and has nothing to undo
abbrev pub grip_of : Option ℕ → Grip
grip_of None = Nothing
grip_of (Some i) = Holds i

-- ---- the rule

abbrev pub one_if : Bool → ℕ
one_if true = 1
one_if false = 0

-- 1 where the pass holds word i or must undo it
abbrev pub has_part : ℕ → Grip → ℕ
has_part i Nothing = 0
has_part i (Holds j) = one_if (j == i)
has_part i (MustUndo j) = one_if (j == i)

-- a number of each, added up
abbrev pub total : {A : Type 0} → (A → ℕ) → List A → ℕ
total f [] = 0
total f (x ∷ xs) = f x + total f xs

-- how many passes hold word i or must undo it
abbrev pub parts_in : ℕ → List View → ℕ
parts_in i views = total (λ v. has_part i v.grip) views

-- the word is this count, and 2 ^ 63 more where it is closed
abbrev pub closed_part : Bool → ℕ
closed_part true = 2 ^ 63
closed_part false = 0

abbrev pub Counts : ℕ → ℕ → Type 0
Counts word n = (is_closed : Bool) × (word ≡ closed_part is_closed + n)

abbrev pub NoneHolds : ℕ → List View → Type 0
NoneHolds i views = (id : ℕ) (v : View) → get_elem? views id ≡ some v → v.grip ≢ Holds i

abbrev pub SomeHasSeen : ℕ → List View → Type 0
SomeHasSeen i views = (id : ℕ) × (v : View) × (get_elem? views id ≡ some v) × Contains v.seen i

-- what holds between any two steps of any threads
pub record IsSound {S : Type 0} (count : ℕ) (s : State S View) : Type 0 where
  pub number : length s.words ≡ count
  -- the passes, and those that may still be split from them, are always 64, so no count comes near 2 ^ 63
  pub all : total (λ v. suc v.spare) s.views ≡ 64
  -- the value of a word is the number of passes that hold it or must undo it, and 2 ^ 63 more where it is closed
  pub values : (i : ℕ) → i < count → Counts (slice_index s.words i) (parts_in i s.views)
  -- a word that some pass has seen closed is closed ..
  pub seen : (id i : ℕ) (v : View) → get_elem? s.views id ≡ some v → Contains v.seen i → 2 ^ 63 ≤ slice_index s.words i
  -- .. and none else is
  pub closed : (i : ℕ) → i < count → 2 ^ 63 ≤ slice_index s.words i → SomeHasSeen i s.views
  -- a word that some pass knows is closed, and no pass holds it
  pub known : (id i : ℕ) (v : View) → get_elem? s.views id ≡ some v → Contains v.known i → (2 ^ 63 ≤ slice_index s.words i) × NoneHolds i s.views

-- as long as no pass has been used, each word is 0
abbrev pub UnusedIsZero : Type 0
UnusedIsZero = (count i : ℕ) (state : State ℕ View) → IsSound count state → i < count
    → ((id : ℕ) (v : View) → get_elem? state.views id ≡ some v → IsUnused v) → slice_index state.words i ≡ 0
