-- Marks of the parts of a table in which there is something of a class: blocks of 40 places, and groups of 25 blocks.
use Rattle.std.specs.Prelude.{◌≡◌, ◌*◌, ◌/◌, ℕ, Bool, false, List, length, Option, None, get_or}
use Rattle.vs_space.specs.Class.{is_of}
use Rattle.vs_space.specs.Table.{IsTable}
use Rattle.vs_space.specs.declared.counts.KindCounts.{KindCounts}
use Rattle.vs_space.specs.declared.search.Class.{Class}
use Rattle.vs_space.specs.declared.search.Class.TheVariants as class
use Rattle.vs_space.specs.declared.search.Marks.{Marks}
use Rattle.vs_space.specs.declared.status.Status.{Status}

-- the block of this place is marked
abbrev pub is_marked : Marks → ℕ → Bool
is_marked marks k = get_or marks.blocks.items (k / 40) false

-- there is a mark for each block of so many places, and for each group, and no block of a group without a mark has one
pub record AreMarks (places : ℕ) (marks : Marks) : Type 0 where
  pub blocks : 40 * length marks.blocks.items ≡ places
  pub groups : 25 * length marks.groups.items ≡ length marks.blocks.items
  pub within : (b : ℕ) → get_or marks.groups.items (b / 25) false ≡ false → get_or marks.blocks.items b false ≡ false

-- the place isn't of the class where its block has no mark
abbrev pub IsTold : Class → List (Option Status) → Marks → ℕ → Type 0
IsTold class places marks k = is_marked marks k ≡ false → is_of class (get_or places k None) ≡ false

-- the marks tell where no place is of the class
pub record Tells (class : Class) (places : List (Option Status)) (marks : Marks) : Type 0 where
  pub parts : AreMarks (length places) marks
  pub told : (k : ℕ) → IsTold class places marks k

-- the statuses in the places are counted, and of both classes it is told where none is
pub record IsIndexed (places : List (Option Status)) (counts : KindCounts) (active_marks open_marks : Marks) : Type 0 where
  pub table : IsTable places counts
  pub active : Tells class.Active places active_marks
  pub opened : Tells class.Open places open_marks
