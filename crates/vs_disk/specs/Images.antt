-- What a disk in memory reads as, and what a crash may leave of it, by a record of its calls. Each list `back` of calls
-- has the newest first.
use Rattle.std.specs.Prelude.{◌≡◌, ◌≤◌, ℕ, zero, suc, List, [], ◌∷◌, length, take, reverse, replicate}
use Rattle.vs_disk.specs.declared.call.MemCall.{MemCall}
use Rattle.vs_disk.specs.declared.call.MemCall.TheVariants.{Quiet, Write, Sync}
use Rattle.vs_disk.specs.Model.{wrote, Torn}

-- what a read gives after these calls on a disk that read as `first`
abbrev pub plays : List ℕ → List MemCall → List ℕ
plays first [] = first
plays first (Quiet ∷ back) = plays first back
plays first (Write at bytes ∷ back) = wrote (plays first back) at bytes.items
plays first (Sync ∷ back) = plays first back

-- what a crash after them may leave: a write tears each image, and a sync leaves what a read gives
abbrev pub Images : List ℕ → List MemCall → List ℕ → Type 0
Images first [] c = c ≡ first
Images first (Quiet ∷ back) c = Images first back c
Images first (Write at bytes ∷ back) c = (d : List ℕ) × Images first back d × Torn at (length bytes.items) d c
Images first (Sync ∷ back) c = c ≡ plays first back

-- what a crash since the first t calls may have left
pub record LeftSince (first : List ℕ) (calls : List MemCall) (t : ℕ) (c : List ℕ) : Type 0 where
  pub place : ℕ
  pub from : t ≤ place
  pub upto : place ≤ length calls
  pub image : Images first (reverse (take place calls)) c

-- what was synced last: the old bytes and the old length
abbrev pub synced : List ℕ → List MemCall → List ℕ
synced first [] = first
synced first (Quiet ∷ back) = synced first back
synced first (Write at bytes ∷ back) = synced first back
synced first (Sync ∷ back) = plays first back

-- what was synced last, with the new length and `a5` (165) throughout what was written since
abbrev pub smeared : List ℕ → List MemCall → List ℕ
smeared first [] = first
smeared first (Quiet ∷ back) = smeared first back
smeared first (Write at bytes ∷ back) = wrote (smeared first back) at (replicate (length bytes.items) 165)
smeared first (Sync ∷ back) = plays first back

-- the image that a number picks: what wasn't synced is as of old for 0, new for 1, and `a5` throughout for 2
abbrev pub picked : ℕ → List ℕ → List MemCall → List ℕ
picked zero first back = synced first back
picked (suc zero) first back = plays first back
picked (suc (suc n)) first back = smeared first back

-- what a read gives after one call more
abbrev pub played_on : List ℕ → MemCall → List ℕ
played_on now Quiet = now
played_on now (Write at bytes) = wrote now at bytes.items
played_on now Sync = now

-- the image that a number picks after one call more, where a read gave `now`
abbrev pub picked_on : ℕ → List ℕ → List ℕ → MemCall → List ℕ
picked_on pick now image Quiet = image
picked_on zero now image (Write at bytes) = image
picked_on (suc zero) now image (Write at bytes) = wrote image at bytes.items
picked_on (suc (suc n)) now image (Write at bytes) = wrote image at (replicate (length bytes.items) 165)
picked_on pick now image Sync = now
