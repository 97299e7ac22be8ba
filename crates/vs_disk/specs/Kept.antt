-- The laws of a disk in memory.
use Rattle.std.specs.Prelude.{◌≡◌, ℕ, ◌+◌, ◌≤◌, ◌<◌, max, List, [], ◌∷◌, ◌++◌, length, take, drop, get_or, reverse}
use Rattle.std.proofs.Common.{refl, sym, subst, arith, ⊎_elim, length-append, length-drop}
use Rattle.std.proofs.lemmas.List.{take_all, length-take, places}
use Rattle.vs_disk.specs.declared.call.MemCall.{MemCall}
use Rattle.vs_disk.specs.declared.call.MemCall.TheVariants.{Quiet, Write, Sync}
use Rattle.vs_disk.specs.declared.memory.MemDisk.{MemDisk}
use Rattle.vs_disk.specs.Model.{wrote, Torn, IsLawful}
use Rattle.vs_disk.specs.Images.{plays, Images, LeftSince}
use Rattle.vs_disk.specs.Memory.{told_of}

pub length-wrote : (old bytes : List ℕ) (at : ℕ) → (length old ≤ length (wrote old at bytes)) × (length (wrote old at bytes) ≤ max (length old) (at + length bytes))
length-wrote old bytes at = (
  omega (arith, length-append (take at old ++ bytes) (drop (at + length bytes) old), length-append (take at old) bytes, length-take at old, length-drop (at + length bytes) old),
  omega (arith, length-append (take at old ++ bytes) (drop (at + length bytes) old), length-append (take at old) bytes, length-take at old, length-drop (at + length bytes) old),
)

before_range : (old bytes : List ℕ) (at i : ℕ) → i < length old → i < at → get_or (wrote old at bytes) i 0 ≡ get_or old i 0
before_range old bytes at i within below = grind (arith, places)

behind_range : (old bytes : List ℕ) (at i : ℕ) → i < length old → at + length bytes ≤ i → get_or (wrote old at bytes) i 0 ≡ get_or old i 0
behind_range old bytes at i within above = grind (arith, places)

-- what was written is one of what a torn write may leave
pub wrote_torn : (old bytes : List ℕ) (at : ℕ) → Torn at (length bytes) old (wrote old at bytes)
wrote_torn old bytes at = record {
  no_shorter = (length-wrote old bytes at).0;
  no_longer = (length-wrote old bytes at).1;
  outside = λ i within away. ⊎_elim (before_range old bytes at i within) (behind_range old bytes at i within) away;
}

-- nothing written is one too
pub same_torn : (old : List ℕ) (at n : ℕ) → Torn at n old old
same_torn old at n = record { no_shorter = omega arith; no_longer = omega arith; outside = λ i within away. refl }

-- as it reads it may be left
pub plays_image : (first : List ℕ) (back : List MemCall) → Images first back (plays first back)
plays_image first [] = refl
plays_image first (Quiet ∷ back) = plays_image first back
plays_image first (Write at bytes ∷ back) = (plays first back, plays_image first back, wrote_torn (plays first back) bytes.items at)
plays_image first (Sync ∷ back) = refl

left_now : (first : List ℕ) (calls : List MemCall) (t : ℕ) (c : List ℕ) → t ≤ length calls → Images first (reverse calls) c → LeftSince first calls t c
left_now first calls t c le image = record {
  place = length calls;
  from = le;
  upto = omega arith;
  image = subst (λ (l : List MemCall). Images first (reverse l) c) (sym (take_all (length calls) calls (omega arith))) image;
}

now_only : (first : List ℕ) (calls : List MemCall) (c : List ℕ) → LeftSince first calls (length calls) c → Images first (reverse calls) c
now_only first calls c left = subst (λ (l : List MemCall). Images first (reverse l) c) (take_all left.place calls left.from) left.image

pub memory_lawful : (disk : MemDisk) → IsLawful (told_of disk)
memory_lawful disk = record {
  reads_too = λ h. refl;
  as_it_reads = λ h. subst (Images disk.first.items (reverse disk.calls.items)) (sym disk.played) (plays_image disk.first.items (reverse disk.calls.items));
  counts_now = λ h t c le image. left_now disk.first.items disk.calls.items t c le image;
  only_now = λ h c left. now_only disk.first.items disk.calls.items c left;
}
