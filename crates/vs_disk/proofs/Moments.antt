-- How what a disk in memory tells goes on as its record of calls grows.
use Rattle.std.proofs.Common.{◌≡◌, ◌⊎◌, inl, inr, ⊎_elim, ℕ, ◌+◌, ◌≤◌, ◌<◌, Bool, true, false, if◌then◌else◌, List, [], ◌∷◌, ◌++◌, length, take, reverse, Vec, sym, ◌∙◌, ap, subst, arith, length-append}
use Rattle.std.proofs.lemmas.Bool.{cases_lt}
use Rattle.std.proofs.lemmas.List.{take_all, take-append-le, reverse-append}
use Rattle.std.specs.declared.alloc.Global.{Global}
use Rattle.vs_disk.specs.declared.call.MemCall.{MemCall}
use Rattle.vs_disk.specs.declared.call.MemCall.TheVariants.{Quiet, Write, Sync}
use Rattle.vs_disk.specs.Told.{Told}
use Rattle.vs_disk.specs.Model.{Torn, Elapses, Rests, Tears}
use Rattle.vs_disk.specs.Images.{plays, Images, LeftSince}
use Rattle.vs_disk.specs.Memory.{told_by}
use Rattle.vs_disk.specs.Kept.{plays_image, same_torn}
use Rattle.vs_disk.proofs.Runs.{torn_more}

pub reverse_push : (calls : List MemCall) (x : MemCall) → reverse (calls ++ x ∷ []) ≡ x ∷ reverse calls
reverse_push calls x = reverse-append calls (x ∷ [])

-- a record with one call more
module _ (first : List ℕ) (calls : List MemCall) (x : MemCall) where
  abbrev grown : List MemCall
  grown = calls ++ x ∷ []

  length_grown : length grown ≡ length calls + 1
  length_grown = omega (arith, length-append calls (x ∷ []))

  earlier : (place : ℕ) → place ≤ length calls → take place grown ≡ take place calls
  earlier place le = take-append-le place calls (x ∷ []) le

  still : (t : ℕ) (c : List ℕ) → LeftSince first calls t c → LeftSince first grown t c
  still t c left = record {
    place = left.place;
    from = left.from;
    upto = omega (arith, left.upto, length_grown);
    image = subst (λ (l : List MemCall). Images first (reverse l) c) (sym (earlier left.place left.upto)) left.image;
  }

  was : (t : ℕ) (c : List ℕ) → LeftSince first grown t c → LeftSince first calls t c ⊎ Images first (reverse grown) c
  was t c left = ⊎_elim
      (λ (past : length calls < left.place). inr (subst (λ (l : List MemCall). Images first (reverse l) c) (take_all left.place grown (omega (arith, past, length_grown))) left.image))
      (λ (le : left.place ≤ length calls). inl (record {
        place = left.place;
        from = left.from;
        upto = le;
        image = subst (λ (l : List MemCall). Images first (reverse l) c) (earlier left.place le) left.image;
      }))
      (cases_lt (length calls) left.place)

  module _ (later : List MemCall) (is : later ≡ grown) where
    images_of : (c : List ℕ) → Images first (reverse later) c → Images first (x ∷ reverse calls) c
    images_of c = subst (λ (l : List MemCall). Images first l c) (ap reverse is ∙ reverse_push calls x)

    pub elapses_push : (ready shut : Bool) (old new : List ℕ) (room wider faults more : ℕ)
        → Elapses (told_by ready first calls old room faults) (told_by shut first later new wider more)
    elapses_push ready shut old new room wider faults more = record {
      later = omega (arith, ap length is, length_grown);
      nothing_else = λ t c le left. subst (λ (l : List MemCall). LeftSince first calls t c ⊎ Images first (reverse l) c) (sym is) (was t c (subst (λ (l : List MemCall). LeftSince first l t c) is left));
      keeps = λ t c le left. subst (λ (l : List MemCall). LeftSince first l t c) (sym is) (still t c left);
    }

-- a call that writes nothing, put down or not
module _ (first : List ℕ) (calls later : List MemCall) where
  pub elapses_same : (ready shut : Bool) (old new : List ℕ) (room wider faults more : ℕ) → later ≡ calls
      → Elapses (told_by ready first calls old room faults) (told_by shut first later new wider more)
  elapses_same ready shut old new room wider faults more is = record {
    later = omega (arith, ap length is);
    nothing_else = λ t c le left. inl (subst (λ (l : List MemCall). LeftSince first l t c) is left);
    keeps = λ t c le left. subst (λ (l : List MemCall). LeftSince first l t c) (sym is) left;
  }

  pub rests_quiet : (b : Bool) (ready shut : Bool) (old new : List ℕ) (room wider faults more : ℕ) → later ≡ (if b then calls ++ Quiet ∷ [] else calls) → new ≡ old
      → Rests (told_by ready first calls old room faults) (told_by shut first later new wider more)
  rests_quiet true ready shut old new room wider faults more is same = record {
    reads = λ h. same;
    crash = λ h c image. images_of first calls Quiet later is c image;
    time = λ h. elapses_push first calls Quiet later is ready shut old new room wider faults more;
  }
  rests_quiet false ready shut old new room wider faults more is same = record {
    reads = λ h. same;
    crash = λ h c image. subst (λ (l : List MemCall). Images first (reverse l) c) is image;
    time = λ h. elapses_same ready shut old new room wider faults more is;
  }

  -- a sync leaves what a read gives
  module _ (is : later ≡ calls ++ Sync ∷ []) where
    pub synced_image : (c : List ℕ) → Images first (reverse later) c → c ≡ plays first (reverse calls)
    synced_image c image = images_of first calls Sync later is c image

    pub rests_sync : (ready shut : Bool) (old new : List ℕ) (room wider faults more : ℕ) → new ≡ old
        → Rests (told_by ready first calls old room faults) (told_by shut first later new wider more)
    rests_sync ready shut old new room wider faults more same = record {
      reads = λ h. same;
      crash = λ h c image. subst (Images first (reverse calls)) (sym (synced_image c image)) (plays_image first (reverse calls));
      time = λ h. elapses_push first calls Sync later is ready shut old new room wider faults more;
    }

  -- a write tears each image
  pub tears_write : (at : ℕ) (piece : Vec ℕ Global) (n : ℕ) (ready shut : Bool) (old new : List ℕ) (room wider faults more : ℕ) → later ≡ calls ++ Write at piece ∷ [] → length piece.items ≡ n
      → Tears at n (told_by ready first calls old room faults) (told_by shut first later new wider more)
  tears_write at piece n ready shut old new room wider faults more is size = record {
    crash = λ h c image. let from = images_of first calls (Write at piece) later is c image in (from.0, from.1, subst (λ (k : ℕ). Torn at k from.0 c) size from.2);
    time = λ h. elapses_push first calls (Write at piece) later is ready shut old new room wider faults more;
  }

-- a call that writes nothing tears nothing
pub tears_nothing : (at n : ℕ) (old new : Told) → Rests old new → Tears at n old new
tears_nothing at n old new rests = record { crash = λ h c image. (c, rests.crash h c image, same_torn c at n); time = rests.time }

-- a shorter write tears no more
pub tears_more : (at m n : ℕ) (old new : Told) → m ≤ n → Tears at m old new → Tears at n old new
tears_more at m n old new le tears = record {
  crash = λ h c image. let from = tears.crash h c image in (from.0, from.1, torn_more at m n from.0 c le from.2);
  time = tears.time;
}
