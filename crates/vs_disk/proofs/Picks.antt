-- What a crash leaves by a pick is one of the images.
use Rattle.std.proofs.Common.{◌≡◌, ℕ, zero, suc, ◌+◌, ◌<◌, List, [], ◌∷◌, length, take, get_or, reverse, replicate, refl, ◌∙◌, ap, subst}
use Rattle.std.proofs.lemmas.List.{take_more, length-replicate}
use Rattle.vs_disk.specs.declared.call.MemCall.{MemCall}
use Rattle.vs_disk.specs.declared.call.MemCall.TheVariants.{Quiet, Write, Sync}
use Rattle.vs_disk.specs.Model.{wrote, Torn}
use Rattle.vs_disk.specs.Images.{plays, Images, synced, smeared, picked, played_on, picked_on}
use Rattle.vs_disk.specs.Kept.{plays_image, wrote_torn, same_torn}
use Rattle.vs_disk.proofs.Moments.{reverse_push}

synced_image : (first : List ℕ) (back : List MemCall) → Images first back (synced first back)
synced_image first [] = refl
synced_image first (Quiet ∷ back) = synced_image first back
synced_image first (Write at bytes ∷ back) = (synced first back, synced_image first back, same_torn (synced first back) at (length bytes.items))
synced_image first (Sync ∷ back) = refl

smeared_image : (first : List ℕ) (back : List MemCall) → Images first back (smeared first back)
smeared_image first [] = refl
smeared_image first (Quiet ∷ back) = smeared_image first back
smeared_image first (Write at bytes ∷ back) = (
  smeared first back,
  smeared_image first back,
  subst (λ (n : ℕ). Torn at n (smeared first back) (wrote (smeared first back) at (replicate (length bytes.items) 165))) (length-replicate (length bytes.items) 165) (wrote_torn (smeared first back) (replicate (length bytes.items) 165) at),
)
smeared_image first (Sync ∷ back) = refl

pub picked_image : (pick : ℕ) (first : List ℕ) (back : List MemCall) → Images first back (picked pick first back)
picked_image zero first back = synced_image first back
picked_image (suc zero) first back = plays_image first back
picked_image (suc (suc n)) first back = smeared_image first back

pub plays_more : (first : List ℕ) (back : List MemCall) (x : MemCall) → plays first (x ∷ back) ≡ played_on (plays first back) x
plays_more first back Quiet = refl
plays_more first back (Write at bytes) = refl
plays_more first back Sync = refl

pub picked_more : (pick : ℕ) (first : List ℕ) (back : List MemCall) (x : MemCall) → picked pick first (x ∷ back) ≡ picked_on pick (plays first back) (picked pick first back) x
picked_more zero first back Quiet = refl
picked_more zero first back (Write at bytes) = refl
picked_more zero first back Sync = refl
picked_more (suc zero) first back Quiet = refl
picked_more (suc zero) first back (Write at bytes) = refl
picked_more (suc zero) first back Sync = refl
picked_more (suc (suc n)) first back Quiet = refl
picked_more (suc (suc n)) first back (Write at bytes) = refl
picked_more (suc (suc n)) first back Sync = refl

pub reverse_more : (calls : List MemCall) (i : ℕ) (d : MemCall) → i < length calls → reverse (take (i + 1) calls) ≡ get_or calls i d ∷ reverse (take i calls)
reverse_more calls i d within = ap reverse (take_more calls i d within) ∙ reverse_push (take i calls) (get_or calls i d)
