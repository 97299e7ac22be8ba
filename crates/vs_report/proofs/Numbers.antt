-- Texts of things that have numbers from 1 on.
use Rattle.std.proofs.Common.{◌≡◌, ℕ, ◌+◌, ◌<◌, List, [], ◌∷◌, ◌++◌, length, get_or, Some, suc, ap, subst, sym, ◌∙◌, add-one, append_assoc}
use Rattle.std.specs.List.{flat_map}
use Rattle.std.specs.Option.{option_map_or}
use Rattle.std.proofs.lemmas.List.{append-nil}
use Rattle.std.proofs.lemmas.Option.{slice_get-get_or}
use Rattle.std.proofs.lemmas.Grind.{flat_map-append}
use Rattle.vs_machine.specs.Report.{numbers_to}
use Rattle.vs_state.specs.Tables.{numbered}

numbers_more : (f : ℕ → List ℕ) (n : ℕ) → flat_map f (numbers_to (n + 1)) ≡ flat_map f (numbers_to n) ++ f (n + 1)
numbers_more f n = rw add-one (flat_map-append f (numbers_to n) (suc n ∷ []) ∙ ap (λ t. flat_map f (numbers_to n) ++ t) (append-nil (f (suc n))))

-- the text of one more is added to those of the first
pub texts_more : (f : ℕ → List ℕ) (n : ℕ) (before old new text : List ℕ) → old ≡ before ++ flat_map f (numbers_to n) → new ≡ old ++ text → f (n + 1) ≡ text
    → new ≡ before ++ flat_map f (numbers_to (n + 1))
texts_more f n before old new text so_far added same =
    added ∙ ap (λ t. t ++ text) so_far ∙ append_assoc before (flat_map f (numbers_to n)) text
    ∙ ap (λ t. before ++ t) (ap (λ t. flat_map f (numbers_to n) ++ t) (sym same) ∙ sym (numbers_more f n))

-- what stands at the number after an index, read from the same list
pub numbered_next : {A B : Type 0} (f : A → B) (d : B) {xs ys : List A} → ys ≡ xs → (i : ℕ) (x : A) → i < length ys → x ≡ get_or ys i x → numbered f d xs (i + 1) ≡ f x
numbered_next {A} f d {xs} {ys} same i x within is =
    let there : numbered f d ys (i + 1) ≡ f x = rw add-one (ap (λ o. option_map_or f o d) (slice_get-get_or ys i x within ∙ ap Some (sym is))) in
    subst (λ (s : List A). numbered f d s (i + 1) ≡ f x) same there
