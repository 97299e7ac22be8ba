-- Answers compared one by one.
use Rattle.std.proofs.Common.{◌≡◌, ℕ, ◌<◌, List, length, get_or, Some, ap, sym, ◌∙◌, slice_get}
use Rattle.std.proofs.lemmas.Option.{slice_get-map, slice_get_read}
use Rattle.std.specs.Option.{option_map}
use Rattle.std.proofs.Common.{refl}
use Rattle.vs_rows.specs.Said.{said, said_all}
use Rattle.vs_rows.specs.declared.answer.Answer.{Answer}

said_at : (xs : List Answer) (i : ℕ) (x : Answer) → i < length xs → x ≡ get_or xs i x → slice_get (said_all xs) i ≡ Some (said x)
said_at xs i x inside is = slice_get-map said xs i ∙ ap (option_map said) (slice_get_read xs (length xs) i x refl inside is)

-- lists that say the same do so at each place
pub same_at : (xs ys : List Answer) (i : ℕ) (x y : Answer) → i < length xs → i < length ys → x ≡ get_or xs i x → y ≡ get_or ys i y → said_all xs ≡ said_all ys → said x ≡ said y
same_at xs ys i x y in_xs in_ys is_x is_y same =
    let at_x = said_at xs i x in_xs is_x in
    let at_y = said_at ys i y in_ys is_y in
    let both : slice_get (said_all xs) i ≡ slice_get (said_all ys) i = ap (λ l. slice_get l i) same in
    let e : Some (said x) ≡ Some (said y) = sym at_x ∙ both ∙ at_y in
    cc
