-- Words that may be keys and values.
use Rattle.std.proofs.Common.{◌≡◌, ℕ, ◌≤◌, nat_le, nat_lt, not, List, [], ◌∷◌, length, Ok, Err, ◌&&◌, refl, All}
use Rattle.std.specs.Bool.{Decides}
use Rattle.std.specs.List.{list_all}
use Rattle.std.specs.Str.{bytes_eq}
use Rattle.std.proofs.lemmas.Bool.{leb-true, le-leb}
use Rattle.std.proofs.lemmas.Bool.Decides.{Decides-and, Decides-not, Decides-like, Decides-ltb, Decides-by_and}
use Rattle.std.proofs.lemmas.Bool.{false_from_ne_true}
use Rattle.std.proofs.lemmas.Slice.Eq.{bytes_eq-Decides}
use Rattle.vs_rows.specs.Names.{IsName}
use Rattle.vs_audit.specs.Words.{is_name, name_at, word_at, Bad}

le_decides : (a b : ℕ) → Decides (nat_le a b) (a ≤ b)
le_decides a b = (leb-true a b, le-leb a b)

visible : (word : List ℕ) → Decides (list_all (λ b. nat_le 0x21 b && nat_le b 0x7E) word) (All (λ b. (0x21 ≤ b) × (b ≤ 0x7E)) word)
visible word =
    Decides-by_and (λ b. nat_le 0x21 b && nat_le b 0x7E) (λ b. (0x21 ≤ b) × (b ≤ 0x7E)) (list_all (λ b. nat_le 0x21 b && nat_le b 0x7E))
    (λ b. Decides-and (nat_le 0x21 b) (nat_le b 0x7E) (le_decides 0x21 b) (le_decides b 0x7E)) refl (λ _ _. refl) word

name_decides : (most : ℕ) (word : List ℕ) → Decides (is_name most word) (IsName most word)
name_decides most word =
    let some = nat_lt 0 (length word) in
    let short = nat_le (length word) most in
    let seen = list_all (λ b. nat_le 0x21 b && nat_le b 0x7E) word in
    let other = not (bytes_eq word (59 ∷ [])) in
    let short_ones = Decides-and some short (Decides-ltb 0 (length word)) (le_decides (length word) most) in
    let seen_ones = Decides-and (some && short) seen short_ones (visible word) in
    let all = Decides-and (some && short && seen) other seen_ones (Decides-not (bytes_eq word (59 ∷ [])) (bytes_eq-Decides word (59 ∷ []))) in
    Decides-like (is_name most word)
    (λ p. record { some = p.0.0.0; short = p.0.0.1; visible = p.0.1; no_mark = p.1 })
    (λ (n : IsName most word). (((n.some, n.short), n.visible), n.no_mark)) all

-- a word that may be a key or a value is read as one
pub name_read : (most : ℕ) (words rest : List (List ℕ)) (word name : List ℕ) → word_at words ≡ Ok (word, rest) → name ≡ word → IsName most word → name_at most words ≡ Ok (name, rest)
name_read most words rest word name first same is =
    let test = (name_decides most word).1 is in
    rw (first, test, same) refl

-- and another isn't
pub name_refused : (most : ℕ) (words rest : List (List ℕ)) (word : List ℕ) → word_at words ≡ Ok (word, rest) → ¬ IsName most word → name_at most words ≡ Err Bad
name_refused most words rest word first isnt =
    let test = false_from_ne_true (is_name most word) (λ t. isnt ((name_decides most word).0 t)) in
    rw (first, test) refl
