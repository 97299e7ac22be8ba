-- The words of scripts that are read as keys and values are such.
use Rattle.std.proofs.Common.{◌≡◌, ◌≢◌, ℕ, ◌≤◌, nat_le, nat_lt, not, Bool, true, false, List, [], ◌∷◌, length, Ok, ◌&&◌, subst, All}
use Rattle.std.specs.List.{list_all}
use Rattle.std.specs.Str.{bytes_eq}
use Rattle.std.proofs.lemmas.Bool.{and_parts, leb-true, ltb-true, not-false}
use Rattle.std.proofs.lemmas.List.Elements.{All-nil, All-cons}
use Rattle.std.proofs.lemmas.Slice.Eq.{bytes_eq-Decides}
use Rattle.vs_rows.specs.Names.{IsName}
use Rattle.vs_script.specs.Words.{◌>>◌, bad_if, is_name, name_at, number_at, number_to, word_at}
use Rattle.vs_script.specs.declared.fault.ScriptKind.{ScriptKind}
use Rattle.vs_script.specs.declared.fault.ScriptKind.TheVariants.{BadWord}
use Rattle.vs_named.proofs.Steps.{step, passed}

-- every byte is visible
visible : (word : List ℕ) → list_all (λ b. nat_le 0x21 b && nat_le b 0x7E) word ≡ true → All (λ b. (0x21 ≤ b) × (b ≤ 0x7E)) word
visible [] test = All-nil (λ b. (0x21 ≤ b) × (b ≤ 0x7E))
visible (b ∷ word) test =
    let parts = and_parts (nat_le 0x21 b && nat_le b 0x7E) (list_all (λ b. nat_le 0x21 b && nat_le b 0x7E) word) test in
    let here = and_parts (nat_le 0x21 b) (nat_le b 0x7E) parts.0 in
    All-cons (λ b. (0x21 ≤ b) × (b ≤ 0x7E)) b word (leb-true 0x21 b here.0, leb-true b 0x7E here.1) (visible word parts.1)

no_mark : (word : List ℕ) → not (bytes_eq word (59 ∷ [])) ≡ true → word ≢ 59 ∷ []
no_mark word test is =
    let same = (bytes_eq-Decides word (59 ∷ [])).1 is in
    let no : false ≡ true = subst (λ (t : Bool). not t ≡ true) same test in
    cc

tested_name : (most : ℕ) (word : List ℕ) → is_name most word ≡ true → IsName most word
tested_name most word test =
    let some = nat_lt 0 (length word) in
    let short = nat_le (length word) most in
    let seen = list_all (λ b. nat_le 0x21 b && nat_le b 0x7E) word in
    let parts = and_parts (some && short && seen) (not (bytes_eq word (59 ∷ []))) test in
    let bytes = and_parts (some && short) seen parts.0 in
    let size = and_parts some short bytes.0 in
    record { some = ltb-true 0 (length word) size.0; short = leb-true (length word) most size.1; visible = visible word bytes.1; no_mark = no_mark word parts.1 }

-- a word that is read as a name is one
pub name_is : (most : ℕ) (words : List (List ℕ)) (x : List ℕ × List (List ℕ)) → name_at most words ≡ Ok x → IsName most x.0
name_is most words x e =
    let (word, _, rest) = step (word_at words) (λ word. bad_if (not (is_name most word.0)) BadWord >> Ok word) x e in
    let (u, passes, last) = step (bad_if (not (is_name most word.0)) BadWord) (λ _. Ok word) x rest in
    let same : word ≡ x = cc in
    subst (λ (y : List ℕ × List (List ℕ)). IsName most y.0) same (tested_name most word.0 (not-false (is_name most word.0) (passed (not (is_name most word.0)) BadWord u passes)))

-- a number that is read is within its range
pub number_is : (most : ℕ) (kind : ScriptKind) (words : List (List ℕ)) (x : ℕ × List (List ℕ)) → number_to most kind words ≡ Ok x → (1 ≤ x.0) × (x.0 ≤ most)
number_is most kind words x e =
    let (number, _, rest) = step (number_at words) (λ number. bad_if (not (nat_le 1 number.0 && nat_le number.0 most)) kind >> Ok number) x e in
    let (u, passes, last) = step (bad_if (not (nat_le 1 number.0 && nat_le number.0 most)) kind) (λ _. Ok number) x rest in
    let same : number ≡ x = cc in
    let test = not-false (nat_le 1 number.0 && nat_le number.0 most) (passed (not (nat_le 1 number.0 && nat_le number.0 most)) kind u passes) in
    let parts = and_parts (nat_le 1 number.0) (nat_le number.0 most) test in
    subst (λ (y : ℕ × List (List ℕ)). (1 ≤ y.0) × (y.0 ≤ most)) same (leb-true 1 number.0 parts.0, leb-true number.0 most parts.1)
