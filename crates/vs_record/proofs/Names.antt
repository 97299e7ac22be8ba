-- Names and rising rows, as tests.
use Rattle.std.proofs.Common.{◌≡◌, ⊎_elim, ℕ, ◌<◌, ◌≤◌, nat_eq, nat_le, Bool, true, false, ◌&&◌, not, List, [], ◌∷◌, ◌++◌, length, All, refl, sym, ◌∙◌, arith, length-append, Ordering, Less, Equal, Greater}
use Rattle.std.specs.Bool.{Decides}
use Rattle.std.specs.Cmp.Lexicographic.{pointwise}
use Rattle.std.specs.List.{list_all}
use Rattle.std.specs.Ordering.{is_lt}
use Rattle.std.proofs.lemmas.Bool.{false≢true}
use Rattle.std.proofs.lemmas.Bool.Decides.{Decides-eqb, Decides-and, Decides-not, Decides-like, Decides-by_and, leb_tells}
use Rattle.std.proofs.lemmas.Slice.Eq.{slice_eq-Decides}
use Rattle.vs_rows.specs.Names.{IsName}
use Rattle.vs_rows.specs.Pages.{IsPage}
use Rattle.vs_rows.specs.RowMap.{RowMap, key_cmp}
use Rattle.vs_rows.proofs.Rising.{IsBelow}
use Rattle.vs_rows.proofs.Pushed.{rising_push, below_pushed}
use Rattle.vs_record.specs.Reading.{is_between, is_name, is_above}

pub le_decides : (a b : ℕ) → Decides (nat_le a b) (a ≤ b)
le_decides a b =
    ⊎_elim (λ (yes : (nat_le a b ≡ true) × (a ≤ b)). (λ e. yes.1, λ h. yes.0)) (λ (more : (nat_le a b ≡ false) × (b < a)). (λ e. absurd (false≢true (sym more.0 ∙ e)), λ h. absurd (omega (arith, more.1, h)))) (leb_tells a b)

pub between_decides : (low high n : ℕ) → Decides (is_between low high n) ((low ≤ n) × (n ≤ high))
between_decides low high n = Decides-and (nat_le low n) (nat_le n high) (le_decides low n) (le_decides n high)

visible_decides : (bytes : List ℕ) → Decides (list_all (λ b. is_between 0x21 0x7E b) bytes) (All (λ b. (0x21 ≤ b) × (b ≤ 0x7E)) bytes)
visible_decides bytes = Decides-by_and (λ b. is_between 0x21 0x7E b) (λ b. (0x21 ≤ b) × (b ≤ 0x7E)) (λ bs. list_all (λ b. is_between 0x21 0x7E b) bs) (λ b. between_decides 0x21 0x7E b) refl (λ _ _. refl) bytes

mark_decides : (bytes : List ℕ) → Decides (pointwise nat_eq bytes (59 ∷ [])) (bytes ≡ 59 ∷ [])
mark_decides bytes = slice_eq-Decides Decides-eqb bytes (59 ∷ []) (pointwise nat_eq bytes (59 ∷ [])) refl

pub name_decides : (most : ℕ) (bytes : List ℕ) → Decides (is_name most bytes) (IsName most bytes)
name_decides most bytes =
    let size = is_between 1 most (length bytes) in
    let visible = list_all (λ b. is_between 0x21 0x7E b) bytes in
    let mark = pointwise nat_eq bytes (59 ∷ []) in
    Decides-like (is_name most bytes) (λ (is : (((1 ≤ length bytes) × (length bytes ≤ most)) × All (λ b. (0x21 ≤ b) × (b ≤ 0x7E)) bytes) × (¬ (bytes ≡ 59 ∷ []))). record { some = omega (arith, is.0.0.0); short = is.0.0.1; visible = is.0.1; no_mark = is.1 })
    (λ (is : IsName most bytes). (((omega (arith, is.some), is.short), is.visible), is.no_mark))
    (Decides-and (size && visible) (not mark) (Decides-and size visible (between_decides 1 most (length bytes)) (visible_decides bytes)) (Decides-not mark (mark_decides bytes)))

lt_decides : (o : Ordering) → Decides (is_lt o) (o ≡ Less)
lt_decides Less = (λ e. refl, λ h. refl)
lt_decides Equal = (λ e. absurd (false≢true e), λ h. cc)
lt_decides Greater = (λ e. absurd (false≢true e), λ h. cc)

pub above_decides : (rows : RowMap) (key : List ℕ) → Decides (is_above rows key) (IsBelow rows key)
above_decides [] key = (λ e. tt, λ h. refl)
above_decides (row ∷ rows) key = Decides-and (is_lt (key_cmp row.0 key)) (is_above rows key) (lt_decides (key_cmp row.0 key)) (above_decides rows key)

-- a test of a name, from what its making answered
pub named : (most : ℕ) (bytes : List ℕ) → IsName most bytes → is_name most bytes ≡ true
named most bytes is = (name_decides most bytes).1 is

not_of : {P : Type 0} (t : Bool) → Decides t P → ¬ P → t ≡ false
not_of true decides refuted = absurd (refuted (decides.0 refl))
not_of false decides refuted = refl

pub unnamed : (most : ℕ) (bytes : List ℕ) → ¬ (IsName most bytes) → is_name most bytes ≡ false
unnamed most bytes refuted = not_of (is_name most bytes) (name_decides most bytes) refuted

pub not_above : (rows : RowMap) (key : List ℕ) → ¬ IsBelow rows key → is_above rows key ≡ false
not_above rows key refuted = not_of (is_above rows key) (above_decides rows key) refuted

-- a row fits behind a page that isn't full exactly where its key is above those of the page
pub pushed : (rows : RowMap) (key : List ℕ) → IsPage rows → length rows < 1000 → IsBelow rows key → (v : List ℕ) → IsPage (rows ++ (key, v) ∷ [])
pushed rows key page short below v = record { rising = rising_push rows (key, v) page.rising below; short = omega (arith, length-append rows ((key, v) ∷ [])) }

pub is_fitting : (rows : RowMap) (key v : List ℕ) → IsPage (rows ++ (key, v) ∷ []) → is_above rows key ≡ true
is_fitting rows key v page = (above_decides rows key).1 (below_pushed rows (key, v) page.rising)

pub is_unfit : (rows : RowMap) (key : List ℕ) → IsPage rows → length rows < 1000 → ¬ ((v : List ℕ) → IsPage (rows ++ (key, v) ∷ [])) → is_above rows key ≡ false
is_unfit rows key page short refuted = not_above rows key (λ below. refuted (pushed rows key page short below))
