-- What the marks of the parts of a table tell, and how they are renewed.
use Rattle.std.proofs.Common.{◌≡◌, ◌≢◌, ℕ, ◌+◌, ◌-◌, ◌*◌, ◌/◌, ◌<◌, ◌≤◌, Bool, true, false, List, length, get_or, set, take, drop, Option, None, refl, sym, ap, ◌∙◌, subst, arith, length-drop}
use Rattle.std.specs.Prelude.{◌==◌}
use Rattle.std.specs.List.{list_any}
use Rattle.std.proofs.Math.ListN.{length-set, length-take}
use Rattle.std.proofs.lemmas.Bool.{false_from_ne_true, false≢true}
use Rattle.std.proofs.lemmas.Bool.Decides.{Decides-eqb}
use Rattle.std.proofs.lemmas.List.{get_or-take, get_or-drop, get_or-set_same, get_or-set_other}
use Rattle.std.proofs.lemmas.List.Folds.{list_any_at}
use Rattle.vs_space.specs.declared.search.Class.{Class}
use Rattle.vs_space.specs.declared.search.Marks.{Marks}
use Rattle.vs_space.specs.declared.status.Status.{Status}
use Rattle.vs_space.specs.Class.{is_of}
use Rattle.vs_space.specs.Marks.{AreMarks, IsTold, Tells}

-- two numbers are the same or not
either : {P : Type 0} (a b : ℕ) → (a ≡ b → P) → (a ≢ b → P) → P
either {P} a b same other = by_test (a == b) refl
  where
    by_test : (t : Bool) → (a == b) ≡ t → P
    by_test true is = same ((Decides-eqb a b).0 is)
    by_test false is = other (λ e. false≢true (sym is ∙ (Decides-eqb a b).1 e))

-- where no element passes, that at this place doesn't
none_at : {X : Type 0} (p : X → Bool) (xs : List X) (i : ℕ) (d : X) → list_any p xs ≡ false → i < length xs → p (get_or xs i d) ≡ false
none_at p xs i d none within = false_from_ne_true (p (get_or xs i d)) (λ t. false≢true (sym none ∙ list_any_at p xs i d within t))

-- where none of a part passes, that at this place of it doesn't
none_in : {X : Type 0} (p : X → Bool) (xs : List X) (first size k : ℕ) (d : X) → list_any p (take size (drop first xs)) ≡ false → first ≤ k → k < first + size → first + size ≤ length xs → p (get_or xs k d) ≡ false
none_in p xs first size k d none from below within =
    let at : first + (k - first) ≡ k = omega arith in
    let inner : k - first < size = omega arith in
    let inside : k - first < length (take size (drop first xs)) = simp (length-take, length-drop) (omega arith) in
    let read : get_or (take size (drop first xs)) (k - first) d ≡ get_or xs k d = get_or-take size (drop first xs) (k - first) d inner ∙ get_or-drop first xs (k - first) d ∙ ap (λ i. get_or xs i d) at in
    ap p (sym read) ∙ none_at p (take size (drop first xs)) (k - first) d none inside

-- a block has a new mark, and its group that of its blocks
pub within_renewed : (blocks groups : List Bool) (block size : ℕ) (mark over : Bool) → size ≡ 25 → 25 * length groups ≡ length blocks → block < length blocks → ((b : ℕ) → get_or groups (b / 25) false ≡ false → get_or blocks b false ≡ false) → over ≡ list_any (λ (m : Bool). m) (take size (drop (block / 25 * 25) (set blocks block mark))) → (b : ℕ) → get_or (set groups (block / 25) over) (b / 25) false ≡ false → get_or (set blocks block mark) b false ≡ false
within_renewed blocks groups block size mark over size_is whole inside had is b unmarked = either (b / 25) (block / 25) same other
  where
    same : b / 25 ≡ block / 25 → get_or (set blocks block mark) b false ≡ false
    same e =
        let last : block / 25 < length groups = omega arith in
        let none : over ≡ false = sym (get_or-set_same groups (block / 25) over false last) ∙ ap (λ i. get_or (set groups (block / 25) over) i false) (sym e) ∙ unmarked in
        let all : block / 25 * 25 + size ≤ length (set blocks block mark) = rw length-set (omega arith) in
        none_in (λ (m : Bool). m) (set blocks block mark) (block / 25 * 25) size b false (sym is ∙ none) (omega arith) (omega arith) all

    other : b / 25 ≢ block / 25 → get_or (set blocks block mark) b false ≡ false
    other ne =
        let apart : b ≢ block = λ e. ne (ap (λ n. n / 25) e) in
        get_or-set_other blocks block b mark false apart ∙ had b (sym (get_or-set_other groups (block / 25) (b / 25) over false ne) ∙ unmarked)

-- and the new mark tells of the places of the block
pub told_renewed : (class : Class) (places : List (Option Status)) (blocks : List Bool) (block size : ℕ) (mark : Bool) → size ≡ 40 → 40 * length blocks ≡ length places → block < length blocks → mark ≡ list_any (is_of class) (take size (drop (block * 40) places)) → (k : ℕ) → (k / 40 ≢ block → get_or blocks (k / 40) false ≡ false → is_of class (get_or places k None) ≡ false) → get_or (set blocks block mark) (k / 40) false ≡ false → is_of class (get_or places k None) ≡ false
told_renewed class places blocks block size mark size_is whole inside is k had unmarked = either (k / 40) block same other
  where
    same : k / 40 ≡ block → is_of class (get_or places k None) ≡ false
    same e =
        let none : mark ≡ false = sym (get_or-set_same blocks block mark false inside) ∙ ap (λ i. get_or (set blocks block mark) i false) (sym e) ∙ unmarked in
        none_in (is_of class) places (block * 40) size k None (sym is ∙ none) (omega arith) (omega arith) (omega arith)

    other : k / 40 ≢ block → is_of class (get_or places k None) ≡ false
    other ne = had ne (sym (get_or-set_other blocks block (k / 40) mark false ne) ∙ unmarked)

-- where one place was written, all is still told of the other blocks
told_but : (class : Class) (places : List (Option Status)) (marks : Marks) (i : ℕ) (new : Option Status) → ((k : ℕ) → IsTold class places marks k) → (k : ℕ) → k / 40 ≢ i / 40 → IsTold class (set places i new) marks k
told_but class places marks i new told k ne unmarked =
    let apart : k ≢ i = λ e. ne (ap (λ n. n / 40) e) in
    ap (is_of class) (get_or-set_other places i k new None apart) ∙ told k unmarked

-- so the marks tell of all places where that block was marked anew
pub tells_renewed : (class : Class) (places seen : List (Option Status)) (marks later : Marks) (i : ℕ) (new : Option Status) → seen ≡ set places i new → ((k : ℕ) → IsTold class places marks k) → AreMarks (length seen) later → ((k : ℕ) → (k / 40 ≢ i / 40 → IsTold class seen marks k) → IsTold class seen later k) → Tells class (set places i new) later
tells_renewed class places seen marks later i new is had parts told =
    let others : (k : ℕ) → k / 40 ≢ i / 40 → IsTold class seen marks k = λ k ne. subst (λ (l : List (Option Status)). IsTold class l marks k) (sym is) (told_but class places marks i new had k ne) in
    let now : Tells class seen later = record { parts = parts; told = λ k. told k (others k) } in
    subst (λ (l : List (Option Status)). Tells class l later) is now
