-- The table of connections: one of them is written, and the others stay.
use Rattle.std.proofs.Common.{◌≡◌, ◌≢◌, ℕ, ◌<◌, ◌≤◌, ◌⊎◌, Bool, true, false, List, length, get_or, set, refl, sym, ap, ◌∙◌, subst, arith, get_or-set_same, get_or-set_other, map, zero, suc}
use Rattle.std.specs.Prelude.{◌&&◌, if◌then◌else◌, replicate}
use Rattle.std.proofs.Math.ListN.{get_or-map}
use Rattle.std.proofs.lemmas.List.{get_or_default}
use Rattle.std.proofs.lemmas.Bool.Decides.{nat_tests}
use Rattle.vs_base.specs.Numbers.{IsSetNo}
use Rattle.vs_link.specs.Connection.{Connection}
use Rattle.vs_link.specs.Links.{Line, Links, no_line, is_set, place_of, line_of, connection_of, IsTable, IsPair, Becomes, IsUnused, SameLinks}

is_pair : (sets x y : ℕ) → IsSetNo x → IsSetNo y → x ≤ sets → y ≤ sets → (is_set sets x && is_set sets y) ≡ true
is_pair sets x y first second below within = grind (arith, nat_tests)

within_table : (links : Links) (x y : ℕ) → IsTable links → IsSetNo x → IsSetNo y → IsPair links x y → place_of x y < length links.lines
within_table links x y table first second pair = omega (arith, table.whole, pair.from, first, second)

-- two places differ where the connections do
apart : (sets p q x y : ℕ) → sets ≤ 32 → IsSetNo x → IsSetNo y → (is_set sets p && is_set sets q) ≡ true → (p ≢ x) ⊎ (q ≢ y) → place_of p q ≢ place_of x y
apart sets p q x y few first second inside other = grind (arith, nat_tests)

module _ (old : Links) (x y : ℕ) (line : Line) (table : IsTable old) (first : IsSetNo x) (second : IsSetNo y) (pair : IsPair old x y) where
  abbrev written : Links
  written = record { sets = old.sets; lines = set old.lines (place_of x y) line }

  here : line_of written x y ≡ line
  here =
      let lt : place_of x y < length old.lines = within_table old x y table first second pair in
      rw (is_pair old.sets x y first second pair.from pair.to) (get_or-set_same old.lines (place_of x y) line no_line lt)

  elsewhere : (p q : ℕ) → (p ≢ x) ⊎ (q ≢ y) → line_of written p q ≡ line_of old p q
  elsewhere p q other =
      let cases : (b : Bool) → (is_set old.sets p && is_set old.sets q) ≡ b → (if b then get_or (set old.lines (place_of x y) line) (place_of p q) no_line else no_line) ≡ (if b then get_or old.lines (place_of p q) no_line else no_line) =
      λ b. elim b as (λ b. (is_set old.sets p && is_set old.sets q) ≡ b → (if b then get_or (set old.lines (place_of x y) line) (place_of p q) no_line else no_line) ≡ (if b then get_or old.lines (place_of p q) no_line else no_line)) [
        | true ↦ λ inside. let ne : place_of p q ≢ place_of x y = apart old.sets p q x y table.few first second inside other in get_or-set_other old.lines (place_of x y) (place_of p q) line no_line ne
        | false ↦ λ _. refl
      ]
      in cases (is_set old.sets p && is_set old.sets q) refl

-- the line of a connection is written in the table
pub becomes : (sets : ℕ) (lines : List Line) (old : Links) (x y i : ℕ) (line : Line) (connection : Connection) → IsTable (record { sets = sets; lines = lines }) → record { sets = sets; lines = lines } ≡ old → IsSetNo x → IsSetNo y → IsPair old x y → i ≡ place_of x y → line.connection ≡ connection → Becomes old (record { sets = sets; lines = set lines i line }) x y connection
becomes sets lines old x y i line connection table view first second pair at is =
    let now : Links = record { sets = sets; lines = lines } in
    let seen : IsPair now x y = subst (λ (v : Links). IsPair v x y) (sym view) pair in
    let P : ℕ → Type 0 = λ i. Becomes now (record { sets = sets; lines = set lines i line }) x y connection in
    let kept : Becomes now (record { sets = sets; lines = set lines i line }) x y connection =
    subst P (sym at) (record {
      sets = refl;
      here = ap (λ (l : Line). l.connection) (here now x y line table first second seen) ∙ is;
      others = elsewhere now x y line table first second seen;
    })
    in
    subst (λ (v : Links). Becomes v (record { sets = sets; lines = set lines i line }) x y connection) view kept

-- what stands at a connection's place is its line
read : (sets : ℕ) (lines : List Line) (old : Links) (x y i : ℕ) (had : Line) → IsTable (record { sets = sets; lines = lines }) → record { sets = sets; lines = lines } ≡ old → IsSetNo x → IsSetNo y → IsPair old x y → i ≡ place_of x y → had ≡ get_or lines i had → had ≡ line_of old x y
read sets lines old x y i had table view first second pair at is =
    let now : Links = record { sets = sets; lines = lines } in
    let seen : IsPair now x y = subst (λ (v : Links). IsPair v x y) (sym view) pair in
    let lt : place_of x y < length lines = within_table now x y table first second seen in
    let there : had ≡ get_or lines (place_of x y) no_line = is ∙ ap (λ i. get_or lines i had) at ∙ get_or_default lines (place_of x y) had no_line lt in
    let line : line_of now x y ≡ get_or lines (place_of x y) no_line = rw (is_pair sets x y first second seen.from seen.to) refl in
    there ∙ sym line ∙ ap (λ (v : Links). line_of v x y) view

-- a call on a connection's line changes the connection alone
pub becomes_by : (change : Connection → Connection) (sets : ℕ) (lines : List Line) (old : Links) (x y i : ℕ) (had line : Line) → IsTable (record { sets = sets; lines = lines }) → record { sets = sets; lines = lines } ≡ old → IsSetNo x → IsSetNo y → IsPair old x y → i ≡ place_of x y → had ≡ get_or lines i had → line.connection ≡ change had.connection → Becomes old (record { sets = sets; lines = set lines i line }) x y (change (connection_of old x y))
becomes_by change sets lines old x y i had line table view first second pair at is changed =
    becomes sets lines old x y i line (change (connection_of old x y)) table view first second pair at
    (changed ∙ ap (λ (l : Line). change l.connection) (read sets lines old x y i had table view first second pair at is))

-- a line as it is seen without its room
abbrev pub plain : Line → Connection × ℕ
plain line = (line.connection, line.unanswered)

-- a table of lines that are plainly like no line at all has no used connection
pub unused_links : (sets n : ℕ) (lines : List Line) → map plain lines ≡ replicate n (plain no_line) → IsUnused (record { sets = sets; lines = lines }) sets
unused_links sets n lines same =
    let links : Links = record { sets = sets; lines = lines } in
    let at : (i : ℕ) → plain (get_or lines i no_line) ≡ plain no_line = λ i. sym (get_or-map plain lines i no_line) ∙ ap (λ (ls : List (Connection × ℕ)). get_or ls i (plain no_line)) same ∙ get_or-replicate n i (plain no_line) in
    let line : (x y : ℕ) → plain (line_of links x y) ≡ plain no_line = λ x y. choice (is_set sets x && is_set sets y) (get_or lines (place_of x y) no_line) (at (place_of x y)) in
    record {
      number = refl;
      connections = λ x y. ap (λ (p : Connection × ℕ). p.0) (line x y);
      answered = λ x y. ap (λ (p : Connection × ℕ). p.1) (line x y);
    }
  where
    choice : (b : Bool) (line : Line) → plain line ≡ plain no_line → plain (if b then line else no_line) ≡ plain no_line
    choice true line same = same
    choice false line same = refl

    get_or-replicate : (n i : ℕ) (x : Connection × ℕ) → get_or (replicate n x) i x ≡ x
    get_or-replicate zero i x = refl
    get_or-replicate (suc n) zero x = refl
    get_or-replicate (suc n) (suc i) x = get_or-replicate n i x

-- tables of lines that are plainly the same have the same connections
pub same_links : (old new : Links) → old.sets ≡ new.sets → map plain new.lines ≡ map plain old.lines → SameLinks old new
same_links old new sets same =
    let at : (i : ℕ) → plain (get_or new.lines i no_line) ≡ plain (get_or old.lines i no_line) = λ i. sym (get_or-map plain new.lines i no_line) ∙ ap (λ (ls : List (Connection × ℕ)). get_or ls i (plain no_line)) same ∙ get_or-map plain old.lines i no_line in
    let line : (x y : ℕ) → plain (line_of new x y) ≡ plain (line_of old x y) = λ x y. rw (sym sets) (choice (is_set old.sets x && is_set old.sets y) (get_or new.lines (place_of x y) no_line) (get_or old.lines (place_of x y) no_line) (at (place_of x y))) in
    record {
      sets = sym sets;
      connections = λ x y. ap (λ (p : Connection × ℕ). p.0) (line x y);
      unanswered = λ x y. ap (λ (p : Connection × ℕ). p.1) (line x y);
    }
  where
    choice : (b : Bool) (one other : Line) → plain one ≡ plain other → plain (if b then one else no_line) ≡ plain (if b then other else no_line)
    choice true one other same = same
    choice false one other same = refl
