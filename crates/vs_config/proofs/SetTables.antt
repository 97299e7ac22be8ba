-- The sets of a document, one after the other.
use Rattle.std.proofs.Common.{◌≡◌, ℕ, ◌+◌, ◌<◌, ◌≤◌, ◌==◌, nat_lt, Result, Ok, Err, append_assoc, append-nil, List, [], ◌∷◌, ◌++◌, Option, Some, None, is_some, option_map, zero, suc, true, false, ◌&&◌, refl, ap, ◌∙◌, sym, get_or, drop, length, arith}
use Rattle.std.proofs.lemmas.List.{drop_more, drop_all}
use Rattle.std.proofs.lemmas.Bool.{false≢true}
use Rattle.std.proofs.lemmas.Bool.Decides.{nat_tests}
use Rattle.std.specs.Option.{option_and_then}
use Rattle.toml.specs.declared.value.Value.{Value}
use Rattle.toml.specs.Data.{Members, no_members, as_table}
use Rattle.toml.specs.View.{view, items_view}
use Rattle.toml.proofs.Views.{items_view-drop}
use Rattle.vs_config.specs.Reading.{tables_of, set_of, sets_of, sets_from, bad, ◌>>=◌}
use Rattle.vs_config.specs.declared.config.SetConfig.{SetConfig}
use Rattle.vs_config.specs.declared.fault.ConfigFault.{ConfigFault}
use Rattle.vs_config.specs.declared.fault.ConfigKind.TheVariants.{TooManySets}
use Rattle.vs_config.specs.declared.key.ConfigKey.TheVariants.{Other}

-- there is a table, and there are the others
is_some-cons : (o : Option Members) (rest : Option (List Members)) → is_some (option_and_then (λ table. option_map (λ tables. table ∷ tables) rest) o) ≡ (is_some o && is_some rest)
is_some-cons None rest = refl
is_some-cons (Some t) None = refl
is_some-cons (Some t) (Some ts) = refl

-- the values from this one on are tables if this one is, and those after it are
pub is_some-tables_of-drop : (values : List Value) (i : ℕ) (d : Value) → i < length values
    → is_some (tables_of (items_view (drop i values))) ≡ (is_some (as_table (view (get_or values i d))) && is_some (tables_of (items_view (drop (i + 1) values))))
is_some-tables_of-drop values i d h =
    rw (items_view-drop values i d h) (is_some-cons (as_table (view (get_or values i d))) (tables_of (items_view (drop (i + 1) values))))

-- a table before others
pub first_table : (o : Option Members) (rest : Option (List Members)) (ts : List Members) → option_and_then (λ table. option_map (λ tables. table ∷ tables) rest) o ≡ Some ts
    → (t : Members) × (us : List Members) × (o ≡ Some t) × (rest ≡ Some us) × (ts ≡ t ∷ us)
first_table None rest ts e = cc
first_table (Some t) None ts e = cc
first_table (Some t) (Some us) ts e = (t, us, refl, refl, cc)

-- as many tables as values
pub length-tables_of : (values : List Value) (ts : List Members) → tables_of (items_view values) ≡ Some ts → length ts ≡ length values
length-tables_of [] [] e = refl
length-tables_of [] (t ∷ ts) e = cc
length-tables_of (v ∷ vs) ts e =
    let f = first_table (as_table (view v)) (tables_of (items_view vs)) ts e in
    let h = length-tables_of vs f.1 f.3 in
    rw f.4 (ap suc h)

-- values that are all tables have their tables
pub some_tables : (values : List Value) → is_some (tables_of (items_view values)) ≡ true
    → (ts : List Members) × (tables_of (items_view values) ≡ Some ts) × (length ts ≡ length values)
some_tables values h =
    elim (tables_of (items_view values)) as (λ o. tables_of (items_view values) ≡ o → is_some o ≡ true → (ts : List Members) × (tables_of (items_view values) ≡ Some ts) × (length ts ≡ length values))
    [ Some ts ↦ λ e _. (ts, e, length-tables_of values ts e) | None ↦ λ _ h. absurd (false≢true h) ] refl h

-- each value is its table
pub tables_at : (values : List Value) (ts : List Members) (i : ℕ) (d : Value) (e : Members) → tables_of (items_view values) ≡ Some ts → i < length values
    → as_table (view (get_or values i d)) ≡ Some (get_or ts i e)
tables_at [] ts i d e is h = absurd (omega arith)
tables_at (v ∷ vs) ts zero d e is h =
    let f = first_table (as_table (view v)) (tables_of (items_view vs)) ts is in
    f.2 ∙ ap (λ xs. Some (get_or xs 0 e)) (sym f.4)
tables_at (v ∷ vs) ts (suc i) d e is h =
    let f = first_table (as_table (view v)) (tables_of (items_view vs)) ts is in
    let below : i < length vs = omega arith in
    tables_at vs f.1 i d e f.3 below ∙ ap (λ xs. Some (get_or xs (suc i) e)) (sym f.4)

-- 1 to 32 tables are the sets; more are too many
pub sets_of-tables : (values : List Value) → is_some (tables_of (items_view values)) ≡ true → 0 < length values → length values ≤ 32
    → (ts : List Members) × (tables_of (items_view values) ≡ Some ts) × (sets_of (items_view values) ≡ sets_from 1 ts)
sets_of-tables values tables some few =
    let (ts, is, len) = some_tables values tables in
    let not_none : (length ts == 0) ≡ false = grind (arith, nat_tests) in
    let not_many : nat_lt 32 (length ts) ≡ false = grind (arith, nat_tests) in
    (ts, is, rw (is, not_none, not_many))

pub sets_of_many : (values : List Value) → is_some (tables_of (items_view values)) ≡ true → 32 < length values
    → sets_of (items_view values) ≡ bad TooManySets 0 Other
sets_of_many values tables many =
    let (ts, is, len) = some_tables values tables in
    let not_none : (length ts == 0) ≡ false = grind (arith, nat_tests) in
    let is_many : nat_lt 32 (length ts) ≡ true = grind (arith, nat_tests) in
    rw (is, not_none, is_many)

pub ruleset value_is_table = is_some-tables_of-drop

-- the sets found so far, and the others
abbrev pub after : List SetConfig → Result (List SetConfig) ConfigFault → Result (List SetConfig) ConfigFault
after done (Ok sets) = Ok (done ++ sets)
after done (Err fault) = Err fault

-- one set more
after_one : (done : List SetConfig) (set : SetConfig) (rest : Result (List SetConfig) ConfigFault) → after done (rest >>= (λ sets. Ok (set ∷ sets))) ≡ after (done ++ set ∷ []) rest
after_one done set (Ok sets) = ap Ok (sym (append_assoc done (set ∷ []) sets))
after_one done set (Err fault) = refl

abbrev pub ReadSoFar : List Value → ℕ → List SetConfig → Type 0
ReadSoFar values i done = (ts : List Members) → tables_of (items_view values) ≡ Some ts → sets_from 1 ts ≡ after done (sets_from (i + 1) (drop i ts))

-- the sets from this one on
from_here : (values : List Value) (i : ℕ) (v : Value) (read : Result SetConfig ConfigFault) (done : List SetConfig) → v ≡ get_or values i v → i < length values
    → ((t : Members) → as_table (view v) ≡ Some t → read ≡ set_of (i + 1) t) → ReadSoFar values i done
    → (ts : List Members) → tables_of (items_view values) ≡ Some ts
    → sets_from 1 ts ≡ after done (read >>= (λ set. sets_from (i + 1 + 1) (drop (i + 1) ts) >>= (λ sets. Ok (set ∷ sets))))
from_here values i v read done here within is so_far ts tables =
    let table = ap (λ x. as_table (view x)) here ∙ tables_at values ts i v no_members tables within in
    let within_tables : i < length ts = omega (arith, length-tables_of values ts tables) in
    let first = is (get_or ts i no_members) table in
    rw first (so_far ts tables ∙ ap (λ xs. after done (sets_from (i + 1) xs)) (drop_more ts i no_members within_tables))

pub one_set : (values : List Value) (i : ℕ) (v : Value) (set : SetConfig) (done : List SetConfig) → v ≡ get_or values i v → i < length values
    → ((t : Members) → as_table (view v) ≡ Some t → Ok set ≡ set_of (i + 1) t) → ReadSoFar values i done → ReadSoFar values (i + 1) (done ++ set ∷ [])
one_set values i v set done here within is so_far ts tables =
    from_here values i v (Ok set) done here within is so_far ts tables ∙ after_one done set (sets_from (i + 1 + 1) (drop (i + 1) ts))

pub bad_set : (values : List Value) (i : ℕ) (v : Value) (fault : ConfigFault) (done : List SetConfig) → v ≡ get_or values i v → i < length values
    → ((t : Members) → as_table (view v) ≡ Some t → Err fault ≡ set_of (i + 1) t) → ReadSoFar values i done
    → (ts : List Members) → tables_of (items_view values) ≡ Some ts → sets_from 1 ts ≡ Err fault
bad_set values i v fault done here within is so_far ts tables =
    from_here values i v (Err fault) done here within is so_far ts tables

-- the last set
pub all_sets : (values : List Value) (i : ℕ) (done : List SetConfig) → length values ≤ i → ReadSoFar values i done
    → (ts : List Members) → tables_of (items_view values) ≡ Some ts → sets_from 1 ts ≡ Ok done
all_sets values i done end so_far ts tables =
    let past : length ts ≤ i = omega (arith, length-tables_of values ts tables) in
    so_far ts tables ∙ ap (λ xs. after done (sets_from (i + 1) xs)) (drop_all i ts past) ∙ ap Ok (append-nil done)
