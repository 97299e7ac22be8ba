-- The rows that writes leave, write by write.
use Rattle.std.proofs.Common.{◌≡◌, ◌≢◌, ℕ, suc, zero, ◌+◌, ◌-◌, ◌≤◌, ◌<◌, ◌==◌, Bool, true, false, List, [], ◌∷◌, ◌++◌, Option, Some, length, filter, get_or, set, slice_get, refl, ap, sym, subst, take, ◌∙◌, append-nil, eq-eqb, arith}
use Rattle.std.specs.Option.{option_map_or}
use Rattle.std.specs.Prelude.{All}
use Rattle.std.proofs.lemmas.Bool.{eqb-true, eqb-false}
use Rattle.std.proofs.lemmas.List.{get_or-map, length-map, length-set, map-append, take_more}
use Rattle.std.proofs.lemmas.Option.{slice_get_read}
use Rattle.std.specs.List.{flat_map}
use Rattle.std.proofs.lemmas.Grind.{flat_map-append}
use Rattle.std.proofs.lemmas.List.Elements.{filter-append}
use Rattle.vs_base.specs.Listed.{Listed}
use Rattle.vs_pool.specs.Results.{Maps}
use Rattle.vs_rows.specs.declared.op.Op.{Op}
use Rattle.vs_rows.specs.Operations.{row_map_after, rows_after}
use Rattle.vs_rows.specs.RowMap.{RowMap}
use Rattle.vs_script.specs.Calls.{Call, call, calls}
use Rattle.vs_script.specs.Lawful.{IsLawfulCall}
use Rattle.vs_script.specs.declared.call.Call as code
use Rattle.vs_reads.specs.Jobs.{rows_of, HaveRows}
use Rattle.vs_reads.specs.Reads.{ops_on, rows_in}

rows_after-append : (m : RowMap) (xs ys : List Op) → rows_after m (xs ++ ys) ≡ rows_after (rows_after m xs) ys
rows_after-append m [] ys = refl
rows_after-append m (x ∷ xs) ys = rows_after-append (row_map_after m x) xs ys

ops_on-append : (b : ℕ) (ks : List Call) (k : Call) → ops_on b (ks ++ k ∷ []) ≡ ops_on b ks ++ ops_on b (k ∷ [])
ops_on-append b ks k =
    ap (flat_map (λ (k : Call). k.ops)) (filter-append (λ (k : Call). k.bucket == b) ks (k ∷ []))
    ∙ flat_map-append (λ (k : Call). k.ops) (filter (λ (k : Call). k.bucket == b) ks) (filter (λ (k : Call). k.bucket == b) (k ∷ []))

rows_in-append : (ks : List Call) (k : Call) (b : ℕ) → rows_in (ks ++ k ∷ []) b ≡ rows_after (rows_in ks b) (ops_on b (k ∷ []))
rows_in-append ks k b = ap (rows_after []) (ops_on-append b ks k) ∙ rows_after-append [] (ops_on b ks) (ops_on b (k ∷ []))

-- on its own bucket a call does its operations, and on another nothing
ops_here : (k : Call) → ops_on k.bucket (k ∷ []) ≡ k.ops
ops_here k = rw (eq-eqb k.bucket k.bucket refl) (append-nil k.ops)

when_false : (k : Call) (b : ℕ) → (k.bucket == b) ≡ false → ops_on b (k ∷ []) ≡ []
when_false k b differs = rw differs

test_false : (a b : ℕ) (t : Bool) → (a == b) ≡ t → b ≢ a → (a == b) ≡ false
test_false a b true is other = absurd (other (sym (eqb-true a b is)))
test_false a b false is other = is

pub rows_here : (ks : List Call) (k : Call) → rows_in (ks ++ k ∷ []) k.bucket ≡ rows_after (rows_in ks k.bucket) k.ops
rows_here ks k = rows_in-append ks k k.bucket ∙ ap (rows_after (rows_in ks k.bucket)) (ops_here k)

pub rows_there : (ks : List Call) (k : Call) (b : ℕ) → b ≢ k.bucket → rows_in (ks ++ k ∷ []) b ≡ rows_in ks b
rows_there ks k b other = rows_in-append ks k b ∙ ap (rows_after (rows_in ks b)) (when_false k b (test_false k.bucket b (k.bucket == b) refl other))

-- ---- the rows at a place of a list

abbrev RowList : Type 0
RowList = Listed (List ℕ × List ℕ)

abbrev rows_at : Maps → ℕ → RowMap
rows_at maps i = option_map_or (λ (m : RowList). m.items) (slice_get maps i) []

at_more : (maps : Maps) (m : RowList) (i : ℕ) → m.items ≡ [] → rows_at maps i ≡ [] → rows_at (maps ++ m ∷ []) i ≡ []
at_more [] m zero empty was = empty
at_more [] m (suc i) empty was = refl
at_more (x ∷ maps) m zero empty was = was
at_more (x ∷ maps) m (suc i) empty was = at_more maps m i empty was

pub all_empty : (maps : Maps) (m : RowList) → m.items ≡ [] → ((b : ℕ) → rows_of maps b ≡ []) → (b : ℕ) → rows_of (maps ++ m ∷ []) b ≡ []
all_empty maps m empty all b = at_more maps m (b - 1) empty (all b)

set_here : (maps : Maps) (i : ℕ) (m : RowList) → i < length maps → rows_at (set maps i m) i ≡ m.items
set_here [] i m within = absurd (omega arith)
set_here (x ∷ maps) zero m within = refl
set_here (x ∷ maps) (suc i) m within = set_here maps i m (omega arith)

set_there : (maps : Maps) (i j : ℕ) (m : RowList) → j ≢ i → rows_at (set maps i m) j ≡ rows_at maps j
set_there [] i j m other = refl
set_there (x ∷ maps) zero zero m other = absurd (other refl)
set_there (x ∷ maps) zero (suc j) m other = refl
set_there (x ∷ maps) (suc i) zero m other = refl
set_there (x ∷ maps) (suc i) (suc j) m other = set_there maps i j m (λ e. other (ap suc e))

-- ---- a write

module _ (maps : Maps) (n : ℕ) (ks : List Call) (k : Call) (before after : RowList) (have : HaveRows maps n (rows_in ks)) (least : 1 ≤ k.bucket) (most : k.bucket ≤ n) (there : before ≡ get_or maps (k.bucket - 1) before) (does : after.items ≡ rows_after before.items k.ops) where
  within : k.bucket - 1 < length maps
  within = omega (arith, have.count_is)

  were : before.items ≡ rows_in ks k.bucket
  were =
      let found : slice_get maps (k.bucket - 1) ≡ Some before = slice_get_read maps (length maps) (k.bucket - 1) before refl within there in
      sym (ap (λ (o : Option RowList). option_map_or (λ (m : RowList). m.items) o []) found) ∙ have.each k.bucket least most

  here : rows_of (set maps (k.bucket - 1) after) k.bucket ≡ rows_in (ks ++ k ∷ []) k.bucket
  here = set_here maps (k.bucket - 1) after within ∙ (does ∙ (ap (λ (m : RowMap). rows_after m k.ops) were ∙ sym (rows_here ks k)))

  elsewhere : (b : ℕ) → 1 ≤ b → b ≤ n → b ≢ k.bucket → rows_of (set maps (k.bucket - 1) after) b ≡ rows_in (ks ++ k ∷ []) b
  elsewhere b some within other =
      let apart : b - 1 ≢ k.bucket - 1 = λ e. other (omega arith) in
      set_there maps (k.bucket - 1) (b - 1) after apart ∙ (have.each b some within ∙ sym (rows_there ks k b other))

  by_test : (b : ℕ) → 1 ≤ b → b ≤ n → (t : Bool) → (b == k.bucket) ≡ t → rows_of (set maps (k.bucket - 1) after) b ≡ rows_in (ks ++ k ∷ []) b
  by_test b some within true is = rw (eqb-true b k.bucket is) here
  by_test b some within false is = elsewhere b some within (eqb-false b k.bucket is)

  pub one_write : HaveRows (set maps (k.bucket - 1) after) n (rows_in (ks ++ k ∷ []))
  one_write = record {
    count_is = length-set maps (k.bucket - 1) after ∙ have.count_is;
    each = λ b some within. by_test b some within (b == k.bucket) refl;
  }

-- ---- the calls of a script

pub lawful_at : (n : ℕ) (writes : List code.Call) (i : ℕ) (k : code.Call) → All (IsLawfulCall n) (calls writes) → i < length writes → k ≡ get_or writes i k → IsLawfulCall n (call k)
lawful_at n writes i k all within is =
    let below : i < length (calls writes) = rw length-map within in
    subst (IsLawfulCall n) (get_or-map call writes i k (call k) within ∙ ap call (sym is)) (all i (call k) below)

pub one_call_more : (writes : List code.Call) (i : ℕ) (k : code.Call) → i < length writes → k ≡ get_or writes i k → calls (take (i + 1) writes) ≡ calls (take i writes) ++ call k ∷ []
one_call_more writes i k within is =
    ap calls (take_more writes i k within ∙ ap (λ (x : code.Call). take i writes ++ x ∷ []) (sym is)) ∙ map-append call (take i writes) (k ∷ [])
