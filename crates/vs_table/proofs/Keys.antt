-- What a key finds among entries that rise, and what an edit at its place does.
use Rattle.std.proofs.Common.{◌≡◌, ℕ, zero, suc, ◌<◌, ◌≤◌, List, [], ◌∷◌, length, get_or, Result, Ok, Err, MatchResult, slice_get, refl, sym, ap, ◌∙◌, add-one, arith, false, Ordering, Less, Equal, Greater}
use Rattle.std.specs.List.{AllByRecursion}
use Rattle.std.specs.List.Sorted.{IsSearchInRange, IsBinarySearchResult}
use Rattle.std.specs.Ordering.{ordering_reverse, is_lt}
use Rattle.std.specs.Cmp.{IsTotalOrder}
use Rattle.std.proofs.lemmas.List.Sorted.{searchable_from_sorted}
use Rattle.vs_table.specs.Entries.{IsRising, entry_above}
use Rattle.vs_table.specs.Place.{FoundAt, MissingAt}

-- each answer of a comparison
pub by_ordering : {P : Type 0} (o : Ordering) → (o ≡ Less → P) → (o ≡ Equal → P) → (o ≡ Greater → P) → P
by_ordering Less less equal greater = less refl
by_ordering Equal less equal greater = equal refl
by_ordering Greater less equal greater = greater refl

-- a comparison turned round
pub turned : {K : Type 0} (cmp : K → K → Ordering) (total : IsTotalOrder cmp) (x y : K) (o : Ordering) → cmp x y ≡ o → cmp y x ≡ ordering_reverse o
turned cmp total x y o h = total.antisymm y x ∙ ap ordering_reverse h

module _ {K V : Type 0} (cmp : K → K → Ordering) (total : IsTotalOrder cmp) where
  -- a later key is above the first
  later : (first : K) (entries : List (K × V)) (i : ℕ) (d : K × V) →
      AllByRecursion (λ later. cmp first later.0 ≡ Less) entries → i < length entries → cmp first (get_or entries i d).0 ≡ Less
  later first [] i d above lt = absurd (omega arith)
  later first (e ∷ es) zero d above lt = above.0
  later first (e ∷ es) (suc i) d above lt = later first es i d above.1 (omega arith)

  -- what is below the first key is below them all
  pub below_all : (low : K) (first : K) (entries : List (K × V)) → cmp low first ≡ Less →
      AllByRecursion (λ later. cmp first later.0 ≡ Less) entries → AllByRecursion (λ later. cmp low later.0 ≡ Less) entries
  below_all low first [] less above = tt
  below_all low first (e ∷ es) less above = (total.trans low first e.0 less above.0, below_all low first es less above.1)

  -- no key is below the one before it
  no_fall : (entries : List (K × V)) (k : ℕ) (d : K × V) → IsRising cmp entries → suc k < length entries →
      is_lt (cmp (get_or entries (suc k) d).0 (get_or entries k d).0) ≡ false
  no_fall [] k d rising lt = absurd (omega arith)
  no_fall (e ∷ es) zero d rising lt = ap is_lt (turned cmp total e.0 (get_or es 0 d).0 Less (later e.0 es 0 d rising.0 (omega arith)))
  no_fall (e ∷ es) (suc k) d rising lt = no_fall es k d rising.1 (omega arith)

  module _ (key : K) where
    -- the key is above the first, where it is that of a later entry
    above_first : (e : K × V) (es : List (K × V)) (i : ℕ) (d : K × V) → IsRising cmp (e ∷ es) → i < length es → cmp (get_or es i d).0 key ≡ Equal → cmp key e.0 ≡ Greater
    above_first e es i d rising lt same =
        let other : K = (get_or es i d).0 in
        sym (total.congr other key e.0 same) ∙ turned cmp total e.0 other Less (later e.0 es i d rising.0 lt)

    -- past the key's entry, the next is the first above it
    first_above : (first : K) (entries : List (K × V)) → cmp first key ≡ Equal → AllByRecursion (λ later. cmp first later.0 ≡ Less) entries → entry_above cmp entries key ≡ slice_get entries 0
    first_above first [] same above = refl
    first_above first (e ∷ es) same above = rw (sym (total.congr first key e.0 same) ∙ above.0) refl

    pub found : (entries : List (K × V)) (i : ℕ) (d : K × V) → IsRising cmp entries → i < length entries → cmp (get_or entries i d).0 key ≡ Equal → FoundAt cmp entries key i
    found [] i d rising lt same = absurd (omega arith)
    found (e ∷ es) zero d rising lt same =
        let here : cmp key e.0 ≡ Equal = turned cmp total e.0 key Equal same in
        record {
          in_range = lt;
          value = λ f is. rw (here, is) refl;
          put = λ f v is. rw (here, is) refl;
          taken = rw here refl;
          above = rw here (first_above e.0 es same rising.0);
        }
    found (e ∷ es) (suc i) d rising lt same =
        let above : cmp key e.0 ≡ Greater = above_first e es i d rising (omega arith) same in
        let rest : FoundAt cmp es key i = found es i d rising.1 (omega arith) same in
        record {
          in_range = lt;
          value = λ f is. rw above (rest.value f is);
          put = λ f v is. rw above (ap (λ (l : List (K × V)). e ∷ l) (rest.put f v is));
          taken = rw above (ap (λ (l : List (K × V)). e ∷ l) rest.taken);
          above = rw (above, rest.above, add-one, add-one) refl;
        }

    -- below all keys
    absent : (entries : List (K × V)) → AllByRecursion (λ later. cmp key later.0 ≡ Less) entries → MissingAt cmp entries key 0
    absent [] below = record { in_range = omega arith; value = refl; put = λ v. refl; taken = refl; above = refl }
    absent (e ∷ es) below =
        let rest : MissingAt cmp es key 0 = absent es below.1 in
        record {
          in_range = omega arith;
          value = rw below.0 rest.value;
          put = λ v. rw below.0 refl;
          taken = rw below.0 (ap (λ (l : List (K × V)). e ∷ l) rest.taken);
          above = rw below.0 refl;
        }

    pub missing : (entries : List (K × V)) (i : ℕ) → IsRising cmp entries → i ≤ length entries
        → ((k : ℕ) (d : K × V) → k < i → cmp (get_or entries k d).0 key ≡ Less)
        → ((k : ℕ) (d : K × V) → i ≤ k → k < length entries → cmp (get_or entries k d).0 key ≡ Greater) → MissingAt cmp entries key i
    missing entries zero rising le before after = absent entries (lowest entries rising after)
      where
        lowest : (es : List (K × V)) → IsRising cmp es → ((k : ℕ) (d : K × V) → 0 ≤ k → k < length es → cmp (get_or es k d).0 key ≡ Greater) → AllByRecursion (λ later. cmp key later.0 ≡ Less) es
        lowest [] rising after = tt
        lowest (e ∷ es) rising after =
            let less : cmp key e.0 ≡ Less = turned cmp total e.0 key Greater (after 0 e (omega arith) (omega arith)) in
            (less, below_all key e.0 es less rising.0)
    missing [] (suc i) rising le before after = absurd (omega arith)
    missing (e ∷ es) (suc i) rising le before after =
        let above : cmp key e.0 ≡ Greater = turned cmp total e.0 key Less (before 0 e (omega arith)) in
        let rest : MissingAt cmp es key i = missing es i rising.1 (omega arith) (λ k d lt. before (suc k) d (omega arith)) (λ k d le lt. after (suc k) d (omega arith) (omega arith)) in
        record {
          in_range = le;
          value = rw above rest.value;
          put = λ v. rw above (ap (λ (l : List (K × V)). e ∷ l) (rest.put v));
          taken = rw above (ap (λ (l : List (K × V)). e ∷ l) rest.taken);
          above = rw above rest.above;
        }

    -- an entry that the search found
    hit : (entries : List (K × V)) (i : ℕ) → IsRising cmp entries → i < length entries → ((d : K × V) → cmp (get_or entries i d).0 key ≡ Equal) → FoundAt cmp entries key i
    hit [] i rising lt same = absurd (omega arith)
    hit (e ∷ es) i rising lt same = found (e ∷ es) i e rising lt (same e)

    -- a binary search by key ends at the key, or where it would stand
    pub placed : (entries : List (K × V)) (r : Result ℕ ℕ) → IsRising cmp entries → IsSearchInRange r (length entries) → IsBinarySearchResult (λ e. cmp e.0 key) entries r
        → MatchResult r (FoundAt cmp entries key) (MissingAt cmp entries key)
    placed entries (Ok i) rising in_range same = hit entries i rising in_range same
    placed entries (Err i) rising in_range parted =
        let at = parted (searchable_from_sorted total (λ (e : K × V). e.0) entries key (λ k d le lt. rw add-one (no_fall entries k d rising (omega arith)))) in
        missing entries i rising in_range (λ k d lt. at.0 k d (omega arith) lt) at.1
