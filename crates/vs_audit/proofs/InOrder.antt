-- The reads of a history by place.
use Rattle.std.proofs.Common.{◌≡◌, ℕ, zero, suc, ◌+◌, ◌<◌, ◌≤◌, ◌⊎◌, inl, inr, Option, Some, List, [], ◌∷◌, ◌++◌, arith, refl, sym, ◌∙◌, ap, subst, ⊎_elim, length, slice_get, Contains}
use Rattle.std.proofs.lemmas.Option.{slice_get_within, get_or_from_slice_get, slice_get-get_or}
use Rattle.std.proofs.lemmas.List.{length-append}
use Rattle.std.proofs.lemmas.List.Sorted.{Contains-permutation, IsPermutation-sym}
use Rattle.std.specs.List.Sorted.{IsPermutation}
use Rattle.vs_audit.specs.Account.{Entry, History}
use Rattle.vs_audit.specs.ByPlace.{Places, OrderFault, UptoFault}
use Rattle.vs_audit.specs.Legal.{IsAt}
use Rattle.vs_audit.specs.Passes.{WritesFault, ReadFault, PlaceFault}
use Rattle.vs_audit.specs.Turn.{Adds}
use Rattle.vs_audit.specs.declared.fault.Illegal.{Illegal}
use Rattle.vs_audit.specs.declared.least.Fault.{Fault}
use Rattle.vs_audit.proofs.Added.{added_as, added_then, added_none, below_next}
use Rattle.vs_audit.proofs.AtPlaces.{same_item}

pub contains_at : {X : Type 0} (xs : List X) (k : ℕ) (x : X) → slice_get xs k ≡ Some x → Contains xs x
contains_at xs k x at = (k, slice_get_within xs k x at, get_or_from_slice_get xs k x x at)

pub at_contains : {X : Type 0} (xs : List X) (x : X) (there : Contains xs x) → slice_get xs there.0 ≡ Some x
at_contains xs x there = slice_get-get_or xs there.0 x there.1 ∙ ap Some there.2

pub get_pushed : {X : Type 0} (xs : List X) (y : X) → slice_get (xs ++ y ∷ []) (length xs) ≡ Some y
get_pushed [] y = refl
get_pushed (x ∷ xs) y = get_pushed xs y

pub get_before : {X : Type 0} (xs : List X) (y : X) (k : ℕ) → k < length xs → slice_get (xs ++ y ∷ []) k ≡ slice_get xs k
get_before [] y k h = absurd (omega arith)
get_before (x ∷ xs) y zero h = refl
get_before (x ∷ xs) y (suc k) h = get_before xs y k (omega arith)

pub item_of : {X : Type 0} (xs : List X) (n : ℕ) → n < length xs → (x : X) × (slice_get xs n ≡ Some x)
item_of [] n h = absurd (omega arith)
item_of (x ∷ xs) zero h = (x, refl)
item_of (x ∷ xs) (suc n) h = item_of xs n (omega arith)

-- the places of the first reads were listed
pub record Listing (reads : List Entry) (order : List (ℕ × ℕ)) (n : ℕ) : Type 0 where
  pub filled : length order ≡ n
  pub each : (k : ℕ) → k < n → (r : Entry) × IsAt reads k r × (slice_get order k ≡ Some (r.place, k))

pub listing_more : (reads : List Entry) (order : List (ℕ × ℕ)) (n : ℕ) (r : Entry) → IsAt reads n r → Listing reads order n → Listing reads (order ++ (r.place, n) ∷ []) (n + 1)
listing_more reads order n r at before = record {
  filled = let f = before.filled in simp length-append (omega arith);
  each = λ k h. ⊎_elim
      (λ p. let old = before.each k p in (old.0, old.1, get_before order (r.place, n) k (let f = before.filled in omega arith) ∙ old.2))
      (λ e. (
        r,
        subst (λ m. IsAt reads m r) (sym e) at,
        ap (λ m. slice_get (order ++ (r.place, n) ∷ []) m) (e ∙ sym before.filled) ∙ get_pushed order (r.place, n) ∙ ap (λ m. Some (r.place, m)) (sym e),
      ))
      (below_next k n h);
}

pub listed_all : (reads : List Entry) (order : List (ℕ × ℕ)) (n : ℕ) → length reads ≡ n → Listing reads order n → Places reads order
listed_all reads order n all listing = record {
  each = λ p there.
      let inside : there.0 < n = let h = there.1 in let f = listing.filled in omega arith in
      let one = listing.each there.0 inside in
      let e : p ≡ (one.0.place, there.0) = same_item (slice_get order there.0) p (one.0.place, there.0) (at_contains order p there) one.2 in
      (one.0, subst (λ m. IsAt reads m one.0) (ap (λ (q : ℕ × ℕ). q.1) (sym e)) one.1, ap (λ (q : ℕ × ℕ). q.0) e);
  all = λ n' r at.
      let within = slice_get_within reads n' r at in
      let inside : n' < n = omega arith in
      let one = listing.each n' inside in
      let e : one.0 ≡ r = same_item (slice_get reads n') one.0 r one.1 at in
      contains_at order n' (r.place, n') (one.2 ∙ ap (λ (x : Entry). Some (x.place, n')) e);
}

pub places_moved : (reads : List Entry) (xs ys : List (ℕ × ℕ)) → IsPermutation xs ys → Places reads xs → Places reads ys
places_moved reads xs ys moved places = record {
  each = λ p there. places.each p (Contains-permutation ys xs p (IsPermutation-sym xs ys moved) there);
  all = λ n r at. Contains-permutation xs ys (r.place, n) moved (places.all n r at);
}

-- ---- faults

-- writes up to a place, and then up to a further one
writes_join : (h : History) (a b : ℕ) (l : ℕ) (k : Illegal) → a ≤ b → WritesFault h 0 b l k → WritesFault h 0 a l k ⊎ WritesFault h a b l k
writes_join h a b l k order w = ⊎_elim (λ (p : w.0 < a). inl (w.0, w.1, p, w.3)) (λ (p : a ≤ w.0). inr (w.0, p, w.2, w.3)) (side w.0 a)
  where
    side : (m n : ℕ) → (m < n) ⊎ (n ≤ m)
    side m n = grind arith

pub upto_more : (h : History) (order : List (ℕ × ℕ)) (done now i : ℕ) (p : ℕ × ℕ) (a b c : Option Fault)
    → done ≤ now → slice_get order i ≡ Some p → Adds (UptoFault h order done i) a b
    → Adds (λ l k. WritesFault h done now l k ⊎ ReadFault h p.1 l k) b c → Adds (UptoFault h order now (i + 1)) a c
upto_more h order done now i p a b c further at first second =
    added_as (λ l k. UptoFault h order done i l k ⊎ Next l k) (UptoFault h order now (i + 1)) a c to back
    (added_then (UptoFault h order done i) Next a b c first second)
  where
    Next : ℕ → Illegal → Type 0
    Next l k = WritesFault h done now l k ⊎ ReadFault h p.1 l k

    to : (l : ℕ) (k : Illegal) → UptoFault h order done i l k ⊎ Next l k → UptoFault h order now (i + 1) l k
    to l k w = ⊎_elim
        (λ (u : UptoFault h order done i l k). ⊎_elim
        (λ (t : WritesFault h 0 done l k). let q : t.0 < done = t.2 in inl (t.0, t.1, omega arith, t.3))
        (λ (t : (m : ℕ) × (m < i) × OrderFault h order m l k). let q : t.0 < i = t.1 in inr (t.0, omega arith, t.2))
        u)
        (λ (u : Next l k). ⊎_elim
        (λ (t : WritesFault h done now l k). inl (t.0, omega arith, t.2, t.3))
        (λ (t : ReadFault h p.1 l k). inr (i, omega arith, (p, at, t)))
        u)
        w

    back : (l : ℕ) (k : Illegal) → UptoFault h order now (i + 1) l k → UptoFault h order done i l k ⊎ Next l k
    back l k w = ⊎_elim
        (λ (t : WritesFault h 0 now l k). ⊎_elim (λ (u : WritesFault h 0 done l k). inl (inl u)) (λ (u : WritesFault h done now l k). inr (inl u)) (writes_join h done now l k further t))
        (λ (t : (m : ℕ) × (m < i + 1) × OrderFault h order m l k). ⊎_elim
        (λ (q : t.0 < i). inl (inr (t.0, q, t.2)))
        (λ (e : t.0 ≡ i).
        let same : t.2.0 ≡ p = same_item (slice_get order i) t.2.0 p (ap (slice_get order) (sym e) ∙ t.2.1) at in
        inr (inr (subst (λ (q : ℕ × ℕ). ReadFault h q.1 l k) same t.2.2)))
        (below_next t.0 i t.1))
        w

pub all_places : (h : History) (order : List (ℕ × ℕ)) (done i : ℕ) (a b c : Option Fault)
    → done ≤ length h.writes → length order ≤ i → Places h.reads order → Adds (UptoFault h order done i) a b
    → Adds (WritesFault h done (length h.writes)) b c → Adds (PlaceFault h) a c
all_places h order done i a b c within all places first second =
    added_as (λ l k. UptoFault h order done i l k ⊎ WritesFault h done (length h.writes) l k) (PlaceFault h) a c to back
    (added_then (UptoFault h order done i) (WritesFault h done (length h.writes)) a b c first second)
  where
    to : (l : ℕ) (k : Illegal) → UptoFault h order done i l k ⊎ WritesFault h done (length h.writes) l k → PlaceFault h l k
    to l k w = ⊎_elim
        (λ (u : UptoFault h order done i l k). ⊎_elim
        (λ (t : WritesFault h 0 done l k). let q : t.0 < done = t.2 in inl (t.0, t.1, omega arith, t.3))
        (λ (t : (m : ℕ) × (m < i) × OrderFault h order m l k).
        let one = places.each t.2.0 (contains_at order t.0 t.2.0 t.2.1) in
        inr (t.2.0.1, slice_get_within h.reads t.2.0.1 one.0 one.1, t.2.2))
        u)
        (λ (t : WritesFault h done (length h.writes) l k). inl (t.0, omega arith, t.2, t.3))
        w

    back : (l : ℕ) (k : Illegal) → PlaceFault h l k → UptoFault h order done i l k ⊎ WritesFault h done (length h.writes) l k
    back l k w = ⊎_elim
        (λ (t : WritesFault h 0 (length h.writes) l k). ⊎_elim (λ (u : WritesFault h 0 done l k). inl (inl u)) (λ (u : WritesFault h done (length h.writes) l k). inr u) (writes_join h done (length h.writes) l k within t))
        (λ (t : (n : ℕ) × (n < length h.reads) × ReadFault h n l k).
        let r = item_of h.reads t.0 t.1 in
        let there = places.all t.0 r.0 r.1 in
        let q : there.0 < length order = there.1 in
        inl (inr (there.0, omega arith, ((r.0.place, t.0), at_contains order (r.0.place, t.0) there, t.2))))
        w

pub upto_start : (h : History) (order : List (ℕ × ℕ)) (a : Option Fault) → Adds (UptoFault h order 0 0) a a
upto_start h order a = added_none (UptoFault h order 0 0) a (λ l k w. ⊎_elim
    (λ (t : WritesFault h 0 0 l k). let q : t.0 < 0 = t.2 in absurd (omega arith))
    (λ (t : (m : ℕ) × (m < 0) × OrderFault h order m l k). let q : t.0 < 0 = t.1 in absurd (omega arith))
    w)
