-- What follows from an account being legal.
use Rattle.std.proofs.Common.{◌≡◌, ◌≢◌, ℕ, zero, suc, ◌+◌, ◌<◌, ◌≤◌, ◌⊎◌, ◌==◌, inl, inr, Bool, true, false, Some, List, [], ◌∷◌, arith, refl, sym, ◌∙◌, ap, ⊎_elim, length, slice_get, take, nat_eq, Decides, eq-eqb}
use Rattle.std.specs.List.{list_any}
use Rattle.std.specs.Cmp.Lexicographic.{pointwise, bytes_decides}
use Rattle.std.proofs.lemmas.Bool.{cases_eq}
use Rattle.std.proofs.lemmas.Slice.Eq.{slice_eq-Decides}
use Rattle.std.proofs.lemmas.Map.Keys.{any_passes_from_place}
use Rattle.vs_rows.specs.Said.{Said, Value, NoValue, Done, Exists, Differs, Number, Pairs}
use Rattle.vs_audit.specs.Account.{Entry, History, Account}
use Rattle.vs_audit.specs.Legal.{number_of, is_same, entries_of, IsLegalAccount, IsTooLow}
use Rattle.vs_audit.specs.Rules.{IsHistory, IsHigh, KeepsCallerOrder, KeepsRules}
use Rattle.vs_audit.specs.declared.fault.Illegal.TheVariants.{DoubleCall, WrongPlace, WrongAnswers, WrongOrder}
use Rattle.vs_audit.proofs.SamePairs.{same_row, same_rows}

-- ---- whether two answers are the same is a test

abbrev same_said : Said → Said → Bool
same_said (Value v) (Value w) = pointwise nat_eq v w
same_said NoValue NoValue = true
same_said Done Done = true
same_said Exists Exists = true
same_said Differs Differs = true
same_said (Number m) (Number n) = m == n
same_said (Pairs p) (Pairs q) = pointwise same_row p q
same_said a b = false

eqb_eq : (m n : ℕ) → (m == n) ≡ true → m ≡ n
eqb_eq m n h = grind arith

told : (a b : Said) → same_said a b ≡ true → a ≡ b
told (Value v) (Value w) h = ap Value ((bytes_decides v w).0 h)
told NoValue NoValue h = refl
told Done Done h = refl
told Exists Exists h = refl
told Differs Differs h = refl
told (Number m) (Number n) h = ap Number (eqb_eq m n h)
told (Pairs p) (Pairs q) h = ap Pairs ((same_rows p q (pointwise same_row p q) refl).0 h)
told a b h = cc

found : (a : Said) → same_said a a ≡ true
found (Value v) = (bytes_decides v v).1 refl
found NoValue = refl
found Done = refl
found Exists = refl
found Differs = refl
found (Number m) = eq-eqb m m refl
found (Pairs p) = (same_rows p p (pointwise same_row p p) refl).1 refl

said_decides : (a b : Said) → Decides (same_said a b) (a ≡ b)
said_decides a b = (told a b, λ e. ap (λ x. same_said a x) (sym e) ∙ found a)

stable_by : (r : Bool) (P : Type 0) → Decides r P → (¬ (¬ P)) → P
stable_by true P d nn = d.0 refl
stable_by false P d nn = absurd (nn (λ p. let e : false ≡ true = d.1 p in cc))

stable : (a b : List Said) → (¬ (¬ (a ≡ b))) → a ≡ b
stable a b nn = stable_by (pointwise same_said a b) (a ≡ b) (slice_eq-Decides said_decides a b (pointwise same_said a b) refl) nn

-- ---- histories

taken_at : {X : Type 0} (xs : List X) (m n : ℕ) (x : X) → m < n → slice_get xs m ≡ Some x → slice_get (take n xs) m ≡ Some x
taken_at xs zero zero x h at = absurd (omega arith)
taken_at xs (suc m) zero x h at = absurd (omega arith)
taken_at [] m (suc n) x h at = at
taken_at (y ∷ xs) zero (suc n) x h at = at
taken_at (y ∷ xs) (suc m) (suc n) x h at = taken_at xs m n x (omega arith) at

either : (m n : ℕ) → (m ≤ n) ⊎ (n < m)
either m n = grind arith

history_of : (a : Account) (n : ℕ) (h : History) → IsLegalAccount a → slice_get a.histories n ≡ Some h → IsHistory h
history_of a n h legal at = record {
  writes = λ m w at_w. (
    ⊎_elim (λ (e : w.place ≡ m + 1). e) (λ (apart : w.place ≢ m + 1). absurd (legal w.line WrongPlace (inl (n, h, at, inl (m, w, at_w, refl, apart))))) (cases_eq w.place (m + 1)),
    stable _ _ (λ wrong. legal w.line WrongAnswers (inl (n, h, at, inl (m, w, at_w, refl, wrong)))),
  );
  reads = λ m r at_r.
      let within : r.place ≤ length h.writes = ⊎_elim (λ (e : r.place ≤ length h.writes). e) (λ (far : length h.writes < r.place). absurd (legal r.line WrongPlace (inl (n, h, at, inr (m, r, at_r, refl, far))))) (either r.place (length h.writes)) in
      (within, stable _ _ (λ wrong. legal r.line WrongAnswers (inl (n, h, at, inr (m, r, at_r, refl, within, wrong)))));
  once = λ m k d e before at_d at_e same.
      let double : list_any (λ (o : Entry). is_same o.id e.id) (take k (entries_of h)) ≡ true =
      any_passes_from_place (λ (o : Entry). is_same o.id e.id) (take k (entries_of h)) m d (taken_at (entries_of h) m k d before at_d) (eq-eqb (number_of d.id) (number_of e.id) (ap number_of same)) in
      legal e.line DoubleCall (inl (n, h, at, (k, e, at_e, refl, double)));
}

high_of : (w : Bool) (d e : Entry) → (¬ IsTooLow d w e) → IsHigh d w e
high_of true d e fine = ⊎_elim (λ (l : e.place ≤ d.place). absurd (fine l)) (λ (l : d.place < e.place). l) (either e.place d.place)
high_of false d e fine = ⊎_elim (λ (l : d.place ≤ e.place). l) (λ (l : e.place < d.place). absurd (fine l)) (either d.place e.place)

order_of : (a : Account) (n : ℕ) (h : History) → IsLegalAccount a → slice_get a.histories n ≡ Some h → KeepsCallerOrder a h
order_of a n h legal at = λ b c v w d e first second earlier.
    high_of w d e (λ low. legal c.line WrongOrder (inr (
      second.line.0,
      c,
      second.line.1,
      refl,
      (n, h, at, record { earlier = b; before = d; is_write_before = v; after = e; is_write = w; first = first; second = second; order = earlier; low = low }),
    )))

pub rules_of : (a : Account) → IsLegalAccount a → KeepsRules a
rules_of a legal = record {
  histories = λ n h at. history_of a n h legal at;
  order = λ n h at. order_of a n h legal at;
}
