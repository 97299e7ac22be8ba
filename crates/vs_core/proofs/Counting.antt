-- How the references that calls hold change with one client.
use Rattle.std.proofs.Common.{◌≡◌, ℕ, zero, suc, ◌+◌, ◌-◌, ◌<◌, ◌≤◌, ◌==◌, Bool, true, false, refl, sym, ap, subst, ◌∙◌, arith}
use Rattle.std.specs.Prelude.{if◌then◌else◌, ◌≢◌, ◌&&◌}
use Rattle.std.proofs.lemmas.Bool.{eqb-true, eqb-false, eq-eqb, ne_eqb}
use Rattle.std.proofs.lemmas.Bool.Decides.{nat_tests}
use Rattle.vs_base.specs.declared.numbers.Mode.{Mode}
use Rattle.vs_base.specs.declared.numbers.Mode.TheVariants.{Ro, Rw}
use Rattle.vs_refs.specs.Calls.{Take, Give, after}
use Rattle.vs_refs.specs.Counts.{count_of, with_count}
use Rattle.vs_machine.specs.State as machine
use Rattle.vs_machine.specs.Tables.{put, is_to, count_to}
use Rattle.vs_state.specs.Agrees.{agreed}
use Rattle.vs_core.proofs.Frame.{is_put, put_each, put_here, put_there}

-- ---- counts of tests that differ at one number

count_below : (p r : ℕ → Bool) (n : ℕ) → ((k : ℕ) → k ≤ n → r k ≡ p k) → count_to r n ≡ count_to p n
count_below p r zero same = refl
count_below p r (suc n) same =
    let rest : count_to r n ≡ count_to p n = count_below p r n (λ k h. same k (omega (arith, h))) in
    λ i. rest i + (if same (suc n) (omega arith) i then 1 else 0)

count_more : (p r : ℕ → Bool) (n c : ℕ) → ((k : ℕ) → k ≢ c → r k ≡ p k) → p c ≡ false → r c ≡ true → is_to n c ≡ true → count_to r n ≡ count_to p n + 1
count_more p r zero c others old new within = absurd (grind (arith, nat_tests, within))
count_more p r (suc n) c others old new within = by (λ w. count_more p r n c others old new w) (suc n == c) refl
  where
    by : (is_to n c ≡ true → count_to r n ≡ count_to p n + 1) → (e : Bool) → (suc n == c) ≡ e → count_to r (suc n) ≡ count_to p (suc n) + 1
    by earlier true e =
        let at : suc n ≡ c = eqb-true (suc n) c e in
        let rest : count_to r n ≡ count_to p n = count_below p r n (λ k h. others k (λ same. absurd (omega (arith, h, same, at)))) in
        let here : count_to r (suc n) ≡ count_to p n + 1 = λ i. rest i + (if subst (λ j. r j ≡ true) (sym at) new i then 1 else 0) in
        let there : count_to p (suc n) ≡ count_to p n + 0 = λ i. count_to p n + (if subst (λ j. p j ≡ false) (sym at) old i then 1 else 0) in
        omega (arith, here, there)
    by earlier false e =
        let rest : count_to r n ≡ count_to p n + 1 = earlier (grind (arith, nat_tests, within, e)) in
        let last : ◌≡◌ {A = ℕ} (if r (suc n) then 1 else 0) (if p (suc n) then 1 else 0) = λ i. if others (suc n) (eqb-false (suc n) c e) i then 1 else 0 in
        omega (arith, rest, last)

count_some : (p : ℕ → Bool) (n c : ℕ) → p c ≡ true → is_to n c ≡ true → 1 ≤ count_to p n
count_some p zero c here within = absurd (grind (arith, nat_tests, within))
count_some p (suc n) c here within = by (λ w. count_some p n c here w) (suc n == c) refl
  where
    by : (is_to n c ≡ true → 1 ≤ count_to p n) → (e : Bool) → (suc n == c) ≡ e → 1 ≤ count_to p (suc n)
    by earlier true e =
        let last : ◌≡◌ {A = ℕ} (if p (suc n) then 1 else 0) 1 = λ i. if subst (λ j. p j ≡ true) (sym (eqb-true (suc n) c e)) here i then 1 else 0 in
        omega (arith, last)
    by earlier false e = let before : 1 ≤ count_to p n = earlier (grind (arith, nat_tests, within, e)) in omega (arith, before)

count_within : (p : ℕ → Bool) (n : ℕ) → count_to p n ≤ n
count_within p zero = omega arith
count_within p (suc n) = by (p (suc n)) (count_within p n)
  where
    by : (e : Bool) → count_to p n ≤ n → count_to p n + (if e then 1 else 0) ≤ suc n
    by true h = omega (arith, h)
    by false h = omega (arith, h)

-- ---- what a client's call holds

-- a reference of this mode on bucket b at set x, and no other
pub record IsHolding (v : machine.Client) (x b : ℕ) (mode : Mode) : Type 0 where
  pub one : (p : Mode) (y q : ℕ) → machine.holds p y q v ≡ ((x == y) && (machine.is_mode mode p && (b == q)))

-- none
pub record IsFree (v : machine.Client) : Type 0 where
  pub none : (p : Mode) (y q : ℕ) → machine.holds p y q v ≡ false

holds_here : (v : machine.Client) (x b : ℕ) (mode p : Mode) (q : ℕ) → IsHolding v x b mode → machine.holds p x q v ≡ (machine.is_mode mode p && (b == q))
holds_here v x b mode p q h = h.one p x q ∙ (λ i. eq-eqb x x refl i && (machine.is_mode mode p && (b == q)))

holds_there : (v : machine.Client) (x b : ℕ) (mode p : Mode) (y q : ℕ) → IsHolding v x b mode → y ≢ x → machine.holds p y q v ≡ false
holds_there v x b mode p y q h ne = h.one p y q ∙ (λ i. ne_eqb x y (λ same. ne (sym same)) i && (machine.is_mode mode p && (b == q)))

module _ (s : machine.State) (c : ℕ) (v : machine.Client) (client : machine.has_client s c ≡ true) where
  others_hold : (p : Mode) (y q k : ℕ) → k ≢ c → machine.holds p y q (put s.client c v k) ≡ machine.holds p y q (s.client k)
  others_hold p y q k ne = ap (machine.holds p y q) (put_there s.client c v k ne)

  references_more : (p : Mode) (y q : ℕ) → machine.holds p y q (s.client c) ≡ false → machine.holds p y q v ≡ true → machine.references (machine.put_client s c v) p y q ≡ machine.references s p y q + 1
  references_more p y q old new =
      count_more (λ k. machine.holds p y q (s.client k)) (λ k. machine.holds p y q (put s.client c v k)) s.clients c (others_hold p y q) old (ap (machine.holds p y q) (put_here s.client c v) ∙ new) client

  references_less : (p : Mode) (y q : ℕ) → machine.holds p y q (s.client c) ≡ true → machine.holds p y q v ≡ false → machine.references s p y q ≡ machine.references (machine.put_client s c v) p y q + 1
  references_less p y q old new =
      count_more (λ k. machine.holds p y q (put s.client c v k)) (λ k. machine.holds p y q (s.client k)) s.clients c (λ k ne. sym (others_hold p y q k ne)) (ap (machine.holds p y q) (put_here s.client c v) ∙ new) old client

  references_kept : (p : Mode) (y q : ℕ) → machine.holds p y q v ≡ machine.holds p y q (s.client c) → machine.references (machine.put_client s c v) p y q ≡ machine.references s p y q
  references_kept p y q same = ap (λ (f : ℕ → Bool). count_to f s.clients) (λ i k. put_each (λ j w. machine.holds p y q w ≡ machine.holds p y q (s.client j)) s.client c v same (λ j. refl) k i)

  kept_at : (p : Mode) (y q : ℕ) → machine.holds p y q (s.client c) ≡ false → machine.holds p y q v ≡ false → machine.references (machine.put_client s c v) p y q ≡ machine.references s p y q
  kept_at p y q old new = references_kept p y q (new ∙ sym old)

  pub agreed_kept : (y q : ℕ) → ((p : Mode) → machine.holds p y q v ≡ machine.holds p y q (s.client c)) → agreed (machine.put_client s c v) y q ≡ agreed s y q
  agreed_kept y q same = λ i. record (agreed s y q) { ro = references_kept Ro y q (same Ro) i; rw = references_kept Rw y q (same Rw) i }

  -- a call takes a reference
  module _ (x b : ℕ) (free : IsFree (s.client c)) where
    taken_here : (m : Mode) (q : ℕ) → IsHolding v x b m → agreed (machine.put_client s c v) x q ≡ after (Take b m) q (agreed s x q)
    taken_here m q h = by m (b == q) h refl
      where
        at : (m p : Mode) (e : Bool) → IsHolding v x b m → (b == q) ≡ e → machine.holds p x q v ≡ (machine.is_mode m p && e)
        at m p e h is = holds_here v x b m p q h ∙ (λ i. machine.is_mode m p && is i)

        by : (m : Mode) (e : Bool) → IsHolding v x b m → (b == q) ≡ e → agreed (machine.put_client s c v) x q ≡ (if e then with_count (agreed s x q) m (count_of (agreed s x q) m + 1) else agreed s x q)
        by Ro true h is = λ i. record (agreed s x q) { ro = references_more Ro x q (free.none Ro x q) (at Ro Ro true h is) i; rw = kept_at Rw x q (free.none Rw x q) (at Ro Rw true h is) i }
        by Rw true h is = λ i. record (agreed s x q) { ro = kept_at Ro x q (free.none Ro x q) (at Rw Ro true h is) i; rw = references_more Rw x q (free.none Rw x q) (at Rw Rw true h is) i }
        by Ro false h is = λ i. record (agreed s x q) { ro = kept_at Ro x q (free.none Ro x q) (at Ro Ro false h is) i; rw = kept_at Rw x q (free.none Rw x q) (at Ro Rw false h is) i }
        by Rw false h is = λ i. record (agreed s x q) { ro = kept_at Ro x q (free.none Ro x q) (at Rw Ro false h is) i; rw = kept_at Rw x q (free.none Rw x q) (at Rw Rw false h is) i }

    pub agreed_taken : (m : Mode) (q : ℕ) → IsHolding v x b m → (λ y. agreed (machine.put_client s c v) y q) ≡ put (λ y. agreed s y q) x (after (Take b m) q (agreed s x q))
    agreed_taken m q h = is_put (λ y. agreed s y q) (λ y. agreed (machine.put_client s c v) y q) x (λ y ne. agreed_kept y q (λ p. holds_there v x b m p y q h ne ∙ sym (free.none p y q))) ∙ ap (put (λ y. agreed s y q) x) (taken_here m q h)

  -- a call gives a reference back
  module _ (x b : ℕ) (free : IsFree v) where
    less : (p : Mode) (q : ℕ) → machine.holds p x q (s.client c) ≡ true → machine.references (machine.put_client s c v) p x q ≡ machine.references s p x q - 1
    less p q held = let fewer : machine.references s p x q ≡ machine.references (machine.put_client s c v) p x q + 1 = references_less p x q held (free.none p x q) in omega (arith, fewer)

    given_here : (m : Mode) (q : ℕ) → IsHolding (s.client c) x b m → agreed (machine.put_client s c v) x q ≡ after (Give b m) q (agreed s x q)
    given_here m q h = by m (b == q) h refl
      where
        at : (m p : Mode) (e : Bool) → IsHolding (s.client c) x b m → (b == q) ≡ e → machine.holds p x q (s.client c) ≡ (machine.is_mode m p && e)
        at m p e h is = holds_here (s.client c) x b m p q h ∙ (λ i. machine.is_mode m p && is i)

        by : (m : Mode) (e : Bool) → IsHolding (s.client c) x b m → (b == q) ≡ e → agreed (machine.put_client s c v) x q ≡ (if e then with_count (agreed s x q) m (count_of (agreed s x q) m - 1) else agreed s x q)
        by Ro true h is = λ i. record (agreed s x q) { ro = less Ro q (at Ro Ro true h is) i; rw = kept_at Rw x q (at Ro Rw true h is) (free.none Rw x q) i }
        by Rw true h is = λ i. record (agreed s x q) { ro = kept_at Ro x q (at Rw Ro true h is) (free.none Ro x q) i; rw = less Rw q (at Rw Rw true h is) i }
        by Ro false h is = λ i. record (agreed s x q) { ro = kept_at Ro x q (at Ro Ro false h is) (free.none Ro x q) i; rw = kept_at Rw x q (at Ro Rw false h is) (free.none Rw x q) i }
        by Rw false h is = λ i. record (agreed s x q) { ro = kept_at Ro x q (at Rw Ro false h is) (free.none Ro x q) i; rw = kept_at Rw x q (at Rw Rw false h is) (free.none Rw x q) i }

    pub agreed_given : (m : Mode) (q : ℕ) → IsHolding (s.client c) x b m → (λ y. agreed (machine.put_client s c v) y q) ≡ put (λ y. agreed s y q) x (after (Give b m) q (agreed s x q))
    agreed_given m q h = is_put (λ y. agreed s y q) (λ y. agreed (machine.put_client s c v) y q) x (λ y ne. agreed_kept y q (λ p. free.none p y q ∙ sym (holds_there (s.client c) x b m p y q h ne))) ∙ ap (put (λ y. agreed s y q) x) (given_here m q h)

-- ---- how many there can be

-- the holder is counted
pub held_counted : (s : machine.State) (c x b : ℕ) (m : Mode) → machine.has_client s c ≡ true → IsHolding (s.client c) x b m → 0 < count_of (agreed s x b) m
held_counted s c x b m client h = by m h
  where
    some : (m : Mode) → machine.is_mode m m ≡ true → IsHolding (s.client c) x b m → 1 ≤ machine.references s m x b
    some m is h = count_some (λ k. machine.holds m x b (s.client k)) s.clients c (holds_here (s.client c) x b m m b h ∙ (λ i. is i && eq-eqb b b refl i)) client

    by : (m : Mode) → IsHolding (s.client c) x b m → 0 < count_of (agreed s x b) m
    by Ro h = let one : 1 ≤ machine.references s Ro x b = some Ro refl h in omega (arith, one)
    by Rw h = let one : 1 ≤ machine.references s Rw x b = some Rw refl h in omega (arith, one)

-- each client holds one at most
pub agreed_within : (s : machine.State) (x b : ℕ) (m : Mode) → count_of (agreed s x b) m ≤ s.clients
agreed_within s x b Ro = count_within (λ k. machine.holds Ro x b (s.client k)) s.clients
agreed_within s x b Rw = count_within (λ k. machine.holds Rw x b (s.client k)) s.clients
