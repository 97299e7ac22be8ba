-- A bucket is coherent where what each set has fits to the owner that the entries tell.
use Rattle.std.proofs.Common.{◌≡◌, ℕ, zero, suc, ◌+◌, ◌<◌, ◌≤◌, Bool, true, false, [], Option, Some, None, refl, sym, ap, subst, ◌∙◌, arith, inl, inr}
use Rattle.std.specs.Prelude.{◌≢◌, ◌⊎◌, ◌↔◌, IsTrue, if◌then◌else◌}
use Rattle.std.proofs.lemmas.Bool.{cases_lt}
use Rattle.std.proofs.lemmas.Bool.Decides.{nat_tests}
use Rattle.vs_space.specs.declared.status.Status.{Status}
use Rattle.vs_space.specs.declared.status.Status.TheVariants.{Active, Pinned, Sending, Receiving, Sent, Garbage}
use Rattle.vs_machine.specs.Coherence.{names, owner_at}
use Rattle.vs_machine.specs.Inner.Owner.{Beside, Owns, IsPlaced}
use Rattle.vs_machine.specs.Kinds.Connections.{is_receiving}
use Rattle.vs_machine.specs.State as machine
use Rattle.vs_machine.specs.Tables.{is_to, least_to, or_else}
use Rattle.vs_machine.proofs.Kept.Sending.{least_passes}
use Rattle.vs_machine.proofs.Opens.{HasOwner, has_owner}
use Rattle.vs_machine.proofs.Reached.{placed_by}
use Rattle.vs_state.specs.declared.state.State.{State}
use Rattle.vs_state.specs.Plain.{plain, entry_in}
use Rattle.vs_record.specs.RowTable.{row_map_at}
use Rattle.vs_rows.specs.RowMap.{IsRising}
use Rattle.vs_core.specs.Opened.{IsCoherentAt}
use Rattle.vs_core.specs.Opening.{HasItsSets, IsFitting, has_it, held_in}
use Rattle.vs_core.proofs.Made.{past}

-- ---- numbers from 1

-- what holds up to a number and at the next
pub and_next : (P : ℕ → Type 0) (i b : ℕ) → b ≡ i + 1 → P b → ((k : ℕ) → 1 ≤ k → k ≤ i → P k) → (k : ℕ) → 1 ≤ k → k ≤ i + 1 → P k
and_next P i b at here before k first l = by (cases_lt k b)
  where
    by : (k < b) ⊎ (b ≤ k) → P k
    by (inl below) = before k first (omega (arith, at, below))
    by (inr beyond) = subst P (omega (arith, at, beyond, l)) here

-- what holds of the numbers from 1 to n, and of the others
pub everywhere : (P : ℕ → Type 0) (n : ℕ) → ((k : ℕ) → 1 ≤ k → k ≤ n → P k) → ((k : ℕ) → is_to n k ≡ false → P k) → (k : ℕ) → P k
everywhere P n within past k = by (is_to n k) refl
  where
    by : (t : Bool) → is_to n k ≡ t → P k
    by true e = within k (grind (arith, nat_tests, e)) (grind (arith, nat_tests, e))
    by false e = past k e

-- ---- the least number that passes

least_first : (p : ℕ → Bool) (n k : ℕ) → least_to p n ≡ Some k → 1 ≤ k
least_first p zero k is = absurd (cc is)
least_first p (suc n) k is = by (least_to p n) refl (p (suc n)) is (least_first p n k)
  where
    by : (o : Option ℕ) → least_to p n ≡ o → (t : Bool) → or_else o (if t then Some (suc n) else None) ≡ Some k → (least_to p n ≡ Some k → 1 ≤ k) → 1 ≤ k
    by (Some j) was t e earlier = earlier (was ∙ e)
    by None was true e earlier = let same : suc n ≡ k = cc e in omega (arith, same)
    by None was false e earlier = absurd (cc e)

-- the owner has the bucket, or receives it
pub record HasOrReceives (entry : ℕ → Option Status) (o : ℕ) : Type 0 where
  pub first : 1 ≤ o
  pub has : (has_it (entry o) ≡ true) ⊎ (is_receiving (entry o) ≡ true)

pub owner_has : (entry : ℕ → Option Status) (n o : ℕ) → owner_at entry n ≡ Some o → HasOrReceives entry o
owner_has entry n o is = by (least_to (λ x. has_it (entry x)) n) refl is
  where
    by : (w : Option ℕ) → least_to (λ x. has_it (entry x)) n ≡ w → or_else w (least_to (λ x. is_receiving (entry x)) n) ≡ Some o → HasOrReceives entry o
    by (Some p) was e = record { first = least_first (λ x. has_it (entry x)) n o (was ∙ e); has = inl (least_passes (λ x. has_it (entry x)) n o (was ∙ e)) }
    by None was e = record { first = least_first (λ x. is_receiving (entry x)) n o e; has = inr (least_passes (λ x. is_receiving (entry x)) n o e) }

owns : (o : ℕ) (e : Option Status) → (has_it e ≡ true) ⊎ (is_receiving e ≡ true) → ((y : ℕ) → names e ≡ Some y → y ≢ o) → Owns o e
owns o (Some Active) has apart = tt
owns o (Some Pinned) has apart = tt
owns o (Some (Sending d)) has apart = apart d refl
owns o (Some (Receiving x)) has apart = apart x refl
owns o None (inl h) apart = absurd (cc h)
owns o None (inr h) apart = absurd (cc h)
owns o (Some (Sent d)) (inl h) apart = absurd (cc h)
owns o (Some (Sent d)) (inr h) apart = absurd (cc h)
owns o (Some Garbage) (inl h) apart = absurd (cc h)
owns o (Some Garbage) (inr h) apart = absurd (cc h)

-- the set that an entry names is another of n
pub named_fits : (e : Option Status) (x n o : ℕ) (t : Bool) → names e ≡ Some o → 1 ≤ o → (IsTrue t ↔ ((o ≢ x) × (o ≤ n))) → IsTrue t ↔ ((y : ℕ) → names e ≡ Some y → (y ≢ x) × (1 ≤ y) × (y ≤ n))
named_fits e x n o t is first test = (
  λ h y named. let same : o ≡ y = cc (is, named) in subst (λ y. (y ≢ x) × (1 ≤ y) × (y ≤ n)) same ((test.0 h).0, first, (test.0 h).1),
  λ all. test.1 ((all o is).0, (all o is).2),
)

pub unnamed_fits : (e : Option Status) (x n : ℕ) → names e ≡ None → IsTrue true ↔ ((y : ℕ) → names e ≡ Some y → (y ≢ x) × (1 ≤ y) × (y ≤ n))
unnamed_fits e x n is = (λ h y named. absurd (cc (is, named)), λ all. refl)

-- ---- coherence and the owner

module _ (s : State) (small : HasItsSets s) (b : ℕ) where
  abbrev entry : ℕ → Option Status
  entry = ((plain s).bucket b).entry

  abbrev sets : ℕ
  sets = machine.sets_of (plain s)

  -- what is no set has no entry, and no rows
  past_entry : (x : ℕ) → is_to sets x ≡ false → entry x ≡ None
  past_entry zero out = refl
  past_entry (suc k) out = past (λ t. entry_in t b) None s.sets.items (suc k) (grind (arith, nat_tests, out, small.sets))

  past_rows : (x : ℕ) → is_to sets x ≡ false → ((plain s).bucket b).rows x ≡ []
  past_rows zero out = refl
  past_rows (suc k) out = past (λ t. row_map_at t.rows b) [] s.sets.items (suc k) (grind (arith, nat_tests, out, small.sets))

  within : (x : ℕ) → entry x ≢ None → is_to sets x ≡ true
  within x there = by (is_to sets x) refl
    where
      by : (t : Bool) → is_to sets x ≡ t → t ≡ true
      by true e = refl
      by false e = absurd (there (past_entry x e))

  -- it fits to whatever owner
  pub past_fits : (o x : ℕ) → is_to sets x ≡ false → IsFitting (plain s) b o x
  past_fits o x out = record {
    named = λ y e. absurd (cc (e, ap names (past_entry x out)));
    empty = λ none. past_rows x out;
    beside = λ ne. subst (λ e. Beside o (entry o) x e) (sym (past_entry x out)) tt;
  }

  pub past_rising : (x : ℕ) → is_to sets x ≡ false → IsRising (((plain s).bucket b).rows x)
  past_rising x out = subst IsRising (sym (past_rows x out)) tt

  owner_of : IsCoherentAt sets (held_in (plain s)) b → HasOwner sets entry
  owner_of c = has_owner sets entry within (λ x y e. (c.named x y e).0) c.placed

  pub fits_coherent : (o : ℕ) → owner_at entry sets ≡ Some o → IsCoherentAt sets (held_in (plain s)) b → (x : ℕ) → IsFitting (plain s) b o x
  fits_coherent o is c x =
      let p = owner_of c in
      let same : p.owner ≡ o = cc (p.is, is) in
      record {
        named = λ y e. c.named x y e;
        empty = c.empty x;
        beside = λ ne. (subst (λ o. IsPlaced o entry) same p.placed).beside x ne;
      }

  pub coherent_fits : (o : ℕ) → owner_at entry sets ≡ Some o → ((x : ℕ) → IsFitting (plain s) b o x) → IsCoherentAt sets (held_in (plain s)) b
  coherent_fits o is fit =
      let has = owner_has entry sets o is in
      record {
        placed = placed_by o entry has.first (record {
          owner = owns o (entry o) has.has (λ y e. ((fit o).named y e).0);
          beside = λ y ne. (fit y).beside ne;
        }) (entry o) refl;
        named = λ x y e. (fit x).named y e;
        empty = λ x. (fit x).empty;
        within = λ x there. let k = within x there in (grind (arith, nat_tests, k), grind (arith, nat_tests, k));
      }

  pub no_owner : owner_at entry sets ≡ None → IsCoherentAt sets (held_in (plain s)) b → ⊥
  no_owner none c = let p = owner_of c in absurd (cc (p.is, none))
