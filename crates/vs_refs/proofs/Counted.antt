-- The counts that a list of calls leaves are the takes less the gives since the last call that forgets.
use Rattle.std.proofs.Common.{◌≡◌, ℕ, ◌+◌, ◌-◌, ◌<◌, ◌==◌, Bool, true, false, ◌&&◌, ◌||◌, cond, List, [], ◌∷◌, ◌++◌, if◌then◌else◌, refl, sym, ap, ◌∙◌, eqb-true, add-zero, arith}
use Rattle.std.specs.Prelude.{count_by}
use Rattle.std.specs.List.{list_any}
use Rattle.std.proofs.lemmas.List.Sums.{sum_by-cons}
use mathlib.Core.Bool.{false≢true}
use Rattle.vs_base.specs.declared.numbers.Mode.{Mode}
use Rattle.vs_base.specs.declared.numbers.Mode.TheVariants.{Ro, Rw}
use Rattle.vs_refs.specs.declared.counts.Counts.{Counts}
use Rattle.vs_refs.specs.Counts.{no_counts, count_of, with_count, with_lock}
use Rattle.vs_refs.specs.Calls.{Call, Take, Give, Lock, Unlock, DropBucket, Clear, after, after_all, IsAllowed, AreAllowed, is_mode, takes, gives, forgets, taken, given}

-- a test that passes or not
pub by_test : {P : Type 0} (t : Bool) → (t ≡ true → P) → (t ≡ false → P) → P
by_test true passes fails = passes refl
by_test false passes fails = fails refl

pub none_of : (a b : Bool) → (a || b) ≡ false → (a ≡ false) × (b ≡ false)
none_of true b h = absurd (false≢true (sym h))
none_of false b h = (refl, h)

ends : (t : Bool) (n : ℕ) → (if t || true then 0 else n) ≡ 0
ends true n = refl
ends false n = refl

zero : (t : Bool) (n : ℕ) → n ≡ 0 → (if t then 0 else n) ≡ 0
zero true n is = refl
zero false n is = is

-- ---- one call

took : (here : Bool) (m mode : Mode) (c : Counts) → count_of (if here then with_count c m (count_of c m + 1) else c) mode + 0 ≡ count_of c mode + cond (here && is_mode mode m) 1 0
took false m mode c = refl
took true Ro Ro c = omega arith
took true Ro Rw c = refl
took true Rw Ro c = refl
took true Rw Rw c = omega arith

gave : (here : Bool) (m mode : Mode) (c : Counts) → (here ≡ true → 0 < count_of c m) → count_of (if here then with_count c m (count_of c m - 1) else c) mode + cond (here && is_mode mode m) 1 0 ≡ count_of c mode + 0
gave false m mode c above = refl
gave true Ro Ro c above = let h : 0 < c.ro = above refl in omega arith
gave true Ro Rw c above = refl
gave true Rw Ro c above = refl
gave true Rw Rw c above = let h : 0 < c.rw = above refl in omega arith

lock_keeps : (here lock : Bool) (m mode : Mode) (c : Counts) → count_of (if here then with_lock c m lock else c) mode + 0 ≡ count_of c mode + 0
lock_keeps false lock m mode c = refl
lock_keeps true lock Ro Ro c = refl
lock_keeps true lock Ro Rw c = refl
lock_keeps true lock Rw Ro c = refl
lock_keeps true lock Rw Rw c = refl

none_left : (mode : Mode) → count_of no_counts mode ≡ 0
none_left Ro = refl
none_left Rw = refl

-- a call that forgets nothing of the bucket counts as a take, as a give or not at all
one_call : (call : Call) (b : ℕ) (mode : Mode) (c : Counts) → IsAllowed call b c → forgets b call ≡ false →
    count_of (after call b c) mode + cond (gives b mode call) 1 0 ≡ count_of c mode + cond (takes b mode call) 1 0
one_call (Take id m) b mode c allowed keeps = took (id == b) m mode c
one_call (Give id m) b mode c allowed keeps = gave (id == b) m mode c (λ here. allowed (eqb-true id b here))
one_call (Lock id m) b mode c allowed keeps = lock_keeps (id == b) true m mode c
one_call (Unlock id m) b mode c allowed keeps = lock_keeps (id == b) false m mode c
one_call (DropBucket id) b mode c allowed keeps = rw keeps refl
one_call Clear b mode c allowed keeps = absurd (false≢true (sym keeps))

-- one that forgets it leaves no references
forgotten : (call : Call) (b : ℕ) (mode : Mode) (c : Counts) → forgets b call ≡ true → count_of (after call b c) mode ≡ 0
forgotten (Take id m) b mode c forgets = absurd (false≢true forgets)
forgotten (Give id m) b mode c forgets = absurd (false≢true forgets)
forgotten (Lock id m) b mode c forgets = absurd (false≢true forgets)
forgotten (Unlock id m) b mode c forgets = absurd (false≢true forgets)
forgotten (DropBucket id) b mode c forgets = rw forgets (none_left mode)
forgotten Clear b mode c forgets = none_left mode

-- ---- lists of calls

module _ (b : ℕ) (mode : Mode) where
  -- where none of them forgets the bucket
  counted : (calls : List Call) (c : Counts) → AreAllowed calls b c → list_any (forgets b) calls ≡ false →
      count_of (after_all calls b c) mode + count_by (gives b mode) calls ≡ count_of c mode + count_by (takes b mode) calls
  counted [] c allowed none = refl
  counted (call ∷ calls) c allowed none =
      let parts = none_of (forgets b call) (list_any (forgets b) calls) none in
      let one : count_of (after call b c) mode + cond (gives b mode call) 1 0 ≡ count_of c mode + cond (takes b mode call) 1 0 = one_call call b mode c allowed.0 parts.0 in
      let rest : count_of (after_all calls b (after call b c)) mode + count_by (gives b mode) calls ≡ count_of (after call b c) mode + count_by (takes b mode) calls = counted calls (after call b c) allowed.1 parts.1 in
      rw (sum_by-cons (λ x. cond (gives b mode x) 1 0) call calls, sum_by-cons (λ x. cond (takes b mode x) 1 0) call calls) (omega arith)

  pub exact : (calls : List Call) (c : Counts) → AreAllowed calls b c →
      count_of (after_all calls b c) mode + given calls b mode ≡ taken calls b mode + (if list_any (forgets b) calls then 0 else count_of c mode)
  exact [] c allowed = omega arith
  exact (call ∷ calls) c allowed = by_test (list_any (forgets b) calls)
      (λ any. let rest : count_of (after_all calls b (after call b c)) mode + given calls b mode ≡ taken calls b mode + (if list_any (forgets b) calls then 0 else count_of (after call b c) mode) = exact calls (after call b c) allowed.1 in
      let settled = rw any at rest in rw any (settled ∙ ap (λ n. taken calls b mode + n) (sym (ends (forgets b call) (count_of c mode)))))
      (λ none. by_test (forgets b call)
      (λ here. let rest : count_of (after_all calls b (after call b c)) mode + count_by (gives b mode) calls ≡ count_of (after call b c) mode + count_by (takes b mode) calls = counted calls (after call b c) allowed.1 none in
      let zero = forgotten call b mode c here in rw (none, here) (omega arith))
      (λ other. let rest = counted (call ∷ calls) c allowed (rw (other, none) refl) in rw (none, other) (omega arith)))

  -- from none
  pub from_none : (calls : List Call) → AreAllowed calls b no_counts → count_of (after_all calls b no_counts) mode + given calls b mode ≡ taken calls b mode
  from_none calls allowed = exact calls no_counts allowed ∙ ap (λ n. taken calls b mode + n) (zero (list_any (forgets b) calls) (count_of no_counts mode) (none_left mode)) ∙ add-zero (taken calls b mode)

-- ---- one more call

pub allowed_more : (calls : List Call) (call : Call) (b : ℕ) (c : Counts) → AreAllowed calls b c → IsAllowed call b (after_all calls b c) → AreAllowed (calls ++ call ∷ []) b c
allowed_more [] call b c before last = (last, tt)
allowed_more (first ∷ calls) call b c before last = (before.0, allowed_more calls call b (after first b c) before.1 last)

pub after_more : (calls : List Call) (call : Call) (b : ℕ) (c : Counts) → after_all (calls ++ call ∷ []) b c ≡ after call b (after_all calls b c)
after_more [] call b c = refl
after_more (first ∷ calls) call b c = after_more calls call b (after first b c)
