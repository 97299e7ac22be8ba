-- The locks that a list of calls leaves are those set since they were last lifted.
use Rattle.std.proofs.Common.{◌≡◌, ℕ, ◌==◌, Bool, true, false, ◌&&◌, ◌||◌, ◌+◌, ◌-◌, List, [], ◌∷◌, if◌then◌else◌, refl, sym, ap, ◌∙◌}
use Rattle.std.specs.List.{list_any}
use mathlib.Core.Bool.{false≢true}
use Rattle.vs_base.specs.declared.numbers.Mode.{Mode}
use Rattle.vs_base.specs.declared.numbers.Mode.TheVariants.{Ro, Rw}
use Rattle.vs_refs.specs.declared.counts.Counts.{Counts}
use Rattle.vs_refs.specs.Counts.{no_counts, count_of, lock_of, with_count, with_lock}
use Rattle.vs_refs.specs.Calls.{Call, Take, Give, Lock, Unlock, DropBucket, Clear, after, after_all, is_mode, locks, unlocks, locked}
use Rattle.vs_refs.proofs.Counted.{by_test, none_of}

or_false : (t : Bool) → t ≡ (t || false)
or_false true = refl
or_false false = refl

or_true : (t : Bool) → true ≡ (t || true)
or_true true = refl
or_true false = refl

or_assoc : (r t u : Bool) → ((r || t) || u) ≡ (r || (t || u))
or_assoc true t u = refl
or_assoc false t u = refl

first : (t x y : Bool) → (if t || true then x else y) ≡ x
first true x y = refl
first false x y = refl

settled : (t before x : Bool) → before ≡ false → (if t then x else (before || x)) ≡ x
settled true before x none = refl
settled false before x none = ap (λ u. u || x) none

count_keeps : (here : Bool) (n : ℕ) (m mode : Mode) (c : Counts) → lock_of (if here then with_count c m n else c) mode ≡ (lock_of c mode || false)
count_keeps false n m mode c = or_false (lock_of c mode)
count_keeps true n Ro Ro c = or_false c.ro_lock
count_keeps true n Ro Rw c = or_false c.rw_lock
count_keeps true n Rw Ro c = or_false c.ro_lock
count_keeps true n Rw Rw c = or_false c.rw_lock

set : (here : Bool) (m mode : Mode) (c : Counts) → lock_of (if here then with_lock c m true else c) mode ≡ (lock_of c mode || (here && is_mode mode m))
set false m mode c = or_false (lock_of c mode)
set true Ro Ro c = or_true c.ro_lock
set true Ro Rw c = or_false c.rw_lock
set true Rw Ro c = or_false c.ro_lock
set true Rw Rw c = or_true c.rw_lock

other_keeps : (here : Bool) (m mode : Mode) (c : Counts) → (here && is_mode mode m) ≡ false → lock_of (if here then with_lock c m false else c) mode ≡ (lock_of c mode || false)
other_keeps false m mode c other = or_false (lock_of c mode)
other_keeps true Ro Ro c other = absurd (false≢true (sym other))
other_keeps true Ro Rw c other = or_false c.rw_lock
other_keeps true Rw Ro c other = or_false c.ro_lock
other_keeps true Rw Rw c other = absurd (false≢true (sym other))

lifted : (here : Bool) (m mode : Mode) (c : Counts) → (here && is_mode mode m) ≡ true → lock_of (if here then with_lock c m false else c) mode ≡ false
lifted false m mode c this = absurd (false≢true this)
lifted true Ro Ro c this = refl
lifted true Ro Rw c this = absurd (false≢true this)
lifted true Rw Ro c this = absurd (false≢true this)
lifted true Rw Rw c this = refl

no_lock : (mode : Mode) → lock_of no_counts mode ≡ false
no_lock Ro = refl
no_lock Rw = refl

-- a call that lifts no lock of the bucket and mode sets it or leaves it
one_call : (call : Call) (b : ℕ) (mode : Mode) (c : Counts) → unlocks b mode call ≡ false → lock_of (after call b c) mode ≡ (lock_of c mode || locks b mode call)
one_call (Take id m) b mode c keeps = count_keeps (id == b) (count_of c m + 1) m mode c
one_call (Give id m) b mode c keeps = count_keeps (id == b) (count_of c m - 1) m mode c
one_call (Lock id m) b mode c keeps = set (id == b) m mode c
one_call (Unlock id m) b mode c keeps = other_keeps (id == b) m mode c keeps
one_call (DropBucket id) b mode c keeps = rw keeps (or_false (lock_of c mode))
one_call Clear b mode c keeps = absurd (false≢true (sym keeps))

freed : (call : Call) (b : ℕ) (mode : Mode) (c : Counts) → unlocks b mode call ≡ true → lock_of (after call b c) mode ≡ false
freed (Take id m) b mode c frees = absurd (false≢true frees)
freed (Give id m) b mode c frees = absurd (false≢true frees)
freed (Lock id m) b mode c frees = absurd (false≢true frees)
freed (Unlock id m) b mode c frees = lifted (id == b) m mode c frees
freed (DropBucket id) b mode c frees = rw frees (no_lock mode)
freed Clear b mode c frees = no_lock mode

module _ (b : ℕ) (mode : Mode) where
  -- where none of them lifts the lock
  kept : (calls : List Call) (c : Counts) → list_any (unlocks b mode) calls ≡ false → lock_of (after_all calls b c) mode ≡ (lock_of c mode || list_any (locks b mode) calls)
  kept [] c none = or_false (lock_of c mode)
  kept (call ∷ calls) c none =
      let parts = none_of (unlocks b mode call) (list_any (unlocks b mode) calls) none in
      kept calls (after call b c) parts.1 ∙ ap (λ t. t || list_any (locks b mode) calls) (one_call call b mode c parts.0) ∙ or_assoc (lock_of c mode) (locks b mode call) (list_any (locks b mode) calls)

  pub exact : (calls : List Call) (c : Counts) → lock_of (after_all calls b c) mode ≡ (if list_any (unlocks b mode) calls then locked calls b mode else (lock_of c mode || locked calls b mode))
  exact [] c = or_false (lock_of c mode)
  exact (call ∷ calls) c = by_test (list_any (unlocks b mode) calls)
      (λ any. let rest : lock_of (after_all calls b (after call b c)) mode ≡ (if list_any (unlocks b mode) calls then locked calls b mode else (lock_of (after call b c) mode || locked calls b mode)) = exact calls (after call b c) in
      let settled = rw any at rest in rw any (settled ∙ sym (first (unlocks b mode call) (locked calls b mode) (lock_of c mode || locked calls b mode))))
      (λ none. by_test (unlocks b mode call)
      (λ here. let rest : lock_of (after_all calls b (after call b c)) mode ≡ (lock_of (after call b c) mode || list_any (locks b mode) calls) = kept calls (after call b c) none in
      rw (none, here) (rest ∙ ap (λ t. t || list_any (locks b mode) calls) (freed call b mode c here)))
      (λ other. let rest = kept (call ∷ calls) c (rw (other, none) refl) in rw (none, other) rest))

  -- from none
  pub from_none : (calls : List Call) → lock_of (after_all calls b no_counts) mode ≡ locked calls b mode
  from_none calls = exact calls no_counts ∙ settled (list_any (unlocks b mode) calls) (lock_of no_counts mode) (locked calls b mode) (no_lock mode)
