-- Calls that change the references of a set, and what lists of them leave.
use Rattle.std.specs.Prelude.{◌≡◌, ℕ, ◌+◌, ◌-◌, ◌<◌, ◌==◌, Bool, true, false, ◌&&◌, List, [], ◌∷◌, if◌then◌else◌, fold, count_by}
use Rattle.std.specs.List.{list_any}
use Rattle.vs_base.specs.declared.numbers.Mode.{Mode}
use Rattle.vs_base.specs.declared.numbers.Mode.TheVariants.{Ro, Rw}
use Rattle.vs_refs.specs.declared.counts.Counts.{Counts}
use Rattle.vs_refs.specs.Counts.{no_counts, count_of, with_count, with_lock}
use Rattle.vs_refs.specs.Refs.{counts_of}

-- a call; a take is one that wasn't refused
pub data Call : Type 0 where
  Take : ℕ → Mode → Call
  Give : ℕ → Mode → Call
  Lock : ℕ → Mode → Call
  Unlock : ℕ → Mode → Call
  DropBucket : ℕ → Call
  Clear : Call

-- what a call leaves of a bucket's counts
abbrev pub after : Call → ℕ → Counts → Counts
after (Take id mode) b c = if id == b then with_count c mode (count_of c mode + 1) else c
after (Give id mode) b c = if id == b then with_count c mode (count_of c mode - 1) else c
after (Lock id mode) b c = if id == b then with_lock c mode true else c
after (Unlock id mode) b c = if id == b then with_lock c mode false else c
after (DropBucket id) b c = if id == b then no_counts else c
after Clear b c = no_counts

-- the call leaves of each bucket's counts what it is to leave
abbrev pub Makes : Call → List (ℕ × Counts) → List (ℕ × Counts) → Type 0
Makes call old new = (b : ℕ) → counts_of new b ≡ after call b (counts_of old b)

-- a reference is given back only where one stands
abbrev pub IsAllowed : Call → ℕ → Counts → Type 0
IsAllowed (Give id mode) b c = id ≡ b → 0 < count_of c mode
IsAllowed _ b c = Unit {0}

-- what the calls leave of a bucket's counts, one after the other
abbrev pub after_all : List Call → ℕ → Counts → Counts
after_all calls b c = fold (λ c call. after call b c) c calls

abbrev pub AreAllowed : List Call → ℕ → Counts → Type 0
AreAllowed [] b c = Unit {0}
AreAllowed (call ∷ calls) b c = IsAllowed call b c × AreAllowed calls b (after call b c)

-- the entries are those that the calls leave, from none
pub record IsLeftBy (calls : List Call) (entries : List (ℕ × Counts)) : Type 0 where
  pub allowed : (b : ℕ) → AreAllowed calls b no_counts
  pub counts : (b : ℕ) → counts_of entries b ≡ after_all calls b no_counts

-- tests of a call
abbrev pub is_mode : Mode → Mode → Bool
is_mode Ro Ro = true
is_mode Rw Rw = true
is_mode _ _ = false

abbrev pub takes : ℕ → Mode → Call → Bool
takes b mode (Take id m) = (id == b) && is_mode mode m
takes b mode _ = false

abbrev pub gives : ℕ → Mode → Call → Bool
gives b mode (Give id m) = (id == b) && is_mode mode m
gives b mode _ = false

abbrev pub locks : ℕ → Mode → Call → Bool
locks b mode (Lock id m) = (id == b) && is_mode mode m
locks b mode _ = false

abbrev pub forgets : ℕ → Call → Bool
forgets b (DropBucket id) = id == b
forgets b Clear = true
forgets b _ = false

abbrev pub unlocks : ℕ → Mode → Call → Bool
unlocks b mode (Unlock id m) = (id == b) && is_mode mode m
unlocks b mode call = forgets b call

-- the calls after the last that passes the test, or all where none does
abbrev pub since : (Call → Bool) → List Call → List Call
since test [] = []
since test (call ∷ calls) =
    if list_any test calls then since test calls else if test call then calls else call ∷ calls

-- the takes and the gives of a bucket since it was last forgotten
abbrev pub taken : List Call → ℕ → Mode → ℕ
taken calls b mode = count_by (takes b mode) (since (forgets b) calls)

abbrev pub given : List Call → ℕ → Mode → ℕ
given calls b mode = count_by (gives b mode) (since (forgets b) calls)

-- whether a lock was set since it was last lifted
abbrev pub locked : List Call → ℕ → Mode → Bool
locked calls b mode = list_any (locks b mode) (since (unlocks b mode) calls)
