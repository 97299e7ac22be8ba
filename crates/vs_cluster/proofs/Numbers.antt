-- Numbers of the cluster, the flags of clients, and what is found in a loop.
use Rattle.std.proofs.Common.{◌≡◌, ℕ, zero, suc, ◌+◌, ◌-◌, ◌≤◌, Bool, true, false, List, Option, Some, None, refl, sym, subst, inl, inr, arith}
use Rattle.std.specs.Prelude.{◌⊎◌, IfSome, is_some, slice_index_or}
use Rattle.std.proofs.lemmas.Bool.Decides.{nat_tests}
use Rattle.vs_choose.specs.Restart.{IsBareChoice}
use Rattle.vs_event.specs.declared.event.Event.{Event}
use Rattle.vs_machine.specs.Actors.{Actor, HasEvent}
use Rattle.vs_machine.specs.Driven.{flags_of}
use Rattle.vs_machine.specs.State.{State}
use Rattle.vs_machine.specs.Tables.{is_to}

pub within : (n k : ℕ) → is_to n k ≡ true → (1 ≤ k) × (k ≤ n)
within n k h = (grind (arith, nat_tests, h), grind (arith, nat_tests, h))

pub is_within : (n k : ℕ) → 1 ≤ k → k ≤ n → is_to n k ≡ true
is_within n k first last = grind (arith, nat_tests)

last_or : (i n k : ℕ) → n ≡ i + 1 → k ≤ i + 1 → (k ≡ n) ⊎ (k ≤ i)
last_or i n k at last = grind arith

-- one number further holds too
pub one_more : (P : ℕ → Type 0) (i n : ℕ) → n ≡ i + 1 → P n → ((k : ℕ) → 1 ≤ k → k ≤ i → P k) → (k : ℕ) → 1 ≤ k → k ≤ i + 1 → P k
one_more P i n at here before k first last = by (last_or i n k at last)
  where
    by : (k ≡ n) ⊎ (k ≤ i) → P k
    by (inl same) = subst P (sym same) here
    by (inr below) = before k first below

-- the flag of a client stands in the list
pub flag_at : (flags : List Bool) (c : ℕ) → 1 ≤ c → flags_of flags c ≡ slice_index_or flags (c - 1) false
flag_at flags zero first = absurd (omega arith)
flag_at flags (suc n) first = let e : suc n - 1 ≡ n = omega arith in rw e refl

-- an event that is chosen has what is known of it
pub found : (o : Option Event) (P : Event → Type 0) → IfSome o P → is_some o ≡ true → (e : Event) × P e
found (Some e) P h is = (e, h)
found None P h is = absurd (cc is)

pub none_found : (o : Option Event) → is_some o ≡ false → o ≡ None
none_found (Some e) is = absurd (cc is)
none_found None is = refl

-- one that is chosen is one that the actor has
pub chosen : (s : State) (actor : Actor) → (e : Event) × IsBareChoice s actor e → HasEvent s actor
chosen s actor has = (has.0, has.1.choice)
