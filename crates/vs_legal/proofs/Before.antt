-- The states of a run that reaches a state, and what they have in common with it.
use Rattle.std.proofs.Common.{◌≡◌, ℕ, zero, suc, ◌+◌, ◌≤◌, ◌⊎◌, inl, inr, Bool, true, false, length, take, Option, Some, None, Ok, refl, sym, ap, ◌∙◌, arith}
use Rattle.std.specs.Prelude.{if◌then◌else◌}
use Rattle.vs_config.specs.Configuration.{Configuration}
use Rattle.vs_space.specs.declared.status.Status.{Status}
use Rattle.vs_space.specs.declared.status.Status.TheVariants.{Active, Pinned, Sending, Receiving, Sent, Garbage}
use Rattle.vs_machine.specs.Coherence.{names}
use Rattle.vs_machine.specs.Opening.{opening}
use Rattle.vs_machine.specs.Runs.{IsReached}
use Rattle.vs_machine.specs.State.{State, sets_of}
use Rattle.vs_machine.specs.Step.{run}
use Rattle.vs_machine.specs.Tables.{count_to, least_to, or_else}
use Rattle.vs_machine.proofs.Inputs.{begun_inputs}
use Rattle.vs_machine.proofs.Reached.{reached_whole}
use Rattle.vs_legal.proofs.Words.Statuses.{NamesSetIn, IsSetOf}

-- a state that the run comes through
abbrev pub before : (s : State) (r : IsReached s) (i : ℕ) (t : State) → run (opening r.config r.scripts r.held) (take i r.events) ≡ Ok t → IsReached t
before s r i t h = record { config = r.config; scripts = r.scripts; held = r.held; events = take i r.events; opens = r.opens; runs = h }

begun_sets : (s : State) (r : IsReached s) → sets_of s ≡ length r.config.sets
begun_sets s r = ap (λ (c : Configuration). length c.sets) (begun_inputs (opening r.config r.scripts r.held) s r.events r.runs).config

-- it has as many sets
pub before_sets : (s : State) (r : IsReached s) (i : ℕ) (t : State) → run (opening r.config r.scripts r.held) (take i r.events) ≡ Ok t → sets_of t ≡ sets_of s
before_sets s r i t h = begun_sets t (before s r i t h) ∙ sym (begun_sets s r)

-- an entry names a set of the cluster
pub entry_named : (s : State) → IsReached s → (b x : ℕ) → NamesSetIn (sets_of s) ((s.bucket b).entry x)
entry_named s r b x = by_entry ((s.bucket b).entry x) refl
  where
    named : (y : ℕ) → names ((s.bucket b).entry x) ≡ Some y → IsSetOf (sets_of s) y
    named y h = let fits = ((reached_whole s r).1.inner.buckets b).named x y h in (fits.1, fits.2)

    by_entry : (o : Option Status) → (s.bucket b).entry x ≡ o → NamesSetIn (sets_of s) o
    by_entry None is = tt
    by_entry (Some Active) is = tt
    by_entry (Some Pinned) is = tt
    by_entry (Some (Sending d)) is = named d (ap names is)
    by_entry (Some (Receiving d)) is = named d (ap names is)
    by_entry (Some (Sent d)) is = named d (ap names is)
    by_entry (Some Garbage) is = tt

-- ---- tables

pub count_few : (p : ℕ → Bool) (n : ℕ) → count_to p n ≤ n
count_few p zero = omega arith
count_few p (suc n) = by_test (p (suc n)) (count_few p n)
  where
    by_test : (b : Bool) → count_to p n ≤ n → count_to p n + (if b then 1 else 0) ≤ suc n
    by_test true few = omega (arith, few)
    by_test false few = omega (arith, few)

pub or_some : {A : Type 0} (p q : Option A) (x : A) → or_else p q ≡ Some x → (p ≡ Some x) ⊎ (q ≡ Some x)
or_some None q x h = inr h
or_some (Some y) q x h = inl h

pub least_within : (p : ℕ → Bool) (n x : ℕ) → least_to p n ≡ Some x → IsSetOf n x
least_within p zero x h = let no : ⊥ = cc h in absurd no
least_within p (suc n) x h = by_either (least_within p n x) (or_some (least_to p n) (if p (suc n) then Some (suc n) else None) x h)
  where
    by_test : (b : Bool) → (if b then Some (suc n) else None) ≡ Some x → IsSetOf (suc n) x
    by_test true is = let same : suc n ≡ x = cc is in (omega (arith, same), omega (arith, same))
    by_test false is = let no : ⊥ = cc is in absurd no

    by_either : (least_to p n ≡ Some x → IsSetOf n x) → ((least_to p n ≡ Some x) ⊎ ((if p (suc n) then Some (suc n) else None) ≡ Some x)) → IsSetOf (suc n) x
    by_either rest (inl is) = let there = rest is in let low = there.0 in let high = there.1 in (omega (arith, low), omega (arith, high))
    by_either rest (inr is) = by_test (p (suc n)) is
