-- What journals stand for that fit the sets of a reached state is a coherent opening.
use Rattle.std.proofs.Common.{◌≡◌, ℕ, zero, suc, inl, inr, ◌≤◌, arith, Bool, true, false, refl, sym, ap, subst, ◌∙◌, Option, Some, None}
use Rattle.std.specs.Prelude.{◌≢◌}
use Rattle.std.proofs.lemmas.Bool.{cases_eq}
use Rattle.std.proofs.lemmas.Bool.Decides.{nat_tests}
use Rattle.vs_config.specs.Configuration.{Configuration}
use Rattle.vs_record.specs.Change.{Change}
use Rattle.vs_record.specs.Durable.{Durable, applied}
use Rattle.vs_script.specs.Scripts.{Scripts}
use Rattle.vs_space.specs.declared.status.Status.{Status}
use Rattle.vs_machine.specs.Journals.{durable_of, FitsSet, FitsSets, held_as, nothing}
use Rattle.vs_machine.specs.Laws.{chosen_at, chosen}
use Rattle.vs_machine.specs.Opening.{Holdings, IsLawful}
use Rattle.vs_machine.specs.Runs.{IsOpening, IsReached}
use Rattle.vs_machine.specs.State.{State, sets_of, has_set, has_bucket}
use Rattle.vs_machine.specs.Whole.{Whole}
use Rattle.vs_machine.proofs.Choices.{chosen_reached}
use Rattle.vs_machine.proofs.Frame.{put_there}
use Rattle.vs_machine.proofs.Reached.{reached_whole, coherent_runs}
use Rattle.vs_machine.proofs.Recorded.Durables.{change_written}

-- ---- a reached state, as an opening

-- an entry that isn't among those of a test that all of them pass
outside : (e : Option Status) (t : Bool) → (e ≢ None → t ≡ true) → t ≡ false → e ≡ None
outside None t h is = refl
outside (Some st) t h is = absurd (cc (h (λ n. absurd cc), is))

module _ (own : ℕ → ℕ) (s : State) (w : Whole own s) where
  set_is : (b x : ℕ) → (s.bucket b).entry x ≢ None → has_set s x ≡ true
  set_is b x some = let h = w.bounds b x some in let first = h.0 in let last = h.1 in grind (arith, nat_tests, first, last)

  no_entry : (b x : ℕ) → has_set s x ≡ false → (s.bucket b).entry x ≡ None
  no_entry b x is = outside ((s.bucket b).entry x) (has_set s x) (set_is b x) is

  -- what is no set has nothing
  pub has_nothing : (x : ℕ) → has_set s x ≡ false → durable_of s x ≡ nothing
  has_nothing x is = λ i. record { entry = λ b. no_entry b x is i; rows = λ b. (w.inner.buckets b).stored.empty x (no_entry b x is) i }

opens_as : (s : State) (scripts : Scripts) → IsReached s → IsLawful s.config scripts → IsOpening s.config scripts (held_as (durable_of s))
opens_as s scripts r lawful =
    let w = reached_whole s r in
    record {
      lawful = lawful;
      holdings = record {
        sets = λ x b is. no_entry w.0 s w.1 b x is;
        buckets = λ x b is. outside ((s.bucket b).entry x) (has_bucket s b) (w.1.known b x) is;
        empty = λ x b. (w.1.inner.buckets b).stored.empty x;
        rising = λ x b. (w.1.inner.buckets b).stored.rising x;
      };
      coherent = coherent_runs s r;
    }

-- ---- the sets with pending changes are up again, each as its journal has it

module _ (u : State) (x : ℕ) where
  other_same : (y : ℕ) (keep : Bool) (pending : Option Change) → y ≢ x → (durable_of (chosen_at u x keep pending) y ≡ durable_of u y) × ((chosen_at u x keep pending).pending y ≡ u.pending y)
  other_same y keep None ne = (refl, refl)
  other_same y true (Some c) ne = ((change_written u.bucket x c).others y ne, put_there u.pending x None y ne)
  other_same y false (Some c) ne = (refl, put_there u.pending x None y ne)

  config_same : (keep : Bool) (pending : Option Change) → (chosen_at u x keep pending).config ≡ u.config
  config_same keep None = refl
  config_same true (Some c) = refl
  config_same false (Some c) = refl

configs_same : (s : State) (keep : ℕ → Bool) (n : ℕ) → (chosen s keep n).config ≡ s.config
configs_same s keep zero = refl
configs_same s keep (suc n) = let u = chosen s keep n in config_same u (suc n) (keep (suc n)) (u.pending (suc n)) ∙ configs_same s keep n

module _ (s : State) (d : ℕ → Durable) where
  -- whether the journal has the change
  abbrev keeps : (x : ℕ) → FitsSet s x (d x) → Bool
  keeps x (inl is) = false
  keeps x (inr is) = true

  at_set : (u : State) (x : ℕ) (f : FitsSet s x (d x)) (pending : Option Change) → s.pending x ≡ pending → durable_of u x ≡ durable_of s x → durable_of (chosen_at u x (keeps x f) pending) x ≡ d x
  at_set u x (inl is) None none same = same ∙ sym is
  at_set u x (inl is) (Some c) some same = same ∙ sym is
  at_set u x (inr k) None none same = absurd (cc (none, k.1))
  at_set u x (inr k) (Some c) some same =
      let one : c ≡ k.0 = cc (some, k.1) in
      (change_written u.bucket x c).here ∙ ap (λ a. applied a c) same ∙ ap (λ v. applied (durable_of s x) v) one ∙ sym k.2

  module _ (fits : (x : ℕ) → FitsSet s x (d x)) where
    abbrev keep : ℕ → Bool
    keep x = keeps x (fits x)

    -- a set whose turn hasn't come
    later : (n x : ℕ) → (1 ≤ x → x ≤ n → ⊥) → (durable_of (chosen s keep n) x ≡ durable_of s x) × ((chosen s keep n).pending x ≡ s.pending x)
    later zero x out = (refl, refl)
    later (suc n) x out =
        let u = chosen s keep n in
        let before = later n x (λ first last. out first (omega arith)) in
        let now = other_same u (suc n) x (keep (suc n)) (u.pending (suc n)) (λ is. out (omega arith) (omega arith)) in
        (now.0 ∙ before.0, now.1 ∙ before.1)

    turned : (n x : ℕ) → 1 ≤ x → x ≤ n → durable_of (chosen s keep n) x ≡ d x
    turned zero x first last = absurd (omega arith)
    turned (suc n) x first last =
        let u = chosen s keep n in
        elim (cases_eq x (suc n)) [
          | inl is ↦
              let before = later n (suc n) (λ _ le. absurd (omega arith)) in
              subst (λ m. durable_of (chosen s keep (suc n)) m ≡ d m) (sym is) (at_set u (suc n) (fits (suc n)) (u.pending (suc n)) (sym before.1) before.0)
          | inr ne ↦ (other_same u (suc n) x (keep (suc n)) (u.pending (suc n)) ne).0 ∙ turned n x first (omega arith)
        ]

module _ (s : State) (r : IsReached s) (known : (x : ℕ) (c : Change) → s.pending x ≡ Some c → has_set s x ≡ true) (d : ℕ → Durable) (f : FitsSets s d) where
  all : (x : ℕ) → FitsSet s x (d x)
  all x = by (has_set s x) refl
    where
      by : (t : Bool) → has_set s x ≡ t → FitsSet s x (d x)
      by true is = f.sets x is
      by false is = let w = reached_whole s r in inl (f.others x is ∙ sym (has_nothing w.0 s w.1 x is))

  abbrev choice : ℕ → Bool
  choice = keep s d all

  abbrev last : State
  last = chosen s choice (sets_of s)

  -- nothing was pending at what is no set
  unkept : (x : ℕ) → has_set s x ≡ false → FitsSet s x (d x) → d x ≡ durable_of s x
  unkept x is (inl same) = same
  unkept x is (inr k) = absurd (cc (known x k.0 k.1, is))

  each : (x : ℕ) → durable_of last x ≡ d x
  each x = by (has_set s x) refl
    where
      by : (t : Bool) → has_set s x ≡ t → durable_of last x ≡ d x
      by true is = turned s d all (sets_of s) x (grind (arith, nat_tests, is)) (grind (arith, nat_tests, is))
      by false is = (later s d all (sets_of s) x (λ first le. absurd (grind (arith, nat_tests, is, first, le)))).0 ∙ sym (unkept x is (all x))

  pub reopens : (scripts : Scripts) → IsLawful s.config scripts → IsOpening s.config scripts (held_as d)
  reopens scripts lawful =
      let reached = (chosen_reached s choice (sets_of s) r (omega arith)).0 in
      let config = configs_same s choice (sets_of s) in
      let opens = opens_as last scripts reached (subst (λ c. IsLawful c scripts) (sym config) lawful) in
      let held : held_as (durable_of last) ≡ held_as d = λ i. held_as (λ x. each x i) in
      subst (λ (c : Configuration). IsOpening c scripts (held_as d)) config (subst (λ (h : Holdings). IsOpening last.config scripts h) held opens)
