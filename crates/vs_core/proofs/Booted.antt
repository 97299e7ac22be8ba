-- A new cluster's opening: its buckets are shared out among its sets, each at exactly one.
use Rattle.std.proofs.Common.{◌≡◌, ℕ, zero, suc, ◌+◌, ◌-◌, ◌<◌, ◌≤◌, Bool, true, false, List, [], ◌∷◌, length, take, sum, Some, None, refl, sym, ap, subst, ◌∙◌, arith, inl, inr}
use Rattle.std.specs.Prelude.{◌⊎◌, ◌≢◌, if◌then◌else◌, All}
use Rattle.std.specs.List.{sum_by, zip, AllZip}
use Rattle.std.proofs.lemmas.Bool.{cases_lt}
use Rattle.std.proofs.lemmas.Bool.Decides.{nat_tests}
use Rattle.std.proofs.lemmas.List.Elements.{All-nil, All-cons}
use Rattle.std.proofs.lemmas.List.Sums.{sum_by-cons}
use Rattle.vs_balance.specs.declared.view.SetView.{SetView}
use Rattle.vs_balance.specs.Member.{unlocked_count}
use Rattle.vs_balance.specs.Ideal.{ideal_of, unlocked_ideals, unlocked_weight, AreIdeals}
use Rattle.vs_balance.proofs.Settled.{AreIdeals-weighted, AreIdeals-weightless, CanShare-joined, ideal_of-weightless}
use Rattle.vs_config.specs.Configuration.{Configuration}
use Rattle.vs_config.specs.declared.config.SetConfig.{SetConfig}
use Rattle.vs_machine.specs.Tables.{is_to}
use Rattle.vs_machine.specs.Coherence.{IsServed, IsAway, IsServing, names}
use Rattle.vs_machine.specs.Opening.{IsLawful}
use Rattle.vs_machine.specs.Runs.{IsOpening}
use Rattle.vs_script.specs.Lawful.{IsWithin}
use Rattle.vs_script.specs.Scripts.{Scripts}
use Rattle.vs_space.specs.declared.status.Status.TheVariants.{Active}
use Rattle.vs_core.specs.Booted.{views_of, shares_of, gets, booted}

-- ---- the shares are as many as the sets, and make up all buckets

abbrev view : ℕ → SetConfig → SetView
view n s = record { count = n; pinned = 0; weight = s.weight; locked = false }

abbrev count_in : SetView → ℕ
count_in v = v.count

counts_none : (sets : List SetConfig) → sum_by count_in (views_of 0 sets) ≡ 0
counts_none [] = refl
counts_none (s ∷ ss) = omega (arith, sum_by-cons count_in (view 0 s) (views_of 0 ss), counts_none ss)

counts_all : (n : ℕ) (sets : List SetConfig) → 1 ≤ length sets → sum_by count_in (views_of n sets) ≡ n
counts_all n [] some = absurd (omega arith)
counts_all n (s ∷ ss) some =
    omega (arith, sum_by-cons count_in (view n s) (views_of 0 ss), counts_none ss)

pub counts_few : (n : ℕ) (sets : List SetConfig) → sum_by count_in (views_of n sets) ≤ n
counts_few n [] = omega arith
counts_few n (s ∷ ss) =
    omega (arith, sum_by-cons count_in (view n s) (views_of 0 ss), counts_none ss)

pub as_many_views : (n : ℕ) (sets : List SetConfig) → length (views_of n sets) ≡ length sets
as_many_views n [] = refl
as_many_views n (s ∷ ss) = ap suc (as_many_views 0 ss)

pub none_pinned : (n : ℕ) (sets : List SetConfig) → All (λ v. v.pinned ≤ v.count) (views_of n sets)
none_pinned n [] = All-nil (λ (v : SetView). v.pinned ≤ v.count)
none_pinned n (s ∷ ss) = All-cons (λ (v : SetView). v.pinned ≤ v.count) _ _ (omega arith) (none_pinned 0 ss)

pub are_ideals : (n : ℕ) (sets : List SetConfig) → length sets ≤ 32 → n ≤ 30000 → AreIdeals (views_of n sets) (ideal_of (views_of n sets))
are_ideals n sets few small = by (cases_lt 0 (unlocked_weight (views_of n sets)))
  where
    by : (0 < unlocked_weight (views_of n sets)) ⊎ (unlocked_weight (views_of n sets) ≤ 0) → AreIdeals (views_of n sets) (ideal_of (views_of n sets))
    by (inl some) = AreIdeals-weighted (views_of n sets) (CanShare-joined (views_of n sets) (omega (arith, as_many_views n sets)) (none_pinned n sets) (omega (arith, counts_few n sets)) some)
    by (inr none) =
        let weightless : unlocked_weight (views_of n sets) ≡ 0 = omega arith in
        subst (AreIdeals (views_of n sets)) (sym (ideal_of-weightless (views_of n sets) weightless)) (AreIdeals-weightless (views_of n sets) (none_pinned n sets) weightless)

-- no set is locked
unlocked : (n : ℕ) (sets : List SetConfig) → sum_by unlocked_count (views_of n sets) ≡ sum_by count_in (views_of n sets)
unlocked n [] = refl
unlocked n (s ∷ ss) =
    let v = view n s in
    sum_by-cons unlocked_count v (views_of 0 ss) ∙ ap (λ k. n + k) (unlocked 0 ss) ∙ sym (sum_by-cons count_in v (views_of 0 ss))

all_ideals : (R : SetView → ℕ → Type 0) (n : ℕ) (sets : List SetConfig) (ideals : List ℕ) → AllZip R (views_of n sets) ideals → (length ideals ≡ length sets) × (unlocked_ideals (views_of n sets) ideals ≡ sum ideals)
all_ideals R n [] [] h = (refl, refl)
all_ideals R n [] (i ∷ is) h = absurd h
all_ideals R n (s ∷ ss) [] h = absurd h
all_ideals R n (s ∷ ss) (i ∷ is) h =
    let v = view n s in
    let rest = all_ideals R 0 ss is h.1 in (
      ap suc rest.0,
      sum_by-cons (λ (p : SetView × ℕ). if p.0.locked then 0 else p.1) (v, i) (zip (views_of 0 ss) is) ∙ ap (λ k. i + k) rest.1 ∙ sym (sum_by-cons (λ x. x) i is),
    )

-- each set has a share, and the shares make up all buckets
pub record AreShares (config : Configuration) : Type 0 where
  pub each : length (shares_of config) ≡ length config.sets
  pub all : sum (shares_of config) ≡ config.bucket_count

pub are_shares : (config : Configuration) → IsWithin 32 (length config.sets) → IsWithin 30000 config.bucket_count → AreShares config
are_shares config sets buckets =
    let n = config.bucket_count in
    let ideals = are_ideals n config.sets sets.1 buckets.1 in
    let zipped = all_ideals (λ v i. v.locked ≡ true → i ≡ v.count) n config.sets (shares_of config) ideals.kept.locked in
    record {
      each = zipped.0;
      all = sym zipped.1 ∙ ideals.kept.unlocked ∙ unlocked n config.sets ∙ counts_all n config.sets sets.0;
    }

-- ---- each bucket from 1 to the sum of the shares is one set's

-- how many buckets the first k sets get
abbrev pub through : List ℕ → ℕ → ℕ
through shares k = sum (take k shares)

pub through-cons : (n : ℕ) (ns : List ℕ) (k : ℕ) → through (n ∷ ns) (suc k) ≡ n + through ns k
through-cons n ns k = sum_by-cons (λ x. x) n (take k ns)

rises : (ns : List ℕ) (j k : ℕ) → j ≤ k → through ns j ≤ through ns k
rises [] zero zero le = omega arith
rises [] zero (suc k) le = omega arith
rises [] (suc j) zero le = omega arith
rises [] (suc j) (suc k) le = omega arith
rises (n ∷ ns) zero k le = omega arith
rises (n ∷ ns) (suc j) zero le = absurd (omega arith)
rises (n ∷ ns) (suc j) (suc k) le = omega (arith, through-cons n ns j, through-cons n ns k, rises ns j k (omega arith))

ends : (ns : List ℕ) (k : ℕ) → length ns ≤ k → through ns k ≡ sum ns
ends [] zero le = refl
ends [] (suc k) le = refl
ends (n ∷ ns) zero le = absurd (omega arith)
ends (n ∷ ns) (suc k) le = through-cons n ns k ∙ ap (λ m. n + m) (ends ns k (omega arith)) ∙ sym (sum_by-cons (λ x. x) n ns)

within : (ns : List ℕ) (k : ℕ) → through ns k ≤ sum ns
within [] zero = omega arith
within [] (suc k) = omega arith
within (n ∷ ns) zero = omega arith
within (n ∷ ns) (suc k) = omega (arith, through-cons n ns k, within ns k, sum_by-cons (λ x. x) n ns)

-- the set of index `at` gets the bucket
record Gets (ns : List ℕ) (b : ℕ) : Type 0 where
  pub at : ℕ
  pub after : through ns at < b
  pub upto : b ≤ through ns (suc at)

getter : (ns : List ℕ) (b : ℕ) → 1 ≤ b → b ≤ sum ns → Gets ns b
getter [] b first last = absurd (omega arith)
getter (n ∷ ns) b first last = by (cases_lt n b) (λ f l. getter ns (b - n) f l)
  where
    by : (n < b) ⊎ (b ≤ n) → (1 ≤ b - n → b - n ≤ sum ns → Gets ns (b - n)) → Gets (n ∷ ns) b
    by (inr here) later = record { at = 0; after = omega arith; upto = omega (arith, through-cons n ns 0) }
    by (inl beyond) later =
        let g = later (omega arith) (omega (arith, sum_by-cons (λ x. x) n ns)) in
        record { at = suc g.at; after = omega (arith, through-cons n ns g.at, g.after); upto = omega (arith, through-cons n ns (suc g.at), g.upto) }

-- what it is that a set gets a bucket
pub record IsGot (shares : List ℕ) (x b : ℕ) : Type 0 where
  pub first : 1 ≤ x
  pub last : x ≤ length shares
  pub after : through shares (x - 1) < b
  pub upto : b ≤ through shares x

pub got : (shares : List ℕ) (x b : ℕ) → gets shares x b ≡ true → IsGot shares x b
got shares x b h =
    let after : through shares (x - 1) < b = grind (arith, nat_tests, h) in
    let upto : b ≤ through shares x = grind (arith, nat_tests, h) in
    record {
      first = by_zero x h;
      last = by_last (cases_lt (length shares) x) after upto;
      after = after;
      upto = upto;
    }
  where
    by_zero : (x : ℕ) → gets shares x b ≡ true → 1 ≤ x
    by_zero zero h = absurd (grind (arith, nat_tests, h))
    by_zero (suc k) h = omega arith

    by_last : (length shares < x) ⊎ (x ≤ length shares) → through shares (x - 1) < b → b ≤ through shares x → x ≤ length shares
    by_last (inr le) after upto = le
    by_last (inl lt) after upto = absurd (omega (arith, ends shares (x - 1) (omega arith), ends shares x (omega arith)))

-- one set alone gets it
pub got_once : (shares : List ℕ) (x y b : ℕ) → IsGot shares x b → IsGot shares y b → y ≡ x
got_once shares x y b g h = by (cases_lt x y) (cases_lt y x)
  where
    by : (x < y) ⊎ (y ≤ x) → (y < x) ⊎ (x ≤ y) → y ≡ x
    by (inl lt) other = absurd (omega (arith, rises shares x (y - 1) (omega arith), g.upto, h.after))
    by (inr le) (inl lt) = absurd (omega (arith, rises shares y (x - 1) (omega arith), h.upto, g.after))
    by (inr le) (inr ge) = omega arith

-- ---- the opening

-- a set that gets the bucket has it active, and another has no entry of it
got_serves : (t : Bool) → t ≡ true → IsServing (if t then Some Active else None)
got_serves true h = tt
got_serves false h = absurd (cc h)

not_got : (t : Bool) → (t ≡ true → ⊥) → (if t then Some Active else None) ≡ None
not_got true isnt = absurd (isnt refl)
not_got false isnt = refl

got_is : (t : Bool) → (if t then Some Active else None) ≢ None → t ≡ true
got_is true some = refl
got_is false some = absurd (some refl)

names_none : (t : Bool) (y : ℕ) → names (if t then Some Active else None) ≡ Some y → ⊥
names_none true y h = cc h
names_none false y h = cc h

is_got : (shares : List ℕ) (x b : ℕ) → 1 ≤ x → through shares (x - 1) < b → b ≤ through shares x → gets shares x b ≡ true
is_got shares x b first after upto = grind (arith, nat_tests, after, upto)

module _ (config : Configuration) (scripts : Scripts) (lawful : IsLawful config scripts) where
  shares : AreShares config
  shares = are_shares config lawful.sets lawful.buckets

  -- an entry is of a set and of a bucket of the cluster
  within_sets : (x b : ℕ) → (booted config).entry x b ≢ None → (1 ≤ x) × (x ≤ length config.sets)
  within_sets x b some =
      let g = got (shares_of config) x b (got_is (gets (shares_of config) x b) some) in
      (g.first, omega (arith, g.last, shares.each))

  within_buckets : (x b : ℕ) → (booted config).entry x b ≢ None → (1 ≤ b) × (b ≤ config.bucket_count)
  within_buckets x b some =
      let g = got (shares_of config) x b (got_is (gets (shares_of config) x b) some) in
      (omega (arith, g.after), omega (arith, g.upto, within (shares_of config) x, shares.all))

  no_entry : (n k x b : ℕ) → is_to n k ≡ false → ((booted config).entry x b ≢ None → (1 ≤ k) × (k ≤ n)) → (booted config).entry x b ≡ None
  no_entry n k x b out some =
      not_got (gets (shares_of config) x b) (λ h. let in_range = some (λ none. cc (ap (λ t. if t then Some Active else None) h, none)) in grind (arith, nat_tests, out, in_range))

  served : (b : ℕ) → 1 ≤ b → b ≤ config.bucket_count → IsServed (λ x. (booted config).entry x b)
  served b first last =
      let g = getter (shares_of config) b first (omega (arith, last, shares.all)) in
      let same : suc g.at - 1 ≡ g.at = omega arith in
      let here : gets (shares_of config) (suc g.at) b ≡ true = is_got (shares_of config) (suc g.at) b (omega arith) (rw same g.after) g.upto in
      record {
        at = suc g.at;
        serving = got_serves (gets (shares_of config) (suc g.at) b) here;
        others = λ y ne. subst IsAway (sym (not_got (gets (shares_of config) y b) (λ h. ne (got_once (shares_of config) (suc g.at) y b (got (shares_of config) (suc g.at) b here) (got (shares_of config) y b h))))) tt;
      }

  pub opens : IsOpening config scripts (booted config)
  opens = record {
    lawful = lawful;
    holdings = record {
      sets = λ x b out. no_entry (length config.sets) x x b out (within_sets x b);
      buckets = λ x b out. no_entry config.bucket_count b x b out (within_buckets x b);
      empty = λ x b none. refl;
      rising = λ x b. tt;
    };
    coherent = λ b first last. record {
      placed = inl (served b first last);
      named = λ x y h. absurd (names_none (gets (shares_of config) x b) y h);
      empty = λ x none. refl;
      within = λ x some. within_sets x b some;
    };
  }
