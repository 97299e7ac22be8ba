-- A coherent opening has the whole of what holds inside.
use Rattle.std.proofs.Common.{◌≡◌, ℕ, zero, suc, inl, inr, ◌≤◌, ◌<◌, arith, Bool, true, false, refl, sym, ap, subst, ◌∙◌, List, [], length, Option, Some, None}
use Rattle.std.specs.Prelude.{◌≢◌, ◌⊎◌, ◌||◌, if◌then◌else◌, All, slice_get, unwrap_or}
use Rattle.std.specs.Option.{option_map_or}
use Rattle.std.proofs.lemmas.Bool.{cases_eq}
use Rattle.std.proofs.lemmas.Bool.Decides.{nat_tests}
use Rattle.std.proofs.lemmas.List.Elements.{All-nil}
use Rattle.std.proofs.lemmas.Option.{slice_get_cases}
use Rattle.vs_space.specs.declared.status.Status.{Status}
use Rattle.vs_space.specs.declared.status.Status.TheVariants.{Active, Pinned, Sending, Receiving, Sent, Garbage}
use Rattle.vs_config.specs.Configuration.{Configuration}
use Rattle.vs_machine.specs.Tables.{is_to, least_to, or_else}
use Rattle.vs_machine.specs.State.{has_bucket}
use Rattle.vs_machine.specs.Coherence.{IsServing, IsAway, IsServed, IsSending, HasSent, IsReceiving, is_sending, owner_at, names}
use Rattle.vs_machine.specs.Kinds.Connections.{is_receiving}
use Rattle.vs_space.specs.Status.{is_active}
use Rattle.vs_machine.specs.Kinds.Rebalancing.{is_pinned}
use Rattle.vs_script.specs.Lawful.{IsLawfulCommand}
use Rattle.vs_script.specs.Scripts.{Scripts, script_of}
use Rattle.vs_machine.specs.Opening.{Holdings, base_of, opening}
use Rattle.vs_machine.specs.Runs.{IsOpening}
use Rattle.vs_machine.specs.Whole.{Whole}
use Rattle.vs_machine.specs.Inner.Owner.{Owns, Beside, IsPlaced}

-- ---- the one number that passes is the least

above : (p : ℕ → Bool) (n k : ℕ) → ((j : ℕ) → j ≢ k → p j ≡ false) → n < k → least_to p n ≡ None
above p zero k others lt = refl
above p (suc n) k others lt = by (least_to p n) (p (suc n)) (above p n k others (omega arith)) (others (suc n) (λ e. absurd (omega arith)))
  where
    by : (o : Option ℕ) (t : Bool) → o ≡ None → t ≡ false → or_else o (if t then Some (suc n) else None) ≡ None
    by None false e g = refl
    by None true e g = absurd cc
    by (Some j) t e g = absurd cc

pub one_passes : (p : ℕ → Bool) (n k : ℕ) → 1 ≤ k → k ≤ n → p k ≡ true → ((j : ℕ) → j ≢ k → p j ≡ false) → least_to p n ≡ Some k
one_passes p zero k first last here others = absurd (omega arith)
one_passes p (suc n) k first last here others = at (λ le. one_passes p n k first le here others) (cases_eq k (suc n))
  where
    last_one : (o : Option ℕ) (t : Bool) → o ≡ None → t ≡ true → or_else o (if t then Some (suc n) else None) ≡ Some (suc n)
    last_one None true e g = refl
    last_one None false e g = absurd cc
    last_one (Some j) t e g = absurd cc

    before : (o : Option ℕ) (t : Bool) → o ≡ Some k → or_else o (if t then Some (suc n) else None) ≡ Some k
    before (Some j) t e = e
    before None t e = absurd cc

    at : (k ≤ n → least_to p n ≡ Some k) → (k ≡ suc n) ⊎ (k ≢ suc n) → least_to p (suc n) ≡ Some k
    at earlier (inl is) =
        let here : p (suc n) ≡ true = subst (λ j. p j ≡ true) is here in
        let none : least_to p n ≡ None = above p n (suc n) (λ j ne. others j (λ e. ne (e ∙ is))) (omega arith) in
        last_one (least_to p n) (p (suc n)) none here ∙ ap (λ j. Some j) (sym is)
    at earlier (inr ne) = before (least_to p n) (p (suc n)) (earlier (grind (arith, last, ne)))

pub none_passes : (p : ℕ → Bool) (n : ℕ) → ((j : ℕ) → p j ≡ false) → least_to p n ≡ None
none_passes p n nay = above p n (suc n) (λ j ne. nay j) (omega arith)

-- ---- the owner at the opening

abbrev pub has_it : Option Status → Bool
has_it e = is_active e || is_pinned e || is_sending e

serving_has : (e : Option Status) → IsServing e → has_it e ≡ true
serving_has (Some Active) h = refl
serving_has (Some Pinned) h = refl
serving_has None h = absurd h
serving_has (Some (Sending d)) h = absurd h
serving_has (Some (Receiving d)) h = absurd h
serving_has (Some (Sent d)) h = absurd h
serving_has (Some Garbage) h = absurd h

away_hasnt : (e : Option Status) → IsAway e → (has_it e ≡ false) × (is_receiving e ≡ false)
away_hasnt None h = (refl, refl)
away_hasnt (Some (Sent d)) h = (refl, refl)
away_hasnt (Some Garbage) h = (refl, refl)
away_hasnt (Some Active) h = absurd h
away_hasnt (Some Pinned) h = absurd h
away_hasnt (Some (Sending d)) h = absurd h
away_hasnt (Some (Receiving d)) h = absurd h

away_beside : (o : ℕ) (has : Option Status) (y : ℕ) (e : Option Status) → IsAway e → ((d : ℕ) → e ≡ Some (Sent d) → has ≡ Some (Receiving y) → d ≡ o) → Beside o has y e
away_beside o has y None h sent = tt
away_beside o has y (Some Garbage) h sent = tt
away_beside o has y (Some (Sent d)) h sent = sent d refl
away_beside o has y (Some Active) h sent = absurd h
away_beside o has y (Some Pinned) h sent = absurd h
away_beside o has y (Some (Sending d)) h sent = absurd h
away_beside o has y (Some (Receiving d)) h sent = absurd h

-- the set that a bucket's entries make its owner
pub record HasOwner (n : ℕ) (entry : ℕ → Option Status) : Type 0 where
  pub owner : ℕ
  pub first : 1 ≤ owner
  pub last : owner ≤ n
  pub is : owner_at entry n ≡ Some owner
  pub placed : IsPlaced owner entry

pub has_owner : (n : ℕ) (entry : ℕ → Option Status) → ((x : ℕ) → entry x ≢ None → is_to n x ≡ true) → ((x y : ℕ) → names (entry x) ≡ Some y → y ≢ x) → IsServed entry ⊎ IsSending entry ⊎ IsReceiving entry → HasOwner n entry
has_owner n entry within apart (inl v) =
    let there : entry v.at ≢ None = λ e. subst IsServing e v.serving in
    let k = within v.at there in
    let first : 1 ≤ v.at = grind (arith, nat_tests, k) in
    let last : v.at ≤ n = grind (arith, nat_tests, k) in
    record {
      owner = v.at;
      first = first;
      last = last;
      is = ap (λ o. or_else o (least_to (λ x. is_receiving (entry x)) n)) (one_passes (λ x. has_it (entry x)) n v.at first last (serving_has _ v.serving) (λ j ne. (away_hasnt _ (v.others j ne)).0));
      placed = record {
        owner = owns (entry v.at) v.serving;
        beside = λ y ne. away_beside v.at (entry v.at) y (entry y) (v.others y ne) (λ d e g. absurd (subst IsServing g v.serving));
      };
    }
  where
    owns : (e : Option Status) → IsServing e → Owns v.at e
    owns (Some Active) h = tt
    owns (Some Pinned) h = tt
    owns None h = absurd h
    owns (Some (Sending d)) h = absurd h
    owns (Some (Receiving d)) h = absurd h
    owns (Some (Sent d)) h = absurd h
    owns (Some Garbage) h = absurd h
has_owner n entry within apart (inr (inl v)) =
    let there : entry v.from ≢ None = λ e. absurd (cc (e, v.sending)) in
    let k = within v.from there in
    let first : 1 ≤ v.from = grind (arith, nat_tests, k) in
    let last : v.from ≤ n = grind (arith, nat_tests, k) in
    record {
      owner = v.from;
      first = first;
      last = last;
      is = ap (λ o. or_else o (least_to (λ x. is_receiving (entry x)) n)) (one_passes (λ x. has_it (entry x)) n v.from first last (ap has_it v.sending) (λ j ne. hasnt j (v.others j ne)));
      placed = record {
        owner = subst (Owns v.from) (sym v.sending) (apart v.from v.to (ap names v.sending));
        beside = λ y ne. beside y (v.others y ne);
      };
    }
  where
    hasnt : (y : ℕ) → IsAway (entry y) ⊎ ((y ≡ v.to) × (entry y ≡ Some (Receiving v.from))) → has_it (entry y) ≡ false
    hasnt y (inl h) = (away_hasnt _ h).0
    hasnt y (inr h) = ap has_it h.1

    beside : (y : ℕ) → IsAway (entry y) ⊎ ((y ≡ v.to) × (entry y ≡ Some (Receiving v.from))) → Beside v.from (entry v.from) y (entry y)
    beside y (inl h) = away_beside v.from (entry v.from) y (entry y) h (λ d e g. absurd (cc (g, v.sending)))
    beside y (inr h) = subst (Beside v.from (entry v.from) y) (sym h.1) (refl, v.sending ∙ ap (λ d. Some (Sending d)) (sym h.0))
has_owner n entry within apart (inr (inr v)) =
    let there : entry v.at ≢ None = λ e. absurd (cc (e, v.receiving)) in
    let k = within v.at there in
    let first : 1 ≤ v.at = grind (arith, nat_tests, k) in
    let last : v.at ≤ n = grind (arith, nat_tests, k) in
    record {
      owner = v.at;
      first = first;
      last = last;
      is = ap (λ o. or_else o (least_to (λ x. is_receiving (entry x)) n)) (none_passes (λ x. has_it (entry x)) n none)
          ∙ one_passes (λ x. is_receiving (entry x)) n v.at first last (ap is_receiving v.receiving) (λ j ne. (away_hasnt _ (v.others j ne)).1);
      placed = record {
        owner = subst (Owns v.at) (sym v.receiving) (apart v.at v.from (ap names v.receiving));
        beside = λ y ne. away_beside v.at (entry v.at) y (entry y) (v.others y ne) (λ d e g.
            let from : v.from ≡ y = cc (g, v.receiving) in
            subst (HasSent v.at) (ap entry from ∙ e) v.sender);
      };
    }
  where
    none : (j : ℕ) → has_it (entry j) ≡ false
    none j = elim (cases_eq j v.at) [
      | inl is ↦ ap (λ x. has_it (entry x)) is ∙ ap has_it v.receiving
      | inr ne ↦ (away_hasnt _ (v.others j ne)).0
    ]

-- ---- the whole

abbrev pub or_zero : Option ℕ → ℕ
or_zero o = unwrap_or o 0

nothing : {A : Type 0} (i : ℕ) (x : A) → slice_get [] i ≡ Some x → ⊥
nothing {A} i x h = elim (slice_get_cases {X = A} [] i).1 [ inl g ↦ absurd (omega (arith, g.1)) | inr g ↦ absurd (cc (h, g.1)) ]

-- what holds of each item of all scripts holds of those of one
pub each_script : {A : Type 0} (P : A → Type 0) (scripts : List (List A)) (k : ℕ) → All (All P) scripts → All P (script_of scripts k)
each_script P scripts zero h = All-nil P
each_script P scripts (suc k) h = elim (slice_get_cases scripts k).1 [
  | inl g ↦ subst (λ w. All P (unwrap_or w [])) (sym g.2) (subst (All P) g.3 (h k g.0 g.1))
  | inr g ↦ subst (λ w. All P (unwrap_or w [])) (sym g.1) (All-nil P)
]

module _ (config : Configuration) (scripts : Scripts) (held : Holdings) (o : IsOpening config scripts held) where
  abbrev pub owner : ℕ → ℕ
  owner b = or_zero (owner_at (λ x. held.entry x b) (length config.sets))

  within : (b x : ℕ) → held.entry x b ≢ None → is_to (length config.sets) x ≡ true
  within b x there = by (is_to (length config.sets) x) refl
    where
      by : (t : Bool) → is_to (length config.sets) x ≡ t → t ≡ true
      by true e = refl
      by false e = absurd (there (o.holdings.sets x b e))

  within_of : (x : ℕ) → is_to (length config.sets) x ≡ true → (1 ≤ x) × (x ≤ length config.sets)
  within_of x h = (grind (arith, nat_tests, h), grind (arith, nat_tests, h))

  known : (b : ℕ) → has_bucket (opening config scripts held) b ≡ true → HasOwner (length config.sets) (λ x. held.entry x b)
  known b is =
      let c = o.coherent b (grind (arith, nat_tests, is)) (grind (arith, nat_tests, is)) in
      has_owner (length config.sets) (λ x. held.entry x b) (within b) (λ x y e. (c.named x y e).0) c.placed

  unknown : (b : ℕ) → has_bucket (opening config scripts held) b ≡ false → owner_at (λ x. held.entry x b) (length config.sets) ≡ None
  unknown b out =
      ap (λ p. or_else p (least_to (λ x. is_receiving (held.entry x b)) (length config.sets))) (none_passes (λ x. has_it (held.entry x b)) (length config.sets) (λ x. ap has_it (o.holdings.buckets x b out)))
      ∙ none_passes (λ x. is_receiving (held.entry x b)) (length config.sets) (λ x. ap is_receiving (o.holdings.buckets x b out))

  has_known : (b x : ℕ) → held.entry x b ≢ None → has_bucket (opening config scripts held) b ≡ true
  has_known b x there = by (has_bucket (opening config scripts held) b) refl
    where
      by : (t : Bool) → has_bucket (opening config scripts held) b ≡ t → t ≡ true
      by true e = refl
      by false e = absurd (there (o.holdings.buckets x b e))

  -- ---- one bucket

  bucket_opens : (b : ℕ) (t : Bool) → has_bucket (opening config scripts held) b ≡ t
      → IsPlaced (owner b) (λ x. held.entry x b) × (held.rows (owner b) b ≡ base_of held (length config.sets) b) × ((x y : ℕ) → names (held.entry x b) ≡ Some y → (y ≢ x) × (1 ≤ y) × (y ≤ length config.sets))
  bucket_opens b true is =
      let k = known b is in
      let c = o.coherent b (grind (arith, nat_tests, is)) (grind (arith, nat_tests, is)) in (
        subst (λ w. IsPlaced (or_zero w) (λ x. held.entry x b)) (sym k.is) k.placed,
        subst (λ w. held.rows (or_zero w) b ≡ option_map_or (λ p. held.rows p b) w []) (sym k.is) refl,
        c.named,
      )
  bucket_opens b false out =
      let none = unknown b out in
      let empty : (x : ℕ) → held.entry x b ≡ None = λ x. o.holdings.buckets x b out in (
        subst (λ w. IsPlaced (or_zero w) (λ x. held.entry x b)) (sym none) (record {
          owner = subst (Owns 0) (sym (empty 0)) refl;
          beside = λ y ne. subst (Beside 0 (held.entry 0 b) y) (sym (empty y)) tt;
        }),
        subst (λ w. held.rows (or_zero w) b ≡ option_map_or (λ p. held.rows p b) w []) (sym none) (o.holdings.empty 0 b (empty 0)),
        λ x y e. absurd (cc (e, ap names (empty x))),
      )

  -- ---- the commands

  lawful_script : (k : ℕ) → All (IsLawfulCommand config.bucket_count (length config.sets)) (script_of scripts.operators k)
  lawful_script k = each_script (IsLawfulCommand config.bucket_count (length config.sets)) scripts.operators k o.lawful.commands

  -- ---- the layers

  pub opening_whole : Whole owner (opening config scripts held)
  opening_whole = record {
    inner = record {
      buckets = λ b. let k = bucket_opens b (has_bucket (opening config scripts held) b) refl in record {
        placed = k.0;
        named = k.2;
        stored = record { empty = λ x none. o.holdings.empty x b none; rising = λ x. o.holdings.rising x b };
        owned = k.1;
        transfers = λ x t h. absurd cc;
        replayed = record {
          writes_placed = λ i e h. absurd (nothing i e h);
          writes_answered = λ i e h. absurd (nothing i e h);
          reads_placed = λ i e h. absurd (nothing i e h);
          reads_answered = λ i e h. absurd (nothing i e h);
        };
      };
      clients = λ c k x called h. absurd cc;
      absent = λ c out. refl;
      links = λ x y. record { calls = All-nil _; replies = All-nil _; distinct = tt; below = All-nil _ };
      real = λ b is. let k = known b is in subst (λ w. 1 ≤ or_zero w) (sym k.is) k.first;
      operators = λ k. record { lawful = lawful_script k; apart = All-nil _ };
    };
    seals = λ b x h. refl;
    bounds = λ b x there. within_of x (within b x there);
    known = has_known;
    waits = λ b x t h. absurd cc;
    epochs = λ b x t h. absurd cc;
    ups = record { calls = λ c x h g. refl; transfers = λ b x t h. refl; asks = λ b x a h. refl; messages = λ x y. All-nil _; replies = λ x y. All-nil _ };
    asks = record { asks = λ b x a h. absurd cc; sought = λ b x a h. absurd cc; answers = λ x y. All-nil _ };
    pending = λ x change h. absurd cc;
    pairs = record { thrown = λ x y b h g. absurd cc; taken = λ x y b page h g. absurd cc; handed = λ x y b page h g. absurd cc };
    once = record {
      entries = λ b. record { past = All-nil _; once = tt; writes_called = All-nil _; reads_called = All-nil _ };
      past = λ x b id ops h. absurd cc;
      called = λ x b id ops h. absurd cc;
      absent = λ x b d id ops h. absurd cc;
      apart = λ x y b d id ops more h g. absurd cc;
    };
    answers = record {
      numbered = λ c. refl;
      present = λ c k called h. absurd h;
      answered = λ c i k r called h. absurd (nothing i r h);
      spent = λ c i x b cause ops h. absurd (nothing i _ h);
    };
    order = record {
      known = λ c i p k said called h. absurd (nothing i _ h);
      posted = λ c k called h. absurd cc;
      after = λ c i p j k said called h. absurd (nothing i _ h);
      kept = λ c a b p q j k x y lt called also same h. absurd (nothing a _ h);
    };
  }
