-- The search of a router finds the least set that serves.
use Rattle.std.proofs.Common.{◌≡◌, ℕ, zero, suc, ◌≤◌, Bool, true, false, ◌&&◌, cond, Option, Some, None, List, [], ◌∷◌, ◌++◌, length, map, refl, sym, ap, subst, ◌∙◌, arith}
use Rattle.std.specs.Prelude.{MatchOption}
use Rattle.std.specs.List.{filter, All, Contains}
use Rattle.std.proofs.lemmas.List.{append-nil, map-append}
use Rattle.std.proofs.lemmas.List.Elements.{filter-append, All-push, Contains-push, Contains-append_left}
use Rattle.vs_machine.specs.State.{State, sets_of}
use Rattle.vs_machine.specs.Tables.{least_to, list_to, or_else}
use Rattle.vs_router.specs.Said.{IsLowestServing, serving}
use Rattle.vs_router.specs.declared.said.SetSaid.{SetSaid}
use Rattle.vs_state.specs.Serving.{serves}
use Rattle.vs_drive.specs.Posting.{first_set, said_at}

-- this number is in the list, and none in it is less
pub record IsLeastOf (most : ℕ) (sets : List ℕ) (least : ℕ) : Type 0 where
  pub there : Contains sets least
  pub below : All (λ other. least ≤ other) sets
  pub within : least ≤ most

module _ (s : State) (b : ℕ) where
  abbrev finds : ℕ → Option ℕ
  finds n = least_to (λ x. serves s x b) n

  -- the sets to n that serve
  abbrev serving_to : ℕ → List ℕ
  serving_to zero = []
  serving_to (suc n) = serving_to n ++ (cond (serves s (suc n) b) (suc n ∷ []) [])

  same_twice : (up g : Bool) → (up && (up && g)) ≡ (up && g)
  same_twice true g = refl
  same_twice false g = refl

  chosen : (x : ℕ) (one : SetSaid) → one.set ≡ x → map (λ (t : SetSaid). t.set) (filter (λ t. t.up && t.serves) (one ∷ [])) ≡ cond (one.up && one.serves) (x ∷ []) []
  chosen x one is = by (one.up && one.serves)
    where
      by : (yes : Bool) → map (λ (t : SetSaid). t.set) (cond yes (one ∷ []) []) ≡ cond yes (x ∷ []) []
      by true = ap (λ (n : ℕ). n ∷ []) is
      by false = refl

  said_serve : (n : ℕ) → serving (list_to (said_at s b) n) ≡ serving_to n
  said_serve zero = refl
  said_serve (suc n) =
      let said = list_to (said_at s b) n in
      let one = said_at s b (suc n) in
      ap (map (λ (t : SetSaid). t.set)) (filter-append (λ t. t.up && t.serves) said (one ∷ []))
      ∙ map-append (λ (t : SetSaid). t.set) (filter (λ t. t.up && t.serves) said) (filter (λ t. t.up && t.serves) (one ∷ []))
      ∙ ap (λ (xs : List ℕ). xs ++ map (λ (t : SetSaid). t.set) (filter (λ t. t.up && t.serves) (one ∷ []))) (said_serve n)
      ∙ ap (λ (xs : List ℕ). serving_to n ++ xs) (chosen (suc n) one refl ∙ ap (λ (yes : Bool). cond yes (suc n ∷ []) []) (same_twice (s.up (suc n)) _))

  least_serving : (n : ℕ) → MatchOption (finds n) (serving_to n ≡ []) (IsLeastOf n (serving_to n))
  least_serving zero = refl
  least_serving (suc n) = by (finds n) (serves s (suc n) b) (least_serving n)
    where
      by : (o : Option ℕ) (here : Bool) → MatchOption o (serving_to n ≡ []) (IsLeastOf n (serving_to n))
          → MatchOption (or_else o (cond here (Some (suc n)) None)) (serving_to n ++ (cond here (suc n ∷ []) []) ≡ []) (IsLeastOf (suc n) (serving_to n ++ (cond here (suc n ∷ []) [])))
      by None false so_far = append-nil (serving_to n) ∙ so_far
      by None true so_far = rw so_far (record {
        there = Contains-push [] (suc n);
        below = All-push (λ other. suc n ≤ other) [] (suc n) (λ k d less. absurd (omega arith)) (omega arith);
        within = omega arith;
      })
      by (Some m) false so_far = rw (append-nil (serving_to n)) (record { there = so_far.there; below = so_far.below; within = omega (arith, so_far.within) })
      by (Some m) true so_far = record {
        there = Contains-append_left (serving_to n) (suc n ∷ []) m so_far.there;
        below = All-push (λ other. m ≤ other) (serving_to n) (suc n) so_far.below (omega (arith, so_far.within));
        within = omega (arith, so_far.within);
      }

same_lowest : (most : ℕ) (sets : List ℕ) (lowest other : Option ℕ) → MatchOption lowest (sets ≡ []) (λ x. Contains sets x × All (λ y. x ≤ y) sets) → MatchOption other (sets ≡ []) (IsLeastOf most sets) → lowest ≡ other
same_lowest most sets None None h k = refl
same_lowest most sets None (Some y) h k = absurd (omega (arith, ap (λ (xs : List ℕ). length xs) h, k.there.1))
same_lowest most sets (Some x) None h k = absurd (omega (arith, ap (λ (xs : List ℕ). length xs) k, h.0.1))
same_lowest most sets (Some x) (Some y) h k =
    let below = subst (λ (n : ℕ). x ≤ n) k.there.2 (h.1 k.there.0 y k.there.1) in
    let above = subst (λ (n : ℕ). y ≤ n) h.0.2 (k.below h.0.0 x h.0.1) in
    let same : x ≡ y = omega arith in
    ap (λ (i : ℕ). Some i) same

-- what a search of all sets finds
pub found : (s : State) (b n : ℕ) (said : List SetSaid) (lowest : Option ℕ) → said ≡ list_to (said_at s b) n → IsLowestServing said lowest → lowest ≡ least_to (λ x. serves s x b) n
found s b n said lowest is h =
    let sets = ap serving is ∙ said_serve s b n in
    let here = subst (λ (xs : List ℕ). MatchOption lowest (xs ≡ []) (λ x. Contains xs x × All (λ y. x ≤ y) xs)) sets h in
    same_lowest n (serving_to s b n) lowest (least_to (λ x. serves s x b) n) here (least_serving s b n)

-- ---- where a call is posted first, where nothing is cached

pub first_found : (s : State) (known : Option ℕ) (b : ℕ) (lowest : Option ℕ) (x : ℕ) → known ≡ None → lowest ≡ least_to (λ y. serves s y b) (sets_of s) → lowest ≡ Some x → x ≡ first_set s known b
first_found s known b lowest x none is found =
    let least : least_to (λ y. serves s y b) (sets_of s) ≡ Some x = sym is ∙ found in
    rw (none, least) refl

pub first_default : (s : State) (known : Option ℕ) (b : ℕ) (lowest : Option ℕ) → known ≡ None → lowest ≡ least_to (λ y. serves s y b) (sets_of s) → lowest ≡ None → 1 ≡ first_set s known b
first_default s known b lowest none is nowhere =
    let least : least_to (λ y. serves s y b) (sets_of s) ≡ None = sym is ∙ nowhere in
    rw (none, least) refl
