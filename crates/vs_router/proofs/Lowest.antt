-- The lowest set that serves, one set after the other.
use Rattle.std.proofs.Common.{◌≡◌, ℕ, ◌≤◌, Bool, true, false, ◌&&◌, cond, List, [], ◌∷◌, ◌++◌, map, min, Option, Some, None, MatchOption, refl, sym, ap, ◌∙◌, subst, inl, inr, append-nil, arith}
use Rattle.std.specs.List.{filter, All, Contains}
use Rattle.std.proofs.lemmas.Bool.{cases_lt}
use Rattle.std.proofs.lemmas.List.{map-append}
use Rattle.std.proofs.lemmas.List.Elements.{filter-append, All-push, All-weaker, Contains-push, Contains-append_left}
use Rattle.vs_router.specs.declared.said.SetSaid.{SetSaid}
use Rattle.vs_router.specs.Said.{serving, IsLowestServing}

-- this number is the least of these
abbrev IsLeast : List ℕ → ℕ → Type 0
IsLeast sets set = Contains sets set × All (λ other. set ≤ other) sets

serving-append : (said : List SetSaid) (one : SetSaid) → serving (said ++ one ∷ []) ≡ serving said ++ (cond (one.up && one.serves) (one.set ∷ []) [])
serving-append said one =
    ap (map (λ (s : SetSaid). s.set)) (filter-append (λ s. s.up && s.serves) said (one ∷ [])) ∙ map-append (λ (s : SetSaid). s.set) (filter (λ s. s.up && s.serves) said) (filter (λ s. s.up && s.serves) (one ∷ [])) ∙ ap (λ l. serving said ++ l) (last (one.up && one.serves))
  where
    last : (serves : Bool) → map (λ (s : SetSaid). s.set) (cond serves (one ∷ []) []) ≡ cond serves (one.set ∷ []) []
    last true = refl
    last false = refl

pub passed_over : (said : List SetSaid) (one : SetSaid) (lowest : Option ℕ) → (one.up && one.serves) ≡ false → IsLowestServing said lowest → IsLowestServing (said ++ one ∷ []) lowest
passed_over said one lowest refuses so_far =
    let same : serving (said ++ one ∷ []) ≡ serving said = serving-append said one ∙ rw refuses (append-nil (serving said)) in
    subst (λ sets. MatchOption lowest (sets ≡ []) (IsLeast sets)) (sym same) so_far

least : (sets : List ℕ) (set : ℕ) (lowest : Option ℕ) (next : ℕ) → MatchOption lowest (sets ≡ []) (IsLeast sets) → MatchOption lowest (next ≡ set) (λ other. next ≡ min other set) → IsLeast (sets ++ set ∷ []) next
least sets set None next so_far is = rw (so_far, is) (Contains-push [] set, All-push (λ other. set ≤ other) [] set (λ k d lt. absurd (omega arith)) (omega arith))
least sets set (Some other) next so_far is = elim (cases_lt other set) [
  | inl below ↦
      let same : next ≡ other = omega arith in
      rw same (Contains-append_left sets (set ∷ []) other so_far.0, All-push (λ n. other ≤ n) sets set so_far.1 (omega arith))
  | inr above ↦
      let same : next ≡ set = omega arith in
      rw same (Contains-push sets set, All-push (λ n. set ≤ n) sets set (All-weaker (λ n. other ≤ n) (λ n. set ≤ n) (λ n le. omega arith) sets so_far.1) (omega arith))
]

pub taken_in : (said : List SetSaid) (one : SetSaid) (lowest : Option ℕ) (next : ℕ) → (one.up && one.serves) ≡ true → IsLowestServing said lowest → MatchOption lowest (next ≡ one.set) (λ other. next ≡ min other one.set) → IsLowestServing (said ++ one ∷ []) (Some next)
taken_in said one lowest next serves so_far is =
    let more : serving (said ++ one ∷ []) ≡ serving said ++ one.set ∷ [] = serving-append said one ∙ rw serves refl in
    subst (λ sets. IsLeast sets next) (sym more) (least (serving said) one.set lowest next so_far is)
