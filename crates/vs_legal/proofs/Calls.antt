-- The calls of an account are those of the clients.
use Rattle.std.proofs.Common.{◌≡◌, ℕ, zero, suc, ◌+◌, ◌⊎◌, Bool, true, false, List, [], ◌∷◌, ◌++◌, map, length, Some, refl, sym, ap, ◌∙◌, arith, inl, inr}
use Rattle.std.specs.Prelude.{slice_get, if◌then◌else◌}
use Rattle.std.specs.List.{flat_map, enumerate_from}
use Rattle.vs_base.specs.declared.numbers.CallId.{CallId}
use Rattle.vs_calls.specs.Outcomes as answered
use Rattle.vs_calls.specs.Progress.{is_idle}
use Rattle.vs_machine.specs.State.{Client}
use Rattle.vs_audit.specs.Account.{Outcome, Open, Call}
use Rattle.vs_legal.specs.Account.{id_of, outcome_of, calls_of, call_at}

-- the call is the client's, and was answered so, or is open
pub data IsCallOf (client : Client) (c : ℕ) (x : CallId × Outcome) : Type 0 where
  IsAnswered : (n : ℕ) (o : answered.Outcome) → slice_get client.answered n ≡ Some o → x.0 ≡ id_of c (n + 1) → x.1 ≡ outcome_of o → IsCallOf client c x
  IsOpen : x.1 ≡ Open → IsCallOf client c x

-- a line is that of one call
pub line_is : (line : ℕ) (xs : List (CallId × Outcome)) (n : ℕ) (k : Call) → slice_get (map (λ c. call_at c.0 c.1) (enumerate_from line xs)) n ≡ Some k
    → (x : CallId × Outcome) × (m : ℕ) × (slice_get xs m ≡ Some x) × (k.id ≡ x.0) × (k.outcome ≡ x.1)
line_is line [] zero k at = let no : ⊥ = cc at in absurd no
line_is line [] (suc n) k at = let no : ⊥ = cc at in absurd no
line_is line (x ∷ xs) zero k at =
    let same : call_at line x ≡ k = cc at in
    (x, 0, refl, sym (ap (λ (k : Call). k.id) same), sym (ap (λ (k : Call). k.outcome) same))
line_is line (x ∷ xs) (suc n) k at = let later = line_is (line + 1) xs n k at in (later.0, suc later.1, later.2, later.3, later.4)

-- where an element of two lists stands
pub in_either : {A : Type 0} (xs ys : List A) (n : ℕ) (x : A) → slice_get (xs ++ ys) n ≡ Some x → ((m : ℕ) × (slice_get xs m ≡ Some x)) ⊎ ((m : ℕ) × (slice_get ys m ≡ Some x))
in_either [] ys n x at = inr (n, at)
in_either (y ∷ xs) ys zero x at = inl (0, at)
in_either (y ∷ xs) ys (suc n) x at = elim (in_either xs ys n x at) [ inl there ↦ inl (suc there.0, there.1) | inr there ↦ inr there ]

answered_at : (client : Client) (c j : ℕ) (os : List answered.Outcome) (n : ℕ) (x : CallId × Outcome) → slice_get (map (λ o. (id_of c o.0, outcome_of o.1)) (enumerate_from (j + 1) os)) n ≡ Some x
    → (o : answered.Outcome) × (slice_get os n ≡ Some o) × (x.0 ≡ id_of c (j + n + 1)) × (x.1 ≡ outcome_of o)
answered_at client c j [] zero x at = let no : ⊥ = cc at in absurd no
answered_at client c j [] (suc n) x at = let no : ⊥ = cc at in absurd no
answered_at client c j (o ∷ os) zero x at =
    let same : (id_of c (j + 1), outcome_of o) ≡ x = cc at in
    let e : j + 1 ≡ j + 0 + 1 = omega arith in
    (o, refl, sym (ap (λ (x : CallId × Outcome). x.0) same) ∙ ap (id_of c) e, sym (ap (λ (x : CallId × Outcome). x.1) same))
answered_at client c j (o ∷ os) (suc n) x at =
    let later = answered_at client c (j + 1) os n x at in
    let e : j + 1 + n + 1 ≡ j + suc n + 1 = omega arith in
    (later.0, later.1, later.2 ∙ ap (id_of c) e, later.3)

client_call : (client : Client) (c n : ℕ) (x : CallId × Outcome) → slice_get (calls_of c client) n ≡ Some x → IsCallOf client c x
client_call client c n x at =
    elim (in_either (map (λ o. (id_of c o.0, outcome_of o.1)) (enumerate_from 1 client.answered)) (if is_idle client.present.stage then [] else (id_of c (length client.answered + 1), Open) ∷ []) n x at) [
      | inl there ↦
          let is = answered_at client c 0 client.answered there.0 x there.1 in
          let e : 0 + there.0 + 1 ≡ there.0 + 1 = omega arith in
          IsAnswered there.0 is.0 is.1 (is.2 ∙ ap (id_of c) e) is.3
      | inr there ↦ by_idle (is_idle client.present.stage) there.0 there.1
    ]
  where
    by_idle : (b : Bool) (m : ℕ) → slice_get (if b then [] else (id_of c (length client.answered + 1), Open) ∷ []) m ≡ Some x → IsCallOf client c x
    by_idle true zero at = let no : ⊥ = cc at in absurd no
    by_idle true (suc m) at = let no : ⊥ = cc at in absurd no
    by_idle false zero at = let same : (id_of c (length client.answered + 1), Open) ≡ x = cc at in IsOpen (sym (ap (λ (x : CallId × Outcome). x.1) same))
    by_idle false (suc zero) at = let no : ⊥ = cc at in absurd no
    by_idle false (suc (suc m)) at = let no : ⊥ = cc at in absurd no

pub call_is : (client : ℕ → Client) (cs : List ℕ) (n : ℕ) (x : CallId × Outcome) → slice_get (flat_map (λ c. calls_of c (client c)) cs) n ≡ Some x → (c : ℕ) × IsCallOf (client c) c x
call_is client [] zero x at = let no : ⊥ = cc at in absurd no
call_is client [] (suc n) x at = let no : ⊥ = cc at in absurd no
call_is client (c ∷ cs) n x at =
    elim (in_either (calls_of c (client c)) (flat_map (λ c. calls_of c (client c)) cs) n x at) [
      | inl there ↦ (c, client_call (client c) c there.0 x there.1)
      | inr there ↦ call_is client cs there.0 x there.1
    ]
