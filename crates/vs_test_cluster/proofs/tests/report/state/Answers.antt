use Rattle.std.proofs.Common.{◌≡◌, ℕ, zero, suc, Bool, true, false, List, [], ◌∷◌, map, None, refl, subst, sym, ◌∙◌, arith}
use Rattle.std.specs.Prelude.{◌≢◌}
use Rattle.std.proofs.lemmas.Bool.Decides.{nat_tests}
use Rattle.vs_space.specs.declared.status.Status.{Status}
use Rattle.vs_space.specs.declared.status.Status.TheVariants.{Active, Sent}
use Rattle.vs_space.specs.Entries.{status_of}
use Rattle.vs_machine.specs.Tables.{is_to}
use Rattle.vs_state.specs.declared.tables.SetTables.{SetTables}
use Rattle.vs_state.specs.Plain.{entry_in}
use Rattle.vs_state.specs.Tables.{numbered}
use Rattle.vs_test_cluster.proofs.tests.report.state.Goals as goal

-- which buckets have entries, by set
abbrev held : List (List (ℕ × Status))
held = ((1, Active) ∷ (2, Active) ∷ (3, Sent 2) ∷ []) ∷ ((3, Active) ∷ (4, Active) ∷ []) ∷ []

numbered-map : {A B C : Type 0} (f : B → C) (d : C) (g : A → B) (xs : List A) (x : ℕ) → numbered f d (map g xs) x ≡ numbered (λ a. f (g a)) d xs x
numbered-map f d g xs zero = refl
numbered-map f d g [] (suc k) = refl
numbered-map f d g (x ∷ xs) (suc zero) = refl
numbered-map f d g (x ∷ xs) (suc (suc k)) = numbered-map f d g xs (suc k)

first_four : (b x : ℕ) → is_to 4 b ≡ false → numbered (λ es. status_of es b) None held x ≡ None
first_four b zero outside = refl
first_four b (suc zero) outside = grind (arith, nat_tests, outside)
first_four b (suc (suc zero)) outside = grind (arith, nat_tests, outside)
first_four b (suc (suc (suc k))) outside = refl

held_within : (sets : List SetTables) → map (λ t. t.space.entries) sets ≡ held → (b x : ℕ) → numbered (λ t. entry_in t b) None sets x ≢ None → is_to 4 b ≡ true
held_within sets is b x some = by (is_to 4 b) refl
  where
    by : (t : Bool) → is_to 4 b ≡ t → t ≡ true
    by true e = refl
    by false e =
        absurd (some (sym (numbered-map (λ es. status_of es b) None (λ t. t.space.entries) sets x)
        ∙ subst (λ (all : List (List (ℕ × Status))). numbered (λ es. status_of es b) None all x ≡ None) (sym is) (first_four b x e)))

pub returns-clause-within : goal.returns-clause-within
returns-clause-within g c =
    λ b x some. subst (λ (n : ℕ). is_to n b ≡ true) (sym c.in_ok-config.ensures.buckets) (held_within c.in_ok-sets.field-0.items c.in_ok-sets.ensures b x some)
