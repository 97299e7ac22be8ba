-- States and counts by the numbers of sets.
use Rattle.std.proofs.Common.{◌≡◌, ℕ, Bool, false, Decides, zero, suc, List, [], ◌∷◌, length, map, Option, Some, None, refl, ap, sym, ◌∙◌, arith}
use Rattle.std.specs.Prelude.{slice_get}
use Rattle.std.specs.Option.{option_map, option_map_or}
use Rattle.std.proofs.lemmas.Bool.{false≢true}
use Rattle.std.proofs.lemmas.List.{map-id}
use Rattle.vs_config.specs.Configuration.{configuration}
use Rattle.vs_record.specs.States.{durable}
use Rattle.vs_script.specs.Scripts as script
use Rattle.vs_machine.specs.Journals.{nothing}
use Rattle.vs_script.proofs.Same.{same_at}
use Rattle.vs_state.specs.Tables.{numbered}
use Rattle.vs_world.specs.Began.{begun}
use Rattle.vs_world.specs.declared.opening.Opening.{Opening}

module _ {A B : Type 0} (f : A → B) (default : B) where
  or_default : Option B → B
  or_default None = default
  or_default (Some b) = b

  by_place : (o p : Option A) → option_map f o ≡ option_map f p → option_map_or f o default ≡ option_map_or f p default
  by_place None None e = refl
  by_place (Some x) (Some y) e = let same : f x ≡ f y = cc in same
  by_place None (Some y) e = cc
  by_place (Some x) None e = cc

  -- lists that stand for the same give the same by number
  pub same_by_number : (xs ys : List A) → map f xs ≡ map f ys → numbered f default xs ≡ numbered f default ys
  same_by_number xs ys e = λ i n. each n i
    where
      each : (n : ℕ) → numbered f default xs n ≡ numbered f default ys n
      each zero = refl
      each (suc k) = by_place (slice_get xs k) (slice_get ys k) (same_at f xs ys e k)

  same_each : (xs ys : List A) → length xs ≡ length ys → ((k : ℕ) → option_map_or f (slice_get xs k) default ≡ option_map_or f (slice_get ys k) default) → map f xs ≡ map f ys
  same_each [] [] n each = refl
  same_each (x ∷ xs) (y ∷ ys) n each =
      let first : f x ≡ f y = each 0 in
      let rest = same_each xs ys (omega (arith, n)) (λ k. each (suc k)) in
      λ i. first i ∷ rest i
  same_each [] (y ∷ ys) n each = absurd (omega (arith, n))
  same_each (x ∷ xs) [] n each = absurd (omega (arith, n))

  -- and the other way, where they have one length
  pub same_list : (xs ys : List A) → length xs ≡ length ys → numbered f default xs ≡ numbered f default ys → map f xs ≡ map f ys
  same_list xs ys n e = same_each xs ys n (λ k. ap (λ (g : ℕ → B). g (suc k)) e)

-- ---- what worlds began with

-- made of the same parts
pub begun_same : (a b : Opening) → configuration a.config ≡ configuration b.config → script.scripts a.scripts ≡ script.scripts b.scripts → a.limit ≡ b.limit
    → map durable a.states.items ≡ map durable b.states.items → a.faults.items ≡ b.faults.items → begun a ≡ begun b
begun_same a b config scripts limit states faults = λ i. record {
  config = config i;
  scripts = scripts i;
  limit = limit i;
  states = same_by_number durable nothing a.states.items b.states.items states i;
  faults = numbered (λ n. n) 0 (faults i);
}

module _ (a b : Opening) (same : begun a ≡ begun b) where
  count : length a.config.sets.items ≡ length b.config.sets.items
  count i = length (same i).config.sets

  pub states_same : length a.states.items ≡ length a.config.sets.items → length b.states.items ≡ length b.config.sets.items → map durable a.states.items ≡ map durable b.states.items
  states_same has has' = same_list durable nothing a.states.items b.states.items (has ∙ count ∙ sym has') (λ i. (same i).states)

  pub faults_same : length a.faults.items ≡ length a.config.sets.items → length b.faults.items ≡ length b.config.sets.items → a.faults.items ≡ b.faults.items
  faults_same has has' =
      sym (map-id a.faults.items) ∙ same_list (λ (n : ℕ). n) 0 a.faults.items b.faults.items (has ∙ count ∙ sym has') (λ i. (same i).faults) ∙ map-id b.faults.items

-- one part differs
pub differs : {r : Bool} {P Q : Type 0} → Decides r P → r ≡ false → (Q → P) → Decides false Q
differs test is_not part = (λ is. absurd (false≢true is), λ all. sym is_not ∙ test.1 (part all))
