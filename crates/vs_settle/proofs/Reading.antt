-- What the tables say of the state that they stand for.
use Rattle.std.proofs.Common.{◌≡◌, ℕ, ◌==◌, Bool, true, false, refl, sym, ap, subst, length, Option, Some, None}
use Rattle.std.specs.Prelude.{◌&&◌, not, is_some, option_map, if◌then◌else◌, slice_index_or}
use Rattle.vs_link.specs.Connection.{unused}
use Rattle.vs_link.specs.Links.{is_set, line_of, no_line, place_of}
use Rattle.vs_machine.specs.State.{is_link}
use Rattle.vs_machine.specs.Tables.{is_to}
use Rattle.vs_state.specs.declared.state.State.{State}
use Rattle.vs_state.specs.Plain.{plain}

pub mapped_some : {A B : Type 0} (f : A → B) (o : Option A) → is_some (option_map f o) ≡ is_some o
mapped_some f None = refl
mapped_some f (Some x) = refl

pub none_there : {A : Type 0} (o : Option A) → is_some o ≡ false → o ≡ None
none_there None e = refl
none_there (Some x) e = absurd cc

not_both : (t u : Bool) → u ≡ false → (t && not u) ≡ false → t ≡ false
not_both true true e h = absurd cc
not_both true false e h = absurd cc
not_both false u e h = refl

-- there is no connection but between two sets of the cluster
pub outside_unused : (s : State) → s.links.sets ≡ length s.config.sets.items → (x y : ℕ) → is_link (plain s) x y ≡ false → (plain s).link x y ≡ unused
outside_unused s sized x y out = by (x == y) refl
  where
    by : (t : Bool) → (x == y) ≡ t → (if t then unused else (line_of s.links x y).connection) ≡ unused
    by true e = refl
    by false e =
        let n = length s.config.sets.items in
        let none : (is_to n x && is_to n y) ≡ false = not_both (is_to n x && is_to n y) (x == y) e out in
        let test : (is_set s.links.sets x && is_set s.links.sets y) ≡ false = subst (λ k. (is_set k x && is_set k y) ≡ false) (sym sized) none in
        ap (λ (t : Bool). (if t then slice_index_or s.links.lines (place_of x y) no_line else no_line).connection) test
