-- The rule, as one who has a pass sees it.
use Rattle.std.specs.Prelude.{◌≡◌, ℕ, slice_index}
use Rattle.atomic_table.specs.Table.{State}
use mathlib.Core.Option.{some}
use lib.ListN.{get_elem?}
use Rattle.vs_words.specs.declared.rule.View.{View}
use Rattle.vs_words.specs.Rule.{IsSound, grip_of}
use Rattle.vs_words.specs.Standing.{Standing}

-- the pass holds what its view says, has as many to be split from it, and has seen and knows the same words
pub record Shows (v : View) (pass : Standing) : Type 0 where
  pub spare : v.spare ≡ pass.spare
  pub held : v.grip ≡ grip_of pass.held
  pub seen : v.seen ≡ pass.seen
  pub known : v.known ≡ pass.known

-- word i has this value in some state in which the rule holds and this pass is among the passes
pub record IsEndValue (count : ℕ) (pass : Standing) (i value : ℕ) : Type 0 where
  pub state : State ℕ View
  pub sound : IsSound count state
  pub value_is : slice_index state.words i ≡ value
  pub id : ℕ
  pub view : View
  pub among : get_elem? state.views id ≡ some view
  pub shows : Shows view pass
