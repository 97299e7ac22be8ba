-- How a post goes, and whether it may.
use Rattle.std.specs.Prelude.{◌≡◌, ℕ, ◌↔◌, Bool, true, false, not}
use Rattle.vs_cluster.specs.declared.steering.Steering.{Steering}
use Rattle.vs_cluster.specs.declared.steering.Steering.TheVariants.{First, Granted, Stranded, Hinted, Unsteered}
use Rattle.vs_machine.specs.Driven.{GoesByHint, IsPostAllowed}
use Rattle.vs_machine.specs.State.{State}

-- whether a post that goes so is allowed to a client whose last one went for the hint alone, or didn't
abbrev pub allows : Steering → Bool → Bool
allows First by_hint = true
allows Granted by_hint = true
allows Stranded by_hint = true
allows Hinted by_hint = not by_hint
allows Unsteered by_hint = false

abbrev pub is_hinted : Steering → Bool
is_hinted Hinted = true
is_hinted steering = false

-- a post of the client's next call to set x goes so
pub record GoesSo (s : State) (client x : ℕ) (how : Steering) : Type 0 where
  pub allowed : (by_hint : Bool) → (allows how by_hint ≡ true) ↔ IsPostAllowed s by_hint client x
  pub hinted : (is_hinted how ≡ true) ↔ GoesByHint s client x
