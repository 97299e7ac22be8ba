-- What is made ready for a round that moves a bucket.
use Rattle.std.specs.Prelude.{◌≡◌, ℕ, ◌-◌, List, Option, Some, None}
use Rattle.vs_balance.specs.declared.route.Route.{Route}
use Rattle.vs_machine.specs.Kinds.Rebalancing.{bucket_to_haul, left_on, with_left}
use Rattle.vs_state.specs.declared.state.State.{State}
use Rattle.vs_state.specs.Plain.{plain}
use Rattle.vs_core.specs.Sending.{HasMoveRoom}
use Rattle.vs_core.specs.declared.kinds.haul.PreparedHaul.{PreparedHaul}

-- what is left of the routes once this bucket goes from set x to set d; where there is none, nothing is left on that route
abbrev pub left_after : List Route → ℕ → ℕ → Option ℕ → List Route
left_after routes x d None = with_left routes x d 0
left_after routes x d (Some b) = with_left routes x d (left_on routes x d - 1)

pub record IsHaulReady (s : State) (o x d : ℕ) (p : PreparedHaul) : Type 0 where
  pub bucket : p.bucket ≡ bucket_to_haul (plain s) x d
  pub routes : p.routes.items ≡ left_after ((plain s).operator o).routes x d p.bucket
  pub room : HasMoveRoom s x
