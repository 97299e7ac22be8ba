-- Connections between two sets of the cluster.
use Rattle.std.proofs.Common.{◌≡◌, ℕ, true, arith}
use Rattle.std.proofs.lemmas.Bool.Decides.{nat_tests}
use Rattle.vs_link.specs.Links.{IsPair}
use Rattle.vs_machine.specs.State as machine
use Rattle.vs_state.specs.declared.state.State.{State}
use Rattle.vs_state.specs.Plain.{plain}
use Rattle.vs_state.specs.Sized.{IsSized}

pub pair_of : (s : State) (x y : ℕ) → machine.is_link (plain s) x y ≡ true → IsSized s → IsPair s.links x y
pair_of s x y link z = record { from = grind (arith, nat_tests, link, z.links); to = grind (arith, nat_tests, link, z.links); apart = grind (arith, nat_tests, link) }
