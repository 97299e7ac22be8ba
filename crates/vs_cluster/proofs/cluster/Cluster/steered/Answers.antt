use Rattle.std.proofs.Common.{◌≡◌, Bool, sym, subst, ◌∙◌}
use Rattle.std.specs.Prelude.{◌↔◌, IsTrue}
use Rattle.vs_cluster.specs.Calls.{IsPostAllowed}
use Rattle.vs_cluster.specs.Cluster.{Cluster}
use Rattle.vs_cluster.specs.Steering.{allows}
use Rattle.vs_machine.specs.Driven as driven
use Rattle.vs_machine.specs.Driven.{flags_of}
use Rattle.vs_machine.specs.State.{State}
use Rattle.vs_cluster.proofs.cluster.Cluster.steered.Goals as goal

pub returns : goal.returns
returns g c =
    let how = c.steering_of.result in
    let flag = flags_of c.self.inside.hints.flags c.args.client in
    let is : c.allows.result ≡ allows how flag = subst (λ (b : Bool). c.allows.result ≡ allows how b) c.of.ensures c.allows.ensures in
    let exactly : IsTrue (allows how flag) ↔ driven.IsPostAllowed _ flag c.args.client c.args.set =
    subst (λ (s : State). IsTrue (allows how flag) ↔ driven.IsPostAllowed s flag c.args.client c.args.set) c.core.ensures.state (c.steering_of.ensures.allowed flag) in
    subst (λ (k : Cluster g.row.D.Denot). IsTrue c.allows.result ↔ IsPostAllowed k c.args.client c.args.set) c.self.view_is
    (subst (λ (b : Bool). IsTrue b ↔ IsPostAllowed (record { world = c.self.inside.world; hints = c.self.inside.hints.flags }) c.args.client c.args.set) (sym is) exactly)
