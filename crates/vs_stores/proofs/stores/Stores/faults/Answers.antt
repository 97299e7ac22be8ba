use Rattle.std.proofs.Common.{sym, ◌∙◌}
use Rattle.vs_stores.proofs.Lifting.{found, faults_was}
use Rattle.vs_stores.proofs.stores.Stores.faults.Goals as goal

pub returns : goal.returns
returns g c =
    let stores = c.args.self.now.stores.items in
    let x = c.args.set in
    let i = c.place_of.result in
    let was = c.index-store.result.now in
    let at = found stores x i was c.place_of.ensures c.requires c.index-store.ensures in
    c.faults.ensures ∙ sym (faults_was stores x i was at)
