use Rattle.vs_cluster.specs.Calls.{IsPostAllowed}
use Rattle.vs_script.specs.Calls.{call}
use Rattle.vs_world.specs.Played.{state_of}
use Rattle.vs_drive.specs.Posting.{further_sets}
use Rattle.vs_drive.proofs.Searching.{allowed}
use Rattle.vs_drive.proofs.client.ClientDriver.next_set.Goals as goal

pub returns-clause-allowed : goal.returns-clause-allowed
returns-clause-allowed g c =
    let client = c.args.self.now.client in
    let sets = further_sets (state_of c.args.cluster.now.world.played) client c.cached-cached.result (call c.in-Some.call.now) in
    allowed (IsPostAllowed c.args.cluster.now client) sets c.further_set.result c.further_set.ensures
