use Rattle.std.proofs.Common.{ap}
use Rattle.vs_world.specs.Began.{begun}
use Rattle.vs_run.proofs.Steered.{steered_still}
use Rattle.vs_run.proofs.driving.rest.Goals as goal

pub returns-clause-began : goal.returns-clause-began
returns-clause-began g c = ap begun c.settle_in.ensures.opening

pub returns-clause-steered : goal.returns-clause-steered
returns-clause-steered g c = λ s.
    steered_still g.D.Disk.told c.given_inputs.ensures.begun c.steered_posts.ensures.others c.settle_in.result c.args.world.now c.settle_in.new.world c.know.ensures c.settle_in.ensures.kept c.settle_in.ensures.opening
    c.settle_in.ensures.faults c.settle_in.ensures.added c.settle_in.ensures.adds s
