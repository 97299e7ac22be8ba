use Rattle.std.proofs.Common.{◌≡◌, ◌+◌, subst, arith}
use Rattle.vs_machine.specs.State.{sets_of}
use Rattle.vs_world.specs.Played.{state_of}
use Rattle.vs_settle.specs.Raised.{IsRaised}
use Rattle.vs_settle.specs.Stopped.{IsStopped}
use Rattle.vs_settle.proofs.Raises.{raising_starts, raising_goes_on, raising_set, raising_stops, raising_ends, raising_spent}
use Rattle.vs_settle.proofs.Tables.{is_within}
use Rattle.vs_settle.proofs.Results.{passed}
use Rattle.vs_settle.proofs.raising.raise_sets.Goals as goal

pub loop-index-init : goal.loop-index-init
loop-index-init g c = raising_starts g.D.Disk.told c.args.world.now c.args.steps.now c.requires

pub raise-requires-clause-set : goal.raise-requires-clause-set
raise-requires-clause-set g c =
    raising_set g.D.Disk.told c.args.world.now c.loop-index.world c.args.steps.now c.loop-index.steps c.loop-index.index c.in-Some.set c.loop-index.invariant
    (is_within (sets_of (state_of c.args.world.now.played)) c.in-Some.set (omega (arith, c.in-Some.ensures)) (omega (arith, c.in-Some.ensures, c.set_count-index-end.ensures.count, c.loop-index-test.true)))

pub loop-index-preserved : goal.loop-index-preserved
loop-index-preserved g c =
    let same : c.in-Some.set ≡ c.loop-index.index + 1 = omega (arith, c.in-Some.ensures) in
    raising_goes_on g.D.Disk.told c.args.world.now c.loop-index.world c.raise.new.world c.args.steps.now c.loop-index.steps c.raise.new.steps c.loop-index.index c.loop-index.invariant
    (subst (λ x. IsRaised g.D.Disk.told c.loop-index.world c.loop-index.steps c.raise.new.world c.raise.new.steps x) same c.in_ok-raise.ensures.raised)

pub returns-in_err-raise-clause-stops : goal.returns-in_err-raise-clause-stops
returns-in_err-raise-clause-stops g c =
    passed c.from_residual.result (IsStopped g.D.Disk.told c.args.world.now c.args.steps.now c.raise.new.world c.raise.new.steps) _ c.from_residual.ensures.1
    (raising_stops g.D.Disk.told c.args.world.now c.loop-index.world c.raise.new.world c.args.steps.now c.loop-index.steps c.raise.new.steps c.loop-index.index _ c.loop-index.invariant c.in_err-raise.ensures.stops)

pub returns-in_err-raise-clause-spent : goal.returns-in_err-raise-clause-spent
returns-in_err-raise-clause-spent g c =
    let spent = raising_spent g.D.Disk.told c.args.world.now c.loop-index.world c.args.steps.now c.loop-index.steps c.loop-index.index c.loop-index.invariant in
    omega (arith, spent, c.in_err-raise.ensures.none)

pub returns-clause-goes : goal.returns-clause-goes
returns-clause-goes g c =
    (raising_ends g.D.Disk.told c.args.world.now c.loop-index.world c.args.steps.now c.loop-index.steps c.loop-index.index c.loop-index.invariant
    (omega (arith, c.set_count-index-end.ensures.count, c.loop-index-test.false))).0

pub returns-clause-paid : goal.returns-clause-paid
returns-clause-paid g c =
    (raising_ends g.D.Disk.told c.args.world.now c.loop-index.world c.args.steps.now c.loop-index.steps c.loop-index.index c.loop-index.invariant
    (omega (arith, c.set_count-index-end.ensures.count, c.loop-index-test.false))).1

pub returns-clause-spent : goal.returns-clause-spent
returns-clause-spent g c = raising_spent g.D.Disk.told c.args.world.now c.loop-index.world c.args.steps.now c.loop-index.steps c.loop-index.index c.loop-index.invariant
