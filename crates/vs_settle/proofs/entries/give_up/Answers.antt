use Rattle.std.proofs.Common.{◌+◌, ◌≤◌, arith}
use Rattle.vs_event.specs.declared.event.Event.TheVariants.{Condemn}
use Rattle.vs_world.specs.Played.{state_of}
use Rattle.vs_settle.specs.Weight.{weight}
use Rattle.vs_settle.specs.Stopped.{IsStopped}
use Rattle.vs_settle.proofs.Collecting.{condemns}
use Rattle.vs_settle.proofs.Possible.{possible}
use Rattle.vs_settle.proofs.Ranks.{sent_is}
use Rattle.vs_settle.proofs.Results.{on_ok, passed}
use Rattle.vs_settle.proofs.Settling.{condemning_costs, condemning_settles, condemning_collects, done_then}
use Rattle.vs_settle.proofs.Stopping.{goes_on, stops_on}
use Rattle.vs_settle.proofs.entries.give_up.Goals as goal

pub carry_out-requires-clause-possible : goal.carry_out-requires-clause-possible
carry_out-requires-clause-possible g c =
    let s = state_of c.args.world.now.played in
    let at = sent_is ((s.bucket c.args.bucket).entry c.args.set) c.requires.sent in
    possible s _ (Condemn c.args.set c.args.bucket) (condemns s c.args.set c.args.bucket at.0 c.requires.next at.1)

pub collect-requires : goal.collect-requires
collect-requires g c =
    let s = state_of c.args.world.now.played in
    let at = sent_is ((s.bucket c.args.bucket).entry c.args.set) c.requires.sent in
    let one = condemning_settles s (state_of c.carry_out.new.world.played) c.args.set c.args.bucket at.0 c.requires.next at.1 c.in_ok-carry_out.ensures.step in
    condemning_collects c.args.world.now.played c.carry_out.new.world.played c.args.steps.now c.carry_out.new.steps c.args.set c.args.bucket c.requires.next c.in_ok-carry_out.ensures.goes.follows one.0 one.1

pub returns-clause-spent : goal.returns-clause-spent
returns-clause-spent g c =
    let s = state_of c.args.world.now.played in
    let at = sent_is ((s.bucket c.args.bucket).entry c.args.set) c.requires.sent in
    let one = condemning_settles s (state_of c.carry_out.new.world.played) c.args.set c.args.bucket at.0 c.requires.next at.1 c.in_ok-carry_out.ensures.step in
    let less : weight (state_of c.carry_out.new.world.played) + 1 ≤ weight s = one.0.lighter in
    omega (arith, less, c.in_ok-carry_out.ensures.ticks, c.collect.ensures.spent)

pub returns-clause-done : goal.returns-clause-done
returns-clause-done g c =
    let s = state_of c.args.world.now.played in
    let at = sent_is ((s.bucket c.args.bucket).entry c.args.set) c.requires.sent in
    let one = condemning_settles s (state_of c.carry_out.new.world.played) c.args.set c.args.bucket at.0 c.requires.next at.1 c.in_ok-carry_out.ensures.step in
    on_ok c.collect.result
    (λ d. done_then c.args.world.now.played c.carry_out.new.world.played c.collect.new.world.played c.args.steps.now c.carry_out.new.steps c.collect.new.steps c.args.set c.args.bucket 2 1 1 one.0 c.in_ok-carry_out.ensures.ticks d)
    c.collect.ensures.done

pub returns-clause-goes : goal.returns-clause-goes
returns-clause-goes g c =
    goes_on g.D.Disk.told c.collect.result c.args.world.now c.carry_out.new.world c.collect.new.world c.args.steps.now c.carry_out.new.steps c.collect.new.steps
    c.in_ok-carry_out.ensures.goes c.collect.ensures.goes

pub returns-clause-stops : goal.returns-clause-stops
returns-clause-stops g c =
    stops_on g.D.Disk.told c.collect.result c.args.world.now c.carry_out.new.world c.collect.new.world c.args.steps.now c.carry_out.new.steps c.collect.new.steps
    c.in_ok-carry_out.ensures.goes c.collect.ensures.stops

pub returns-in_err-carry_out-clause-spent : goal.returns-in_err-carry_out-clause-spent
returns-in_err-carry_out-clause-spent g c =
    let s = state_of c.args.world.now.played in
    let at = sent_is ((s.bucket c.args.bucket).entry c.args.set) c.requires.sent in
    let some : 1 ≤ weight s = condemning_costs s c.args.set c.args.bucket at.0 c.requires.next at.1 in
    omega (arith, some, c.carry_out.ensures.most)

pub returns-in_err-carry_out-clause-stops : goal.returns-in_err-carry_out-clause-stops
returns-in_err-carry_out-clause-stops g c =
    passed c.from_residual.result (IsStopped g.D.Disk.told c.args.world.now c.args.steps.now c.carry_out.new.world c.carry_out.new.steps) _ c.from_residual.ensures.1 c.in_err-carry_out.ensures.stops
