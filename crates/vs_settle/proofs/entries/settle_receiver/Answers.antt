use Rattle.std.proofs.Common.{sym, ap, ◌∙◌, arith}
use Rattle.vs_world.specs.Played.{state_of}
use Rattle.vs_settle.specs.Tasks.{sender_in}
use Rattle.vs_settle.proofs.Ranks.{receiver_asks, not_received, done_already}
use Rattle.vs_settle.proofs.Results.{on_ok}
use Rattle.vs_settle.proofs.Settling.{done_more}
use Rattle.vs_settle.proofs.Stopping.{goes_none}
use Rattle.vs_settle.proofs.entries.settle_receiver.Goals as goal

pub recover-requires : goal.recover-requires
recover-requires g c =
    receiver_asks (state_of c.args.world.now.played) c.args.set c.args.bucket c.in-Some.from c.requires (ap sender_in (sym c.entry.ensures) ∙ sym c.in-Some.ensures)

pub returns-in-Some-clause-done : goal.returns-in-Some-clause-done
returns-in-Some-clause-done g c =
    on_ok c.recover.result (done_more c.args.world.now.played c.recover.new.world.played c.args.steps.now c.recover.new.steps c.args.set c.args.bucket 2 3 (omega arith)) c.recover.ensures.done

pub returns-in-None-clause-done : goal.returns-in-None-clause-done
returns-in-None-clause-done g c =
    done_already c.args.world.now.played c.args.steps.now c.args.set c.args.bucket 3 3 c.requires (not_received _ (ap sender_in (sym c.entry.ensures) ∙ sym c.in-None.ensures))

pub returns-in-None-clause-goes : goal.returns-in-None-clause-goes
returns-in-None-clause-goes g c = goes_none g.D.Disk.told c.args.world.now c.args.steps.now c.requires.rests
