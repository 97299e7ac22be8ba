use Rattle.std.proofs.Common.{sym, ap, ◌∙◌}
use Rattle.vs_world.specs.Played.{state_of}
use Rattle.vs_settle.specs.Tasks.{receiver_in}
use Rattle.vs_settle.proofs.Ranks.{sender_asks, not_sent, done_already}
use Rattle.vs_settle.proofs.Stopping.{goes_none}
use Rattle.vs_settle.proofs.entries.settle_sender.Goals as goal

pub recover-requires : goal.recover-requires
recover-requires g c =
    sender_asks (state_of c.args.world.now.played) c.args.set c.args.bucket c.in-Some.to c.requires (ap receiver_in (sym c.entry.ensures) ∙ sym c.in-Some.ensures)

pub returns-in-None-clause-done : goal.returns-in-None-clause-done
returns-in-None-clause-done g c =
    done_already c.args.world.now.played c.args.steps.now c.args.set c.args.bucket 2 2 c.requires (not_sent _ (ap receiver_in (sym c.entry.ensures) ∙ sym c.in-None.ensures) (c.requires.ranks c.args.set))

pub returns-in-None-clause-goes : goal.returns-in-None-clause-goes
returns-in-None-clause-goes g c = goes_none g.D.Disk.told c.args.world.now c.args.steps.now c.requires.rests
