use Rattle.std.proofs.Common.{sym, ap, ◌∙◌}
use Rattle.vs_machine.specs.Kinds.Collection.{is_sent, is_garbage}
use Rattle.vs_world.specs.Played.{state_of}
use Rattle.vs_settle.proofs.Ranks.{leaving_gone, leaving_collects, garbage_is, done_already}
use Rattle.vs_settle.proofs.Stopping.{goes_none}
use Rattle.vs_settle.proofs.entries.settle_leavings.Goals as goal

pub give_up-requires-clause-sent : goal.give_up-requires-clause-sent
give_up-requires-clause-sent g c = ap is_sent (sym c.entry-entry.ensures) ∙ sym c.is_sent.ensures ∙ c.if-is_sent.true

pub collect-requires : goal.collect-requires
collect-requires g c =
    leaving_collects (state_of c.args.world.now.played) c.args.set c.args.bucket c.requires
    (garbage_is _ (ap is_garbage (sym c.entry-entry.ensures) ∙ sym c.is_garbage.ensures ∙ c.if-is_garbage.true))

pub returns-clause-done : goal.returns-clause-done
returns-clause-done g c =
    done_already c.args.world.now.played c.args.steps.now c.args.set c.args.bucket 1 1 c.requires
    (leaving_gone _ (c.requires.ranks c.args.set)
    (ap is_sent (sym c.entry-entry.ensures) ∙ sym c.is_sent.ensures ∙ c.if-is_sent.false)
    (ap is_garbage (sym c.entry-entry.ensures) ∙ sym c.is_garbage.ensures ∙ c.if-is_garbage.false))

pub returns-clause-goes : goal.returns-clause-goes
returns-clause-goes g c = goes_none g.D.Disk.told c.args.world.now c.args.steps.now c.requires.rests
