use Rattle.std.proofs.Common.{rules, ap, take}
use Rattle.vs_history.proofs.Replays.{replayed}
use Rattle.vs_history.proofs.history.History.rows_at.Goals as goal

pub returns : goal.returns
returns c =
    let all = c.args.self.now.writes.items in
    replayed c.loop-entry.rows.items c.args.self.now.base.items (take c.args.place c.as_slice.result.now) all c.loop-entry.entry-index c.args.place (search rules) (ap (take c.args.place) c.as_slice.ensures) c.loop-entry.invariant
