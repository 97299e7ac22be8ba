use Rattle.std.proofs.Common.{◌≡◌, ◌≤◌, ◌+◌, ◌++◌, drop, length}
use Rattle.vs_rows.specs.Changes.{with_changes}
use Rattle.vs_rows.specs.Operations.{answers_to}
use Rattle.vs_rows.specs.Said.{said_all}
use Rattle.vs_rows.proofs.rows.Rows.answers.Given as goal

abbrev pub invariant-loop-op : goal.invariant-loop-op
invariant-loop-op l = record {
  answers : said_all l.answers.items ++ answers_to (with_changes l.self-inside.rows.items l.changes.items) (drop l.op-index l.op-items) ≡ answers_to l.self-inside.rows.items l.op-items;
  room : length l.op-items ≤ l.op-index + l.answers.room;
}
