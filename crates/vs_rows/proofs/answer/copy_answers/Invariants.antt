use Rattle.std.proofs.Common.{◌≡◌, ◌+◌, ◌≤◌, take, length}
use Rattle.vs_rows.specs.Said.{said_all}
use Rattle.vs_rows.proofs.answer.copy_answers.Given as goal

abbrev pub invariant-loop-answer : goal.invariant-loop-answer
invariant-loop-answer l = record {
  copied : said_all l.copied.items ≡ said_all (take l.answer-index l.answer-items);
  room : length l.answer-items ≤ l.answer-index + l.copied.room;
}
