use Rattle.std.proofs.Common.{◌≡◌, ◌≤◌, ◌-◌, length}
use Rattle.vs_audit.proofs.Lists.{front}
use Rattle.vs_rows.specs.Said.{said_all}
use Rattle.vs_audit.specs.Operations.{answer_at, after_answer, answers_at}
use Rattle.vs_audit.specs.Reading.{listed_at}
use Rattle.vs_audit.specs.Words.{Bad}
use Rattle.vs_audit.proofs.answers.answers.Given as goal

abbrev pub invariant-loop-mark : goal.invariant-loop-mark
invariant-loop-mark l = record {
  count : length l.answers.items ≤ 16;
  so_far : answers_at 16 l.fn.words ≡ front (said_all l.answers.items) (after_answer (listed_at Bad answer_at after_answer (16 - length (said_all l.answers.items))) l.words);
}

abbrev pub decreases-loop-mark : goal.decreases-loop-mark
decreases-loop-mark l = 16 - length l.answers.items
