use Rattle.std.proofs.Common.{◌≡◌, ◌-◌, length}
use Rattle.vs_audit.proofs.Lists.{front}
use Rattle.vs_rows.specs.RowMap.{IsRising}
use Rattle.vs_audit.specs.Operations.{pair_at, pairs_at, with_row}
use Rattle.vs_audit.specs.Reading.{many_at}
use Rattle.vs_audit.proofs.answers.pairs.Given as goal

abbrev pub invariant-loop-n : goal.invariant-loop-n
invariant-loop-n l = record {
  so_far : pairs_at l.count l.fn.words ≡ front l.page.items (many_at pair_at with_row (l.count - l.n) l.page.items l.words);
  short : length l.page.items ≡ l.n;
  rising : IsRising l.page.items;
}
