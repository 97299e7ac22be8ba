use Rattle.std.proofs.Common.{◌≡◌, ◌-◌, length}
use Rattle.vs_rows.specs.Pages.{IsPage}
use Rattle.vs_record.specs.Reading.{rows_from, rows_at}
use Rattle.vs_record.proofs.read.page_at.Given as goal

abbrev pub invariant-loop : goal.invariant-loop
invariant-loop l = record {
  so_far : rows_from l.version (l.count - l.counter) l.page.items l.rest ≡ rows_at l.version l.bytes;
  many : length l.page.items ≡ l.counter;
  page : IsPage l.page.items;
}
