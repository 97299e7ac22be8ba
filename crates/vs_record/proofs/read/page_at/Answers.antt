use Rattle.std.proofs.Common.{◌≡◌, ◌+◌, ◌-◌, false, [], ◌∷◌, ◌++◌, ap, ◌∙◌, sym, subst, arith, rules}
use Rattle.std.proofs.lemmas.Grind.{common_steps}
use Rattle.vs_rows.specs.RowMap.{RowMap}
use Rattle.vs_rows.specs.Pages.{IsPage}
use Rattle.vs_record.specs.Reading.{rows_from, rows_at, is_above}
use Rattle.vs_record.proofs.Loops.{rows_on, rows_fall}
use Rattle.vs_record.proofs.Names.{is_fitting, is_unfit}
use Rattle.vs_record.proofs.read.page_at.Goals as goal

pub returns-then-not-can_push : goal.returns-then-not-can_push
returns-then-not-can_push c =
    let rows = c.loop.page.items in
    let key = c.in_ok-row.row.0 in
    let low : is_above rows key ≡ false = is_unfit rows key c.loop.invariant.page (omega arith) (λ fits. grind (arith, common_steps, c.can_push.ensures.1 fits)) in
    rows_fall c.args.version c.in-Some.count c.loop.counter c.loop.rest.now (omega arith) rows (rows_at c.args.version c.args.bytes.now) c.loop.invariant.so_far c.in_ok-row.row c.in_ok-row.more.now c.in_ok-row.ensures low

pub loop-preserved : goal.loop-preserved
loop-preserved c =
    let count = c.in-Some.count in
    let counter = c.loop.counter in
    let rows = c.loop.page.items in
    let row = c.in_ok-row.row in
    let items : c.push.new.self.items ≡ rows ++ row ∷ [] = search rules in
    let page : IsPage (rows ++ row ∷ []) = search rules in
    record {
      so_far =
          ap (λ (l : RowMap). rows_from c.args.version (count - (counter + 1)) l c.in_ok-row.more.now) items
          ∙ rows_on c.args.version count counter c.loop.rest.now (omega arith) rows (rows_at c.args.version c.args.bytes.now) c.loop.invariant.so_far row c.in_ok-row.more.now c.in_ok-row.ensures (is_fitting rows row.0 row.1 page);
      many = grind (arith, common_steps);
      page = subst (λ (l : RowMap). IsPage l) (sym items) page;
    }
