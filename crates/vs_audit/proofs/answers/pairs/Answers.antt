use Rattle.std.proofs.Common.{◌≡◌, ◌+◌, true, Ok, refl, ◌∙◌, subst, arith}
use Rattle.std.proofs.lemmas.Result.{err_from_is_err_and}
use Rattle.vs_rows.specs.RowMap.{RowMap}
use Rattle.vs_audit.specs.Given.{IsFaultOf}
use Rattle.vs_audit.specs.Operations.{is_above, pair_at, pairs_at, with_row}
use Rattle.vs_audit.proofs.Faults.{word_fails}
use Rattle.vs_audit.proofs.Lists.{grow, length_more, many_more, left_end}
use Rattle.vs_audit.proofs.Rows.{page_with, rising_with}
use Rattle.vs_audit.proofs.answers.pairs.Goals as goal

pub returns-in_err-pair : goal.returns-in_err-pair
returns-in_err-pair c =
    let same : c.as_slice.result.now ≡ c.loop-n.page.items = c.as_slice.ensures ∙ c.reserve.ensures.items in
    let wrong = subst (λ (rows : RowMap). IsFaultOf c.in_err-pair.field-0.0 (pair_at rows c.loop-n.words)) same c.in_err-pair.ensures.read in
    let p = err_from_is_err_and c.from_residual-in_err-pair.result c.from_residual-in_err-pair.ensures.1 in
    rw (p.1, p.2)
    (word_fails pair_at with_row (pairs_at c.args.count c.args.words.now) c.loop-n.page.items c.args.count c.loop-n.n c.loop-n.page.items c.loop-n.words c.in_err-pair.field-0.0 c.loop-n-test.true c.loop-n.invariant.so_far wrong)

pub push-requires-clause-page : goal.push-requires-clause-page
push-requires-clause-page c =
    let same : c.as_slice.result.now ≡ c.loop-n.page.items = c.as_slice.ensures ∙ c.reserve.ensures.items in
    let above : is_above c.loop-n.page.items c.in_ok-pair.pair.0 ≡ true = subst (λ (rows : RowMap). is_above rows c.in_ok-pair.pair.0 ≡ true) same c.in_ok-pair.ensures.above in
    page_with c.loop-n.page.items c.reserve.new.self.items c.in_ok-pair.pair c.loop-n.n c.args.count c.reserve.ensures.items c.loop-n.invariant.rising above c.loop-n.invariant.short c.loop-n-test.true c.requires

pub loop-n-preserved : goal.loop-n-preserved
loop-n-preserved c =
    let same : c.as_slice.result.now ≡ c.loop-n.page.items = c.as_slice.ensures ∙ c.reserve.ensures.items in
    let above : is_above c.loop-n.page.items c.in_ok-pair.pair.0 ≡ true = subst (λ (rows : RowMap). is_above rows c.in_ok-pair.pair.0 ≡ true) same c.in_ok-pair.ensures.above in
    let added = grow c.loop-n.page.items c.reserve.new.self.items c.push.new.self.items c.in_ok-pair.pair c.push.ensures.items c.reserve.ensures.items in
    let read = subst (λ (rows : RowMap). pair_at rows c.loop-n.words ≡ Ok (c.in_ok-pair.pair, c.pair.new.words)) same c.in_ok-pair.ensures.read in
    record {
      so_far = many_more pair_at with_row (pairs_at c.args.count c.args.words.now) c.loop-n.page.items c.push.new.self.items c.args.count c.loop-n.n (c.loop-n.n + 1) c.loop-n.page.items c.push.new.self.items c.loop-n.words c.pair.new.words c.in_ok-pair.pair c.loop-n-test.true added refl added c.loop-n.invariant.so_far read;
      short = omega (arith, length_more c.loop-n.page.items c.push.new.self.items c.in_ok-pair.pair added, c.loop-n.invariant.short);
      rising = rising_with c.loop-n.page.items c.push.new.self.items c.in_ok-pair.pair added c.loop-n.invariant.rising above;
    }

pub returns : goal.returns
returns c = left_end pair_at with_row (pairs_at c.args.count c.args.words.now) c.loop-n.page.items c.args.count c.loop-n.n c.loop-n.page.items c.loop-n.words c.loop-n-test.false c.loop-n.invariant.so_far
