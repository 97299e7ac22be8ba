use Rattle.std.proofs.Common.{◌≡◌, ◌<◌, true, [], length, ap, sym, ◌∙◌, arith}
use Rattle.std.specs.Prelude.{codes}
use Rattle.std.specs.Str.{bytes_eq}
use Rattle.std.proofs.lemmas.Result.{err_from_is_err_and}
use Rattle.vs_rows.specs.Said.{said, said_all}
use Rattle.vs_audit.specs.Operations.{answer_at, after_answer, answers_at}
use Rattle.vs_audit.specs.Words.{Bad}
use Rattle.vs_audit.proofs.Faults.{first_fails, marked_fails}
use Rattle.vs_audit.proofs.Lists.{grow, map_more, length_more, length_map, listed_begun, marked_next, marked_full}
use Rattle.vs_audit.proofs.Marks.{answer_next}
use Rattle.vs_audit.proofs.answers.answers.Goals as goal

pub returns-in_err-first : goal.returns-in_err-first
returns-in_err-first c =
    let p = err_from_is_err_and c.from_residual.result c.from_residual.ensures.1 in
    rw (p.1, p.2)
    (first_fails answer_at after_answer 16 c.args.words.now c.in_err-first.field-0.0 (omega arith) c.in_err-first.ensures)

pub loop-mark-init : goal.loop-mark-init
loop-mark-init c =
    let added = grow [] c.reserve.new.self.items c.push.new.self.items c.in_ok-first.first c.push.ensures.items (c.reserve.ensures.items ∙ c.new-answers.ensures) in
    record {
      count = omega (arith, ap length added);
      so_far = listed_begun Bad answer_at after_answer 16 c.args.words.now c.answer.new.words (said c.in_ok-first.first) (said_all c.push.new.self.items) (omega arith)
          (map_more said [] c.push.new.self.items c.in_ok-first.first added) c.in_ok-first.ensures;
    }

pub returns-then-len-eq-MOST_ANSWERS : goal.returns-then-len-eq-MOST_ANSWERS
returns-then-len-eq-MOST_ANSWERS c =
    let marked : bytes_eq c.in-Some.mark.now (codes ";") ≡ true = sym c.is_next.ensures ∙ c.if-not-is_next.false in
    let full : length (said_all c.loop-mark.answers.items) ≡ 16 = omega (arith, length_map said c.loop-mark.answers.items, c.len.ensures, c.if-len-eq-MOST_ANSWERS.true) in
    marked_full Bad answer_at after_answer (answers_at 16 c.args.words.now) (said_all c.loop-mark.answers.items) 16 c.loop-mark.words c.next.new.self full c.loop-mark.invariant.so_far
    (λ f. answer_next f c.loop-mark.words c.next.new.self c.in-Some.mark.now c.in-Some.ensures marked)

pub returns-in_err-next : goal.returns-in_err-next
returns-in_err-next c =
    let marked : bytes_eq c.in-Some.mark.now (codes ";") ≡ true = sym c.is_next.ensures ∙ c.if-not-is_next.false in
    let within : length (said_all c.loop-mark.answers.items) < 16 = omega (arith, length_map said c.loop-mark.answers.items, c.loop-mark.invariant.count, c.len.ensures, c.if-len-eq-MOST_ANSWERS.false) in
    let p = err_from_is_err_and c.from_residual-in_err-next.result c.from_residual-in_err-next.ensures.1 in
    rw (p.1, p.2)
    (marked_fails answer_at after_answer (answers_at 16 c.args.words.now) (said_all c.loop-mark.answers.items) 16 c.loop-mark.words c.next.new.self c.in_err-next.field-0.0 within c.loop-mark.invariant.so_far
    (λ f. answer_next f c.loop-mark.words c.next.new.self c.in-Some.mark.now c.in-Some.ensures marked) c.in_err-next.ensures)

pub loop-mark-preserved : goal.loop-mark-preserved
loop-mark-preserved c =
    let marked : bytes_eq c.in-Some.mark.now (codes ";") ≡ true = sym c.is_next.ensures ∙ c.if-not-is_next.false in
    let within : length (said_all c.loop-mark.answers.items) < 16 = omega (arith, length_map said c.loop-mark.answers.items, c.loop-mark.invariant.count, c.len.ensures, c.if-len-eq-MOST_ANSWERS.false) in
    let added = grow c.loop-mark.answers.items c.reserve-in-Some.new.self.items c.push-in-Some.new.self.items c.in_ok-next.next c.push-in-Some.ensures.items c.reserve-in-Some.ensures.items in
    record {
      count = omega (arith, within, length_map said c.loop-mark.answers.items, length_more c.loop-mark.answers.items c.push-in-Some.new.self.items c.in_ok-next.next added);
      so_far = marked_next Bad answer_at after_answer (answers_at 16 c.args.words.now) (said_all c.loop-mark.answers.items) (said_all c.push-in-Some.new.self.items) 16 c.loop-mark.words c.next.new.self c.answer-in-Some.new.words (said c.in_ok-next.next) within
          (map_more said c.loop-mark.answers.items c.push-in-Some.new.self.items c.in_ok-next.next added) c.loop-mark.invariant.so_far
          (λ f. answer_next f c.loop-mark.words c.next.new.self c.in-Some.mark.now c.in-Some.ensures marked) c.in_ok-next.ensures;
    }
