use Rattle.std.proofs.Common.{◌≡◌, ◌<◌, true, false, length, ap, sym, ◌∙◌, arith}
use Rattle.std.specs.Prelude.{codes}
use Rattle.std.specs.Str.{bytes_eq}
use Rattle.std.proofs.lemmas.Result.{err_from_is_err_and}
use Rattle.vs_audit.specs.Operations.{op_at, after_op, ops_at}
use Rattle.vs_audit.specs.Words.{Bad}
use Rattle.vs_audit.proofs.Faults.{first_fails, marked_fails}
use Rattle.vs_audit.proofs.Lists.{grow, length_more, listed_begun, marked_next, marked_full}
use Rattle.vs_audit.proofs.Marks.{op_next}
use Rattle.vs_audit.proofs.ops.ops.Goals as goal

pub returns-in_err-op : goal.returns-in_err-op
returns-in_err-op c =
    let p = err_from_is_err_and c.from_residual.result c.from_residual.ensures.1 in
    rw (p.1, p.2)
    (first_fails op_at after_op 16 c.args.words.now c.in_err-op.field-0.0 (omega arith) c.in_err-op.ensures)

pub loop-mark-init : goal.loop-mark-init
loop-mark-init c = record {
  count = omega (arith, ap length c.in_ok-ops.ensures);
  so_far = listed_begun Bad op_at after_op 16 c.args.words.now c.operation.new.words c.in_ok-op.op c.in_ok-ops.ops.items (omega arith) c.in_ok-ops.ensures c.in_ok-op.ensures;
}

pub returns-then-len-eq-MAX : goal.returns-then-len-eq-MAX
returns-then-len-eq-MAX c =
    let ended : bytes_eq c.in-Some.mark.now (codes "=>") ≡ false = sym c.is_last.ensures ∙ c.if-is_last.false in
    let marked : bytes_eq c.in-Some.mark.now (codes ";") ≡ true = sym c.is_next.ensures ∙ c.if-not-is_next.false in
    let full : length c.loop-mark.ops.items ≡ 16 = omega (arith, c.len.ensures.value, c.if-len-eq-MAX.true) in
    marked_full Bad op_at after_op (ops_at 16 c.args.words.now) c.loop-mark.ops.items 16 c.loop-mark.words c.next.new.self full c.loop-mark.invariant.so_far
    (λ f. op_next f c.loop-mark.words c.next.new.self c.in-Some.mark.now c.in-Some.ensures ended marked)

pub returns-in_err-next : goal.returns-in_err-next
returns-in_err-next c =
    let ended : bytes_eq c.in-Some.mark.now (codes "=>") ≡ false = sym c.is_last.ensures ∙ c.if-is_last.false in
    let marked : bytes_eq c.in-Some.mark.now (codes ";") ≡ true = sym c.is_next.ensures ∙ c.if-not-is_next.false in
    let within : length c.loop-mark.ops.items < 16 = omega (arith, c.loop-mark.invariant.count, c.len.ensures.value, c.if-len-eq-MAX.false) in
    let p = err_from_is_err_and c.from_residual-in_err-next.result c.from_residual-in_err-next.ensures.1 in
    rw (p.1, p.2)
    (marked_fails op_at after_op (ops_at 16 c.args.words.now) c.loop-mark.ops.items 16 c.loop-mark.words c.next.new.self c.in_err-next.field-0.0 within c.loop-mark.invariant.so_far
    (λ f. op_next f c.loop-mark.words c.next.new.self c.in-Some.mark.now c.in-Some.ensures ended marked) c.in_err-next.ensures)

pub loop-mark-preserved : goal.loop-mark-preserved
loop-mark-preserved c =
    let ended : bytes_eq c.in-Some.mark.now (codes "=>") ≡ false = sym c.is_last.ensures ∙ c.if-is_last.false in
    let marked : bytes_eq c.in-Some.mark.now (codes ";") ≡ true = sym c.is_next.ensures ∙ c.if-not-is_next.false in
    let within : length c.loop-mark.ops.items < 16 = omega (arith, c.loop-mark.invariant.count, c.len.ensures.value, c.if-len-eq-MAX.false) in
    let added = grow c.loop-mark.ops.items c.reserve.new.self.items c.push.new.self.items c.in_ok-next.next c.push.ensures.items c.reserve.ensures.items in
    record {
      count = omega (arith, within, length_more c.loop-mark.ops.items c.push.new.self.items c.in_ok-next.next added);
      so_far = marked_next Bad op_at after_op (ops_at 16 c.args.words.now) c.loop-mark.ops.items c.push.new.self.items 16 c.loop-mark.words c.next.new.self c.operation-in-Some.new.words c.in_ok-next.next within added c.loop-mark.invariant.so_far
          (λ f. op_next f c.loop-mark.words c.next.new.self c.in-Some.mark.now c.in-Some.ensures ended marked) c.in_ok-next.ensures;
    }
