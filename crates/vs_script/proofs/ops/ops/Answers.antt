use Rattle.std.proofs.Common.{◌≡◌, ◌+◌, ◌-◌, suc, [], ◌∷◌, ◌++◌, length, length-append, true, false, arith, rules}
use Rattle.std.specs.Prelude.{codes}
use Rattle.std.specs.Str.{bytes_eq}
use Rattle.std.proofs.lemmas.Result.{err_from_is_err_and}
use Rattle.vs_script.proofs.OpLists.{first_op, next_op, last_op, no_mark, bad_first_word, bad_word, one_too_many, first_op_fails, op_fails}
use Rattle.vs_script.proofs.ops.ops.Goals as goal

pub returns-in_err-name : goal.returns-in_err-name
returns-in_err-name c =
    let p = err_from_is_err_and c.from_residual.result c.from_residual.ensures.1 in
    rw (p.1, p.2) (bad_first_word c.args.mode c.args.words.now c.in_err-name.field-0.0 c.in_err-name.ensures)

pub returns-in_err-op : goal.returns-in_err-op
returns-in_err-op c =
    let p = err_from_is_err_and c.from_residual-in_err-op.result c.from_residual-in_err-op.ensures.1 in
    rw (p.1, p.2) (first_op_fails c.args.mode c.args.words.now c.read.new.words c.in_ok-name.name c.in_err-op.field-0.0 c.in_ok-name.ensures c.in_err-op.ensures)

pub loop-mark-init : goal.loop-mark-init
loop-mark-init c =
    rw c.in_ok-ops.ensures (record {
      count = omega arith;
      so_far = first_op c.args.mode c.args.words.now c.read.new.words c.operation.new.words c.in_ok-name.name c.in_ok-op.op c.in_ok-name.ensures c.in_ok-op.ensures;
    })

pub returns-then-ne : goal.returns-then-ne
returns-then-ne c =
    let test : bytes_eq c.in-Some.mark.now (codes ";") ≡ false = search rules in
    no_mark c.args.mode c.args.words.now c.loop-mark.words c.next.new.self c.loop-mark.ops.items (16 - length c.loop-mark.ops.items) c.in-Some.mark.now c.loop-mark.invariant.so_far (omega arith) c.in-Some.ensures test

pub returns-in_err-name-2 : goal.returns-in_err-name-2
returns-in_err-name-2 c =
    let p = err_from_is_err_and c.from_residual-in_err-name-2.result c.from_residual-in_err-name-2.ensures.1 in
    let test : bytes_eq c.in-Some.mark.now (codes ";") ≡ true = search rules in
    rw (p.1, p.2) (bad_word c.args.mode c.args.words.now c.loop-mark.words c.next.new.self c.loop-mark.ops.items (16 - length c.loop-mark.ops.items) c.in-Some.mark.now c.in_err-name-2.field-0.0 c.loop-mark.invariant.so_far (omega arith) c.in-Some.ensures test c.in_err-name-2.ensures)

pub returns-then-len-eq-MAX : goal.returns-then-len-eq-MAX
returns-then-len-eq-MAX c =
    let test : bytes_eq c.in-Some.mark.now (codes ";") ≡ true = search rules in
    one_too_many c.args.mode c.args.words.now c.loop-mark.words c.next.new.self c.read-in-Some.new.words c.loop-mark.ops.items c.in-Some.mark.now c.in_ok-name-2.name c.loop-mark.invariant.so_far (omega (arith, c.len.ensures.value, c.if-len-eq-MAX.true)) c.in-Some.ensures test c.in_ok-name-2.ensures

pub returns-in_err-op-2 : goal.returns-in_err-op-2
returns-in_err-op-2 c =
    let p = err_from_is_err_and c.from_residual-in_err-op-2.result c.from_residual-in_err-op-2.ensures.1 in
    let test : bytes_eq c.in-Some.mark.now (codes ";") ≡ true = search rules in
    let room : suc (15 - length c.loop-mark.ops.items) + length c.loop-mark.ops.items ≡ 16 = omega (arith, c.len.ensures.value, c.if-len-eq-MAX.false) in
    rw (p.1, p.2) (op_fails c.args.mode c.args.words.now c.loop-mark.words c.next.new.self c.read-in-Some.new.words c.loop-mark.ops.items (15 - length c.loop-mark.ops.items) c.in-Some.mark.now c.in_ok-name-2.name c.in_err-op-2.field-0.0 c.loop-mark.invariant.so_far room c.in-Some.ensures test c.in_ok-name-2.ensures c.in_err-op-2.ensures)

pub loop-mark-preserved : goal.loop-mark-preserved
loop-mark-preserved c =
    let test : bytes_eq c.in-Some.mark.now (codes ";") ≡ true = search rules in
    let pushed : c.push.new.self.items ≡ c.loop-mark.ops.items ++ c.in_ok-op-2.op ∷ [] = search rules in
    rw pushed (record {
      count = omega (arith, length-append c.loop-mark.ops.items (c.in_ok-op-2.op ∷ []), c.len.ensures.value, c.if-len-eq-MAX.false);
      so_far = next_op c.args.mode c.args.words.now c.loop-mark.words c.next.new.self c.read-in-Some.new.words c.operation-in-Some.new.words c.loop-mark.ops.items c.in-Some.mark.now c.in_ok-name-2.name c.in_ok-op-2.op c.loop-mark.invariant.so_far c.in-Some.ensures test c.in_ok-name-2.ensures c.in_ok-op-2.ensures;
    })

pub returns : goal.returns
returns c =
    last_op c.args.mode c.args.words.now c.loop-mark.words c.loop-mark.ops.items (16 - length c.loop-mark.ops.items) c.loop-mark.invariant.so_far (omega arith) (search rules)
