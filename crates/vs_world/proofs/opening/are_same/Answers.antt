use Rattle.std.proofs.Common.{◌≡◌, ℕ, ◌<◌, List, length, get_or, Some, refl, sym}
use Rattle.std.specs.Prelude.{slice_get}
use Rattle.std.proofs.lemmas.Option.{slice_get_read}
use Rattle.vs_record.specs.declared.set_state.SetState.{SetState}
use Rattle.vs_record.specs.States.{durable}
use Rattle.vs_script.proofs.Same.{differ, one_more, all_same}
use Rattle.vs_world.proofs.opening.are_same.Goals as goal

there : (xs : List SetState) (i : ℕ) (x : SetState) → i < length xs → x ≡ get_or xs i x → Some x ≡ slice_get xs i
there xs i x lt here = sym (slice_get_read xs (length xs) i x refl lt here)

pub returns-then-not-equals : goal.returns-then-not-equals
returns-then-not-equals c = differ durable c.args.some.now c.args.others.now c.args.some.now c.loop-i.i refl c.index-some-i.result c.in-Some.other.now c.equals.result c.loop-i-test.true c.index-some-i.is (there _ _ _ c.in-Some.ensures.lookup.3.0 c.in-Some.ensures.lookup.1) c.equals.ensures c.if-not-equals.true

pub loop-i-preserved : goal.loop-i-preserved
loop-i-preserved c = one_more durable c.args.some.now c.args.others.now c.args.some.now c.loop-i.i refl c.index-some-i.result c.in-Some.other.now c.equals.result c.loop-i-test.true c.index-some-i.is (there _ _ _ c.in-Some.ensures.lookup.3.0 c.in-Some.ensures.lookup.1) c.equals.ensures c.if-not-equals.false c.loop-i.invariant

pub returns : goal.returns
returns c = all_same durable c.args.some.now c.args.others.now c.args.some.now c.loop-i.i refl _ _ c.loop-i-test.false refl refl c.loop-i.invariant
