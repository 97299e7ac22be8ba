use Rattle.std.proofs.Common.{◌≡◌, ◌*◌, ◌∷◌, [], ◌++◌, rules, sym, ◌∙◌, ap, arith}
use Rattle.std.proofs.lemmas.List.{map-append}
use Rattle.vs_script.specs.Calls.{call as plain_call, calls as plain_calls}
use Rattle.vs_gen.specs.Calls.{drawn_call, drawn_calls}
use Rattle.vs_gen.specs.Draws.{state_after}
use Rattle.vs_gen.proofs.Drawn.{state_after-add, state_after-zero}
use Rattle.vs_gen.proofs.DrawnCalls.{no_calls, one_more_call}
use Rattle.vs_gen.proofs.calls.calls.Goals as goal

pub loop-call-init : goal.loop-call-init
loop-call-init c = record {
  drawn = ap plain_calls (c.reserve_many.ensures.items ∙ c.new-calls.ensures) ∙ sym (no_calls c.args.draws.now 0);
  draws = sym (state_after-zero c.args.draws.now);
  room = search rules;
}

pub loop-call-preserved : goal.loop-call-preserved
loop-call-preserved c =
    let n = c.args.draws.now in
    let i = c.loop-call._call in
    let before = c.loop-call.invariant.draws in
    let call : plain_call c.in_ok-call.field-0 ≡ drawn_call c.loop-call.draws 0 = c.in_ok-call.ensures.call in
    let left : c.call.new.draws ≡ state_after c.loop-call.draws 4 = c.call.ensures.draws in
    record {
      drawn = ap plain_calls c.push.ensures.items ∙ map-append plain_call c.loop-call.calls.items (c.in_ok-call.field-0 ∷ [])
          ∙ ap (λ before. before ++ plain_call c.in_ok-call.field-0 ∷ []) c.loop-call.invariant.drawn
          ∙ ap (λ k. drawn_calls n 0 i ++ k ∷ []) (call ∙ ap (λ s. drawn_call s 0) before) ∙ sym (one_more_call n i);
      draws = left ∙ ap (λ s. state_after s 4) before ∙ state_after-add n (4 * i) 4 ∙ ap (state_after n) (omega arith);
      room = search rules;
    }
