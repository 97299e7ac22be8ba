use Rattle.std.proofs.Common.{◌≡◌, ◌*◌, ◌∷◌, [], ◌++◌, map, rules, sym, ◌∙◌, ap, arith}
use Rattle.std.proofs.lemmas.List.{map-append}
use Rattle.vs_script.specs.Calls.{calls as plain_calls}
use Rattle.vs_gen.specs.Calls.{drawn_calls, drawn_clients}
use Rattle.vs_gen.specs.Draws.{state_after}
use Rattle.vs_gen.proofs.Drawn.{state_after-add, state_after-zero}
use Rattle.vs_gen.proofs.DrawnCalls.{no_clients, one_more_client}
use Rattle.vs_gen.proofs.calls.clients.Goals as goal

pub loop-client-init : goal.loop-client-init
loop-client-init c = record {
  drawn = ap (map (λ k. plain_calls k.items)) (c.reserve_many.ensures.items ∙ c.new-drawn.ensures) ∙ sym (no_clients c.args.number c.args.each);
  draws = c.of-draws.ensures ∙ sym (ap (state_after c.args.number) (omega arith) ∙ state_after-zero c.args.number);
  room = search rules;
}

pub loop-client-preserved : goal.loop-client-preserved
loop-client-preserved c =
    let n = c.args.number in
    let each = c.args.each in
    let i = c.loop-client._client in
    let before = c.loop-client.invariant.draws in
    let one : plain_calls c.in_ok-calls.field-0.items ≡ drawn_calls c.loop-client.draws 0 each = c.in_ok-calls.ensures.calls in
    let left : c.calls.new.draws ≡ state_after c.loop-client.draws (4 * each) = c.in_ok-calls.ensures.draws in
    record {
      drawn = ap (map (λ k. plain_calls k.items)) c.push.ensures.items ∙ map-append (λ k. plain_calls k.items) c.loop-client.drawn.items (c.in_ok-calls.field-0 ∷ [])
          ∙ ap (λ before. before ++ plain_calls c.in_ok-calls.field-0.items ∷ []) c.loop-client.invariant.drawn
          ∙ ap (λ k. drawn_clients n i each ++ k ∷ []) (one ∙ ap (λ s. drawn_calls s 0 each) before) ∙ sym (one_more_client n i each);
      draws = left ∙ ap (λ s. state_after s (4 * each)) before ∙ state_after-add n (4 * (each * i)) (4 * each) ∙ ap (state_after n) (omega arith);
      room = search rules;
    }
