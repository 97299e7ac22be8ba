use Rattle.std.proofs.Common.{◌≡◌, ◌+◌, ◌++◌, ◌∷◌, [], take, sym, ap, ◌∙◌, subst}
use Rattle.std.proofs.lemmas.List.{take_more}
use Rattle.vs_router.specs.Said.{IsLowestServing}
use Rattle.vs_router.proofs.Lowest.{passed_over, taken_in}
use Rattle.vs_router.proofs.router.lowest_serving.Goals as goal
use Rattle.vs_router.proofs.router.lowest_serving.Goals.{then-grants, else-grants}

pub loop-one-preserved : goal.loop-one-preserved
loop-one-preserved c =
    let said = c.args.said.now in
    let i = c.loop-one.one-index in
    let one = c.one-item.result in
    let before = take i said in
    let more : take (i + 1) said ≡ before ++ one ∷ [] = take_more said i one c.loop-one-test.true ∙ ap (λ s. before ++ s ∷ []) (sym c.one-item.is) in
    subst (λ all. IsLowestServing all c.if-grants.lowest) (sym more) (elim c.if-grants.branch [
      | then-grants w ↦
          subst (IsLowestServing (before ++ one ∷ [])) (sym w.lowest-is) (taken_in before one c.loop-one.lowest w.lower.result (sym c.grants.ensures ∙ w.if-grants.true) c.loop-one.invariant w.lower.ensures)
      | else-grants w ↦
          subst (IsLowestServing (before ++ one ∷ [])) (sym w.lowest-is) (passed_over before one c.loop-one.lowest (sym c.grants.ensures ∙ w.if-grants.false) c.loop-one.invariant)
    ])
