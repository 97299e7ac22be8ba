use Rattle.std.proofs.Common.{rules, ◌≡◌, ◌<◌, ◌-◌, [], ◌∷◌, ◌++◌, All, suc, sym, ap, ◌∙◌, subst, arith}
use Rattle.std.proofs.lemmas.List.Elements.{All-push}
use Rattle.atomic_table.specs.Seated.{TableId}
use Rattle.vs_words.specs.declared.rule.View.{View}
use Rattle.vs_words.specs.Rule.{total}
use Rattle.vs_words.specs.Standing.{Standing, IsNew}
use Rattle.vs_words.proofs.Steps.{splits, total_snoc}
use Rattle.vs_words.proofs.words.RefWords.split.Goals as goal

pub split_seat-other-requires : goal.split_seat-other-requires
split_seat-other-requires c =
    let spare : c.loop.seat.me.0.spare ≡ 63 - c.loop.counter = ap (λ (v : View). v.spare) c.loop.invariant.left in
    let turn = c.loop-test.true in (
      c.loop.invariant.same,
      subst (λ (z : TableId). 0 < z.words) (sym c.self.view_is) c.requires.words.1,
      splits c.self.inside.table.shared.key c.loop.seat.id c.loop.seat.me.0 (let most = c.requires.passes in omega arith),
    )

pub loop-preserved : goal.loop-preserved
loop-preserved c =
    let grown : c.push.new.self.items ≡ c.loop.passes.items ++ c.of.result ∷ [] = search rules in
    let new : IsNew c.self.inside.table.shared.table_id c.of.result = search rules in
    let spare : c.of.result.spare ≡ 0 = search rules in
    let more = total_snoc (λ (p : Standing). suc p.spare) c.loop.passes.items c.of.result in
    let before = c.loop.invariant.all in
    record {
      same = search rules;
      left = search rules;
      len = search rules;
      new = subst (All (IsNew c.self.inside.table.shared.table_id)) (sym grown) (All-push (IsNew c.self.inside.table.shared.table_id) c.loop.passes.items c.of.result c.loop.invariant.new new);
      all = ap (total (λ (p : Standing). suc p.spare)) grown ∙ omega (arith, more, before, spare);
    }
