use Rattle.std.proofs.Common.{◌≡◌, ◌<◌, ◌≤◌, ◌++◌, ℕ, List, length, get_or, ap, subst}
use Rattle.std.specs.Prelude.{All, codes}
use Rattle.std.proofs.lemmas.List.{take_all}
use Rattle.std.proofs.lemmas.List.Elements.{All-more}
use Rattle.vs_space.specs.Entries.{RisesFrom}
use Rattle.vs_machine.specs.Report.{set_line}
use Rattle.vs_state.specs.declared.tables.SetTables.{SetTables}
use Rattle.vs_state.specs.Plain.{plain}
use Rattle.vs_report.proofs.Numbers.{texts_more}
use Rattle.vs_report.proofs.SetLines.{set_line_is}
use Rattle.vs_report.proofs.sets.put_sets.Goals as goal

pub loop-i-preserved : goal.loop-i-preserved
loop-i-preserved c =
    let sets = c.args.state.now.sets.items in
    let below : c.loop-i.i < length sets = subst (λ (s : List SetTables). c.loop-i.i < length s) c.deref-tables-items.ensures.value c.loop-i-test.true in
    let there : c.tables-item.result ≡ get_or sets c.loop-i.i c.tables-item.result =
    subst (λ (s : List SetTables). c.tables-item.result ≡ get_or s c.loop-i.i c.tables-item.result) c.deref-tables-items.ensures.value c.tables-item.is in
    record {
      text =
          texts_more (λ (x : ℕ). set_line (plain c.args.state.now) x ++ codes "\n") c.loop-i.i _ _ _ _ c.loop-i.invariant.text c.in_ok-put_set.ensures.text
          (ap (λ (t : List ℕ). t ++ codes "\n") (set_line_is c.args.state.now c.loop-i.i c.tables-item.result below there c.in_ok-put_set.ensures.order c.requires.within));
      order =
          All-more (λ (t : SetTables). RisesFrom 1 t.space.entries) sets c.loop-i.i c.tables-item.result below c.loop-i.invariant.order
          (subst (λ (t : SetTables). RisesFrom 1 t.space.entries) there c.in_ok-put_set.ensures.order);
    }

pub returns-clause-order : goal.returns-clause-order
returns-clause-order c =
    let sets = c.args.state.now.sets.items in
    let past : length sets ≤ c.loop-i.i = subst (λ (s : List SetTables). length s ≤ c.loop-i.i) c.deref-tables-items.ensures.value c.loop-i-test.false in
    subst (All (λ (t : SetTables). RisesFrom 1 t.space.entries)) (take_all c.loop-i.i sets past) c.loop-i.invariant.order
