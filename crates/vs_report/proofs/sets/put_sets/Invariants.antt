use Rattle.std.proofs.Common.{◌≡◌, ◌++◌, take}
use Rattle.std.specs.Prelude.{All}
use Rattle.vs_space.specs.Entries.{RisesFrom}
use Rattle.vs_machine.specs.Report.{lines, set_line, numbers_to}
use Rattle.vs_state.specs.Plain.{plain}
use Rattle.vs_report.proofs.sets.put_sets.Given as goal

abbrev pub invariant-loop-i : goal.invariant-loop-i
invariant-loop-i l = record {
  text : l.out.items ≡ l.initial.out.items ++ lines (set_line (plain l.state)) (numbers_to l.i);
  order : All (λ t. RisesFrom 1 t.space.entries) (take l.i l.state.sets.items);
}
