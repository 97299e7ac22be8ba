use Rattle.std.proofs.Common.{◌≡◌, ℕ, ◌+◌, List, [], ◌++◌, length, Bool, true, sym, subst, ◌∙◌, append_assoc}
use Rattle.std.specs.Prelude.{OnOk, codes, if◌then◌else◌}
use Rattle.std.specs.List.{enumerate_from}
use Rattle.vs_machine.specs.declared.outcome.CommandOutcome.{CommandOutcome}
use Rattle.vs_machine.specs.Report.{lines, numbered_line, command_text, is_open}
use Rattle.vs_state.specs.Plain.{operator}
use Rattle.vs_report.proofs.operators.put_operator.Goals as goal

then_line : (b : Bool) (old mid first line : List ℕ) → b ≡ true → mid ≡ old ++ first → mid ++ line ≡ old ++ (first ++ (if b then line else []))
then_line b old mid first line is added = rw (is, added) (append_assoc old first line)

pub returns-then-is_open : goal.returns-then-is_open
returns-then-is_open c =
    let is_open_now : is_open (operator c.args.tables.now) ≡ true = sym c.is_open.ensures ∙ c.if-is_open.true in
    let first = λ (answers : List CommandOutcome). lines (λ o. numbered_line (codes "command") c.args.who o.0 (command_text o.1)) (enumerate_from 1 answers) in
    let line = λ (answers : List CommandOutcome). numbered_line (codes "command") c.args.who (length answers + 1) (codes "open") ++ codes "\n" in
    let all = λ (answers : List CommandOutcome). first answers ++ (if is_open (operator c.args.tables.now) then line answers else []) in
    let whole : c.put_commands.new.out.items ++ line c.as_slice-answers.result.now ≡ c.args.out.now.items ++ all c.as_slice-answers.result.now =
    then_line (is_open (operator c.args.tables.now)) _ _ _ _ is_open_now c.in_ok-put_commands.ensures in
    subst (λ (answers : List CommandOutcome). OnOk c.put_open.result (c.put_open.new.out.items ≡ c.args.out.now.items ++ all answers)) c.as_slice-answers.ensures
    (subst (λ (t : List ℕ). OnOk c.put_open.result (c.put_open.new.out.items ≡ t)) whole c.put_open.ensures)
