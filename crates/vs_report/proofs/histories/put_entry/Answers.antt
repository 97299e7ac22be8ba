use Rattle.std.proofs.Common.{◌≡◌, ℕ, List, ◌++◌, subst, append_assoc}
use Rattle.std.specs.Prelude.{OnOk, codes}
use Rattle.vs_history.specs.History.{entry}
use Rattle.vs_machine.specs.Report.{history_entry}
use Rattle.vs_report.proofs.histories.put_entry.Goals as goal

pub returns : goal.returns
returns c =
    let whole : c.put_answers.new.out.items ++ codes "\n" ≡ c.args.out.now.items ++ (history_entry c.args.kind.now (entry c.args.call.now) ++ codes "\n") =
    rw (c.in_ok-put_answers.ensures, c.as_slice-2.ensures, c.in_ok-put_text-2.ensures, c.in_ok-put_ops.ensures, c.as_slice.ensures, c.in_ok-put_text.ensures, c.in_ok-put_place.ensures) (simp append_assoc) in
    subst (λ (t : List ℕ). OnOk c.put_text-3.result (c.put_text-3.new.out.items ≡ t)) whole c.put_text-3.ensures
