use Rattle.std.proofs.Common.{◌≡◌, ◌++◌, None}
use Rattle.std.specs.List.{flat_map}
use Rattle.vs_machine.specs.Report.{entry_text, numbers_to}
use Rattle.vs_state.specs.Plain.{entry_in}
use Rattle.vs_state.specs.Tables.{numbered}
use Rattle.vs_report.proofs.buckets.put_entries.Given as goal

abbrev pub invariant-loop-i : goal.invariant-loop-i
invariant-loop-i l = l.out.items ≡ l.initial.out.items ++ flat_map (λ x. entry_text x (numbered (λ t. entry_in t l.bucket) None l.sets x)) (numbers_to l.i)
