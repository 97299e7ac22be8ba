use Rattle.std.proofs.Common.{◌≡◌, ◌+◌, ◌++◌, None, refl, ap, sym, ◌∙◌}
use Rattle.std.proofs.lemmas.List.{append-nil}
use Rattle.vs_machine.specs.Report.{entry_text}
use Rattle.vs_state.specs.Plain.{entry_in}
use Rattle.vs_state.specs.Tables.{numbered}
use Rattle.vs_report.proofs.Numbers.{texts_more, numbered_next}
use Rattle.vs_report.proofs.buckets.put_entries.Goals as goal
use Rattle.vs_report.proofs.buckets.put_entries.Goals.{in-Some+in_ok-put_entry, in_default}

pub loop-i-preserved : goal.loop-i-preserved
loop-i-preserved c =
    let here : numbered (λ t. entry_in t c.args.bucket) None c.args.sets.now (c.loop-i.i + 1) ≡ c.get.result =
    numbered_next (λ t. entry_in t c.args.bucket) None refl c.loop-i.i _ c.loop-i-test.true c.index-sets-i.is ∙ sym c.get.ensures.status in
    let added : c.match-get.out.items ≡ c.loop-i.out.items ++ entry_text (c.loop-i.i + 1) c.get.result =
    elim c.match-get.branch [
      | in-Some+in_ok-put_entry w ↦ rw (w.out-is, w.in-Some.is) w.in_ok-put_entry.ensures
      | in_default w ↦ rw (w.out-is, w.in_default.is, append-nil)
    ] in
    texts_more _ c.loop-i.i _ _ _ _ c.loop-i.invariant added (ap (entry_text (c.loop-i.i + 1)) here)
