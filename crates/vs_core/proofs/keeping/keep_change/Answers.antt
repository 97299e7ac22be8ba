use Rattle.std.proofs.Common.{◌≡◌, true, sym, ap, subst, ◌∙◌}
use Rattle.vs_record.specs.Change.{bucket_of, change}
use Rattle.vs_record.specs.declared.change.Change.{Change}
use Rattle.vs_machine.specs.Kinds.Stops.{with_change}
use Rattle.vs_machine.specs.State as machine
use Rattle.vs_state.specs.Plain.{plain}
use Rattle.vs_core.specs.Restarting.{IsChangeReady, IsLawfulChange}
use Rattle.vs_core.proofs.keeping.keep_change.Goals as goal

-- ---- a status

pub keep_status-requires-clause-there : goal.keep_status-requires-clause-there
keep_status-requires-clause-there c =
    let s = plain c.args.state.now in
    (subst (λ (p : Change). IsLawfulChange ((s.bucket (bucket_of (change p))).entry c.args.set) (change p)) c.in-Status.is c.requires.lawful).0

pub keep_status-requires-clause-allowed : goal.keep_status-requires-clause-allowed
keep_status-requires-clause-allowed c =
    let s = plain c.args.state.now in
    (subst (λ (p : Change). IsLawfulChange ((s.bucket (bucket_of (change p))).entry c.args.set) (change p)) c.in-Status.is c.requires.lawful).1

pub keep_status-requires-clause-room : goal.keep_status-requires-clause-room
keep_status-requires-clause-room c = subst (λ (p : Change). IsChangeReady c.args.state.now c.args.set (change p) c.args.staged) c.in-Status.is c.requires.ready

pub returns-in-Status-clause-kept : goal.returns-in-Status-clause-kept
returns-in-Status-clause-kept c =
    let s = plain c.args.state.now in
    c.keep_status.ensures.kept ∙ ap (λ (p : Change). machine.put_bucket s (bucket_of (change p)) (with_change (s.bucket (bucket_of (change p))) c.args.set (change p))) (sym c.in-Status.is)

-- ---- rows

pub add_rows-requires-clause-bucket : goal.add_rows-requires-clause-bucket
add_rows-requires-clause-bucket c = subst (λ (p : Change). machine.has_bucket (plain c.args.state.now) (bucket_of (change p)) ≡ true) c.in-RowsPage.is c.requires.bucket

pub add_rows-requires-clause-open : goal.add_rows-requires-clause-open
add_rows-requires-clause-open c =
    let s = plain c.args.state.now in
    subst (λ (p : Change). IsLawfulChange ((s.bucket (bucket_of (change p))).entry c.args.set) (change p)) c.in-RowsPage.is c.requires.lawful

pub add_rows-requires-clause-room : goal.add_rows-requires-clause-room
add_rows-requires-clause-room c = subst (λ (p : Change). IsChangeReady c.args.state.now c.args.set (change p) c.args.staged) c.in-RowsPage.is c.requires.ready

pub returns-in-RowsPage-clause-kept : goal.returns-in-RowsPage-clause-kept
returns-in-RowsPage-clause-kept c =
    let s = plain c.args.state.now in
    c.add_rows.ensures.added ∙ ap (λ (p : Change). machine.put_bucket s (bucket_of (change p)) (with_change (s.bucket (bucket_of (change p))) c.args.set (change p))) (sym c.in-RowsPage.is)

-- ---- a write

pub keep_write-requires-clause-bucket : goal.keep_write-requires-clause-bucket
keep_write-requires-clause-bucket c = subst (λ (p : Change). machine.has_bucket (plain c.args.state.now) (bucket_of (change p)) ≡ true) c.in-Write.is c.requires.bucket

pub keep_write-requires-clause-staged : goal.keep_write-requires-clause-staged
keep_write-requires-clause-staged c = (subst (λ (p : Change). IsChangeReady c.args.state.now c.args.set (change p) c.args.staged) c.in-Write.is c.requires.ready).0

pub keep_write-requires-clause-history : goal.keep_write-requires-clause-history
keep_write-requires-clause-history c = (subst (λ (p : Change). IsChangeReady c.args.state.now c.args.set (change p) c.args.staged) c.in-Write.is c.requires.ready).1

pub returns-in-Write-clause-kept : goal.returns-in-Write-clause-kept
returns-in-Write-clause-kept c =
    let s = plain c.args.state.now in
    c.keep_write.ensures.kept ∙ ap (λ (p : Change). machine.put_bucket s (bucket_of (change p)) (with_change (s.bucket (bucket_of (change p))) c.args.set (change p))) (sym c.in-Write.is)

-- ---- what is deleted

pub returns-in-Wipe-clause-kept : goal.returns-in-Wipe-clause-kept
returns-in-Wipe-clause-kept c =
    let s = plain c.args.state.now in
    c.wipe_rows.ensures.wiped ∙ ap (λ (p : Change). machine.put_bucket s (bucket_of (change p)) (with_change (s.bucket (bucket_of (change p))) c.args.set (change p))) (sym c.in-Wipe.is)

pub forget-requires-clause-garbage : goal.forget-requires-clause-garbage
forget-requires-clause-garbage c =
    let s = plain c.args.state.now in
    subst (λ (p : Change). IsLawfulChange ((s.bucket (bucket_of (change p))).entry c.args.set) (change p)) c.in-Forget.is c.requires.lawful

pub returns-in-Forget-clause-kept : goal.returns-in-Forget-clause-kept
returns-in-Forget-clause-kept c =
    let s = plain c.args.state.now in
    c.forget.ensures.forgotten ∙ ap (λ (p : Change). machine.put_bucket s (bucket_of (change p)) (with_change (s.bucket (bucket_of (change p))) c.args.set (change p))) (sym c.in-Forget.is)
