use Rattle.std.proofs.Common.{◌≡◌, ◌∙◌, ◌+◌, ℕ, Some, None, length, refl, sym, ap, arith}
use Rattle.std.proofs.lemmas.Bool.{true≢false}
use Rattle.vs_disk.proofs.Runs.{weakened_through, leaves_now}
use Rattle.vs_frame.specs.Journal.{IsOldOrNew}
use Rattle.vs_record.specs.Change.{change as plain_of}
use Rattle.vs_store.specs.Files.{StandsForSome}
use Rattle.vs_store.proofs.Holding.{some_more, at_end, either_stands, appended_knows, tried_knows, same_holds, holds_synced, holds_left}
use Rattle.vs_store.proofs.Standings.{entry_is, is_journal}
use Rattle.vs_store.proofs.Told.{here_leaves, leaves_less}
use Rattle.vs_store.proofs.store.Store.append.Goals as goal

pub returns-in_err-body-clause-any_moment : goal.returns-in_err-body-clause-any_moment
returns-in_err-body-clause-any_moment g c head d holds =
    let old = g.D.Disk.told c.args.self.now.frame.disk in
    let change = plain_of c.args.change.now in
    here_leaves old (StandsForSome head d (Some change)) (g.met.D.Disk.lawful c.args.self.now.frame.disk) (leaves_less old (StandsForSome head d None) (StandsForSome head d (Some change)) (some_more head d change) holds.leaves)

pub returns-in_default-clause-any_moment : goal.returns-in_default-clause-any_moment
returns-in_default-clause-any_moment g c head d holds =
    let old = g.D.Disk.told c.args.self.now.frame.disk in
    let change = plain_of c.args.change.now in
    here_leaves old (StandsForSome head d (Some change)) (g.met.D.Disk.lawful c.args.self.now.frame.disk) (leaves_less old (StandsForSome head d None) (StandsForSome head d (Some change)) (some_more head d change) holds.leaves)

pub returns-then-len-self-clause-any_moment : goal.returns-then-len-self-clause-any_moment
returns-then-len-self-clause-any_moment g c head d holds =
    let old = g.D.Disk.told c.args.self.now.frame.disk in
    let change = plain_of c.args.change.now in
    here_leaves old (StandsForSome head d (Some change)) (g.met.D.Disk.lawful c.args.self.now.frame.disk) (leaves_less old (StandsForSome head d None) (StandsForSome head d (Some change)) (some_more head d change) holds.leaves)

-- the length with the change
len_is : goal.returns-then-len-self-clause-full
len_is g c len is =
    let change = plain_of c.args.change.now in
    let number = c.next_number-number.result in
    let named : c.in-Some.len ≡ len = cc in
    (omega (arith, named, c.in-Some.ensures, c.gate.ensures.gate, c.len.ensures, ap length c.in_ok-body.ensures.text, entry_is number change), omega (arith, named, c.if-len-self.true), refl)

pub returns-then-len-self-clause-full : goal.returns-then-len-self-clause-full
returns-then-len-self-clause-full g c = len_is g c

pub returns-in-Ok-clause-length : goal.returns-in-Ok-clause-length
returns-in-Ok-clause-length g c = omega (arith, c.in-Ok.ensures.gate, ap length c.deref.ensures.value, ap length c.in_ok-body.ensures.text, entry_is c.next_number-number.result (plain_of c.args.change.now))

pub returns-in-Ok-clause-room : goal.returns-in-Ok-clause-room
returns-in-Ok-clause-room g c = omega (arith, c.in-Some.ensures, c.if-len-self.false, c.gate.ensures.gate, c.len.ensures, ap length c.in_ok-body.ensures.text, entry_is c.next_number-number.result (plain_of c.args.change.now))

pub returns-in-Ok-clause-any_moment : goal.returns-in-Ok-clause-any_moment
returns-in-Ok-clause-any_moment g c head d holds honest =
    let store = c.args.self.now in
    let old = g.D.Disk.told store.frame.disk in
    let new = g.D.Disk.told c.append.new.self.disk in
    let tells = (g.met.D.Disk.lawful store.frame.disk).reads_too honest in
    let k = holds.knows tells in
    let change = plain_of c.args.change.now in
    let body = c.deref.result.now in
    weakened_through old new (IsOldOrNew k.now.journal body) (StandsForSome head d (Some change))
    (either_stands store store head d old.reads_as k c.requires.ready change c.next_number-number.result body (c.deref.ensures.value ∙ c.in_ok-body.ensures.text) c.next_number-number.ensures.number c.in_ok-body.ensures.recordable (c.requires.fits tells))
    (c.append.ensures.any_moment k.now.journal (is_journal old.reads_as k.now k.here.stands) (at_end store head d old.reads_as k c.requires.ready)) honest

pub returns-in-Ok-clause-appended : goal.returns-in-Ok-clause-appended
returns-in-Ok-clause-appended g c head d holds =
    let store = c.args.self.now in
    let old = g.D.Disk.told store.frame.disk in
    let new = g.D.Disk.told c.append.new.self.disk in
    let change = plain_of c.args.change.now in
    holds_synced _ head _ None (g.met.D.Disk.lawful c.append.new.self.disk) c.in-Ok.ensures.durable
    (λ still.
    let tells = sym c.append.ensures.keeps.reads ∙ still in
    let k = holds.knows tells in
    appended_knows store _ head d old.reads_as k c.requires.ready change c.next_number-number.result c.deref.result.now (c.deref.ensures.value ∙ c.in_ok-body.ensures.text) c.next_number-number.ensures.number c.in_ok-body.ensures.recordable (c.requires.fits tells) new.reads_as
    (c.in-Ok.ensures.appended tells k.now.journal (is_journal old.reads_as k.now k.here.stands) (at_end store head d old.reads_as k c.requires.ready)) c.in-Ok.ensures.gate c.in-Ok.ensures.none c.in-Ok.ensures.level refl refl)

pub returns-in-Err-DiskFault-clause-any_moment : goal.returns-in-Err-DiskFault-clause-any_moment
returns-in-Err-DiskFault-clause-any_moment g c head d holds honest =
    let store = c.args.self.now in
    let old = g.D.Disk.told store.frame.disk in
    let new = g.D.Disk.told c.append.new.self.disk in
    let tells = (g.met.D.Disk.lawful store.frame.disk).reads_too honest in
    let k = holds.knows tells in
    let change = plain_of c.args.change.now in
    let body = c.deref.result.now in
    weakened_through old new (IsOldOrNew k.now.journal body) (StandsForSome head d (Some change))
    (either_stands store store head d old.reads_as k c.requires.ready change c.next_number-number.result body (c.deref.ensures.value ∙ c.in_ok-body.ensures.text) c.next_number-number.ensures.number c.in_ok-body.ensures.recordable (c.requires.fits tells))
    (c.append.ensures.any_moment k.now.journal (is_journal old.reads_as k.now k.here.stands) (at_end store head d old.reads_as k c.requires.ready)) honest

pub returns-in-Err-DiskFault-clause-fault : goal.returns-in-Err-DiskFault-clause-fault
returns-in-Err-DiskFault-clause-fault g c is = (
  c.in-Err-DiskFault.ensures.fault (rw c.in-Err-DiskFault.field-0-is refl),
  omega (arith, c.in-Some.ensures, c.if-len-self.false, c.gate.ensures.gate, c.len.ensures, ap length c.in_ok-body.ensures.text, entry_is c.next_number-number.result (plain_of c.args.change.now)),
)

pub returns-in-Err-DiskFault-clause-pending : goal.returns-in-Err-DiskFault-clause-pending
returns-in-Err-DiskFault-clause-pending g c is =
    let failed = c.in-Err-DiskFault.ensures.failed (rw c.in-Err-DiskFault.field-0-is refl) in
    (failed.0, ap (λ (n : ℕ). n + 1) failed.3)

pub returns-in-Err-DiskFault-clause-pending_held : goal.returns-in-Err-DiskFault-clause-pending_held
returns-in-Err-DiskFault-clause-pending_held g c is head d holds =
    let store = c.args.self.now in
    let old = g.D.Disk.told store.frame.disk in
    let new = g.D.Disk.told c.append.new.self.disk in
    let change = plain_of c.args.change.now in
    let body = c.deref.result.now in
    let failed = c.in-Err-DiskFault.ensures.failed (rw c.in-Err-DiskFault.field-0-is refl) in
    let P = StandsForSome head d (Some change) in
    holds_left _ head d (Some change)
    (leaves_now old new P (g.met.D.Disk.lawful c.append.new.self.disk) c.append.ensures.keeps
    (λ honest.
    let tells = (g.met.D.Disk.lawful store.frame.disk).reads_too honest in
    let k = holds.knows tells in
    weakened_through old new (IsOldOrNew k.now.journal body) P
    (either_stands store store head d old.reads_as k c.requires.ready change c.next_number-number.result body (c.deref.ensures.value ∙ c.in_ok-body.ensures.text) c.next_number-number.ensures.number c.in_ok-body.ensures.recordable (c.requires.fits tells))
    (c.append.ensures.any_moment k.now.journal (is_journal old.reads_as k.now k.here.stands) (at_end store head d old.reads_as k c.requires.ready)) honest))
    (λ still.
    let tells = sym c.append.ensures.keeps.reads ∙ still in
    let k = holds.knows tells in
    tried_knows store _ head d old.reads_as k c.requires.ready change c.next_number-number.result body (c.deref.ensures.value ∙ c.in_ok-body.ensures.text) c.next_number-number.ensures.number c.in_ok-body.ensures.recordable (c.requires.fits tells) new.reads_as
    (c.append.ensures.reads tells k.now.journal (is_journal old.reads_as k.now k.here.stands) (at_end store head d old.reads_as k c.requires.ready)) failed.1 failed.2 (λ ready. true≢false (sym failed.0 ∙ ready)) (c.in-Err-DiskFault.ensures.forgets (λ memory. let fault = c.in-Err-DiskFault.field-0-is in cc)) (omega (arith, c.next_number-number.ensures.number)))

pub returns-in-Err-NoMemory-clause-same : goal.returns-in-Err-NoMemory-clause-same
returns-in-Err-NoMemory-clause-same g c other head d pending holds =
    let m = c.in-Err-NoMemory.ensures.memory (rw c.in-Err-NoMemory.field-0-is refl) in
    same_holds c.args.self.now _ m.0.gate m.0.last m.0.next (λ found. sym m.0.found ∙ found) (λ ready. sym m.0.ready ∙ ready) refl refl m.1 head d pending holds
