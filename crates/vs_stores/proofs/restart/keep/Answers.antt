use Rattle.std.proofs.Common.{◌≡◌, ◌<◌, Bool, Some, None, if◌then◌else◌, sym, subst}
use Rattle.vs_disk.proofs.Runs.{joined_through}
use Rattle.vs_record.specs.Change.{change as plain_of}
use Rattle.vs_store.specs.Files.{StandsForSome, taken}
use Rattle.vs_store.specs.Holding.{Holds}
use Rattle.vs_store.specs.Store.{told_of, length_with, IsReady}
use Rattle.vs_store.proofs.Holding.{may_append}
use Rattle.vs_store.proofs.Told.{still_leaves}
use Rattle.vs_disk.specs.Model.{Keeps, LeavesThrough}
use Rattle.vs_record.specs.Durable.{applied}
use Rattle.vs_stores.proofs.Lifting.{same_told}
use Rattle.vs_stores.proofs.Faults.{disk_fault_or_not, full_of}
use Rattle.vs_stores.proofs.restart.keep.Goals as goal

pub append-requires-clause-fits : goal.append-requires-clause-fits
append-requires-clause-fits g c =
    let p = plain_of c.args.change.now in
    let a = c.requires.awaits in
    let none = subst (λ (b : Bool). Holds c.reopen.new.self a.head (if b then taken a.state (Some p) else a.state) None) c.in-Ok-false.field-0-test (c.in-Ok-false.ensures.held a.head a.state (Some p) a.holds) in
    may_append c.reopen.new.self a.head a.state p none a.fits

pub returns-in-Err-clause-any_moment : goal.returns-in-Err-clause-any_moment
returns-in-Err-clause-any_moment g c head d h = still_leaves (told_of c.args.store.now) (told_of c.reopen.new.self) (StandsForSome head d (Some (plain_of c.args.change.now))) c.reopen.ensures.unwritten h.leaves

pub returns-in-Ok-clause-any_moment : goal.returns-in-Ok-clause-any_moment
returns-in-Ok-clause-any_moment g c head d h =
    let p = plain_of c.args.change.now in
    let none = subst (λ (b : Bool). Holds c.reopen.new.self head (if b then taken d (Some p) else d) None) c.in-Ok-false.field-0-test (c.in-Ok-false.ensures.held head d (Some p) h) in
    joined_through (told_of c.args.store.now) (told_of c.reopen.new.self) (told_of c.append.new.self) (StandsForSome head d (Some p)) c.reopen.ensures.unwritten.keeps
    (still_leaves (told_of c.args.store.now) (told_of c.reopen.new.self) (StandsForSome head d (Some p)) c.reopen.ensures.unwritten h.leaves)
    (c.append.ensures.any_moment head d none)

pub returns-in-Err-append-clause-any_moment : goal.returns-in-Err-append-clause-any_moment
returns-in-Err-append-clause-any_moment g c head d h =
    let p = plain_of c.args.change.now in
    let none = subst (λ (b : Bool). Holds c.reopen.new.self head (if b then taken d (Some p) else d) None) c.in-Ok-false.field-0-test (c.in-Ok-false.ensures.held head d (Some p) h) in
    joined_through (told_of c.args.store.now) (told_of c.reopen.new.self) (told_of c.append.new.self) (StandsForSome head d (Some p)) c.reopen.ensures.unwritten.keeps
    (still_leaves (told_of c.args.store.now) (told_of c.reopen.new.self) (StandsForSome head d (Some p)) c.reopen.ensures.unwritten h.leaves)
    (c.append.ensures.any_moment head d none)

pub returns-in-Err-append-clause-still : goal.returns-in-Err-append-clause-still
returns-in-Err-append-clause-still g c head d h =
    let p = plain_of c.args.change.now in
    let none = subst (λ (b : Bool). Holds c.reopen.new.self head (if b then taken d (Some p) else d) None) c.in-Ok-false.field-0-test (c.in-Ok-false.ensures.held head d (Some p) h) in
    disk_fault_or_not (Holds c.append.new.self head d (Some p)) c.in-Err-append.fault
    (λ is. c.in-Err-append.ensures.pending_held is head d none)
    (λ not. c.in-Err-append.ensures.same not head d (Some p) (c.reopen.ensures.still head d (Some p) h))

pub returns-in-Err-append-clause-full : goal.returns-in-Err-append-clause-full
returns-in-Err-append-clause-full g c len is =
    let p = plain_of c.args.change.now in
    let full = c.in-Err-append.ensures.full len (full_of c.in-Err-append.fault c.of_store.result len c.of_store.ensures is) in
    (subst (λ s. len ≡ length_with s p) (sym full.2) full.0, subst (λ n. n < len) c.reopen.ensures.limit full.1)

-- the change is there, and the append that failed is forgotten
pub returns-in-Ok-true-clause-kept : goal.returns-in-Ok-true-clause-kept
returns-in-Ok-true-clause-kept g c head d h =
    let p = plain_of c.args.change.now in
    let there = subst (λ (b : Bool). Holds c.reopen.new.self head (if b then taken d (Some p) else d) None) c.in-Ok-true.field-0-test (c.in-Ok-true.ensures.held head d (Some p) h) in
    c.forget_last.ensures.held head (applied d p) there

pub returns-in-Ok-true-clause-any_moment : goal.returns-in-Ok-true-clause-any_moment
returns-in-Ok-true-clause-any_moment g c head d h =
    let was = c.args.store.now in
    let mid = c.reopen.new.self in
    let P = StandsForSome head d (Some (plain_of c.args.change.now)) in
    same_told mid c.forget_last.new.self c.forget_last.ensures.disk (λ t. LeavesThrough (told_of was) t P) (still_leaves (told_of was) (told_of mid) P c.reopen.ensures.unwritten h.leaves)

pub returns-in-Ok-true-clause-keeps : goal.returns-in-Ok-true-clause-keeps
returns-in-Ok-true-clause-keeps g c = same_told c.reopen.new.self c.forget_last.new.self c.forget_last.ensures.disk (Keeps (told_of c.args.store.now)) c.reopen.ensures.unwritten.keeps

pub returns-in-Err-append-clause-ready_full : goal.returns-in-Err-append-clause-ready_full
returns-in-Err-append-clause-ready_full g c len is =
    let full = c.in-Err-append.ensures.full len (full_of c.in-Err-append.fault c.of_store.result len c.of_store.ensures is) in
    subst IsReady (sym full.2) c.in-Ok-false.ensures.ready
