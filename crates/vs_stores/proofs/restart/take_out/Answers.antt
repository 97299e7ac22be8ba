use Rattle.std.proofs.Common.{Some}
use Rattle.vs_disk.proofs.Runs.{joined_through}
use Rattle.vs_store.specs.Files.{StandsForSome}
use Rattle.vs_store.specs.Store.{told_of}
use Rattle.vs_store.proofs.Told.{still_leaves, keeps_then}
use Rattle.vs_disk.specs.Model.{Keeps, LeavesThrough}
use Rattle.vs_stores.proofs.Lifting.{same_told}
use Rattle.vs_stores.proofs.restart.take_out.Goals as goal

pub returns-in-Ok-clause-any_moment : goal.returns-in-Ok-clause-any_moment
returns-in-Ok-clause-any_moment g c head d p h =
    let was = c.args.store.now in
    let mid = c.reopen.new.self in
    let dropped = c.drop_last.new.self in
    let P = StandsForSome head d (Some p) in
    same_told dropped c.forget_last.new.self c.forget_last.ensures.disk (λ t. LeavesThrough (told_of was) t P)
    (joined_through (told_of was) (told_of mid) (told_of dropped) P c.reopen.ensures.unwritten.keeps
    (still_leaves (told_of was) (told_of mid) P c.reopen.ensures.unwritten h.leaves)
    (c.drop_last.ensures.any_moment head d p (c.reopen.ensures.still head d (Some p) h)))

pub returns-in-Ok-clause-dropped : goal.returns-in-Ok-clause-dropped
returns-in-Ok-clause-dropped g c head d p h = c.forget_last.ensures.held head d (c.in-Ok.ensures.dropped head d p (c.reopen.ensures.still head d (Some p) h))

pub returns-in-Ok-clause-keeps : goal.returns-in-Ok-clause-keeps
returns-in-Ok-clause-keeps g c = same_told c.drop_last.new.self c.forget_last.new.self c.forget_last.ensures.disk (Keeps (told_of c.args.store.now)) (keeps_then (told_of c.args.store.now) (told_of c.reopen.new.self) (told_of c.drop_last.new.self) c.reopen.ensures.unwritten.keeps c.drop_last.ensures.keeps)

pub returns-in-Err-drop_last-clause-any_moment : goal.returns-in-Err-drop_last-clause-any_moment
returns-in-Err-drop_last-clause-any_moment g c head d p h =
    joined_through (told_of c.args.store.now) (told_of c.reopen.new.self) (told_of c.drop_last.new.self) (StandsForSome head d (Some p)) c.reopen.ensures.unwritten.keeps
    (still_leaves (told_of c.args.store.now) (told_of c.reopen.new.self) (StandsForSome head d (Some p)) c.reopen.ensures.unwritten h.leaves)
    (c.drop_last.ensures.any_moment head d p (c.reopen.ensures.still head d (Some p) h))

pub returns-in-Ok-false-clause-any_moment : goal.returns-in-Ok-false-clause-any_moment
returns-in-Ok-false-clause-any_moment g c head d p h = still_leaves (told_of c.args.store.now) (told_of c.reopen.new.self) (StandsForSome head d (Some p)) c.reopen.ensures.unwritten h.leaves

pub returns-in-Err-clause-any_moment : goal.returns-in-Err-clause-any_moment
returns-in-Err-clause-any_moment g c head d p h = still_leaves (told_of c.args.store.now) (told_of c.reopen.new.self) (StandsForSome head d (Some p)) c.reopen.ensures.unwritten h.leaves
