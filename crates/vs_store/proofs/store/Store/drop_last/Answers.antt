use Rattle.std.proofs.Common.{◌∙◌, sym, refl, Some}
use Rattle.std.proofs.lemmas.Bool.{true≢false}
use Rattle.vs_disk.proofs.Runs.{weakened_through, leaves_now}
use Rattle.vs_frame.specs.Journal.{IsOldOrNew}
use Rattle.vs_record.specs.Body.{body_of}
use Rattle.vs_store.specs.Files.{StandsForSome}
use Rattle.vs_store.specs.Standing.{next_number}
use Rattle.vs_store.proofs.Holding.{found_it, dropped_either, dropped_knows, dropped_still, undropped_still, holds_synced, holds_left}
use Rattle.vs_store.proofs.store.Store.drop_last.Goals as goal

pub returns-in_err-drop_last-clause-any_moment : goal.returns-in_err-drop_last-clause-any_moment
returns-in_err-drop_last-clause-any_moment g c head d change holds honest =
    let old = g.D.Disk.told c.args.self.now.frame.disk in
    let new = g.D.Disk.told c.drop_last.new.self.disk in
    let tells = (g.met.D.Disk.lawful c.args.self.now.frame.disk).reads_too honest in
    let x = found_it c.args.self.now head d change old.reads_as (holds.knows tells) c.requires.found in
    let body = body_of (Some (next_number x.was.journal)) change in
    weakened_through old new (IsOldOrNew x.was.journal body) (StandsForSome head d (Some change)) (dropped_either c.args.self.now head d change old.reads_as x) (c.drop_last.ensures.any_moment x.was.journal body x.has x.tried.gate) honest

pub returns-clause-any_moment : goal.returns-clause-any_moment
returns-clause-any_moment g c head d change holds honest =
    let old = g.D.Disk.told c.args.self.now.frame.disk in
    let new = g.D.Disk.told c.drop_last.new.self.disk in
    let tells = (g.met.D.Disk.lawful c.args.self.now.frame.disk).reads_too honest in
    let x = found_it c.args.self.now head d change old.reads_as (holds.knows tells) c.requires.found in
    let body = body_of (Some (next_number x.was.journal)) change in
    weakened_through old new (IsOldOrNew x.was.journal body) (StandsForSome head d (Some change)) (dropped_either c.args.self.now head d change old.reads_as x) (c.drop_last.ensures.any_moment x.was.journal body x.has x.tried.gate) honest

pub returns-in_err-drop_last-clause-still : goal.returns-in_err-drop_last-clause-still
returns-in_err-drop_last-clause-still g c head d change holds =
    let old = g.D.Disk.told c.args.self.now.frame.disk in
    let new = g.D.Disk.told c.drop_last.new.self.disk in
    holds_left _ head d (Some change)
    (leaves_now old new (StandsForSome head d (Some change)) (g.met.D.Disk.lawful c.drop_last.new.self.disk) c.drop_last.ensures.keeps
    (λ honest.
    let tells = (g.met.D.Disk.lawful c.args.self.now.frame.disk).reads_too honest in
    let x = found_it c.args.self.now head d change old.reads_as (holds.knows tells) c.requires.found in
    let body = body_of (Some (next_number x.was.journal)) change in
    weakened_through old new (IsOldOrNew x.was.journal body) (StandsForSome head d (Some change)) (dropped_either c.args.self.now head d change old.reads_as x) (c.drop_last.ensures.any_moment x.was.journal body x.has x.tried.gate) honest))
    (λ still.
    let tells = sym c.drop_last.ensures.keeps.reads ∙ still in
    let x = found_it c.args.self.now head d change old.reads_as (holds.knows tells) c.requires.found in
    let body = body_of (Some (next_number x.was.journal)) change in
    undropped_still c.args.self.now head d change old.reads_as x _ c.drop_last.ensures.gate c.drop_last.ensures.last c.drop_last.ensures.next refl refl new.reads_as (c.drop_last.ensures.behind tells x.was.journal body x.has x.tried.gate) (λ ready. true≢false (sym c.in_err-drop_last.ensures.cause.1 ∙ ready)))

pub returns-clause-dropped : goal.returns-clause-dropped
returns-clause-dropped g c head d change holds =
    let old = g.D.Disk.told c.args.self.now.frame.disk in
    let new = g.D.Disk.told c.drop_last.new.self.disk in
    holds_synced _ head d _ (g.met.D.Disk.lawful c.drop_last.new.self.disk) c.in_ok-drop_last.ensures.durable
    (λ still.
    let tells = sym c.drop_last.ensures.keeps.reads ∙ still in
    let x = found_it c.args.self.now head d change old.reads_as (holds.knows tells) c.requires.found in
    let body = body_of (Some (next_number x.was.journal)) change in
    dropped_knows c.args.self.now head d change old.reads_as x _ c.drop_last.ensures.gate c.drop_last.ensures.last c.drop_last.ensures.next refl refl new.reads_as (c.drop_last.ensures.behind tells x.was.journal body x.has x.tried.gate) (c.in_ok-drop_last.ensures.dropped tells x.was.journal body x.has x.tried.gate))

pub returns-clause-still : goal.returns-clause-still
returns-clause-still g c head d change holds =
    let old = g.D.Disk.told c.args.self.now.frame.disk in
    let new = g.D.Disk.told c.drop_last.new.self.disk in
    holds_synced _ head d _ (g.met.D.Disk.lawful c.drop_last.new.self.disk) c.in_ok-drop_last.ensures.durable
    (λ still.
    let tells = sym c.drop_last.ensures.keeps.reads ∙ still in
    let x = found_it c.args.self.now head d change old.reads_as (holds.knows tells) c.requires.found in
    let body = body_of (Some (next_number x.was.journal)) change in
    dropped_still c.args.self.now head d change old.reads_as x _ c.drop_last.ensures.gate c.drop_last.ensures.last c.drop_last.ensures.next refl refl new.reads_as (c.drop_last.ensures.behind tells x.was.journal body x.has x.tried.gate) (c.in_ok-drop_last.ensures.dropped tells x.was.journal body x.has x.tried.gate))
