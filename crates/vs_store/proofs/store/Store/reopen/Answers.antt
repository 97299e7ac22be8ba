use Rattle.std.proofs.Common.{◌∙◌, sym, refl}
use Rattle.std.proofs.lemmas.Bool.{true≢false}
use Rattle.vs_store.proofs.Holding.{same_holds, holds_synced, reopened_held, reopened_still}
use Rattle.vs_store.proofs.store.Store.reopen.Goals as goal

pub returns-in_err-found-clause-still : goal.returns-in_err-found-clause-still
returns-in_err-found-clause-still g c head d pending holds =
    same_holds c.args.self.now _ c.in_err-found.ensures.same.0 c.reopen.ensures.last c.in_err-found.ensures.same.1 c.in_err-found.ensures.same.2 (λ ready. absurd (true≢false (sym c.in_err-found.ensures.cause.1 ∙ ready))) refl refl c.reopen.ensures.unwritten head d pending holds

pub returns-clause-held : goal.returns-clause-held
returns-clause-held g c head d pending holds =
    let old = c.args.self.now in
    let told = g.D.Disk.told c.reopen.new.self.disk in
    let found = c.in_ok-found.found in
    holds_synced _ head _ _ (g.met.D.Disk.lawful c.reopen.new.self.disk) c.in_ok-found.ensures.durable
    (λ still.
    let tells = sym c.reopen.ensures.unwritten.keeps.reads ∙ still in
    reopened_held old _ found c.reopen.ensures.last c.in_ok-found.ensures.next c.in_ok-found.ensures.gate refl refl c.in_ok-found.ensures.none (g.D.Disk.told old.frame.disk).reads_as told.reads_as (c.reopen.ensures.unwritten.reads tells) (c.in_ok-found.ensures.told tells) head d pending (holds.knows tells) found refl)

pub returns-clause-still : goal.returns-clause-still
returns-clause-still g c head d pending holds =
    let old = c.args.self.now in
    let told = g.D.Disk.told c.reopen.new.self.disk in
    let found = c.in_ok-found.found in
    holds_synced _ head _ _ (g.met.D.Disk.lawful c.reopen.new.self.disk) c.in_ok-found.ensures.durable
    (λ still.
    let tells = sym c.reopen.ensures.unwritten.keeps.reads ∙ still in
    reopened_still old _ found c.reopen.ensures.last c.in_ok-found.ensures.next c.in_ok-found.ensures.gate refl refl c.in_ok-found.ensures.none (g.D.Disk.told old.frame.disk).reads_as told.reads_as (c.reopen.ensures.unwritten.reads tells) (c.in_ok-found.ensures.told tells) head d pending (holds.knows tells) found refl)
