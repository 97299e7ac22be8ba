use Rattle.std.proofs.Common.{Some, false, refl, sym, subst}
use Rattle.vs_disk.specs.Told.{Failed}
use Rattle.vs_disk.specs.Model.{Keeps, LeavesThrough}
use Rattle.vs_store.specs.Files.{StandsForSome}
use Rattle.vs_store.specs.Holding.{Holds}
use Rattle.vs_store.specs.Store.{told_of, IsReady, IsCalm}
use Rattle.vs_stores.specs.Due.{decided}
use Rattle.vs_stores.proofs.Lifting.{found, held, turned, still, of_is, of_both, limits_now, count_now, others_now, on_ok, on_err}
use Rattle.vs_stores.proofs.stores.Stores.drop_pending.Goals as goal

pub invariant_of-self-clause-limits : goal.invariant_of-self-clause-limits
invariant_of-self-clause-limits g c =
    let stores = c.args.self.now.stores.items in
    let x = c.args.set in
    let i = c.place_of.result in
    let was = c.index_mut-store.result.now in
    let at = found stores x i was c.place_of.ensures c.requires.has c.index_mut-store.ensures.value in
    let is = c.take_out.new.store in
    limits_now stores x i was at is c.args.self.now.limit c.args.self.now.limits c.take_out.ensures.limit

pub returns-clause-ready : goal.returns-clause-ready
returns-clause-ready g c =
    let stores = c.args.self.now.stores.items in
    let x = c.args.set in
    let i = c.place_of.result in
    let was = c.index_mut-store.result.now in
    let at = found stores x i was c.place_of.ensures c.requires.has c.index_mut-store.ensures.value in
    let is = c.take_out.new.store in
    on_ok c.take_out.result _ _ c.take_out.ensures.ready (λ h it e. of_is stores x i was at is IsReady h it e)

pub returns-clause-dropped : goal.returns-clause-dropped
returns-clause-dropped g c =
    let stores = c.args.self.now.stores.items in
    let x = c.args.set in
    let i = c.place_of.result in
    let was = c.index_mut-store.result.now in
    let at = found stores x i was c.place_of.ensures c.requires.has c.index_mut-store.ensures.value in
    let is = c.take_out.new.store in
    on_ok c.take_out.result _ _ c.take_out.ensures.dropped (λ h p due awaits all.
    turned stores x i was at is due (decided (due x) false) all
    (h (due x).head (due x).state p (subst (Holds was (due x).head (due x).state) awaits (held stores x i was at due all))))

pub returns-clause-still : goal.returns-clause-still
returns-clause-still g c =
    let stores = c.args.self.now.stores.items in
    let x = c.args.set in
    let i = c.place_of.result in
    let was = c.index_mut-store.result.now in
    let at = found stores x i was c.place_of.ensures c.requires.has c.index_mut-store.ensures.value in
    let is = c.take_out.new.store in
    on_err c.take_out.result _ _ c.take_out.ensures.still (λ h p due awaits all.
    still stores x i was at is due all
    (subst (Holds is (due x).head (due x).state) (sym awaits) (h (due x).head (due x).state p (subst (Holds was (due x).head (due x).state) awaits (held stores x i was at due all)))))

pub returns-clause-failed : goal.returns-clause-failed
returns-clause-failed g c =
    let stores = c.args.self.now.stores.items in
    let x = c.args.set in
    let i = c.place_of.result in
    let was = c.index_mut-store.result.now in
    let at = found stores x i was c.place_of.ensures c.requires.has c.index_mut-store.ensures.value in
    let is = c.take_out.new.store in
    on_err c.take_out.result _ _ c.take_out.ensures.failed (λ h. of_both stores x i was at is (λ a b. Failed (told_of a) (told_of b)) h)

pub returns-clause-any_moment : goal.returns-clause-any_moment
returns-clause-any_moment g c p due awaits all =
    let stores = c.args.self.now.stores.items in
    let x = c.args.set in
    let i = c.place_of.result in
    let was = c.index_mut-store.result.now in
    let at = found stores x i was c.place_of.ensures c.requires.has c.index_mut-store.ensures.value in
    let is = c.take_out.new.store in
    of_both stores x i was at is (λ a b. LeavesThrough (told_of a) (told_of b) (StandsForSome (due x).head (due x).state (Some p))) (c.take_out.ensures.any_moment (due x).head (due x).state p (subst (Holds was (due x).head (due x).state) awaits (held stores x i was at due all)))

pub returns-clause-others : goal.returns-clause-others
returns-clause-others g c =
    let stores = c.args.self.now.stores.items in
    let x = c.args.set in
    let i = c.place_of.result in
    let was = c.index_mut-store.result.now in
    let at = found stores x i was c.place_of.ensures c.requires.has c.index_mut-store.ensures.value in
    let is = c.take_out.new.store in
    record {
      count = count_now stores x i was at is;
      others = others_now stores x i was at is;
      spare = refl;
      limit = refl;
      keeps = of_both stores x i was at is (λ a b. Keeps (told_of a) (told_of b)) c.take_out.ensures.keeps;
    }

pub returns-clause-calm : goal.returns-clause-calm
returns-clause-calm g c =
    let stores = c.args.self.now.stores.items in
    let x = c.args.set in
    let i = c.place_of.result in
    let was = c.index_mut-store.result.now in
    let at = found stores x i was c.place_of.ensures c.requires.has c.index_mut-store.ensures.value in
    let is = c.take_out.new.store in
    on_ok c.take_out.result _ _ c.take_out.ensures.calm (λ h it e. of_is stores x i was at is IsCalm h it e)
