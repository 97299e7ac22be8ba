use Rattle.std.proofs.Common.{◌<◌, ◌+◌, ℕ, Option, None, Some, true, refl, sym, ap, subst, ◌∙◌}
use Rattle.vs_disk.specs.Told.{Failed}
use Rattle.vs_disk.specs.Model.{Keeps, LeavesThrough}
use Rattle.vs_record.specs.Change.{Change, change as plain_of}
use Rattle.vs_store.specs.Files.{StandsForSome, taken}
use Rattle.vs_store.specs.Holding.{Holds}
use Rattle.vs_store.specs.Standing.{entry_len}
use Rattle.vs_store.specs.Store.{told_of, IsReady, IsCalm}
use Rattle.vs_stores.specs.Due.{decided}
use Rattle.vs_stores.proofs.Lifting.{found, at_x, held, limit_was, turned, still, of_is, of_both, length_now, limits_now, count_now, others_now, on_ok, on_err}
use Rattle.vs_stores.proofs.stores.Stores.keep_pending.Goals as goal

pub keep-requires-clause-awaits : goal.keep-requires-clause-awaits
keep-requires-clause-awaits g c =
    let stores = c.args.self.now.stores.items in
    let x = c.args.set in
    let i = c.place_of.result in
    let was = c.index_mut-store.result.now in
    let at = found stores x i was c.place_of.ensures c.requires.has c.index_mut-store.ensures.value in
    c.requires.awaits was (at_x stores x i was at)

pub invariant_of-self-clause-limits : goal.invariant_of-self-clause-limits
invariant_of-self-clause-limits g c =
    let stores = c.args.self.now.stores.items in
    let x = c.args.set in
    let i = c.place_of.result in
    let was = c.index_mut-store.result.now in
    let at = found stores x i was c.place_of.ensures c.requires.has c.index_mut-store.ensures.value in
    let is = c.keep.new.store in
    limits_now stores x i was at is c.args.self.now.limit c.args.self.now.limits c.keep.ensures.limit

pub returns-clause-ready : goal.returns-clause-ready
returns-clause-ready g c =
    let stores = c.args.self.now.stores.items in
    let x = c.args.set in
    let i = c.place_of.result in
    let was = c.index_mut-store.result.now in
    let at = found stores x i was c.place_of.ensures c.requires.has c.index_mut-store.ensures.value in
    let is = c.keep.new.store in
    on_ok c.keep.result _ _ c.keep.ensures.ready (λ h it e. of_is stores x i was at is IsReady h it e)

pub returns-clause-kept : goal.returns-clause-kept
returns-clause-kept g c =
    let stores = c.args.self.now.stores.items in
    let x = c.args.set in
    let i = c.place_of.result in
    let was = c.index_mut-store.result.now in
    let at = found stores x i was c.place_of.ensures c.requires.has c.index_mut-store.ensures.value in
    let is = c.keep.new.store in
    let p = plain_of c.args.change.now in
    on_ok c.keep.result _ _ c.keep.ensures.kept (λ h due awaits all.
    turned stores x i was at is due (decided (due x) true) all
    (subst (λ (o : Option Change). Holds is (due x).head (taken (due x).state o) None) (sym awaits) (h (due x).head (due x).state (subst (Holds was (due x).head (due x).state) awaits (held stores x i was at due all)))))

pub returns-clause-still : goal.returns-clause-still
returns-clause-still g c =
    let stores = c.args.self.now.stores.items in
    let x = c.args.set in
    let i = c.place_of.result in
    let was = c.index_mut-store.result.now in
    let at = found stores x i was c.place_of.ensures c.requires.has c.index_mut-store.ensures.value in
    let is = c.keep.new.store in
    on_err c.keep.result _ _ c.keep.ensures.still (λ h due awaits all.
    still stores x i was at is due all
    (subst (Holds is (due x).head (due x).state) (sym awaits) (h (due x).head (due x).state (subst (Holds was (due x).head (due x).state) awaits (held stores x i was at due all)))))

pub returns-clause-failed : goal.returns-clause-failed
returns-clause-failed g c e =
    let stores = c.args.self.now.stores.items in
    let x = c.args.set in
    let i = c.place_of.result in
    let was = c.index_mut-store.result.now in
    let at = found stores x i was c.place_of.ensures c.requires.has c.index_mut-store.ensures.value in
    let is = c.keep.new.store in
    of_both stores x i was at is (λ a b. Failed (told_of a) (told_of b)) (c.keep.ensures.failed e)

pub returns-clause-full : goal.returns-clause-full
returns-clause-full g c len e =
    let stores = c.args.self.now.stores.items in
    let x = c.args.set in
    let i = c.place_of.result in
    let was = c.index_mut-store.result.now in
    let at = found stores x i was c.place_of.ensures c.requires.has c.index_mut-store.ensures.value in
    let is = c.keep.new.store in
    let p = plain_of c.args.change.now in
    let limit = limit_was stores x i was at c.args.self.now.limit c.args.self.now.limits in
    let full = c.keep.ensures.full len e in
    record {
      len_is = full.0 ∙ ap (λ (n : ℕ). n + entry_len p) (sym (length_now stores x i was at is));
      above = subst (λ (n : ℕ). n < len) limit full.1;
    }

pub returns-clause-any_moment : goal.returns-clause-any_moment
returns-clause-any_moment g c due awaits all =
    let stores = c.args.self.now.stores.items in
    let x = c.args.set in
    let i = c.place_of.result in
    let was = c.index_mut-store.result.now in
    let at = found stores x i was c.place_of.ensures c.requires.has c.index_mut-store.ensures.value in
    let is = c.keep.new.store in
    let p = plain_of c.args.change.now in
    of_both stores x i was at is (λ a b. LeavesThrough (told_of a) (told_of b) (StandsForSome (due x).head (due x).state (Some p))) (c.keep.ensures.any_moment (due x).head (due x).state (subst (Holds was (due x).head (due x).state) awaits (held stores x i was at due all)))

pub returns-clause-others : goal.returns-clause-others
returns-clause-others g c =
    let stores = c.args.self.now.stores.items in
    let x = c.args.set in
    let i = c.place_of.result in
    let was = c.index_mut-store.result.now in
    let at = found stores x i was c.place_of.ensures c.requires.has c.index_mut-store.ensures.value in
    let is = c.keep.new.store in
    record {
      count = count_now stores x i was at is;
      others = others_now stores x i was at is;
      spare = refl;
      limit = refl;
      keeps = of_both stores x i was at is (λ a b. Keeps (told_of a) (told_of b)) c.keep.ensures.keeps;
    }

pub returns-clause-calm : goal.returns-clause-calm
returns-clause-calm g c =
    let stores = c.args.self.now.stores.items in
    let x = c.args.set in
    let i = c.place_of.result in
    let was = c.index_mut-store.result.now in
    let at = found stores x i was c.place_of.ensures c.requires.has c.index_mut-store.ensures.value in
    let is = c.keep.new.store in
    on_ok c.keep.result _ _ c.keep.ensures.calm (λ h it e. of_is stores x i was at is IsCalm h it e)

pub returns-clause-ready_full : goal.returns-clause-ready_full
returns-clause-ready_full g c len e it at_it =
    let stores = c.args.self.now.stores.items in
    let x = c.args.set in
    let i = c.place_of.result in
    let was = c.index_mut-store.result.now in
    let at = found stores x i was c.place_of.ensures c.requires.has c.index_mut-store.ensures.value in
    let is = c.keep.new.store in
    of_is stores x i was at is IsReady (c.keep.ensures.ready_full len e) it at_it
