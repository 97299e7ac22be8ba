use Rattle.std.proofs.Common.{refl, subst}
use Rattle.vs_disk.specs.Told.{Failed}
use Rattle.vs_disk.specs.Model.{Keeps, LeavesThrough}
use Rattle.vs_store.specs.Files.{StandsForSome}
use Rattle.vs_store.specs.Holding.{Holds}
use Rattle.vs_store.specs.Store.{told_of, IsReady, IsCalm}
use Rattle.vs_stores.specs.Due.{decided}
use Rattle.vs_store.proofs.Told.{still_leaves}
use Rattle.vs_stores.proofs.Lifting.{found, at_x, held, turned, still, of_is, of_both, limits_now, count_now, others_now}
use Rattle.vs_stores.proofs.stores.Stores.reopen.Goals as goal

pub invariant_of-self-clause-limits : goal.invariant_of-self-clause-limits
invariant_of-self-clause-limits g c =
    let stores = c.args.self.now.stores.items in
    let x = c.args.set in
    let i = c.place_of.result in
    let was = c.index_mut-store.result.now in
    let at = found stores x i was c.place_of.ensures c.requires.has c.index_mut-store.ensures.value in
    let is = c.reopen.new.self in
    limits_now stores x i was at is c.args.self.now.limit c.args.self.now.limits c.reopen.ensures.limit

pub returns-in-Ok-clause-ready : goal.returns-in-Ok-clause-ready
returns-in-Ok-clause-ready g c it e =
    let stores = c.args.self.now.stores.items in
    let x = c.args.set in
    let i = c.place_of.result in
    let was = c.index_mut-store.result.now in
    let at = found stores x i was c.place_of.ensures c.requires.has c.index_mut-store.ensures.value in
    let is = c.reopen.new.self in
    of_is stores x i was at is IsReady c.in-Ok.ensures.ready it e

pub returns-in-Ok-clause-decided : goal.returns-in-Ok-clause-decided
returns-in-Ok-clause-decided g c pending due is_pending all =
    let stores = c.args.self.now.stores.items in
    let x = c.args.set in
    let i = c.place_of.result in
    let was = c.index_mut-store.result.now in
    let at = found stores x i was c.place_of.ensures c.requires.has c.index_mut-store.ensures.value in
    let is = c.reopen.new.self in
    turned stores x i was at is due (decided (due x) c.in-Ok.found) all (c.in-Ok.ensures.held (due x).head (due x).state (due x).pending (held stores x i was at due all))

pub returns-in-Err-clause-failed : goal.returns-in-Err-clause-failed
returns-in-Err-clause-failed g c =
    let stores = c.args.self.now.stores.items in
    let x = c.args.set in
    let i = c.place_of.result in
    let was = c.index_mut-store.result.now in
    let at = found stores x i was c.place_of.ensures c.requires.has c.index_mut-store.ensures.value in
    let is = c.reopen.new.self in
    of_both stores x i was at is (λ a b. Failed (told_of a) (told_of b)) c.in-Err.ensures.fault

pub returns-in-Ok-clause-still : goal.returns-in-Ok-clause-still
returns-in-Ok-clause-still g c due all =
    let stores = c.args.self.now.stores.items in
    let x = c.args.set in
    let i = c.place_of.result in
    let was = c.index_mut-store.result.now in
    let at = found stores x i was c.place_of.ensures c.requires.has c.index_mut-store.ensures.value in
    let is = c.reopen.new.self in
    still stores x i was at is due all (c.reopen.ensures.still (due x).head (due x).state (due x).pending (held stores x i was at due all))

pub returns-in-Ok-clause-any_moment : goal.returns-in-Ok-clause-any_moment
returns-in-Ok-clause-any_moment g c pending due is_pending all =
    let stores = c.args.self.now.stores.items in
    let x = c.args.set in
    let i = c.place_of.result in
    let was = c.index_mut-store.result.now in
    let at = found stores x i was c.place_of.ensures c.requires.has c.index_mut-store.ensures.value in
    let is = c.reopen.new.self in
    let h = subst (Holds was (due x).head (due x).state) is_pending (held stores x i was at due all) in
    of_both stores x i was at is (λ a b. LeavesThrough (told_of a) (told_of b) (StandsForSome (due x).head (due x).state pending)) (still_leaves (told_of was) (told_of is) (StandsForSome (due x).head (due x).state pending) c.reopen.ensures.unwritten h.leaves)

pub returns-in-Ok-clause-others : goal.returns-in-Ok-clause-others
returns-in-Ok-clause-others g c =
    let stores = c.args.self.now.stores.items in
    let x = c.args.set in
    let i = c.place_of.result in
    let was = c.index_mut-store.result.now in
    let at = found stores x i was c.place_of.ensures c.requires.has c.index_mut-store.ensures.value in
    let is = c.reopen.new.self in
    record {
      count = count_now stores x i was at is;
      others = others_now stores x i was at is;
      spare = refl;
      limit = refl;
      keeps = of_both stores x i was at is (λ a b. Keeps (told_of a) (told_of b)) c.reopen.ensures.unwritten.keeps;
    }

pub returns-in-Err-clause-still : goal.returns-in-Err-clause-still
returns-in-Err-clause-still g c due all =
    let stores = c.args.self.now.stores.items in
    let x = c.args.set in
    let i = c.place_of.result in
    let was = c.index_mut-store.result.now in
    let at = found stores x i was c.place_of.ensures c.requires.has c.index_mut-store.ensures.value in
    let is = c.reopen.new.self in
    still stores x i was at is due all (c.reopen.ensures.still (due x).head (due x).state (due x).pending (held stores x i was at due all))

pub returns-in-Err-clause-any_moment : goal.returns-in-Err-clause-any_moment
returns-in-Err-clause-any_moment g c pending due is_pending all =
    let stores = c.args.self.now.stores.items in
    let x = c.args.set in
    let i = c.place_of.result in
    let was = c.index_mut-store.result.now in
    let at = found stores x i was c.place_of.ensures c.requires.has c.index_mut-store.ensures.value in
    let is = c.reopen.new.self in
    let h = subst (Holds was (due x).head (due x).state) is_pending (held stores x i was at due all) in
    of_both stores x i was at is (λ a b. LeavesThrough (told_of a) (told_of b) (StandsForSome (due x).head (due x).state pending)) (still_leaves (told_of was) (told_of is) (StandsForSome (due x).head (due x).state pending) c.reopen.ensures.unwritten h.leaves)

pub returns-in-Err-clause-others : goal.returns-in-Err-clause-others
returns-in-Err-clause-others g c =
    let stores = c.args.self.now.stores.items in
    let x = c.args.set in
    let i = c.place_of.result in
    let was = c.index_mut-store.result.now in
    let at = found stores x i was c.place_of.ensures c.requires.has c.index_mut-store.ensures.value in
    let is = c.reopen.new.self in
    record {
      count = count_now stores x i was at is;
      others = others_now stores x i was at is;
      spare = refl;
      limit = refl;
      keeps = of_both stores x i was at is (λ a b. Keeps (told_of a) (told_of b)) c.reopen.ensures.unwritten.keeps;
    }

pub returns-in-Ok-clause-none : goal.returns-in-Ok-clause-none
returns-in-Ok-clause-none g c calm =
    let stores = c.args.self.now.stores.items in
    let x = c.args.set in
    let i = c.place_of.result in
    let was = c.index_mut-store.result.now in
    let at = found stores x i was c.place_of.ensures c.requires.has c.index_mut-store.ensures.value in
    let is = c.reopen.new.self in
    c.in-Ok.ensures.none (calm was (at_x stores x i was at))

pub returns-in-Ok-clause-calm : goal.returns-in-Ok-clause-calm
returns-in-Ok-clause-calm g c shut it e =
    let stores = c.args.self.now.stores.items in
    let x = c.args.set in
    let i = c.place_of.result in
    let was = c.index_mut-store.result.now in
    let at = found stores x i was c.place_of.ensures c.requires.has c.index_mut-store.ensures.value in
    let is = c.reopen.new.self in
    of_is stores x i was at is IsCalm (c.in-Ok.ensures.calm shut) it e

pub returns-in-Ok-clause-still_calm : goal.returns-in-Ok-clause-still_calm
returns-in-Ok-clause-still_calm g c calm it e =
    let stores = c.args.self.now.stores.items in
    let x = c.args.set in
    let i = c.place_of.result in
    let was = c.index_mut-store.result.now in
    let at = found stores x i was c.place_of.ensures c.requires.has c.index_mut-store.ensures.value in
    let is = c.reopen.new.self in
    of_is stores x i was at is IsCalm (c.reopen.ensures.still_calm (calm was (at_x stores x i was at))) it e

pub returns-in-Err-clause-still_calm : goal.returns-in-Err-clause-still_calm
returns-in-Err-clause-still_calm g c calm it e =
    let stores = c.args.self.now.stores.items in
    let x = c.args.set in
    let i = c.place_of.result in
    let was = c.index_mut-store.result.now in
    let at = found stores x i was c.place_of.ensures c.requires.has c.index_mut-store.ensures.value in
    let is = c.reopen.new.self in
    of_is stores x i was at is IsCalm (c.reopen.ensures.still_calm (calm was (at_x stores x i was at))) it e
