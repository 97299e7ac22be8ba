use Rattle.std.proofs.Common.{◌≡◌, refl, sym, subst, ◌∙◌}
use Rattle.vs_disk.specs.Model.{Keeps}
use Rattle.vs_store.specs.Holding.{Holds}
use Rattle.vs_store.specs.Store.{disk_of, told_of, IsReady, IsCalm}
use Rattle.vs_store.proofs.Told.{unwritten_same}
use Rattle.vs_stores.proofs.Lifting.{found, at_x, held, length_was, still, of_is, of_both, length_now, limits_now, count_now, others_now, same_told}
use Rattle.vs_stores.proofs.stores.Stores.forget_last.Goals as goal

pub forget_last-requires : goal.forget_last-requires
forget_last-requires g c =
    let stores = c.args.self.now.stores.items in
    let x = c.args.set in
    let i = c.place_of.result in
    let was = c.index_mut-store.result.now in
    let at = found stores x i was c.place_of.ensures c.requires.has c.index_mut-store.ensures.value in
    record { ready = c.requires.ready was (at_x stores x i was at) }

pub invariant_of-self-clause-limits : goal.invariant_of-self-clause-limits
invariant_of-self-clause-limits g c =
    let stores = c.args.self.now.stores.items in
    let x = c.args.set in
    let i = c.place_of.result in
    let was = c.index_mut-store.result.now in
    let at = found stores x i was c.place_of.ensures c.requires.has c.index_mut-store.ensures.value in
    let is = c.forget_last.new.self in
    limits_now stores x i was at is c.args.self.now.limit c.args.self.now.limits c.forget_last.ensures.limit

pub returns-clause-ready : goal.returns-clause-ready
returns-clause-ready g c it e =
    let stores = c.args.self.now.stores.items in
    let x = c.args.set in
    let i = c.place_of.result in
    let was = c.index_mut-store.result.now in
    let at = found stores x i was c.place_of.ensures c.requires.has c.index_mut-store.ensures.value in
    let is = c.forget_last.new.self in
    of_is stores x i was at is IsReady c.forget_last.ensures.ready it e

pub returns-clause-calm : goal.returns-clause-calm
returns-clause-calm g c it e =
    let stores = c.args.self.now.stores.items in
    let x = c.args.set in
    let i = c.place_of.result in
    let was = c.index_mut-store.result.now in
    let at = found stores x i was c.place_of.ensures c.requires.has c.index_mut-store.ensures.value in
    let is = c.forget_last.new.self in
    of_is stores x i was at is IsCalm c.forget_last.ensures.calm it e

pub returns-clause-still : goal.returns-clause-still
returns-clause-still g c due none all =
    let stores = c.args.self.now.stores.items in
    let x = c.args.set in
    let i = c.place_of.result in
    let was = c.index_mut-store.result.now in
    let at = found stores x i was c.place_of.ensures c.requires.has c.index_mut-store.ensures.value in
    let is = c.forget_last.new.self in
    still stores x i was at is due all
    (subst (Holds is (due x).head (due x).state) (sym none) (c.forget_last.ensures.held (due x).head (due x).state (subst (Holds was (due x).head (due x).state) none (held stores x i was at due all))))

pub returns-clause-length : goal.returns-clause-length
returns-clause-length g c =
    let stores = c.args.self.now.stores.items in
    let x = c.args.set in
    let i = c.place_of.result in
    let was = c.index_mut-store.result.now in
    let at = found stores x i was c.place_of.ensures c.requires.has c.index_mut-store.ensures.value in
    let is = c.forget_last.new.self in
    length_now stores x i was at is ∙ c.forget_last.ensures.length ∙ sym (length_was stores x i was at)

pub returns-clause-others : goal.returns-clause-others
returns-clause-others g c =
    let stores = c.args.self.now.stores.items in
    let x = c.args.set in
    let i = c.place_of.result in
    let was = c.index_mut-store.result.now in
    let at = found stores x i was c.place_of.ensures c.requires.has c.index_mut-store.ensures.value in
    let is = c.forget_last.new.self in
    record {
      count = count_now stores x i was at is;
      others = others_now stores x i was at is;
      spare = refl;
      limit = refl;
      keeps = of_both stores x i was at is (λ a b. Keeps (told_of a) (told_of b)) (same_told was is c.forget_last.ensures.disk (Keeps (told_of was)) (unwritten_same (told_of was) (g.met.D.Disk.lawful (disk_of was))).keeps);
    }

pub returns-clause-disk : goal.returns-clause-disk
returns-clause-disk g c =
    let stores = c.args.self.now.stores.items in
    let x = c.args.set in
    let i = c.place_of.result in
    let was = c.index_mut-store.result.now in
    let at = found stores x i was c.place_of.ensures c.requires.has c.index_mut-store.ensures.value in
    let is = c.forget_last.new.self in
    of_both stores x i was at is (λ a b. disk_of b ≡ disk_of a) c.forget_last.ensures.disk
