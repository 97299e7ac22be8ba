use Rattle.std.proofs.Common.{◌≡◌, ◌<◌, ◌≤◌, ◌+◌, ℕ, Some, refl, sym, ap, subst, ◌∙◌}
use Rattle.vs_disk.specs.Told.{Failed}
use Rattle.vs_disk.specs.Model.{Keeps, LeavesThrough}
use Rattle.vs_record.specs.Change.{change as plain_of}
use Rattle.vs_store.specs.Files.{StandsForSome}
use Rattle.vs_store.specs.Holding.{Holds}
use Rattle.vs_store.specs.Standing.{entry_len}
use Rattle.vs_store.specs.Store.{disk_of, told_of, length_of, length_with, IsReady, IsCalm}
use Rattle.vs_stores.specs.Due.{made, awaiting}
use Rattle.vs_store.proofs.Told.{unwritten_same}
use Rattle.vs_frame.specs.Unwritten.{IsUnwritten}
use Rattle.vs_stores.proofs.Faults.{append_refused, full_of, disk_fault_of, no_disk_fault_of}
use Rattle.vs_stores.proofs.Lifting.{found, at_x, held, length_was, limit_was, turned, still, of_is, of_both, length_now, limits_now, count_now, others_now}
use Rattle.vs_stores.proofs.stores.Stores.append.Goals as goal

pub append-requires-clause-fits : goal.append-requires-clause-fits
append-requires-clause-fits g c =
    let stores = c.args.self.now.stores.items in
    let x = c.args.set in
    let i = c.place_of.result in
    let was = c.index_mut-store.result.now in
    let at = found stores x i was c.place_of.ensures c.requires.has c.index_mut-store.ensures.value in
    c.requires.fits was (at_x stores x i was at)

pub append-requires-clause-ready : goal.append-requires-clause-ready
append-requires-clause-ready g c =
    let stores = c.args.self.now.stores.items in
    let x = c.args.set in
    let i = c.place_of.result in
    let was = c.index_mut-store.result.now in
    let at = found stores x i was c.place_of.ensures c.requires.has c.index_mut-store.ensures.value in
    c.requires.ready was (at_x stores x i was at)

pub invariant_of-self-clause-limits : goal.invariant_of-self-clause-limits
invariant_of-self-clause-limits g c =
    let stores = c.args.self.now.stores.items in
    let x = c.args.set in
    let i = c.place_of.result in
    let was = c.index_mut-store.result.now in
    let at = found stores x i was c.place_of.ensures c.requires.has c.index_mut-store.ensures.value in
    let is = c.append.new.self in
    limits_now stores x i was at is c.args.self.now.limit c.args.self.now.limits c.append.ensures.limit

pub returns-in-Ok-clause-made : goal.returns-in-Ok-clause-made
returns-in-Ok-clause-made g c =
    let stores = c.args.self.now.stores.items in
    let x = c.args.set in
    let i = c.place_of.result in
    let was = c.index_mut-store.result.now in
    let at = found stores x i was c.place_of.ensures c.requires.has c.index_mut-store.ensures.value in
    let is = c.append.new.self in
    let p = plain_of c.args.change.now in
    let limit = limit_was stores x i was at c.args.self.now.limit c.args.self.now.limits in
    record {
      ready = λ it e. of_is stores x i was at is IsReady c.in-Ok.ensures.ready it e;
      calm = λ it e. of_is stores x i was at is IsCalm c.in-Ok.ensures.calm it e;
      holds = λ due none all. turned stores x i was at is due (made (due x) p) all (c.in-Ok.ensures.appended (due x).head (due x).state (subst (Holds was (due x).head (due x).state) none (held stores x i was at due all)));
      length_is = length_now stores x i was at is ∙ c.in-Ok.ensures.length ∙ ap (λ (n : ℕ). n + entry_len p) (sym (length_was stores x i was at));
      room = subst (λ (n : ℕ). n + entry_len p ≤ c.args.self.now.limit) (sym (length_was stores x i was at)) (subst (λ (n : ℕ). length_with was p ≤ n) limit c.in-Ok.ensures.room);
    }

pub returns-in-Ok-clause-any_moment : goal.returns-in-Ok-clause-any_moment
returns-in-Ok-clause-any_moment g c due none all =
    let stores = c.args.self.now.stores.items in
    let x = c.args.set in
    let i = c.place_of.result in
    let was = c.index_mut-store.result.now in
    let at = found stores x i was c.place_of.ensures c.requires.has c.index_mut-store.ensures.value in
    let is = c.append.new.self in
    let p = plain_of c.args.change.now in
    of_both stores x i was at is (λ a b. LeavesThrough (told_of a) (told_of b) (StandsForSome (due x).head (due x).state (Some p))) (c.append.ensures.any_moment (due x).head (due x).state (subst (Holds was (due x).head (due x).state) none (held stores x i was at due all)))

pub returns-in-Ok-clause-others : goal.returns-in-Ok-clause-others
returns-in-Ok-clause-others g c =
    let stores = c.args.self.now.stores.items in
    let x = c.args.set in
    let i = c.place_of.result in
    let was = c.index_mut-store.result.now in
    let at = found stores x i was c.place_of.ensures c.requires.has c.index_mut-store.ensures.value in
    let is = c.append.new.self in
    record {
      count = count_now stores x i was at is;
      others = others_now stores x i was at is;
      spare = refl;
      limit = refl;
      keeps = of_both stores x i was at is (λ a b. Keeps (told_of a) (told_of b)) c.append.ensures.keeps;
    }

pub returns-in-Err-clause-pending : goal.returns-in-Err-clause-pending
returns-in-Err-clause-pending g c e =
    let stores = c.args.self.now.stores.items in
    let x = c.args.set in
    let i = c.place_of.result in
    let was = c.index_mut-store.result.now in
    let at = found stores x i was c.place_of.ensures c.requires.has c.index_mut-store.ensures.value in
    let is = c.append.new.self in
    let p = plain_of c.args.change.now in
    let limit = limit_was stores x i was at c.args.self.now.limit c.args.self.now.limits in
    let failed = disk_fault_of c.in-Err.fault c.of_store.result c.of_store.ensures e in
    record {
      failed = of_both stores x i was at is (λ a b. Failed (told_of a) (told_of b)) (c.in-Err.ensures.fault failed).0;
      holds = λ due none all. turned stores x i was at is due (awaiting (due x) p) all (c.in-Err.ensures.pending_held failed (due x).head (due x).state (subst (Holds was (due x).head (due x).state) none (held stores x i was at due all)));
      length_is = length_now stores x i was at is ∙ (c.in-Err.ensures.pending failed).1 ∙ sym (length_was stores x i was at);
      room = subst (λ (n : ℕ). n + entry_len p ≤ c.args.self.now.limit) (sym (length_was stores x i was at)) (subst (λ (n : ℕ). length_with was p ≤ n) limit (c.in-Err.ensures.fault failed).1);
    }

pub returns-in-Err-clause-refused : goal.returns-in-Err-clause-refused
returns-in-Err-clause-refused g c not_failed =
    let stores = c.args.self.now.stores.items in
    let x = c.args.set in
    let i = c.place_of.result in
    let was = c.index_mut-store.result.now in
    let at = found stores x i was c.place_of.ensures c.requires.has c.index_mut-store.ensures.value in
    let is = c.append.new.self in
    let not = no_disk_fault_of c.in-Err.fault c.of_store.result c.of_store.ensures not_failed in
    let ready : IsReady is = append_refused (IsReady is) c.in-Err.fault c.in-Err.ensures.cause not (λ len e. subst IsReady (sym (c.in-Err.ensures.full len e).2) (c.requires.ready was (at_x stores x i was at))) (λ e. (c.in-Err.ensures.memory e).0) in
    let length : length_of is ≡ length_of was = append_refused (length_of is ≡ length_of was) c.in-Err.fault c.in-Err.ensures.cause not (λ len e. ap length_of (c.in-Err.ensures.full len e).2) (λ e. (c.in-Err.ensures.memory e).1) in
    let unwritten : IsUnwritten (told_of was) (told_of is) = append_refused (IsUnwritten (told_of was) (told_of is)) c.in-Err.fault c.in-Err.ensures.cause not
    (λ len e. subst (λ s. IsUnwritten (told_of was) (told_of s)) (sym (c.in-Err.ensures.full len e).2) (unwritten_same (told_of was) (g.met.D.Disk.lawful (disk_of was)))) (λ e. (c.in-Err.ensures.memory e).2) in
    record {
      unwritten = of_both stores x i was at is (λ a b. IsUnwritten (told_of a) (told_of b)) unwritten;
      ready = λ it e. of_is stores x i was at is IsReady ready it e;
      calm = λ calm it e. of_is stores x i was at is IsCalm (c.in-Err.ensures.still_calm not (calm was (at_x stores x i was at))) it e;
      holds = λ due all. still stores x i was at is due all (c.in-Err.ensures.same not (due x).head (due x).state (due x).pending (held stores x i was at due all));
      length_is = length_now stores x i was at is ∙ length ∙ sym (length_was stores x i was at);
    }

pub returns-in-Err-clause-full : goal.returns-in-Err-clause-full
returns-in-Err-clause-full g c len e =
    let stores = c.args.self.now.stores.items in
    let x = c.args.set in
    let i = c.place_of.result in
    let was = c.index_mut-store.result.now in
    let at = found stores x i was c.place_of.ensures c.requires.has c.index_mut-store.ensures.value in
    let p = plain_of c.args.change.now in
    let limit = limit_was stores x i was at c.args.self.now.limit c.args.self.now.limits in
    let full = c.in-Err.ensures.full len (full_of c.in-Err.fault c.of_store.result len c.of_store.ensures e) in
    record {
      len_is = full.0 ∙ ap (λ (n : ℕ). n + entry_len p) (sym (length_was stores x i was at));
      above = subst (λ (n : ℕ). n < len) limit full.1;
    }

pub returns-in-Err-clause-any_moment : goal.returns-in-Err-clause-any_moment
returns-in-Err-clause-any_moment g c due none all =
    let stores = c.args.self.now.stores.items in
    let x = c.args.set in
    let i = c.place_of.result in
    let was = c.index_mut-store.result.now in
    let at = found stores x i was c.place_of.ensures c.requires.has c.index_mut-store.ensures.value in
    let is = c.append.new.self in
    let p = plain_of c.args.change.now in
    of_both stores x i was at is (λ a b. LeavesThrough (told_of a) (told_of b) (StandsForSome (due x).head (due x).state (Some p))) (c.append.ensures.any_moment (due x).head (due x).state (subst (Holds was (due x).head (due x).state) none (held stores x i was at due all)))

pub returns-in-Err-clause-others : goal.returns-in-Err-clause-others
returns-in-Err-clause-others g c =
    let stores = c.args.self.now.stores.items in
    let x = c.args.set in
    let i = c.place_of.result in
    let was = c.index_mut-store.result.now in
    let at = found stores x i was c.place_of.ensures c.requires.has c.index_mut-store.ensures.value in
    let is = c.append.new.self in
    record {
      count = count_now stores x i was at is;
      others = others_now stores x i was at is;
      spare = refl;
      limit = refl;
      keeps = of_both stores x i was at is (λ a b. Keeps (told_of a) (told_of b)) c.append.ensures.keeps;
    }
