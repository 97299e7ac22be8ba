-- The parts of a world after a call of one journal.
use Rattle.std.proofs.Common.{◌≡◌, ◌≢◌, ⊎_elim, ℕ, ◌≤◌, true, length, Option, None, refl, sym, ap, subst, ◌∙◌, arith}
use Rattle.std.proofs.lemmas.Bool.{cases_eq}
use Rattle.std.specs.Option.{option_map_or}
use Rattle.vs_base.specs.Listed.{Listed}
use Rattle.vs_config.specs.Configuration.{Configuration}
use Rattle.vs_core.specs.Core as core
use Rattle.vs_disk.specs.declared.disk.Disk.{Ghosts}
use Rattle.vs_disk.specs.Model.{Keeps}
use Rattle.vs_event.specs.declared.event.Event.{Event}
use Rattle.vs_machine.specs.State.{State, has_set}
use Rattle.vs_machine.specs.Tables.{is_to}
use Rattle.vs_store.specs.Store as store
use Rattle.vs_store.specs.Store.{told_of}
use Rattle.vs_store.specs.declared.store.Store.{Store}
use Rattle.vs_stores.specs.Calls.{StillHold}
use Rattle.vs_stores.specs.Stores.{AllHold, HasSet, OfStore, IsReadyAt, IsCalmAt, KeepsOthers, faults_at}
use Rattle.vs_stores.specs.declared.stores.Stores.{Stores}
use Rattle.vs_world.specs.Began.{begun}
use Rattle.vs_world.specs.declared.opening.Opening.{Opening}
use Rattle.vs_world.specs.Played.{IsRun}
use Rattle.vs_world.specs.Whole.{IsWhole, due_of, played_in}
use Rattle.vs_stores.proofs.Lists.{some_is}
use Rattle.vs_world.proofs.Disks.{store_of, has_new, disk_count, keeps_itself}
use Rattle.vs_world.proofs.Kept.{has_store}
use Rattle.vs_world.proofs.Playing.{is_run_same}

module _ {D : Type 0} {disk : Ghosts D} (old new : Stores D disk) (x : ℕ) (kept : KeepsOthers old new x) where
  -- the store of another set is the same
  pub of_other : (P : Store D disk → Type 0) (y : ℕ) → y ≢ x → OfStore old y P → OfStore new y P
  of_other P y ne p it at = p it (sym (kept.others y ne) ∙ at)

  pub lifted : (P : Store D disk → Type 0) → (OfStore old x P → OfStore new x P) → (y : ℕ) → OfStore old y P → OfStore new y P
  lifted P here y = ⊎_elim (λ e. subst (λ (z : ℕ). OfStore old z P → OfStore new z P) (sym e) here) (λ ne. of_other P y ne) (cases_eq y x)

  -- a disk fails no less often
  faults_here : HasSet old x → faults_at old x ≤ faults_at new x
  faults_here has =
      let a = store_of old x has in
      let b = store_of new x (has_new old new x kept has) in
      let was : faults_at old x ≡ (told_of a.0).faults = ap (λ (o : Option (Store D disk)). option_map_or (λ (it : Store D disk). (told_of it).faults) o 0) a.1 in
      let is : faults_at new x ≡ (told_of b.0).faults = ap (λ (o : Option (Store D disk)). option_map_or (λ (it : Store D disk). (told_of it).faults) o 0) b.1 in
      let rose : (told_of a.0).faults ≤ (told_of b.0).faults = (kept.keeps a.0 b.0 a.1 b.1).faults in
      omega (arith, was, is, rose)

  pub faults_later : (y : ℕ) → HasSet old y → faults_at old y ≤ faults_at new y
  faults_later y has = ⊎_elim
      (λ e. subst (λ (z : ℕ). HasSet old z → faults_at old z ≤ faults_at new z) (sym e) faults_here has)
      (λ ne. let same : faults_at new y ≡ faults_at old y = ap (λ (o : Option (Store D disk)). option_map_or (λ (it : Store D disk). (told_of it).faults) o 0) (kept.others y ne) in omega (arith, same))
      (cases_eq y x)

module _ {D : Type 0} {disk : Ghosts D} (c c' : core.Shown) (events events' : Listed Event) (opening : Opening) (old new : Stores D disk) (x : ℕ) (whole : IsWhole c events opening old) (kept : KeepsOthers old new x) where
  -- with another state
  pub whole_more : IsRun (played_in c' events' opening) → (core.means c').config ≡ (core.means c).config → AllHold new (due_of (core.means c'))
      → ((y : ℕ) → (core.means c').up y ≡ true → IsReadyAt new y) → ((y : ℕ) → (core.means c').pending y ≡ None → IsCalmAt new y)
      → (c'.is_reserved ≡ true → 1 ≤ events'.room) → IsWhole c' events' opening new
  whole_more run config hold ready calm room = record {
    run = run;
    limit = kept.limit ∙ whole.limit;
    sets = kept.count ∙ whole.sets ∙ ap (λ (k : Configuration). length k.sets) (sym config);
    disks = disk_count old new x kept ∙ whole.disks;
    hold = hold;
    ready = ready;
    calm = calm;
    faults = λ y there.
        let here : has_set (core.means c) y ≡ true = subst (λ (k : Configuration). is_to (length k.sets) y ≡ true) config there in
        let before : (begun opening).faults y ≤ faults_at old y = whole.faults y here in
        let later : faults_at old y ≤ faults_at new y = faults_later old new x kept y (has_store c events opening old whole y here) in
        omega (arith, before, later);
    room = room;
  }

  -- with the same state
  pub whole_same : core.means c' ≡ core.means c → events'.items ≡ events.items → StillHold old new
      → (IsReadyAt old x → IsReadyAt new x) → (IsCalmAt old x → IsCalmAt new x) → (c'.is_reserved ≡ true → 1 ≤ events'.room) → IsWhole c' events' opening new
  whole_same same listed still ready calm room = whole_more
      (is_run_same (played_in c events opening) (played_in c' events' opening) whole.run (record { state = same; events = listed; opening = refl }))
      (ap (λ (s : State). s.config) same)
      (subst (λ (s : State). AllHold new (due_of s)) (sym same) (still (due_of (core.means c)) whole.hold))
      (λ y up. lifted old new x kept store.IsReady ready y (whole.ready y (ap (λ (s : State). s.up y) (sym same) ∙ up)))
      (λ y none. lifted old new x kept store.IsCalm calm y (whole.calm y (ap (λ (s : State). s.pending y) (sym same) ∙ none)))
      room

-- nothing was called
pub untouched_stores : {D : Type 0} {disk : Ghosts D} (all : Stores D disk) (x : ℕ) → KeepsOthers all all x
untouched_stores {D = D} {disk = disk} all x = record {
  count = refl;
  others = λ y ne. refl;
  spare = refl;
  limit = refl;
  keeps = λ was is before after. subst (λ (it : Store D disk). Keeps (told_of was) (told_of it)) (some_is was is (sym before ∙ after)) (keeps_itself (told_of was));
}
