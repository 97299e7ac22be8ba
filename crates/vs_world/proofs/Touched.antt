-- A world over journals, of which that of set x was touched.
use Rattle.std.proofs.Common.{◌≡◌, ◌≢◌, inl, ⊎_elim, ℕ, suc, ◌<◌, ◌≤◌, Bool, true, false, length, Option, Some, None, Ok, refl, sym, ap, subst, ◌∙◌, arith}
use Rattle.std.specs.Prelude.{if◌then◌else◌}
use Rattle.std.specs.Option.{option_map_or}
use Rattle.std.proofs.lemmas.Bool.{cases_eq}
use Rattle.vs_base.specs.Listed.{Listed}
use Rattle.vs_config.specs.Configuration.{Configuration}
use Rattle.vs_core.specs.Core as core
use Rattle.vs_disk.specs.declared.disk.Disk.{Ghosts}
use Rattle.vs_disk.specs.Told.{Told}
use Rattle.vs_disk.specs.Model.{IsLawful, Keeps, LeavesThrough}
use Rattle.vs_disk.proofs.Runs.{started, weakened_through}
use Rattle.vs_event.specs.declared.event.Event.{Event}
use Rattle.vs_event.specs.declared.event.Event.TheVariants.{Restart}
use Rattle.vs_event.specs.declared.event.RestartBy.{RestartBy}
use Rattle.vs_machine.specs.Journals.{durable_of, KeepsJournals, MayWrite}
use Rattle.vs_machine.specs.State.{State, has_set, sets_of}
use Rattle.vs_machine.specs.Step.{step}
use Rattle.vs_machine.specs.Tables.{put, is_to}
use Rattle.vs_machine.proofs.Frame.{put_here, put_there}
use Rattle.vs_record.specs.Change.{Change}
use Rattle.vs_state.specs.Guard.{verdict}
use Rattle.vs_store.specs.Files.{StandsForSome, taken}
use Rattle.vs_store.specs.Holding.{Holds}
use Rattle.vs_store.specs.Store.{disk_of, told_of}
use Rattle.vs_store.specs.declared.store.Store.{Store}
use Rattle.vs_stores.specs.Calls.{AwaitsAt, IsSafeThrough, IsTooLong, StillAwait, StillBare, Turns}
use Rattle.vs_stores.specs.Due.{Due, HoldsDue, decided}
use Rattle.vs_stores.specs.Stores.{AllHold, HasSet, IsCalmAt, IsReadyAt, KeepsOthers, OfBoth, OfStore, store_at, faults_at, limit_of}
use Rattle.vs_stores.specs.declared.stores.Stores.{Stores}
use Rattle.vs_stores.proofs.Lists.{some_is}
use Rattle.vs_world.specs.declared.opening.Opening.{Opening}
use Rattle.vs_world.specs.Journals.{head_of, FitsFile}
use Rattle.vs_world.specs.Played.{IsAdvanced, IsSame}
use Rattle.vs_world.specs.Touched.{IsTouched, IsStill, IsFit, IsPastLimit}
use Rattle.vs_world.specs.Whole.{IsWhole, due_of, played_in, shown}
use Rattle.vs_world.specs.World.{KeepsDisks}
use Rattle.vs_world.proofs.Disks.{disk_count, has_new, is_set, holds_at, keeps_disks, keeps_itself, store_of}
use Rattle.vs_world.proofs.Playing.{is_run_more, is_run_same}
use Rattle.vs_world.proofs.Restarted.{has_here, has_away, restarts_set, was_up}

-- ---- calls of one store, one after the other

module _ {D : Type 0} {disk : Ghosts D} (s : State) (old mid new : Stores D disk) (x : ℕ) where
  -- the first call answered, and what isn't needed any more is forgotten, without a word to the disk
  module _ (has : HasSet old x) (first : IsTouched s old mid x) (others : KeepsOthers mid new x) (same : OfBoth mid new x (λ a b. disk_of b ≡ disk_of a)) where
    -- the store between both
    between : (P : Told → Type 0) → OfStore mid x (λ it. P (told_of it)) → OfStore new x (λ it. P (told_of it))
    between P here b at_b =
        let a = store_of mid x (has_new old mid x first.others has) in
        subst (λ (d : D). P (disk.told d)) (sym (same a.0 b a.1 at_b)) (here a.0 a.1)

    pub touched_on : IsTouched s old new x
    touched_on = record {
      others = record {
        count = others.count ∙ first.others.count;
        others = λ y ne. others.others y ne ∙ first.others.others y ne;
        spare = others.spare ∙ first.others.spare;
        limit = others.limit ∙ first.others.limit;
        keeps = λ a b at_a at_b. between (Keeps (told_of a)) (λ it at. first.others.keeps a it at_a at) b at_b;
      };
      any_moment = λ a b at_a at_b. between (λ told. LeavesThrough (told_of a) told (FitsFile s x)) (λ it at. first.any_moment a it at_a at) b at_b;
    }

-- what is pending of set x is decided
bare_at : (due : ℕ → Due) (x : ℕ) (kept : Bool) → (put due x (decided (due x) kept) x).pending ≡ None
bare_at due x kept = ap (λ (o : Due). o.pending) (put_here due x (decided (due x) kept))

module _ {D : Type 0} {disk : Ghosts D} (s : State) (old new : Stores D disk) (x : ℕ) (hold : AllHold old (due_of s)) where
  -- looked at, and then forgotten
  pub fit_on : (mid : Stores D disk) (kept : Bool) → ((pending : Option Change) → Turns old mid x pending (λ o. decided o kept)) → StillBare mid new x → IsReadyAt new x → IsCalmAt new x → IsFit s new x kept
  fit_on mid kept turns bare ready calm = record {
    hold = bare (put (due_of s) x (decided (due_of s x) kept)) (bare_at (due_of s) x kept) (turns (s.pending x) (due_of s) refl hold);
    ready = ready;
    calm = calm;
  }

  module _ (pending : Option Change) (is : s.pending x ≡ pending) where
    pub touched_by : KeepsOthers old new x → IsSafeThrough old new x pending pending → IsTouched s old new x
    touched_by others safe = record {
      others = others;
      any_moment = λ a b at_a at_b. subst (λ (o : Option Change). LeavesThrough (told_of a) (told_of b) (StandsForSome (head_of s.config x) (durable_of s x) o)) (sym is) (safe (due_of s) is hold a b at_a at_b);
    }

    pub fit_by : (kept : Bool) → Turns old new x pending (λ o. decided o kept) → IsReadyAt new x → IsCalmAt new x → IsFit s new x kept
    fit_by kept turns ready calm = record { hold = turns (due_of s) is hold; ready = ready; calm = calm }

  module _ (change : Change) (is : s.pending x ≡ Some change) where
    pub awaits : MayWrite s x change → AwaitsAt old x change
    awaits may it at = record {
      head = head_of s.config x;
      state = durable_of s x;
      holds = subst (λ (o : Option Change). Holds it (head_of s.config x) (durable_of s x) o) is (holds_at old (due_of s) x it hold at);
      fits = may.fitting;
    }

    pub still_by : StillAwait old new x change → IsStill s new x
    still_by still = record { hold = still (due_of s) is hold; calm = λ none. absurd (cc (none, is)) }

    pub past_limit : (len : ℕ) → IsTooLong new x change len → IsReadyAt new x → IsPastLimit s new x
    past_limit len long ready = record { change = change; pending_is = is; above = subst (λ (n : ℕ). limit_of new < n) long.len_is long.above; ready = ready }

-- where nothing is pending it is the same whether that is kept
pub fit_none : {D : Type 0} {disk : Ghosts D} (s : State) (all : Stores D disk) (x : ℕ) (found kept : Bool) → s.pending x ≡ None → IsFit s all x found → IsFit s all x kept
fit_none {D = D} {disk = disk} s all x found kept none fit = record {
  hold = subst (λ (o : Due). AllHold all (put (due_of s) x o)) (λ i. record { head = head_of s.config x; state = same i; pending = None }) fit.hold;
  ready = fit.ready;
  calm = fit.calm;
}
  where
    as_it_is : (k : Bool) (o : Option Change) → o ≡ None → (if k then taken (durable_of s x) o else durable_of s x) ≡ durable_of s x
    as_it_is true None e = refl
    as_it_is true (Some c) e = absurd cc
    as_it_is false o e = refl

    same : (if found then taken (durable_of s x) (s.pending x) else durable_of s x) ≡ (if kept then taken (durable_of s x) (s.pending x) else durable_of s x)
    same = as_it_is found (s.pending x) none ∙ sym (as_it_is kept (s.pending x) none)

-- nothing was touched
pub untouched : {D : Type 0} {disk : Ghosts D} (s : State) (all : Stores D disk) (x : ℕ) → ((d : D) → IsLawful (disk.told d)) → AllHold all (due_of s) → IsTouched s all all x
untouched {D = D} {disk = disk} s all x laws hold = record {
  others = record {
    count = refl;
    others = λ y ne. refl;
    spare = refl;
    limit = refl;
    keeps = λ a b at_a at_b. subst (λ (it : Store D disk). Keeps (told_of a) (told_of it)) (some_is a b (sym at_a ∙ at_b)) (keeps_itself (told_of a));
  };
  any_moment = λ a b at_a at_b. subst (λ (it : Store D disk). LeavesThrough (told_of a) (told_of it) (FitsFile s x)) (some_is a b (sym at_a ∙ at_b))
      (λ honest. started (told_of a) (FitsFile s x) (λ file left. (holds_at all (due_of s) x a hold at_a).leaves honest file ((laws (disk_of a)).only_now honest file left)));
}

-- ---- the world

-- it has the set that is to be up again
pub has_restarted : {D : Type 0} {disk : Ghosts D} (c : core.Shown) (events : Listed Event) (opening : Opening) (all : Stores D disk) (x : ℕ) (kept : Bool) (by : RestartBy)
    → IsWhole c events opening all → verdict (step (core.means c) (Restart x kept by)) ≡ Ok tt → HasSet all x
has_restarted c events opening all x kept by whole may =
    let range = is_set (sets_of (core.means c)) x (restarts_set (core.means c) x kept by may) in
    (range.0, omega (arith, range.1, whole.sets))

module _ {D : Type 0} {disk : Ghosts D} (c c' : core.Shown) (events events' : Listed Event) (opening : Opening) (old new : Stores D disk) (x : ℕ)
    (whole : IsWhole c events opening old) (has : HasSet old x) (touched : IsTouched (core.means c) old new x) where
  pub touched_disks : ((d : D) → IsLawful (disk.told d)) → (kept : Bool) (by : RestartBy) → KeepsDisks disk.told (shown c events opening old) (shown c' events' opening new) (Restart x kept by)
  touched_disks laws kept by = keeps_disks laws c c' events events' opening old new x whole has touched.others
      (λ a b at_a at_b. weakened_through (told_of a) (told_of b) (FitsFile (core.means c) x) _ (λ file fits. inl fits) (touched.any_moment a b at_a at_b))
      (Restart x kept by) (λ y ne. ne)

  -- what is said of another store it still has
  other_store : (P : Store D disk → Type 0) (y : ℕ) → y ≢ x → OfStore old y P → OfStore new y P
  other_store P y ne here it at = here it (sym (touched.others.others y ne) ∙ at)

  faults_of : (all : Stores D disk) (y : ℕ) (o : Option (Store D disk)) → store_at all y ≡ o → faults_at all y ≡ option_map_or (λ (it : Store D disk). (told_of it).faults) o 0
  faults_of all y o at = ap (λ (it : Option (Store D disk)). option_map_or (λ (it : Store D disk). (told_of it).faults) it 0) at

  faults_grow : (y : ℕ) → faults_at old y ≤ faults_at new y
  faults_grow y = ⊎_elim here away (cases_eq y x)
    where
      away : y ≢ x → faults_at old y ≤ faults_at new y
      away ne = omega (arith, faults_of new y (store_at old y) (touched.others.others y ne))

      here : y ≡ x → faults_at old y ≤ faults_at new y
      here e =
          let a = store_of old x has in
          let b = store_of new x (has_new old new x touched.others has) in
          let keeps = touched.others.keeps a.0 b.0 a.1 b.1 in
          subst (λ (z : ℕ). faults_at old z ≤ faults_at new z) (sym e) (omega (arith, keeps.faults, faults_of old x _ a.1, faults_of new x _ b.1))

  module _ (down : (core.means c).up x ≡ false) where
    away_up : (y : ℕ) → (core.means c).up y ≡ true → y ≢ x
    away_up y up e = let here : (core.means c).up x ≡ true = subst (λ (z : ℕ). (core.means c).up z ≡ true) e up in cc

    -- nothing happened in it
    pub still_whole : IsSame (played_in c events opening) (played_in c' events' opening) → (c'.is_reserved ≡ true → 1 ≤ events'.room) → IsStill (core.means c) new x → IsWhole c' events' opening new
    still_whole same room still = record {
      run = is_run_same (played_in c events opening) (played_in c' events' opening) whole.run same;
      limit = touched.others.limit ∙ whole.limit;
      sets = touched.others.count ∙ whole.sets ∙ ap sets_of (sym same.state);
      disks = disk_count old new x touched.others ∙ whole.disks;
      hold = subst (λ (s : State). AllHold new (due_of s)) (sym same.state) still.hold;
      ready = λ y up.
          let was : (core.means c).up y ≡ true = subst (λ (s : State). s.up y ≡ true) same.state up in
          other_store _ y (away_up y was) (whole.ready y was);
      calm = λ y none.
          let was : (core.means c).pending y ≡ None = subst (λ (s : State). s.pending y ≡ None) same.state none in
          ⊎_elim (λ e. subst (λ (z : ℕ). IsCalmAt new z) (sym e) (still.calm (subst (λ (z : ℕ). (core.means c).pending z ≡ None) e was))) (λ ne. other_store _ y ne (whole.calm y was)) (cases_eq y x);
      faults = λ y there. omega (arith, faults_grow y, whole.faults y (subst (λ (s : State). has_set s y ≡ true) same.state there));
      room = room;
    }

    -- the set is up again
    pub raised_whole : (kept : Bool) (by : RestartBy) → IsAdvanced (played_in c events opening) (played_in c' events' opening) (Restart x kept by) → KeepsJournals (core.means c) (core.means c') (Restart x kept by)
        → (core.means c').config ≡ (core.means c).config → c'.is_reserved ≡ false → IsFit (core.means c) new x kept → IsWhole c' events' opening new
    raised_whole kept by more law config spent fit = record {
      run = is_run_more (played_in c events opening) (played_in c' events' opening) (Restart x kept by) whole.run more;
      limit = touched.others.limit ∙ whole.limit;
      sets = touched.others.count ∙ whole.sets ∙ ap (λ (it : Configuration). length it.sets) (sym config);
      disks = disk_count old new x touched.others ∙ whole.disks;
      hold = λ i it at. subst (HoldsDue it) (due_is (suc i)) (fit.hold i it at);
      ready = λ y up. ⊎_elim
          (λ e. subst (λ (z : ℕ). IsReadyAt new z) (sym e) fit.ready)
          (λ ne. other_store _ y ne (whole.ready y (was_up s t x kept by down more.step y ne up))) (cases_eq y x);
      calm = λ y none. ⊎_elim
          (λ e. subst (λ (z : ℕ). IsCalmAt new z) (sym e) fit.calm)
          (λ ne. other_store _ y ne (whole.calm y (sym (pending_away y ne) ∙ none))) (cases_eq y x);
      faults = λ y there. omega (arith, faults_grow y, whole.faults y (subst (λ (it : Configuration). is_to (length it.sets) y ≡ true) config there));
      room = λ reserved. absurd (cc (reserved, spent));
    }
      where
        s : State
        s = core.means c

        t : State
        t = core.means c'

        pending_here : None ≡ t.pending x
        pending_here = sym ((λ i. law.pending_is i x) ∙ put_here s.pending x None)

        pending_away : (y : ℕ) → y ≢ x → t.pending y ≡ s.pending y
        pending_away y ne = (λ i. law.pending_is i y) ∙ put_there s.pending x None y ne

        due_here : decided (due_of s x) kept ≡ due_of t x
        due_here = λ i. record { head = head_of (sym config i) x; state = sym (has_here s t x by kept down law) i; pending = pending_here i }

        due_away : (y : ℕ) → y ≢ x → due_of s y ≡ due_of t y
        due_away y ne = λ i. record { head = head_of (sym config i) y; state = sym (has_away s t x by kept law y ne) i; pending = sym (pending_away y ne) i }

        due_is : (y : ℕ) → put (due_of s) x (decided (due_of s x) kept) y ≡ due_of t y
        due_is y = ⊎_elim
            (λ e. subst (λ (z : ℕ). put (due_of s) x (decided (due_of s x) kept) z ≡ due_of t z) (sym e) (put_here (due_of s) x (decided (due_of s x) kept) ∙ due_here))
            (λ ne. put_there (due_of s) x (decided (due_of s x) kept) y ne ∙ due_away y ne) (cases_eq y x)
