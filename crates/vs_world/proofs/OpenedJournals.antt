-- What opening the journals of a cluster gives.
use Rattle.std.proofs.Common.{◌≡◌, ◌≢◌, inl, inr, ℕ, zero, suc, ◌+◌, ◌-◌, ◌<◌, ◌≤◌, Bool, true, false, List, [], length, map, Option, Some, None, Result, Ok, Err, refl, sym, ap, subst, ◌∙◌, arith, length-append, length-drop}
use Rattle.std.specs.Prelude.{slice_get, IsOkAnd, IsTrue, IfErr}
use Rattle.std.proofs.lemmas.List.{length-map, length-replicate}
use Rattle.std.specs.Option.{option_map_or}
use Rattle.std.proofs.lemmas.Option.{slice_get_within}
use Rattle.vs_config.specs.Configuration.{Configuration}
use Rattle.vs_core.specs.Booted.{shares_of}
use Rattle.vs_core.specs.Booting.{AreNewStates}
use Rattle.vs_core.specs.Opened.{held}
use Rattle.vs_core.proofs.Booted.{are_shares}
use Rattle.vs_core.proofs.Booting.{held_is}
use Rattle.vs_disk.specs.declared.disk.Disk.{Ghosts}
use Rattle.vs_disk.specs.Told.{Told, Reads}
use Rattle.vs_disk.proofs.Runs.{weakened_through}
use Rattle.vs_frame.specs.declared.head.Head.{Head}
use Rattle.vs_record.specs.Durable.{Durable, booted}
use Rattle.vs_record.specs.States.{durable}
use Rattle.vs_record.specs.declared.set_state.SetState.{SetState}
use Rattle.vs_machine.specs.Journals.{nothing}
use Rattle.vs_machine.specs.Tables.{is_to}
use Rattle.vs_script.specs.Lawful.{IsWithin}
use Rattle.vs_script.specs.Scripts.{Scripts}
use Rattle.vs_state.specs.Tables.{numbered}
use Rattle.vs_store.specs.Files.{StandsFor}
use Rattle.vs_store.specs.Holding.{Holds}
use Rattle.vs_store.specs.Opening as store
use Rattle.vs_store.specs.Opening.{IsOnItsWay, IsAsItWas, IsBeforeOrAsItWas, IsOpenedDisk, HasRoom}
use Rattle.vs_store.specs.Standing.{Standing, opened}
use Rattle.vs_store.specs.Store.{disk_of, told_of, IsReady, IsCalm}
use Rattle.vs_store.specs.declared.fault.StoreFault.{StoreFault}
use Rattle.vs_store.specs.declared.fault.StoreFault.TheVariants.{DiskFault}
use Rattle.vs_store.specs.declared.store.Store.{Store}
use Rattle.vs_stores.specs.Numbered.{at_number}
use Rattle.vs_stores.specs.OpenedStores as stores
use Rattle.vs_stores.specs.OpenedStores.{AreUnwritten, AreEmpty, HasBytes, HasFailed, AreOpened, AreNotOpened}
use Rattle.vs_stores.specs.Stores.{stores_of, spare_of, disks_of, store_at}
use Rattle.vs_stores.specs.declared.fault.OpenFault.{OpenFault}
use Rattle.vs_stores.specs.declared.fault.OpenFault.TheVariants.{OfSet as OfOpened, NoMemory as NoOpenMemory}
use Rattle.vs_stores.specs.declared.stores.Stores.{Stores}
use Rattle.vs_stores.proofs.Lists.{some_is, get_within, drop_get, back_get}
use Rattle.vs_stores.proofs.Opening.{not_ready}
use Rattle.vs_world.specs.Beginning.{AreReadyToBegin, BeginsWith, IsBeginFault, of_journals}
use Rattle.vs_world.specs.Heads.{heads_from, shares_in, AreHeads}
use Rattle.vs_world.specs.Journals.{head_of}
use Rattle.vs_world.specs.NotOpened.{IsRefusedAt, IsNotOpened, IsOpenCause}
use Rattle.vs_world.specs.Opened.{IsSet, OfGiven, new_state, IsEmpty, AreStoodFor, AreOpenedDisks, IsOpened}
use Rattle.vs_world.specs.Played.{began}
use Rattle.vs_world.specs.World.{World, disk_at}
use Rattle.vs_world.specs.declared.fault.WorldFault.{WorldFault}
use Rattle.vs_world.specs.declared.fault.WorldFault.TheVariants.{OfSet, Incoherent, NoMemory}
use Rattle.vs_world.proofs.Disks.{is_set, store_of, disk_of_store}
use Rattle.vs_world.proofs.Headed.{IsOfSet, of_set, as_many, begins_with_none, begins_with_shares, none_is_nothing}

-- ---- nobody looks again at the buckets that a head names

module _ (uuid : List ℕ) (n f c : ℕ) where
  abbrev naming : Head
  naming = record { uuid = uuid; bucket_count = n; boot_first = f; boot_count = c }

  abbrev bare : Head
  bare = record { uuid = uuid; bucket_count = n; boot_first = 0; boot_count = 0 }

  on_its_way : (file now : List ℕ) → IsOnItsWay naming file now → IsOnItsWay bare file now
  on_its_way file now w = record { from = w.from; opens = w.opens; version = w.version; now = w.now }

  as_it_was : (file now : List ℕ) → IsAsItWas naming file now → IsAsItWas bare file now
  as_it_was file now (inl same) = inl same
  as_it_was file now (inr w) = inr (on_its_way file now w)

  before_or : (old : Told) (now : List ℕ) → IsBeforeOrAsItWas naming old now → IsBeforeOrAsItWas bare old now
  before_or old now (inl left) = inl left
  before_or old now (inr is) = inr (as_it_was old.reads_as now is)

  pub bare_disk : (old new : Told) → IsOpenedDisk naming old new → IsOpenedDisk bare old new
  bare_disk old new x = record {
    keeps = x.keeps;
    reads = λ tells some. as_it_was old.reads_as new.reads_as (x.reads tells some);
    any_moment = λ tells some. weakened_through old new (IsBeforeOrAsItWas naming old) (IsBeforeOrAsItWas bare old) (before_or old) (x.any_moment tells some);
    torn = x.torn;
    torn_any_moment = x.torn_any_moment;
  }

  pub bare_refused : (limit : ℕ) (old : Told) (fault : StoreFault) (new : Told) → store.IsNotOpened naming limit old fault new → store.IsNotOpened bare limit old fault new
  bare_refused limit old fault new x = record {
    disk = bare_disk old new x.disk;
    refused = x.refused;
    full = x.full;
    full_is = x.full_is;
    unwritten = x.unwritten;
    failed = x.failed;
  }

  pub bare_holds : {D : Type 0} {disk : Ghosts D} (it : Store D disk) (d : Durable) → Holds it naming d None → Holds it bare d None
  bare_holds it d x = record {
    stands = x.stands;
    leaves = x.leaves;
    knows = λ tells. let k = x.knows tells in record { now = k.now; here = k.here; own = k.own; tried = k.tried };
  }

and_so : {X E : Type 0} (r : Result X E) (P Q : X → Type 0) → ((x : X) → P x → Q x) → IsOkAnd r P → IsOkAnd r Q
and_so (Ok x) P Q then holds = then x holds
and_so (Err e) P Q then holds = holds

-- ---- the head of a set

-- what holds of a head without its buckets holds of that of the set
pub as_own : (config : Configuration) (i : ℕ) (head : Head) → IsOfSet config.bucket_count config.sets i head → (P : Head → Type 0) → P (bare head.uuid head.bucket_count head.boot_first head.boot_count) → P (head_of config (suc i))
as_own config i head is P holds =
    let same : bare head.uuid head.bucket_count head.boot_first head.boot_count ≡ head_of config (suc i) = λ j. record { uuid = is.uuid j; bucket_count = is.bucket_count j; boot_first = 0; boot_count = 0 } in
    subst P same holds

module _ (config : Configuration) (is_new : Bool) (heads : List Head) (heads_are : AreHeads config is_new heads) (heads_count : length heads ≡ length config.sets) where
  -- the head of set i + 1
  own : (i : ℕ) (head : Head) → slice_get heads i ≡ Some head → IsOfSet config.bucket_count config.sets i head
  own i head at = of_set config.bucket_count 1 config.sets (shares_in config is_new) i head (subst (λ (l : List Head). slice_get l i ≡ Some head) heads_are at)

  head_there : (i : ℕ) → IsSet config (suc i) → (head : Head) × (slice_get heads i ≡ Some head)
  head_there i set = get_within heads i (omega (arith, set.1, heads_count))

module _ {D : Type 0} {disk : Ghosts D} (config : Configuration) (is_new : Bool) (heads : List Head) (heads_are : AreHeads config is_new heads) (heads_count : length heads ≡ length config.sets) where
  -- ---- what became of the disks

  pub disks_opened : (before after : List D) → stores.AreOpenedDisks disk.told heads before after → AreOpenedDisks disk.told config before after
  disks_opened before after x = record { count = x.count; of_sets = of_sets; spare = spare }
    where
      of_sets : (y : ℕ) (was is : D) → IsSet config y → at_number before y ≡ Some was → at_number after y ≡ Some is → IsOpenedDisk (head_of config y) (disk.told was) (disk.told is)
      of_sets zero was is set w e = absurd (omega (arith, set.0))
      of_sets (suc i) was is set w e =
          let head = head_there config is_new heads heads_are heads_count i set in
          as_own config i head.0 (own config is_new heads heads_are heads_count i head.0 head.1) (λ (h : Head). IsOpenedDisk h (disk.told was) (disk.told is))
          (bare_disk head.0.uuid head.0.bucket_count head.0.boot_first head.0.boot_count (disk.told was) (disk.told is) (x.of_sets i head.0 was is head.1 w e))

      spare : (y : ℕ) → length config.sets < y → at_number after y ≡ at_number before y
      spare zero above = refl
      spare (suc i) above =
          let k = length heads in
          let there : k + (i - k) ≡ i = omega (arith, above, heads_count) in
          ap (λ (j : ℕ). slice_get after j) (sym there) ∙ sym (drop_get after k (i - k)) ∙ ap (λ (l : List D). slice_get l (i - k)) x.spare ∙ drop_get before k (i - k) ∙ ap (λ (j : ℕ). slice_get before j) there

  -- ---- why they weren't opened

  pub refused_at : (limit : ℕ) (before after : List D) (x : ℕ) (fault : StoreFault) → stores.IsRefusedAt disk.told heads limit before after x fault → IsRefusedAt disk.told config limit before after x fault
  refused_at limit before after x fault r = record {
    set = set;
    known = r.known;
    refused = λ was is w e. refused x set r.refused was is w e;
    first = λ other y below. first other y below;
  }
    where
      set : IsSet config x
      set = (r.within.0, omega (arith, r.within.1, heads_count))

      refused : (y : ℕ) → IsSet config y → ((head : Head) (was is : D) → at_number heads y ≡ Some head → at_number before y ≡ Some was → at_number after y ≡ Some is → store.IsNotOpened head limit (disk.told was) fault (disk.told is))
          → (was is : D) → at_number before y ≡ Some was → at_number after y ≡ Some is → store.IsNotOpened (head_of config y) limit (disk.told was) fault (disk.told is)
      refused zero there each was is w e = absurd (omega (arith, there.0))
      refused (suc i) there each was is w e =
          let head = head_there config is_new heads heads_are heads_count i there in
          as_own config i head.0 (own config is_new heads heads_are heads_count i head.0 head.1) (λ (h : Head). store.IsNotOpened h limit (disk.told was) fault (disk.told is))
          (bare_refused head.0.uuid head.0.bucket_count head.0.boot_first head.0.boot_count limit (disk.told was) fault (disk.told is) (each head.0 was is head.1 w e))

      first : fault ≢ DiskFault → (y : ℕ) → y < x → OfGiven config before y (λ was. Reads (disk.told was) (λ file. file ≢ [] → IsOkAnd (opened (head_of config y) file) (HasRoom limit)))
      first other zero below was there w tells some = absurd (omega (arith, there.0))
      first other (suc i) below was there w tells some =
          let head = head_there config is_new heads heads_are heads_count i there in
          as_own config i head.0 (own config is_new heads heads_are heads_count i head.0 head.1) (λ (h : Head). IsOkAnd (opened h (disk.told was).reads_as) (HasRoom limit)) (r.first other (suc i) head.0 was below head.1 w tells some)

  -- ---- what the journals stand for

  -- what is told of the disks that were made ready was told before
  pub empty_before : (before ready : List D) → AreUnwritten disk.told (length config.sets) before ready → AreEmpty disk.told (length config.sets) ready is_new → AreEmpty disk.told (length config.sets) before is_new
  empty_before before ready u = by is_new
    where
      by : (b : Bool) → AreEmpty disk.told (length config.sets) ready b → AreEmpty disk.told (length config.sets) before b
      by true empty = λ i was lt at tells.
          let now = get_within ready i (omega (arith, slice_get_within before i was at, u.count)) in
          let un = u.each i was now.0 at now.1 in
          sym (un.reads tells) ∙ empty i now.0 lt now.1 (un.keeps.reads ∙ tells)
      by false has =
          let was = get_within before has.place (omega (arith, slice_get_within ready has.place has.it has.here, u.count)) in
          let un = u.each has.place was.0 has.it was.1 has.here in
          record { place = has.place; it = was.0; within = has.within; here = was.1; some = λ tells none. has.some (un.keeps.reads ∙ tells) (un.reads tells ∙ none) }

  module _ (limit : ℕ) (before : List D) (all : Stores D disk) (states : List SetState) (enough : length config.sets ≤ length before) (shares_count : length (shares_in config is_new) ≡ length config.sets) (x : AreOpened heads limit before all states) where
    -- the store of a set, its state, and its disk as it was
    pub record IsOpenedAt (i : ℕ) (was : D) : Type 0 where
      pub head : Head
      pub head_at : slice_get heads i ≡ Some head
      pub it : Store D disk
      pub it_at : slice_get (stores_of all) i ≡ Some it
      pub state : SetState
      pub state_at : slice_get states i ≡ Some state
      pub opened : store.IsOpened head limit (disk.told was) it (durable state)

    pub opened_at : (i : ℕ) (was : D) → i < length config.sets → slice_get before i ≡ Some was → IsOpenedAt i was
    opened_at i was lt at =
        let head = get_within heads i (omega (arith, lt, heads_count)) in
        let it = get_within (stores_of all) i (omega (arith, lt, heads_count, x.count)) in
        let state = get_within states i (omega (arith, lt, heads_count, x.count_of_states)) in
        record {
          head = head.0;
          head_at = head.1;
          it = it.0;
          it_at = it.1;
          state = state.0;
          state_at = state.1;
          opened = x.each i head.0 was it.0 state.0 head.1 at it.1 state.1;
        }

    abbrev stood : ℕ → Durable
    stood = numbered durable nothing states

    pub stood_is : (i : ℕ) (state : SetState) → slice_get states i ≡ Some state → stood (suc i) ≡ durable state
    stood_is i state at = ap (λ (o : Option SetState). option_map_or durable o nothing) at

    -- no other set stands for anything
    pub no_others : (y : ℕ) → ¬ (IsSet config y) → stood y ≡ nothing
    no_others zero none = refl
    no_others (suc i) none = by_state (slice_get states i) refl
      where
        by_state : (o : Option SetState) → slice_get states i ≡ o → option_map_or durable o nothing ≡ nothing
        by_state None at = refl
        by_state (Some state) at = absurd (none (omega arith, omega (arith, slice_get_within states i state at, heads_count, x.count_of_states)))

    whole : (y : ℕ) → OfGiven config before y (λ it. Reads (disk.told it) (λ file. file ≢ [] → StandsFor (head_of config y) (stood y) file))
    whole zero was set at tells some = absurd (omega (arith, set.0))
    whole (suc i) was set at tells some =
        let here = opened_at i was (omega (arith, set.1)) at in
        let file = (disk.told was).reads_as in
        let stands : StandsFor here.head (durable here.state) file = and_so (opened here.head file) _ (λ (s : Standing). s.state ≡ durable here.state) (λ s taken. taken.state) (here.opened.taken_over tells some) in
        subst (λ (d : Durable). StandsFor (head_of config (suc i)) d file) (sym (stood_is i here.state here.state_at))
        (as_own config i here.head (own config is_new heads heads_are heads_count i here.head here.head_at) (λ (h : Head). StandsFor h (durable here.state) file) stands)

    pub stands_for : AreEmpty disk.told (length config.sets) before is_new → AreStoodFor disk.told config before stood
    stands_for empty = record { whole = whole; new = by_new is_new refl empty; added = by_added is_new refl empty }
      where
        by_new : (b : Bool) → is_new ≡ b → AreEmpty disk.told (length config.sets) before b → ((y : ℕ) → OfGiven config before y (λ it. IsEmpty (disk.told it))) → (y : ℕ) → IsSet config y → stood y ≡ new_state config y
        by_new true is all_empty given y set =
            let shares_are : shares_in config is_new ≡ shares_of config = ap (shares_in config) is in
            let count : length states ≡ length config.sets = x.count_of_states ∙ heads_count in
            let each : (i : ℕ) (head : Head) (state : SetState) → slice_get (heads_from config.bucket_count 1 config.sets (shares_in config is_new)) i ≡ Some head → slice_get states i ≡ Some state → durable state ≡ booted head.boot_first head.boot_count =
            λ i head state h s.
            let lt : i < length config.sets = omega (arith, slice_get_within states i state s, count) in
            let was = get_within before i (omega (arith, lt, enough)) in
            let here = opened_at i was.0 lt was.1 in
            let none = given (suc i) was.0 (omega arith, omega (arith, lt)) was.1 in
            let head_is : here.head ≡ head = some_is here.head head (sym here.head_at ∙ ap (λ (l : List Head). slice_get l i) heads_are ∙ h) in
            let state_is : here.state ≡ state = some_is here.state state (sym here.state_at ∙ s) in
            sym (ap durable state_is) ∙ (here.opened.fresh none.tells none.reads).state ∙ ap (λ (h : Head). booted h.boot_first h.boot_count) head_is
            in
            let made : AreNewStates 1 (shares_of config) states = subst (λ (l : List ℕ). AreNewStates 1 l states) shares_are (begins_with_shares config.bucket_count 1 config.sets (shares_in config is_new) states shares_count count each) in
            let held = held_is config states made in
            λ j. record { entry = (held j).entry y; rows = (held j).rows y }
        by_new false is has given y set =
            let none = given (suc has.place) has.it (omega arith, omega (arith, has.within)) has.here in
            absurd (has.some none.tells none.reads)

        by_added : (b : Bool) → is_new ≡ b → AreEmpty disk.told (length config.sets) before b → (y z : ℕ) → OfGiven config before y (λ it. IsEmpty (disk.told it)
            → OfGiven config before z (λ other. IsTrue (disk.told other).tells_reads → (disk.told other).reads_as ≢ [] → stood y ≡ nothing))
        by_added true is all_empty y zero it set at none other set' at' tells some = absurd (omega (arith, set'.0))
        by_added true is all_empty y (suc k) it set at none other set' at' tells some = absurd (some (all_empty k other (omega (arith, set'.1)) at' tells))
        by_added false is has zero z it set at none other set' at' tells some = absurd (omega (arith, set.0))
        by_added false is has (suc i) z it set at none other set' at' tells some =
            let here = opened_at i it (omega (arith, set.1)) at in
            let heads_bare : heads ≡ heads_from config.bucket_count 1 config.sets (shares_in config false) = heads_are ∙ ap (λ (b : Bool). heads_from config.bucket_count 1 config.sets (shares_in config b)) is in
            let boots = begins_with_none config.bucket_count 1 config.sets (length config.sets) i here.head (subst (λ (l : List Head). slice_get l i ≡ Some here.head) heads_bare here.head_at) in
            stood_is i here.state here.state_at ∙ (here.opened.fresh none.tells none.reads).state ∙ (λ j. booted (boots.0 j) (boots.1 j)) ∙ none_is_nothing

    -- ---- a world begins with them

    pub ready_to_begin : length before ≡ 32 → length config.sets ≤ 32 → AreReadyToBegin config limit states all
    ready_to_begin many few = record {
      sets = x.count ∙ heads_count;
      count = x.count_of_states ∙ heads_count;
      disks = omega (arith, length-append (map disk_of (stores_of all)) (spare_of all), length-map (stores_of all) (disk_of {D = D} {disk = disk}), ap length x.spare, length-drop (length heads) before, x.count, heads_count, many, few);
      limit_is = x.limit_is;
      hold = hold;
      ready = λ y it at. (at_store y it at).0;
      calm = λ y it at. (at_store y it at).1;
    }
      where
        hold : (i : ℕ) (it : Store D disk) (state : SetState) → slice_get (stores_of all) i ≡ Some it → slice_get states i ≡ Some state → Holds it (head_of config (suc i)) (durable state) None
        hold i it state at s =
            let lt : i < length heads = omega (arith, slice_get_within (stores_of all) i it at, x.count) in
            let head = get_within heads i lt in
            let was = get_within before i (omega (arith, lt, heads_count, enough)) in
            as_own config i head.0 (own config is_new heads heads_are heads_count i head.0 head.1) (λ (h : Head). Holds it h (durable state) None)
            (bare_holds head.0.uuid head.0.bucket_count head.0.boot_first head.0.boot_count it (durable state) (x.each i head.0 was.0 it state head.1 was.1 at s).holds)

        at_store : (y : ℕ) (it : Store D disk) → store_at all y ≡ Some it → IsReady it × IsCalm it
        at_store zero it at = absurd cc
        at_store (suc i) it at =
            let lt : i < length heads = omega (arith, slice_get_within (stores_of all) i it at, x.count) in
            let head = get_within heads i lt in
            let was = get_within before i (omega (arith, lt, heads_count, enough)) in
            let state = get_within states i (omega (arith, lt, x.count_of_states)) in
            let one = x.each i head.0 was.0 it state.0 head.1 was.1 at state.1 in
            (one.ready, one.calm)

    -- the disks of the stores
    pub disks_of_all : AreOpenedDisks disk.told config before (disks_of all)
    disks_of_all = record {
      count = omega (arith, length-append (map disk_of (stores_of all)) (spare_of all), length-map (stores_of all) (disk_of {D = D} {disk = disk}), ap length x.spare, length-drop (length heads) before, x.count, heads_count, enough);
      of_sets = of_sets;
      spare = spare;
    }
      where
        of_sets : (y : ℕ) (was is : D) → IsSet config y → at_number before y ≡ Some was → at_number (disks_of all) y ≡ Some is → IsOpenedDisk (head_of config y) (disk.told was) (disk.told is)
        of_sets zero was is set w e = absurd (omega (arith, set.0))
        of_sets (suc i) was is set w e =
            let here = opened_at i was (omega (arith, set.1)) w in
            let is_its : disk_of here.it ≡ is = some_is (disk_of here.it) is (sym (disk_of_store all (suc i) here.it here.it_at) ∙ e) in
            as_own config i here.head (own config is_new heads heads_are heads_count i here.head here.head_at) (λ (h : Head). IsOpenedDisk h (disk.told was) (disk.told is))
            (bare_disk here.head.uuid here.head.bucket_count here.head.boot_first here.head.boot_count (disk.told was) (disk.told is)
            (subst (λ (d : D). IsOpenedDisk here.head (disk.told was) (disk.told d)) is_its here.opened.disk))

        spare : (y : ℕ) → length config.sets < y → at_number (disks_of all) y ≡ at_number before y
        spare zero above = refl
        spare (suc i) above =
            let k = length heads in
            let front = map disk_of (stores_of all) in
            let there : length front + (i - k) ≡ i = omega (arith, length-map (stores_of all) (disk_of {D = D} {disk = disk}), x.count, above, heads_count) in
            let there' : k + (i - k) ≡ i = omega (arith, above, heads_count) in
            ap (λ (j : ℕ). slice_get (disks_of all) j) (sym there) ∙ back_get front (spare_of all) (i - k) ∙ ap (λ (l : List D). slice_get l (i - k)) x.spare ∙ drop_get before k (i - k) ∙ ap (λ (j : ℕ). slice_get before j) there'

    module _ (empty : AreEmpty disk.told (length config.sets) before is_new) where
      pub begun_opened : (scripts : Scripts) (w : World D) → BeginsWith config scripts limit states all w → IsOpened disk.told config scripts limit before w
      begun_opened scripts w b = record {
        config_is = b.config_is;
        scripts_are = b.scripts_are;
        limit_is = b.limit_is;
        states_are = subst (AreStoodFor disk.told config before) (sym b.states_are) (stands_for empty);
        faults_are = faults;
        state = b.state;
        events = b.events;
        unreserved = b.unreserved;
        disks = subst (AreOpenedDisks disk.told config before) (sym b.disks) disks_of_all;
        kept = b.kept;
      }
        where
          faults : (y : ℕ) → is_to (length config.sets) y ≡ true → (it : D) → disk_at w y ≡ Some it → (began w.played).faults y ≡ (disk.told it).faults
          faults y there it at =
              let range = is_set (length config.sets) y there in
              let one = store_of all y (range.0, omega (arith, range.1, x.count, heads_count)) in
              let is_its : disk_of one.0 ≡ it = some_is (disk_of one.0) it (sym (disk_of_store all y one.0 one.1) ∙ ap (λ (l : List D). at_number l y) (sym b.disks) ∙ at) in
              b.faults_are y ∙ ap (λ (o : Option (Store D disk)). option_map_or (λ (a : Store D disk). (told_of a).faults) o 0) one.1 ∙ ap (λ (d : D). (disk.told d).faults) is_its

      pub begin_refused : (fault : WorldFault) (after : List D) → after ≡ disks_of all → IsBeginFault (length config.sets) config.bucket_count (held states) fault → IsNotOpened disk.told config limit before fault after
      begin_refused fault after are is = record {
        disks = subst (AreOpenedDisks disk.told config before) (sym are) disks_of_all;
        cause = cause fault is;
      }
        where
          cause : (f : WorldFault) → IsBeginFault (length config.sets) config.bucket_count (held states) f → IsOpenCause disk.told config limit before after f
          cause (OfSet y f) h = absurd h
          cause (Incoherent b entries) h = record { states = stood; stood_for = stands_for empty; no_others = no_others; least = h.0; entries_are = h.1 }
          cause NoMemory h = tt

  -- ---- they weren't opened

  pub not_opened : (limit : ℕ) (before after : List D) (fault : OpenFault) → AreNotOpened disk.told heads limit before fault after → IsNotOpened disk.told config limit before (of_journals fault) after
  not_opened limit before after fault r = record { disks = disks_opened before after r.disks; cause = cause fault r.refused }
    where
      cause : (f : OpenFault) → ((y : ℕ) (of_store : StoreFault) → f ≡ OfOpened y of_store → stores.IsRefusedAt disk.told heads limit before after y of_store) → IsOpenCause disk.told config limit before after (of_journals f)
      cause (OfOpened y f) each = refused_at limit before after y f (each y f refl)
      cause NoOpenMemory each = tt

-- how many shares there are
pub shares_counted : (config : Configuration) (is_new : Bool) → IsWithin 32 (length config.sets) → IsWithin 30000 config.bucket_count → length (shares_in config is_new) ≡ length config.sets
shares_counted config true sets buckets = (are_shares config sets buckets).each
shares_counted config false sets buckets = length-replicate (length config.sets) 0

-- none was opened, since a disk failed or memory ran out
pub not_made_ready : {D : Type 0} {disk : Ghosts D} (config : Configuration) (limit : ℕ) (before after : List D) (fault : OpenFault) → AreUnwritten disk.told (length config.sets) before after → HasFailed disk.told (length config.sets) before after fault → IsNotOpened disk.told config limit before (of_journals fault) after
not_made_ready {disk = disk} config limit before after fault u failed =
    let shares = shares_in config false in
    let heads = heads_from config.bucket_count 1 config.sets shares in
    let count : length heads ≡ length config.sets = as_many config.bucket_count 1 config.sets shares (length-replicate (length config.sets) 0) in
    not_opened config false heads refl count limit before after fault
    (not_ready heads limit before after (subst (λ (n : ℕ). AreUnwritten disk.told n before after) (sym count) u) fault (subst (λ (n : ℕ). HasFailed disk.told n before after fault) (sym count) failed))

pub no_memory_failed : {D : Type 0} (told : D → Told) (sets : ℕ) (before after : List D) → HasFailed told sets before after NoOpenMemory
no_memory_failed told sets before after = record { named = λ x f e. absurd (cc e); failed = λ x f was is e w now. absurd (cc e) }

-- two things that are known of a fault
pub of_both : {X E : Type 0} (r : Result X E) (P Q R : E → Type 0) → ((e : E) → P e → Q e → R e) → IfErr r P → IfErr r Q → IfErr r R
of_both (Ok x) P Q R then p q = tt
of_both (Err e) P Q R then p q = then e p q
