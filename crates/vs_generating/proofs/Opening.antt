-- No journal of disks in memory is refused, where they are new or were left by a new cluster.
use Rattle.std.proofs.Common.{◌≡◌, ◌≢◌, ℕ, zero, suc, ◌-◌, ◌^◌, ◌≤◌, ◌<◌, true, List, [], length, Some, Result, Ok, Err, refl, sym, ap, subst, ◌∙◌, arith, lit≤}
use Rattle.std.specs.Prelude.{IsTrue, IsOkAnd}
use Rattle.std.proofs.lemmas.Bool.Decides.{nat_tests}
use Rattle.std.proofs.lemmas.Option.{slice_get_within, get_or_from_slice_get}
use Rattle.vs_config.specs.Configuration.{Configuration}
use Rattle.vs_core.specs.Opened.{IsCoherentAt}
use Rattle.vs_disk.specs.Told.{Told}
use Rattle.vs_frame.specs.declared.head.Head.{Head}
use Rattle.vs_gen.specs.Generated.{first_configuration, second_configuration, scripts_of}
use Rattle.vs_gen.proofs.Lawful.{lawful_configuration}
use Rattle.vs_machine.specs.Journals.{held_as, nothing}
use Rattle.vs_machine.specs.Opening.{IsLawful}
use Rattle.vs_machine.specs.State.{State, has_set}
use Rattle.vs_machine.specs.Tables.{is_to}
use Rattle.vs_record.specs.Durable.{Durable}
use Rattle.vs_script.specs.Scripts.{Scripts}
use Rattle.vs_store.specs.Faults.{IsRefusal}
use Rattle.vs_store.specs.Files.{StandsFor}
use Rattle.vs_store.specs.Standing.{Standing, opened}
use Rattle.vs_store.specs.declared.fault.StoreFault.{StoreFault}
use Rattle.vs_store.specs.declared.fault.StoreFault.TheVariants as store
use Rattle.vs_stores.specs.Numbered.{at_number}
use Rattle.vs_world.specs.Began.{start_of}
use Rattle.vs_world.specs.Journals.{head_of, FitsFile}
use Rattle.vs_world.specs.NotOpened.{IsNotOpened, IsRefusedAt}
use Rattle.vs_world.specs.Opened.{AreStoodFor, IsEmpty, IsOpened, IsSet, OfGiven, new_state}
use Rattle.vs_world.specs.Played.{began, state_of}
use Rattle.vs_world.specs.World.{World, IsKept}
use Rattle.vs_world.specs.declared.fault.WorldFault.{WorldFault}
use Rattle.vs_world.specs.declared.fault.WorldFault.TheVariants as world
use Rattle.vs_generating.specs.Disks.{AreNew, AreOfNewCluster}
use Rattle.vs_generating.specs.Faults.{IsOfMemory}
use Rattle.vs_generating.specs.Running.{IsBeginning}
use Rattle.vs_generating.proofs.Coherent.{coherent_new}
use Rattle.vs_generating.proofs.DisksInMemory.{disk_of, never_failed}
use Rattle.vs_generating.proofs.Lawful.{lawful_without}

-- the greatest length of a journal
abbrev limit : ℕ
limit = 2 ^ 64 - 1

-- a number from 1 to n is that of a set
to_set : (n x : ℕ) → 1 ≤ x → x ≤ n → is_to n x ≡ true
to_set n x first last = grind (arith, nat_tests, first, last)

-- the sets have the same uuids in both configurations
head_same : (x : ℕ) → head_of second_configuration x ≡ head_of first_configuration x
head_same zero = refl
head_same (suc zero) = refl
head_same (suc (suc zero)) = refl
head_same (suc (suc (suc zero))) = refl
head_same (suc (suc (suc (suc zero)))) = refl
head_same (suc (suc (suc (suc (suc n))))) = refl

abbrev no_scripts : Scripts
no_scripts = record { clients = []; operators = [] }

first_lawful : IsLawful first_configuration no_scripts
first_lawful = lawful_without first_configuration (lawful_configuration 1 (lit≤ tt))

-- ---- what a file stands for

-- it is one state
same_state : (r : Result Standing StoreFault) (d e : Durable) → IsOkAnd r (λ s. s.state ≡ d) → IsOkAnd r (λ s. s.state ≡ e) → d ≡ e
same_state (Ok s) d e one other = sym one ∙ other
same_state (Err fault) d e one other = absurd one

opens_too : (r : Result Standing StoreFault) (d : Durable) → IsOkAnd r (λ s. s.state ≡ d) → IsOkAnd r (λ s. Unit {0})
opens_too (Ok s) d is = tt
opens_too (Err fault) d is = is

-- a file without bytes stands for nothing
stands_some : (head : Head) (d : Durable) (file : List ℕ) → StandsFor head d file → file ≢ []
stands_some head d file stood none = subst (StandsFor head d) none stood

-- ---- which faults come

-- what opens isn't refused
not_both : (r : Result Standing StoreFault) (fault : StoreFault) (P : Standing → Type 0) → r ≡ Err fault → ¬ (IsOkAnd r P)
not_both (Ok s) fault P refused opens = cc refused
not_both (Err e) fault P refused opens = opens

module _ {D : Type 0} (told : D → Told) (never : (d : D) → (told d).faults ≡ 0) (tells : (d : D) → IsTrue (told d).tells_reads) where
  module _ (config : Configuration) (before after : List D) (count : length before ≡ 32) (few : length config.sets ≤ 32) (whole : (x : ℕ) → OfGiven config before x (λ it. (told it).reads_as ≢ [] → IsOkAnd (opened (head_of config x) (told it).reads_as) (λ s. Unit {0})))
      (fit : (states : ℕ → Durable) → AreStoodFor told config before states → ((x : ℕ) → ¬ (IsSet config x) → states x ≡ nothing) → (b : ℕ) → 1 ≤ b → b ≤ config.bucket_count → IsCoherentAt (length config.sets) (held_as states) b) where
    module _ (same : length after ≡ 32) (x : ℕ) (fault : StoreFault) (r : IsRefusedAt told config limit before after x fault) where
      was : (it : D) × (at_number before x ≡ Some it)
      was = disk_of before x count r.set.0 (omega (arith, r.set.1, few))

      is : (it : D) × (at_number after x ≡ Some it)
      is = disk_of after x same r.set.0 (omega (arith, r.set.1, few))

      never_refused : ¬ (IsRefusal fault)
      never_refused by =
          let why = (r.refused was.0 is.0 was.1 is.1).refused by (tells was.0) in
          not_both (opened (head_of config x) (told was.0).reads_as) fault (λ s. Unit {0}) why.1 (whole x was.0 r.set was.1 why.0)

      never_of_disk : fault ≢ store.DiskFault
      never_of_disk is_of = never_failed (told was.0) (told is.0) (never is.0) ((r.refused was.0 is.0 was.1 is.1).failed is_of)

      above : (len : ℕ) → fault ≡ store.Full len → limit < len
      above len is_full = (r.refused was.0 is.0 was.1 is.1).full len is_full

    of_memory : (fault : WorldFault) → IsNotOpened told config limit before fault after → IsOfMemory fault
    of_memory (world.OfSet x store.DiskFault) refused = never_of_disk (refused.disks.count ∙ count) x store.DiskFault refused.cause refl
    of_memory (world.OfSet x (store.Full len)) refused = above (refused.disks.count ∙ count) x (store.Full len) refused.cause len refl
    of_memory (world.OfSet x store.NoMemory) refused = refused.cause.known refl
    of_memory (world.OfSet x (store.NotAJournal place)) refused = never_refused (refused.disks.count ∙ count) x (store.NotAJournal place) refused.cause tt
    of_memory (world.OfSet x (store.OtherSet uuid)) refused = never_refused (refused.disks.count ∙ count) x (store.OtherSet uuid) refused.cause tt
    of_memory (world.OfSet x (store.OtherCount n)) refused = never_refused (refused.disks.count ∙ count) x (store.OtherCount n) refused.cause tt
    of_memory (world.Incoherent bucket entries) refused =
        let at = refused.cause in
        at.least.incoherent (fit at.states at.stood_for at.no_others bucket at.least.first at.least.last)
    of_memory world.NoMemory refused = tt

  -- ---- new disks

  empty_at : (disks : List D) → AreNew told disks → (x : ℕ) (it : D) → at_number disks x ≡ Some it → (told it).reads_as ≡ []
  empty_at disks new zero it at = absurd cc
  empty_at disks new (suc i) it at = subst (λ (d : D). (told d).reads_as ≡ []) (get_or_from_slice_get disks i it it at) (new.empty i it (slice_get_within disks i it at))

  module _ (config : Configuration) (scripts : Scripts) (before : List D) (new : AreNew told before) where
    are_empty : (x : ℕ) → OfGiven config before x (λ it. IsEmpty (told it))
    are_empty x it set at = record { tells = tells it; reads = empty_at before new x it at }

    pub refused_new : (after : List D) (fault : WorldFault) → IsLawful config scripts → IsNotOpened told config limit before fault after → IsOfMemory fault
    refused_new after fault lawful refused =
        of_memory config before after new.count lawful.sets.1 (λ x it set at some. absurd (some (empty_at before new x it at)))
        (λ states stood others b first last. coherent_new config scripts lawful states (stood.new are_empty) others b first last) fault refused

    -- each set's disk has the journal of what the set has
    pub opened_new : (after : List D) (w : World D) → IsOpened told config scripts limit before w → IsKept told w → after ≡ w.disks → AreOfNewCluster told config after
    opened_new after w o kept same = record {
      count = ap length same ∙ kept.disks;
      journals = λ x it set at.
          let has : has_set (state_of w.played) x ≡ true = ap (λ (s : State). has_set s x) o.state ∙ ap (λ (c : Configuration). is_to (length c.sets) x) o.config_is ∙ to_set (length config.sets) x set.0 set.1 in
          let there : at_number w.disks x ≡ Some it = ap (λ (ds : List D). at_number ds x) (sym same) ∙ at in
          let now : FitsFile (state_of w.played) x (told it).reads_as = (kept.fits x has it there).reads (tells it) in
          let first : FitsFile (start_of (began w.played)) x (told it).reads_as = subst (λ (s : State). FitsFile s x (told it).reads_as) o.state now in
          let here : StandsFor (head_of config x) ((began w.played).states x) (told it).reads_as = subst (λ (c : Configuration). StandsFor (head_of c x) ((began w.played).states x) (told it).reads_as) o.config_is first in
          subst (λ (d : Durable). StandsFor (head_of config x) d (told it).reads_as) (o.states_are.new are_empty x set) here;
    }

  -- ---- disks that the cluster of the first configuration left

  module _ (before : List D) (left : AreOfNewCluster told first_configuration before) where
    journal_at : (x : ℕ) (it : D) → IsSet second_configuration x → at_number before x ≡ Some it → StandsFor (head_of second_configuration x) (new_state first_configuration x) (told it).reads_as
    journal_at x it set at = subst (λ (h : Head). StandsFor h (new_state first_configuration x) (told it).reads_as) (sym (head_same x)) (left.journals x it set at)

    states_left : (states : ℕ → Durable) → AreStoodFor told second_configuration before states → (x : ℕ) → IsSet first_configuration x → states x ≡ new_state first_configuration x
    states_left states stood x set =
        let it = disk_of before x left.count set.0 (omega (arith, set.1)) in
        let here = journal_at x it.0 set it.1 in
        same_state (opened (head_of second_configuration x) (told it.0).reads_as) (states x) (new_state first_configuration x) (stood.whole x it.0 set it.1 (tells it.0) (stands_some (head_of second_configuration x) (new_state first_configuration x) (told it.0).reads_as here)) here

    pub refused_left : (after : List D) (fault : WorldFault) → IsNotOpened told second_configuration limit before fault after → IsOfMemory fault
    refused_left after fault refused =
        of_memory second_configuration before after left.count (lit≤ tt) (λ x it set at some. opens_too (opened (head_of second_configuration x) (told it).reads_as) (new_state first_configuration x) (journal_at x it set at))
        (λ states stood others b first last. coherent_new first_configuration no_scripts first_lawful states (states_left states stood) others b first last) fault refused

    pub opened_left : (number : ℕ) (w : World D) → IsOpened told second_configuration (scripts_of number) limit before w → IsBeginning number (began w.played)
    opened_left number w o = record { config = o.config_is; scripts = o.scripts_are; limit = o.limit_is; states = states_left (began w.played).states o.states_are }
