-- A world that begins is whole.
use Rattle.std.proofs.Common.{◌≡◌, ⊎_elim, ℕ, zero, suc, ◌≤◌, ◌<◌, false, List, [], ◌∷◌, length, get_or, Option, Some, None, Ok, refl, sym, ap, subst, ◌∙◌, arith}
use Rattle.std.specs.Prelude.{slice_get}
use Rattle.std.specs.Option.{option_map_or}
use Rattle.std.proofs.lemmas.Bool.{false≢true, cases_lt}
use Rattle.vs_base.specs.Listed.{Listed}
use Rattle.vs_config.specs.Configuration.{Configuration}
use Rattle.vs_core.specs.Core as core
use Rattle.vs_core.specs.Opened.{IsCoreFault}
use Rattle.vs_core.specs.declared.fault.CoreFault.{CoreFault}
use Rattle.vs_core.specs.declared.fault.CoreFault.TheVariants as faults
use Rattle.vs_disk.specs.declared.disk.Disk.{Ghosts}
use Rattle.vs_event.specs.declared.event.Event.{Event}
use Rattle.vs_record.specs.Durable.{Durable}
use Rattle.vs_record.specs.States.{durable}
use Rattle.vs_record.specs.declared.set_state.SetState.{SetState}
use Rattle.vs_machine.specs.Journals.{held_as, nothing}
use Rattle.vs_machine.specs.Opening.{Holdings, opening}
use Rattle.vs_script.specs.Scripts.{Scripts}
use Rattle.vs_machine.specs.Runs.{IsOpening}
use Rattle.vs_machine.specs.State.{State, sets_of}
use Rattle.vs_machine.specs.Step.{run}
use Rattle.vs_state.specs.Tables.{numbered}
use Rattle.vs_store.specs.Holding.{Holds}
use Rattle.vs_store.specs.Store.{told_of}
use Rattle.vs_store.specs.declared.store.Store.{Store}
use Rattle.vs_stores.specs.Due.{HoldsDue}
use Rattle.vs_stores.specs.Stores.{stores_of, faults_at}
use Rattle.vs_stores.specs.declared.stores.Stores.{Stores}
use Rattle.vs_stores.proofs.Lists.{get_within}
use Rattle.std.proofs.lemmas.Option.{slice_get_within}
use Rattle.vs_world.specs.Began.{begun, start_of}
use Rattle.vs_world.specs.Beginning.{AreReadyToBegin, IsBeginFault, of_cluster}
use Rattle.vs_world.specs.Journals.{head_of}
use Rattle.vs_world.specs.Whole.{IsWhole, due_of}
use Rattle.vs_world.specs.declared.opening.Opening.{Opening}

-- why the cluster can't begin
pub begin_fault : (n m : ℕ) (held : Holdings) (fault : CoreFault) → IsCoreFault n m held fault → IsBeginFault n m held (of_cluster fault)
begin_fault n m held (faults.Incoherent b entries) is = is
begin_fault n m held faults.NoMemory is = tt

-- what holds of equal parts
pub opens_as : (k k' : Configuration) (s s' : Scripts) (d d' : ℕ → Durable) → k ≡ k' → s ≡ s' → d ≡ d' → IsOpening k s (held_as d) → IsOpening k' s' (held_as d')
opens_as k k' s s' d d' config scripts states opens =
    subst (λ (x : Configuration). IsOpening x s' (held_as d')) config
    (subst (λ (x : Scripts). IsOpening k x (held_as d')) scripts
    (subst (λ (x : ℕ → Durable). IsOpening k s (held_as x)) states opens))

pub starts_as : (k k' : Configuration) (s s' : Scripts) (d d' : ℕ → Durable) → k ≡ k' → s ≡ s' → d ≡ d' → opening k s (held_as d) ≡ opening k' s' (held_as d')
starts_as k k' s s' d d' config scripts states = λ i. opening (config i) (scripts i) (held_as (states i))

module _ {D : Type 0} {disk : Ghosts D} (c : core.Shown) (events : Listed Event) (start : Opening) (all : Stores D disk) (config : Configuration) (limit : ℕ) (states : List SetState) where
  -- what is known of the parts
  pub record AreParts : Type 0 where
    pub ready : AreReadyToBegin config limit states all
    pub state : core.means c ≡ start_of (begun start)
    pub opens : IsOpening (begun start).config (begun start).scripts (held_as (begun start).states)
    pub config_is : (begun start).config ≡ config
    pub limit_is : (begun start).limit ≡ limit
    pub states_are : (begun start).states ≡ numbered durable nothing states
    pub faults_are : (x : ℕ) → (begun start).faults x ≡ faults_at all x
    pub unreserved : c.is_reserved ≡ false
    pub none : events.items ≡ []

  pub begins_whole : AreParts → IsWhole c events start all
  begins_whole p = record {
    run = record {
      opens = p.opens;
      runs = ap (λ (es : List Event). run (start_of (begun start)) es) p.none ∙ ap Ok (sym p.state);
    };
    limit = p.ready.limit_is ∙ sym p.limit_is;
    sets = p.ready.sets ∙ (λ i. length (sym p.config_is i).sets) ∙ sym (ap sets_of p.state);
    disks = p.ready.disks;
    hold = λ i it at. subst (λ (s : State). HoldsDue it (due_of s (suc i))) (sym p.state) (held i it at);
    ready = λ x up. p.ready.ready x;
    calm = λ x bare. p.ready.calm x;
    faults = λ x there. omega (arith, p.faults_are x);
    room = λ is. absurd (false≢true (sym p.unreserved ∙ is));
  }
    where
      held : (i : ℕ) (it : Store D disk) → slice_get (stores_of all) i ≡ Some it → Holds it (head_of (begun start).config (suc i)) ((begun start).states (suc i)) None
      held i it at =
          let lt = slice_get_within (stores_of all) i it at in
          let state = get_within states i (omega (arith, lt, p.ready.sets, p.ready.count)) in
          let here : (begun start).states (suc i) ≡ durable state.0 = ap (λ (f : ℕ → Durable). f (suc i)) p.states_are ∙ ap (λ (o : Option SetState). option_map_or durable o nothing) state.1 in
          subst (λ (k : Configuration). Holds it (head_of k (suc i)) ((begun start).states (suc i)) None) (sym p.config_is)
          (subst (λ (d : Durable). Holds it (head_of config (suc i)) d None) (sym here) (p.ready.hold i it state.0 at state.1))

-- ---- counts of faults

number_at : (counts : List ℕ) (k : ℕ) → numbered (λ n. n) 0 counts (suc k) ≡ get_or counts k 0
number_at [] zero = refl
number_at [] (suc k) = refl
number_at (n ∷ ns) zero = refl
number_at (n ∷ ns) (suc k) = number_at ns k

past_at : {D : Type 0} {disk : Ghosts D} (stores : List (Store D disk)) (k : ℕ) → length stores ≤ k → slice_get stores k ≡ None
past_at [] zero past = refl
past_at [] (suc k) past = refl
past_at (it ∷ stores) zero past = absurd (omega (arith, past))
past_at (it ∷ stores) (suc k) past = past_at stores k (omega (arith, past))

past_count : (counts : List ℕ) (k : ℕ) → length counts ≤ k → get_or counts k 0 ≡ 0
past_count [] zero past = refl
past_count [] (suc k) past = refl
past_count (n ∷ ns) zero past = absurd (omega (arith, past))
past_count (n ∷ ns) (suc k) past = past_count ns k (omega (arith, past))

pub counted : {D : Type 0} {disk : Ghosts D} (all : Stores D disk) (counts : List ℕ) → length counts ≡ length (stores_of all) → ((k : ℕ) → k < length counts → get_or counts k 0 ≡ faults_at all (suc k)) → (x : ℕ) → numbered (λ n. n) 0 counts x ≡ faults_at all x
counted all counts count each zero = refl
counted {D = D} {disk = disk} all counts count each (suc k) = number_at counts k ∙ ⊎_elim (each k) past (cases_lt k (length counts))
  where
    past : length counts ≤ k → get_or counts k 0 ≡ faults_at all (suc k)
    past le =
        past_count counts k le
        ∙ sym (ap (λ (o : Option (Store D disk)). option_map_or (λ (a : Store D disk). (told_of a).faults) o 0) (past_at (stores_of all) k (omega (arith, le, count))))
