-- The tables of a cluster in which nothing happened stand for its opening.
use Rattle.std.proofs.Common.{◌≡◌, ℕ, zero, suc, ◌+◌, ◌<◌, ◌≤◌, ◌==◌, Bool, true, false, List, [], ◌∷◌, ◌++◌, length, map, Option, Some, None, Ok, refl, sym, ap, subst, ◌∙◌, arith}
use Rattle.std.specs.Prelude.{if◌then◌else◌, unwrap_or, All}
use Rattle.std.specs.Option.{option_map, option_map_or}
use Rattle.std.specs.Ordering.{nat_cmp}
use Rattle.std.proofs.lemmas.Bool.Decides.{nat_tests}
use Rattle.std.proofs.lemmas.List.{length-map, map-append}
use Rattle.std.proofs.lemmas.List.Elements.{All-head, All-tail}
use Rattle.std.proofs.lemmas.List.Sums.{sum_by-cons}
use Rattle.vs_config.specs.Configuration.{Configuration}
use Rattle.vs_history.specs.History.{History}
use Rattle.vs_history.specs.Means as history
use Rattle.vs_history.specs.declared.history.History as code
use Rattle.vs_link.specs.Connection.{unused}
use Rattle.vs_link.specs.Links.{connection_of}
use Rattle.vs_record.specs.Change.{change}
use Rattle.vs_record.specs.Durable.{Durable}
use Rattle.vs_record.specs.RowTable.{row_map_at}
use Rattle.vs_record.specs.States.{durable}
use Rattle.vs_record.specs.declared.set_state.SetState.{SetState}
use Rattle.vs_recover.specs.Asks.{ask_of}
use Rattle.vs_refs.specs.Counts.{no_counts}
use Rattle.vs_refs.specs.Refs.{counts_of}
use Rattle.vs_rows.specs.RowMap.{RowMap, IsRising}
use Rattle.vs_script.specs.Scripts.{Scripts, script_of}
use Rattle.vs_space.specs.Entries.{status_of, count_of, RisesFrom}
use Rattle.vs_space.specs.Status.{is_kind}
use Rattle.vs_space.specs.declared.status.StatusKind.TheVariants.{Garbage}
use Rattle.vs_space.specs.declared.status.Status.TheVariants as statuses
use Rattle.vs_space.specs.declared.status.Status.TheVariants.{Active, Pinned, Sending, Receiving, Sent}
use Rattle.vs_space.specs.declared.status.Status.{Status}
use Rattle.vs_table.specs.Entries.{value_of}
use Rattle.vs_machine.specs.Coherence.{owner_at}
use Rattle.vs_machine.specs.Journals.{nothing}
use Rattle.vs_machine.specs.Kinds.Collection.{is_garbage}
use Rattle.vs_machine.specs.Kinds.Connections.{is_receiving}
use Rattle.vs_machine.specs.Kinds.Rebalancing.{hauls_at}
use Rattle.vs_machine.specs.Opening.{Holdings, IsLawful, opening, bucket_at, base_of, client_at, operator_at}
use Rattle.vs_machine.specs.Runs.{IsOpening, IsReached}
use Rattle.vs_machine.specs.State as machine
use Rattle.vs_machine.specs.Tables.{is_to, least_to, list_to, or_else}
use Rattle.vs_machine.proofs.Counts.{counts_none}
use Rattle.vs_machine.proofs.Opens.{none_passes}
use Rattle.vs_state.specs.declared.state.State.{State}
use Rattle.vs_state.specs.declared.tables.SetTables.{SetTables}
use Rattle.vs_state.specs.Agrees.{Agrees, agreed}
use Rattle.vs_state.specs.Plain.{plain, bucket, client, operator, link, no_history, entry_in, kept_in, transfer_in, ask_in, ask}
use Rattle.vs_state.specs.Tables.{numbered}
use Rattle.vs_core.specs.Keeps.{IsSound}
use Rattle.vs_core.specs.Opened.{held, placement_of, IsCoherentAt, IsLeastIncoherent, IsOfBuckets}
use Rattle.vs_core.specs.Opening.{HasItsSets, IsOpenedSet, AreOpenedSets, IsOpened, AreBegun, base_in, has_it, held_in}
use Rattle.vs_core.proofs.Planning.{as_many as as_many_to}

-- ---- what opened sets have

-- what is made of each set's tables is made of its state, and what is made of no set of nothing
in_each : {B : Type 0} (f : SetTables → B) (g : Durable → B) → ((d : SetState) (t : SetTables) → IsOpenedSet d t → f t ≡ g (durable d)) → (ds : List SetState) (ts : List SetTables) → AreOpenedSets ds ts → (x : ℕ) → numbered f (g nothing) ts x ≡ g (numbered durable nothing ds x)
in_each f g each ds ts made zero = refl
in_each f g each [] [] made (suc zero) = refl
in_each f g each [] [] made (suc (suc k)) = refl
in_each f g each (d ∷ ds) (t ∷ ts) made (suc zero) = each d t made.0
in_each f g each (d ∷ ds) (t ∷ ts) made (suc (suc k)) = in_each f g each ds ts made.1 (suc k)
in_each f g each [] (t ∷ ts) made (suc k) = absurd made
in_each f g each (d ∷ ds) [] made (suc k) = absurd made

as_many_sets : (ds : List SetState) (ts : List SetTables) → AreOpenedSets ds ts → length ts ≡ length ds
as_many_sets [] [] made = refl
as_many_sets (d ∷ ds) (t ∷ ts) made = ap suc (as_many_sets ds ts made.1)
as_many_sets [] (t ∷ ts) made = absurd made
as_many_sets (d ∷ ds) [] made = absurd made

pub one_more_opened : (d : SetState) (t : SetTables) (ds : List SetState) (ts : List SetTables) → AreOpenedSets ds ts → IsOpenedSet d t → AreOpenedSets (ds ++ d ∷ []) (ts ++ t ∷ [])
one_more_opened d t [] [] made new = (new, tt)
one_more_opened d t (e ∷ ds) (u ∷ ts) made new = (made.0, one_more_opened d t ds ts made.1 new)
one_more_opened d t [] (u ∷ ts) made new = absurd made
one_more_opened d t (e ∷ ds) [] made new = absurd made

-- ---- what states hold of what is no bucket

-- 0 is no bucket
pub zero_none : (es : List (ℕ × Status)) (k : ℕ) → RisesFrom (k + 1) es → status_of es 0 ≡ None
zero_none [] k rises = refl
zero_none (e ∷ es) k rises = by (e.0 == 0) refl (zero_none es e.0 rises.2)
  where
    by : (t : Bool) → (e.0 == 0) ≡ t → status_of es 0 ≡ None → (if t then Some e.1 else status_of es 0) ≡ None
    by true is rest = absurd (grind (arith, nat_tests, is, rises.0))
    by false is rest = rest

-- nothing is garbage where none is counted
pub none_garbage : (es : List (ℕ × Status)) (b : ℕ) → count_of Garbage es ≡ 0 → is_garbage (status_of es b) ≡ false
none_garbage [] b none = refl
none_garbage (e ∷ es) b none = by (e.0 == b) e.1 refl (none_garbage es b)
  where
    by : (t : Bool) (status : Status) → e.1 ≡ status → (count_of Garbage es ≡ 0 → is_garbage (status_of es b) ≡ false) → is_garbage (if t then Some e.1 else status_of es b) ≡ false
    by true Active is rest = ap (λ s. is_garbage (Some s)) is
    by true Pinned is rest = ap (λ s. is_garbage (Some s)) is
    by true (Sending d) is rest = ap (λ s. is_garbage (Some s)) is
    by true (Receiving d) is rest = ap (λ s. is_garbage (Some s)) is
    by true (Sent d) is rest = ap (λ s. is_garbage (Some s)) is
    by true statuses.Garbage is rest =
        let kind : is_kind Garbage e.1 ≡ true = ap (is_kind Garbage) is in
        absurd (grind (arith, none, kind, sum_by-cons (λ (e : ℕ × Status). if is_kind Garbage e.1 then 1 else 0) e es))
    by false status is rest = rest (grind (arith, none, sum_by-cons (λ (e : ℕ × Status). if is_kind Garbage e.1 then 1 else 0) e es))

zero_entry : (ds : List SetState) (ts : List SetTables) → AreOpenedSets ds ts → (x : ℕ) → (numbered durable nothing ds x).entry 0 ≡ None
zero_entry ds ts made zero = refl
zero_entry [] [] made (suc zero) = refl
zero_entry [] [] made (suc (suc k)) = refl
zero_entry (d ∷ ds) (t ∷ ts) made (suc zero) = zero_none d.space.entries 0 made.0.rising
zero_entry (d ∷ ds) (t ∷ ts) made (suc (suc k)) = zero_entry ds ts made.1 (suc k)
zero_entry [] (t ∷ ts) made (suc k) = absurd made
zero_entry (d ∷ ds) [] made (suc k) = absurd made

zero_rows : (ds : List SetState) (x : ℕ) → (numbered durable nothing ds x).rows 0 ≡ []
zero_rows ds zero = refl
zero_rows [] (suc zero) = refl
zero_rows [] (suc (suc k)) = refl
zero_rows (d ∷ ds) (suc zero) = refl
zero_rows (d ∷ ds) (suc (suc k)) = zero_rows ds (suc k)

above : (n : ℕ) (ds : List SetState) → All (IsOfBuckets n) ds → (x b : ℕ) → n < b → ((numbered durable nothing ds x).entry b ≡ None) × ((numbered durable nothing ds x).rows b ≡ [])
above n ds all zero b over = (refl, refl)
above n [] all (suc zero) b over = (refl, refl)
above n [] all (suc (suc k)) b over = (refl, refl)
above n (d ∷ ds) all (suc zero) b over = let one = All-head (IsOfBuckets n) d ds all in (one.entry b over, one.rows b over)
above n (d ∷ ds) all (suc (suc k)) b over = above n ds (All-tail (IsOfBuckets n) d ds all) (suc k) b over

past_states : (ds : List SetState) (x : ℕ) → is_to (length ds) x ≡ false → numbered durable nothing ds x ≡ nothing
past_states ds zero out = refl
past_states [] (suc zero) out = refl
past_states [] (suc (suc k)) out = refl
past_states (d ∷ ds) (suc zero) out = absurd (grind (arith, nat_tests, out))
past_states (d ∷ ds) (suc (suc k)) out = past_states ds (suc k) (grind (arith, nat_tests, out))

-- ---- what stands at a number

mapped : {A B : Type 0} (f : A → B) (d : B) (items : List A) (k : ℕ) → numbered f d items k ≡ numbered (λ x. x) d (map f items) k
mapped f d items zero = refl
mapped f d [] (suc zero) = refl
mapped f d [] (suc (suc k)) = refl
mapped f d (x ∷ xs) (suc zero) = refl
mapped f d (x ∷ xs) (suc (suc k)) = mapped f d xs (suc k)

-- what is made of a script, or of none
scripted : {A B : Type 0} (f : List A → B) (scripts : List (List A)) (k : ℕ) → numbered (λ x. x) (f []) (map f scripts) k ≡ f (script_of scripts k)
scripted f scripts zero = refl
scripted f [] (suc zero) = refl
scripted f [] (suc (suc k)) = refl
scripted f (x ∷ xs) (suc zero) = refl
scripted f (x ∷ xs) (suc (suc k)) = scripted f xs (suc k)

-- what each of the items is made of is a script
by_scripts : {A B C : Type 0} (f : A → B) (g : List C → B) (items : List A) (scripts : List (List C)) → map f items ≡ map g scripts → (k : ℕ) → numbered f (g []) items k ≡ g (script_of scripts k)
by_scripts f g items scripts same k = mapped f (g []) items k ∙ ap (λ bs. numbered (λ x. x) (g []) bs k) same ∙ scripted g scripts k

as_many : {A B C : Type 0} (f : A → B) (g : C → B) (items : List A) (others : List C) → map f items ≡ map g others → length items ≡ length others
as_many f g items others same = sym (length-map items f) ∙ ap length same ∙ length-map others g

-- a list with one more item
numbered_push : {A : Type 0} (d : A) (xs : List A) (y : A) (k : ℕ) → numbered (λ x. x) d (xs ++ y ∷ []) k ≡ (if k == suc (length xs) then y else numbered (λ x. x) d xs k)
numbered_push d xs y zero = grind (arith, nat_tests)
numbered_push d [] y (suc zero) = grind (arith, nat_tests)
numbered_push d [] y (suc (suc k)) = grind (arith, nat_tests)
numbered_push d (x ∷ xs) y (suc zero) = grind (arith, nat_tests)
numbered_push d (x ∷ xs) y (suc (suc k)) =
    let same : (suc k == suc (length xs)) ≡ (suc (suc k) == suc (suc (length xs))) = grind (arith, nat_tests) in
    numbered_push d xs y (suc k) ∙ (λ i. if same i then y else numbered (λ x. x) d xs (suc k))

-- the values at 1 to n
numbered_to : {A : Type 0} (d : A) (g : ℕ → A) (n k : ℕ) → numbered (λ x. x) d (list_to g n) k ≡ (if is_to n k then g k else d)
numbered_to d g zero zero = grind (arith, nat_tests)
numbered_to d g zero (suc zero) = grind (arith, nat_tests)
numbered_to d g zero (suc (suc k)) = grind (arith, nat_tests)
numbered_to d g (suc n) k =
    numbered_push d (list_to g n) (g (suc n)) k
    ∙ (λ i. if k == suc (as_many_to g n i) then g (suc n) else numbered (λ x. x) d (list_to g n) k)
    ∙ (λ i. if k == suc n then g (suc n) else numbered_to d g n k i)
    ∙ by (k == suc n) refl
  where
    by : (t : Bool) → (k == suc n) ≡ t → (if t then g (suc n) else (if is_to n k then g k else d)) ≡ (if is_to (suc n) k then g k else d)
    by true e =
        let same : k ≡ suc n = grind (arith, nat_tests, e) in
        let here : is_to (suc n) k ≡ true = grind (arith, nat_tests, e) in
        ap g (sym same) ∙ (λ i. if sym here i then g k else d)
    by false e =
        let test : is_to n k ≡ is_to (suc n) k = grind (arith, nat_tests, e) in
        λ i. if test i then g k else d

-- one history more
pub one_more_begun : (s : machine.State) (hs : List code.History) (h : code.History) (n b : ℕ) → b ≡ n + 1 → history.means h ≡ record { base = base_in s b; writes = []; reads = [] } → AreBegun s hs n → AreBegun s (hs ++ h ∷ []) (n + 1)
one_more_begun s hs h n b at is begun =
    let next : suc n ≡ n + 1 = omega arith in
    let here : history.means h ≡ record { base = base_in s (suc n); writes = []; reads = [] } = subst (λ b. history.means h ≡ record { base = base_in s b; writes = []; reads = [] }) (omega (arith, at)) is in
    subst (AreBegun s (hs ++ h ∷ [])) next (map-append history.means hs (h ∷ []) ∙ (λ i. begun i ++ here i ∷ []))

-- ---- a bucket that has no entry has no owner

no_owner : (entry : ℕ → Option Status) (n : ℕ) → ((x : ℕ) → entry x ≡ None) → owner_at entry n ≡ None
no_owner entry n none =
    ap (λ p. or_else p (least_to (λ x. is_receiving (entry x)) n)) (none_passes (λ x. has_it (entry x)) n (λ x. ap has_it (none x)))
    ∙ none_passes (λ x. is_receiving (entry x)) n (λ x. ap is_receiving (none x))

-- ---- the tables stand for the opening

module _ (config : Configuration) (scripts : Scripts) (ds : List SetState) (s : State) (new : IsOpened config scripts ds s) where
  in_sets : {B : Type 0} (f : SetTables → B) (g : Durable → B) → ((d : SetState) (t : SetTables) → IsOpenedSet d t → f t ≡ g (durable d)) → numbered f (g nothing) s.sets.items ≡ (λ x. g (numbered durable nothing ds x))
  in_sets f g each = λ i x. in_each f g each ds s.sets.items new.sets x i

  entries_are : (b : ℕ) → numbered (λ t. entry_in t b) None s.sets.items ≡ (λ x. (held ds).entry x b)
  entries_are b = in_sets (λ t. entry_in t b) (λ d. d.entry b) (λ d t h. ap (λ es. status_of es b) h.space)

  rows_are : (b : ℕ) → numbered (λ t. row_map_at t.rows b) [] s.sets.items ≡ (λ x. (held ds).rows x b)
  rows_are b = in_sets (λ t. row_map_at t.rows b) (λ d. d.rows b) (λ d t h. ap (λ places. row_map_at places b) h.rows)

  pub held_are : held_in (plain s) ≡ held ds
  held_are = λ i. record { entry = λ x b. entries_are b i x; rows = λ x b. rows_are b i x }

  pub sets_are : machine.sets_of (plain s) ≡ length config.sets
  sets_are = ap (λ (c : Configuration). length c.sets) new.config_is

  pub buckets_are : s.config.bucket_count ≡ config.bucket_count
  buckets_are = ap (λ (c : Configuration). c.bucket_count) new.config_is

  pub its_sets : IsLawful config scripts → length ds ≡ length config.sets → HasItsSets s
  its_sets lawful each = record {
    sets = as_many_sets ds s.sets.items new.sets ∙ each ∙ sym sets_are;
    few_sets = omega (arith, sets_are, lawful.sets.1);
    few_buckets = omega (arith, buckets_are, lawful.buckets.1);
  }

  -- what isn't coherent in the tables isn't in the states
  pub incoherent_in : (b : ℕ) → IsLeastIncoherent (machine.sets_of (plain s)) s.config.bucket_count (held_in (plain s)) b → IsLeastIncoherent (length config.sets) config.bucket_count (held ds) b
  incoherent_in b i =
      subst (λ n. IsLeastIncoherent n config.bucket_count (held ds) b) sets_are
      (subst (λ m. IsLeastIncoherent (machine.sets_of (plain s)) m (held ds) b) buckets_are
      (subst (λ (h : Holdings). IsLeastIncoherent (machine.sets_of (plain s)) s.config.bucket_count h b) held_are i))

  pub placement_in : (b : ℕ) → placement_of ((plain s).bucket b).entry (machine.sets_of (plain s)) ≡ placement_of (λ x. (held ds).entry x b) (length config.sets)
  placement_in b = λ i. placement_of (λ x. (held_are i).entry x b) (sets_are i)

  -- ---- with the histories

  module _ (hs : List code.History) (t : State) (rest : t ≡ record s { histories = t.histories }) (are : t.histories.items ≡ hs) (begun_all : AreBegun (plain s) hs s.config.bucket_count) (within : All (IsOfBuckets config.bucket_count) ds) where
    begun : AreBegun (plain s) hs config.bucket_count
    begun = subst (AreBegun (plain s) hs) buckets_are begun_all

    abbrev begun_at : ℕ → History
    begun_at b = record { base = base_of (held ds) (length config.sets) b; writes = []; reads = [] }

    outside : (x b : ℕ) → is_to config.bucket_count b ≡ false → ((held ds).entry x b ≡ None) × ((held ds).rows x b ≡ [])
    outside x zero out = (zero_entry ds s.sets.items new.sets x, zero_rows ds x)
    outside x (suc k) out = above config.bucket_count ds within x (suc k) (grind (arith, nat_tests, out))

    base_outside : (b : ℕ) → is_to config.bucket_count b ≡ false → base_of (held ds) (length config.sets) b ≡ []
    base_outside b out = ap (λ o. option_map_or (λ o. (held ds).rows o b) o []) (no_owner (λ x. (held ds).entry x b) (length config.sets) (λ x. (outside x b out).0))

    base_is : (b : ℕ) → base_in (plain s) b ≡ base_of (held ds) (length config.sets) b
    base_is b = λ i. base_of (held_are i) (sets_are i) b

    histories_are : (b : ℕ) → numbered history.means no_history t.histories.items b ≡ begun_at b
    histories_are b =
        ap (λ hs. numbered history.means no_history hs b) are
        ∙ mapped history.means no_history hs b
        ∙ ap (λ hs. numbered (λ x. x) no_history hs b) begun
        ∙ numbered_to no_history (λ b. record { base = base_in (plain s) b; writes = []; reads = [] }) config.bucket_count b
        ∙ by (is_to config.bucket_count b) refl
      where
        by : (e : Bool) → is_to config.bucket_count b ≡ e → (if e then record { base = base_in (plain s) b; writes = []; reads = [] } else no_history) ≡ begun_at b
        by true e = λ i. record { base = base_is b i; writes = []; reads = [] }
        by false e = λ i. record { base = sym (base_outside b e) i; writes = []; reads = [] }

    abbrev whole : State
    whole = record s { histories = t.histories }

    bucket_is : (b : ℕ) → bucket whole b ≡ bucket_at (held ds) (length config.sets) b
    bucket_is b = λ i. record {
      entry = entries_are b i;
      rows = rows_are b i;
      kept = in_sets (λ t. kept_in t b) (λ d. 0) (λ d t h. ap (λ es. unwrap_or (value_of nat_cmp es b) 0) h.kept) i;
      transfer = in_sets (λ t. transfer_in t b) (λ d. None) (λ d t h. ap (λ es. value_of nat_cmp es b) h.transfers) i;
      ask = in_sets (λ t. ask_in t b) (λ d. None) (λ d t h. ap (λ es. option_map ask (ask_of es b)) h.asks) i;
      history = histories_are b i;
    }

    link_is : (x y : ℕ) → link whole x y ≡ unused
    link_is x y = by (x == y)
      where
        by : (e : Bool) → (if e then unused else connection_of s.links x y) ≡ unused
        by true = refl
        by false = new.links.connections x y

    whole_is : plain whole ≡ opening config scripts (held ds)
    whole_is = λ i. record {
      config = new.config_is i;
      up = in_sets (λ t. t.is_up) (λ d. true) (λ d t h. h.up) i;
      pending = in_sets (λ t. option_map change t.pending) (λ d. None) (λ d t h. ap (option_map change) h.pending) i;
      last_fault = in_sets (λ t. t.last_fault) (λ d. 0) (λ d t h. h.last_fault) i;
      clients = as_many client client_at s.clients.items scripts.clients new.clients i;
      client = λ c. by_scripts client client_at s.clients.items scripts.clients new.clients c i;
      operators = as_many operator operator_at s.operators.items scripts.operators new.operators i;
      operator = λ o. by_scripts operator operator_at s.operators.items scripts.operators new.operators o i;
      bucket = λ b. bucket_is b i;
      link = λ x y. link_is x y i;
    }

    pub plain_is : plain t ≡ opening config scripts (held ds)
    plain_is = ap plain rest ∙ whole_is

    -- ---- it is sound

    -- no call holds a reference, nothing is being sent, and what is garbage is locked
    agreed_is : (x b : ℕ) → agreed (opening config scripts (held ds)) x b ≡ record no_counts { ro_lock = is_garbage ((held ds).entry x b) }
    agreed_is x b = λ i. record {
      ro = counts_none (λ c. false) (length scripts.clients) (λ c. refl) i;
      rw = counts_none (λ c. false) (length scripts.clients) (λ c. refl) i;
      ro_lock = is_garbage ((held ds).entry x b);
      rw_lock = false;
    }

    agrees : Agrees whole
    agrees = record {
      counts = λ x b. in_each (λ t. counts_of t.refs.items b) (λ d. record no_counts { ro_lock = is_garbage (d.entry b) }) (λ d t h. h.refs b) ds s.sets.items new.sets x ∙ sym (ap (λ m. agreed m x b) whole_is ∙ agreed_is x b);
      hauls = λ x. in_each (λ t. t.hauls) (λ d. 0) (λ d t h. h.hauls) ds s.sets.items new.sets x ∙ sym (ap (λ m. hauls_at m x) whole_is ∙ counts_none (λ b. false) config.bucket_count (λ b. refl));
    }

    pub sound : IsLawful config scripts → length ds ≡ length config.sets → IsSound t
    sound lawful each = subst IsSound (sym rest) (record {
      sized = record {
        sets = as_many_sets ds s.sets.items new.sets ∙ each ∙ sym sets_are;
        links = new.links.number ∙ sym sets_are;
        buckets = omega (arith, buckets_are, lawful.buckets.1);
        histories = ap length are ∙ sym (length-map hs history.means) ∙ ap length begun ∙ as_many_to (λ b. record { base = base_in (plain s) b; writes = []; reads = [] }) config.bucket_count ∙ sym buckets_are;
        clients = omega (arith, as_many client client_at s.clients.items scripts.clients new.clients, lawful.clients);
        operators = omega (arith, as_many operator operator_at s.operators.items scripts.operators new.operators, lawful.operators);
      };
      agrees = agrees;
    })

  -- ---- a coherent one opens

  module _ (lawful : IsLawful config scripts) (each : length ds ≡ length config.sets) (within : All (IsOfBuckets config.bucket_count) ds)
      (coherent : (b : ℕ) → 1 ≤ b → b ≤ s.config.bucket_count → IsCoherentAt (machine.sets_of (plain s)) (held_in (plain s)) b × ((x : ℕ) → IsRising (((plain s).bucket b).rows x))) where
    no_bucket : (x b : ℕ) → is_to config.bucket_count b ≡ false → ((held ds).entry x b ≡ None) × ((held ds).rows x b ≡ [])
    no_bucket x zero out = (zero_entry ds s.sets.items new.sets x, zero_rows ds x)
    no_bucket x (suc k) out = above config.bucket_count ds within x (suc k) (grind (arith, nat_tests, out))

    coherent_at : (b : ℕ) → is_to config.bucket_count b ≡ true → IsCoherentAt (length config.sets) (held ds) b × ((x : ℕ) → IsRising ((held ds).rows x b))
    coherent_at b there =
        let found = coherent b (grind (arith, nat_tests, there)) (grind (arith, nat_tests, there, buckets_are)) in (
          subst (λ (h : Holdings). IsCoherentAt (length config.sets) h b) held_are (subst (λ n. IsCoherentAt n (held_in (plain s)) b) sets_are found.0),
          λ x. subst (λ (rows : ℕ → RowMap). IsRising (rows x)) (rows_are b) (found.1 x),
        )

    pub opens : IsOpening config scripts (held ds)
    opens = record {
      lawful = lawful;
      holdings = record {
        sets = λ x b out. ap (λ (d : Durable). d.entry b) (past_states ds x (subst (λ n. is_to n x ≡ false) (sym each) out));
        buckets = λ x b out. (no_bucket x b out).0;
        empty = λ x b none. empty x b none (is_to config.bucket_count b) refl;
        rising = λ x b. rising x b (is_to config.bucket_count b) refl;
      };
      coherent = λ b first last. (coherent_at b (grind (arith, nat_tests, first, last))).0;
    }
      where
        empty : (x b : ℕ) → (held ds).entry x b ≡ None → (e : Bool) → is_to config.bucket_count b ≡ e → (held ds).rows x b ≡ []
        empty x b none true e = (coherent_at b e).0.empty x none
        empty x b none false e = (no_bucket x b e).1

        rising : (x b : ℕ) → (e : Bool) → is_to config.bucket_count b ≡ e → IsRising ((held ds).rows x b)
        rising x b true e = (coherent_at b e).1 x
        rising x b false e = subst IsRising (sym (no_bucket x b e).1) tt

-- the run without events reaches its opening
pub reached : (s : State) (config : Configuration) (scripts : Scripts) (held : Holdings) → IsOpening config scripts held → plain s ≡ opening config scripts held → IsReached (plain s)
reached s config scripts held opens is = record {
  config = config;
  scripts = scripts;
  held = held;
  events = [];
  opens = opens;
  runs = ap Ok (sym is);
}
