-- Each configuration that a document gives is lawful.
use Rattle.std.proofs.Common.{◌≡◌, ◌≢◌, ◌≤◌, ◌+◌, ◌==◌, ℕ, zero, suc, ◌⊎◌, inl, inr, ℤ, pos, negsuc, List, [], ◌∷◌, ◌++◌, Option, Some, None, Result, Ok, Err, Bool, true, false, nat_le, nat_lt, ◌&&◌, if◌then◌else◌, length, get_or, refl, ap, sym, ◌∙◌, subst, arith, append_assoc, append-nil, All, Any, AllPairs}
use Rattle.std.proofs.lemmas.Bool.{false≢true, and_parts, leb-true}
use Rattle.std.proofs.lemmas.Option.{cond_some}
use Rattle.std.proofs.lemmas.List.Elements.{All-cons}
use Rattle.std.proofs.lemmas.Slice.Eq.{bytes_eq-Decides}
use Rattle.std.proofs.lemmas.Bool.Decides.{nat_tests}
use Rattle.std.proofs.lemmas.List.Folds.{list_any_at}
use Rattle.std.proofs.lemmas.List.Quantifiers.{all_pairs_push}
use Rattle.std.specs.List.{list_any, list_all}
use Rattle.std.specs.Str.{bytes_eq}
use Rattle.toml.specs.Data.{Data, Items, Members, get_member, as_integer, as_array}
use Rattle.vs_config.specs.Configuration.{Configuration}
use Rattle.vs_config.specs.Key.{name_of, top_keys, set_keys}
use Rattle.vs_config.specs.Lawful.{IsLawful}
use Rattle.vs_config.specs.Reading.{bad_if, has_other_key, uuid_at, lock_at, name_is_text, or_bad, value_or, within, number_of, number_at, ◌>>=◌, ◌>>◌, sets_from, sets_of, sets_at, tables_of, set_of, first_double, differ, configuration_of}
use Rattle.vs_config.specs.declared.config.SetConfig.{SetConfig}
use Rattle.vs_config.specs.declared.fault.ConfigFault.{ConfigFault}
use Rattle.vs_config.specs.declared.fault.ConfigKind.{ConfigKind}
use Rattle.vs_config.specs.declared.fault.ConfigKind.TheVariants.{UnknownKey, MissingKey, WrongKind, OutOfRange, NoSets, TooManySets, NoWeight}
use Rattle.vs_config.specs.declared.key.ConfigKey.{ConfigKey}
use Rattle.vs_config.specs.declared.key.ConfigKey.TheVariants.{BucketCount, RebalancerDisbalanceThreshold, RebalancerMaxReceiving, RebalancerMaxSending, Set, Weight, Other}

-- a step that went on
step : {A B : Type 0} (r : Result A ConfigFault) (rest : A → Result B ConfigFault) (b : B) → (r >>= rest) ≡ Ok b → (a : A) × (r ≡ Ok a) × (rest a ≡ Ok b)
step (Ok a) rest b e = (a, refl, e)
step (Err fault) rest b e = cc

-- a test that let the rest go on
passed : (test : Bool) (kind : ConfigKind) (set : ℕ) (key : ConfigKey) (u : Unit {0}) → bad_if test kind set key ≡ Ok u → test ≡ false
passed false kind set key u e = refl
passed true kind set key u e = cc

-- a value that is there
given : {A : Type 0} (o : Option A) (kind : ConfigKind) (set : ℕ) (key : ConfigKey) (a : A) → or_bad o kind set key ≡ Ok a → o ≡ Some a
given (Some b) kind set key a e = cc
given None kind set key a e = cc

-- a number in its range
abbrev IsFromTo : ℕ → ℕ → ℕ → Type 0
IsFromTo low high n = (low ≤ n) × (n ≤ high)

within_range : (low high : ℕ) (z : ℤ) (n : ℕ) → within low high z ≡ Some n → IsFromTo low high n
within_range low high (pos m) n e =
    let (tested, same) = cond_some (nat_le low m && nat_le m high) m n e in
    let (above, below) = and_parts (nat_le low m) (nat_le m high) tested in
    subst (IsFromTo low high) same (leb-true low m above, leb-true m high below)
within_range low high (negsuc m) n e = cc

number_range : (value : Option Data) (set : ℕ) (key : ConfigKey) (low high default n : ℕ) → low ≤ default → default ≤ high
    → value_or default (number_of set key low high) value ≡ Ok n → IsFromTo low high n
number_range None set key low high default n above below e =
    let same : default ≡ n = cc in
    subst (IsFromTo low high) same (above, below)
number_range (Some value) set key low high default n above below e =
    let (z, is, rest) = step (or_bad (as_integer value) WrongKind set key) (λ z. or_bad (within low high z) OutOfRange set key) n e in
    within_range low high z n (given (within low high z) OutOfRange set key n rest)

-- the steps of a set that went on to the end
set_steps : (known : Result (Unit {0}) ConfigFault) (u : Result (List ℕ) ConfigFault) (w : Result ℕ ConfigFault) (l : Result Bool ConfigFault) (name : Result (Unit {0}) ConfigFault) (set : SetConfig)
    → (known >> (u >>= (λ uuid. w >>= (λ weight. l >>= (λ lock. name >> Ok (record { uuid = uuid; weight = weight; lock = lock })))))) ≡ Ok set
    → w ≡ Ok set.weight
set_steps (Err f) u w l name set e = cc
set_steps (Ok k) (Err f) w l name set e = cc
set_steps (Ok k) (Ok u) (Err f) l name set e = cc
set_steps (Ok k) (Ok u) (Ok w) (Err f) name set e = cc
set_steps (Ok k) (Ok u) (Ok w) (Ok l) (Err f) set e = cc
set_steps (Ok k) (Ok u) (Ok w) (Ok l) (Ok n) set e =
    let made : SetConfig = record { uuid = u; weight = w; lock = l } in
    let same : made ≡ set = cc in
    ap (λ (s : SetConfig). Ok s.weight) same

-- the weight of a set
weight_range : (number : ℕ) (table : Members) (set : SetConfig) → set_of number table ≡ Ok set → set.weight ≤ 1000000
weight_range number table set e =
    let is = set_steps (bad_if (has_other_key set_keys table) UnknownKey number Other) (uuid_at table number) (number_at table number Weight 0 1000000 1) (lock_at table number) (name_is_text table number) set e in
    let range = number_range (get_member (name_of Weight) table) number Weight 0 1000000 1 set.weight (omega arith) (omega arith) is in
    range.1

-- the sets from a number on: as many as tables, each with a weight in its range
sets_range : (number : ℕ) (tables : List Members) (sets : List SetConfig) → sets_from number tables ≡ Ok sets
    → (length sets ≡ length tables) × All (λ set. set.weight ≤ 1000000) sets
sets_range number [] sets e =
    let none : [] ≡ sets = cc in
    subst (λ ss. (length ss ≡ 0) × All (λ set. set.weight ≤ 1000000) ss) none (refl, λ k d h. absurd (omega arith))
sets_range number (t ∷ ts) sets e =
    let (first, is, more) = step (set_of number t) (λ set. sets_from (number + 1) ts >>= (λ rest. Ok (set ∷ rest))) sets e in
    let (rest, are, last) = step (sets_from (number + 1) ts) (λ rest. Ok (first ∷ rest)) sets more in
    let (count, weights) = sets_range (number + 1) ts rest are in
    let same : first ∷ rest ≡ sets = cc in
    subst (λ ss. (length ss ≡ suc (length ts)) × All (λ set. set.weight ≤ 1000000) ss) same
    (ap suc count, All-cons (λ set. set.weight ≤ 1000000) first rest (weight_range number t first is) weights)

-- the sets of a document
sets_of_range : (items : Items) (sets : List SetConfig) → sets_of items ≡ Ok sets → (1 ≤ length sets) × (length sets ≤ 32) × All (λ set. set.weight ≤ 1000000) sets
sets_of_range items sets e =
    let (tables, _, counted) = step (or_bad (tables_of items) WrongKind 0 Set) (λ tables. bad_if (length tables == 0) NoSets 0 Other >> (bad_if (nat_lt 32 (length tables)) TooManySets 0 Other >> sets_from 1 tables)) sets e in
    let (u, some, rest) = step (bad_if (length tables == 0) NoSets 0 Other) (λ _. bad_if (nat_lt 32 (length tables)) TooManySets 0 Other >> sets_from 1 tables) sets counted in
    let (v, few, read) = step (bad_if (nat_lt 32 (length tables)) TooManySets 0 Other) (λ _. sets_from 1 tables) sets rest in
    let (count, weights) = sets_range 1 tables sets read in
    let is_some = passed (length tables == 0) NoSets 0 Other u some in
    let is_few = passed (nat_lt 32 (length tables)) TooManySets 0 Other v few in
    let above : 1 ≤ length sets = grind (arith, nat_tests) in
    let below : length sets ≤ 32 = grind (arith, nat_tests) in
    (above, below, weights)

array_range : (items : Option Items) (sets : List SetConfig) → (or_bad items WrongKind 0 Set >>= sets_of) ≡ Ok sets → (1 ≤ length sets) × (length sets ≤ 32) × All (λ set. set.weight ≤ 1000000) sets
array_range None sets e = cc
array_range (Some items) sets e = sets_of_range items sets e

value_range : (value : Option Data) (sets : List SetConfig) → (or_bad value MissingKey 0 Set >>= (λ v. or_bad (as_array v) WrongKind 0 Set >>= sets_of)) ≡ Ok sets → (1 ≤ length sets) × (length sets ≤ 32) × All (λ set. set.weight ≤ 1000000) sets
value_range None sets e = cc
value_range (Some value) sets e = array_range (as_array value) sets e

-- no two of the sets have the same uuid
abbrev Differ : List SetConfig → Type 0
Differ sets = AllPairs (λ set later. set.uuid ≢ later.uuid) sets

-- no double was found at this set, nor later
not_here : (test : Bool) (n : ℕ) (later : Option ℕ) → (if test then Some n else later) ≡ None → (test ≡ false) × (later ≡ None)
not_here false n later e = (refl, e)
not_here true n later e = cc

differ_from : (before later : List SetConfig) → first_double before later ≡ None → Differ before → Differ (before ++ later)
differ_from before [] e differ = subst Differ (sym (append-nil before)) differ
differ_from before (set ∷ later) e differ =
    let test = λ (s : SetConfig). bytes_eq s.uuid set.uuid in
    let (none, rest) = not_here (list_any test before) (length before + 1) (first_double (before ++ set ∷ []) later) e in
    let more : Differ (before ++ set ∷ []) = all_pairs_push (λ s t. s.uuid ≢ t.uuid) before set differ (λ k d within same. false≢true (sym none ∙ list_any_at test before k d within ((bytes_eq-Decides (get_or before k d).uuid set.uuid).1 same))) in
    subst Differ (append_assoc before (set ∷ []) later) (differ_from (before ++ set ∷ []) later rest more)

-- a weight here, or later
weight_here : (n : ℕ) (rest : Bool) → ((n == 0) && rest) ≡ false → (1 ≤ n) ⊎ (rest ≡ false)
weight_here zero rest e = inr e
weight_here (suc n) rest e = inl (omega arith)

-- some set has a weight
some_weight : (sets : List SetConfig) → list_all (λ set. set.weight == 0) sets ≡ false → Any (λ set. 1 ≤ set.weight) sets
some_weight [] e = cc
some_weight (set ∷ sets) e =
    elim (weight_here set.weight (list_all (λ s. s.weight == 0) sets) e) [
      | inl here ↦ (0, set, omega arith, refl, here)
      | inr later ↦ let (k, s, within, is, weight) = some_weight sets later in (suc k, s, omega arith, is, weight)
    ]

-- the steps of a document that went on to the end
steps : (known : Result (Unit {0}) ConfigFault) (n m r s : Result ℕ ConfigFault) (sets : Result (List SetConfig) ConfigFault) (differs weighs : List SetConfig → Result (Unit {0}) ConfigFault) (c : Configuration)
    → (known >> (n >>= (λ bucket_count. m >>= (λ threshold. r >>= (λ max_receiving. s >>= (λ max_sending. sets >>= (λ all. differs all >> (weighs all >> Ok (record { bucket_count = bucket_count; threshold = threshold; max_receiving = max_receiving; max_sending = max_sending; sets = all }))))))))) ≡ Ok c
    → (n ≡ Ok c.bucket_count) × (m ≡ Ok c.threshold) × (r ≡ Ok c.max_receiving) × (s ≡ Ok c.max_sending) × (sets ≡ Ok c.sets) × (differs c.sets ≡ Ok tt) × (weighs c.sets ≡ Ok tt)
steps (Err f) n m r s sets differs weighs c e = cc
steps (Ok u) (Err f) m r s sets differs weighs c e = cc
steps (Ok u) (Ok n) (Err f) r s sets differs weighs c e = cc
steps (Ok u) (Ok n) (Ok m) (Err f) s sets differs weighs c e = cc
steps (Ok u) (Ok n) (Ok m) (Ok r) (Err f) sets differs weighs c e = cc
steps (Ok u) (Ok n) (Ok m) (Ok r) (Ok s) (Err f) differs weighs c e = cc
steps (Ok u) (Ok n) (Ok m) (Ok r) (Ok s) (Ok all) differs weighs c e =
    let made : Configuration = record { bucket_count = n; threshold = m; max_receiving = r; max_sending = s; sets = all } in
    let (v, differ, rest) = step (differs all) (λ _. weighs all >> Ok made) c e in
    let (w, weigh, last) = step (weighs all) (λ _. Ok made) c rest in
    let same : made ≡ c = cc in
    let sets_same = ap (λ (k : Configuration). k.sets) same in (
      ap (λ (k : Configuration). Ok k.bucket_count) same,
      ap (λ (k : Configuration). Ok k.threshold) same,
      ap (λ (k : Configuration). Ok k.max_receiving) same,
      ap (λ (k : Configuration). Ok k.max_sending) same,
      ap (λ (k : Configuration). Ok k.sets) same,
      sym (ap differs sets_same) ∙ differ,
      sym (ap weighs sets_same) ∙ weigh,
    )

-- no set was a double
no_double : (double : Option ℕ) → differ double ≡ Ok tt → double ≡ None
no_double None e = refl
no_double (Some n) e = cc

pub configuration_of-IsLawful : (document : Members) (c : Configuration) → configuration_of document ≡ Ok c → IsLawful c
configuration_of-IsLawful document c e =
    let at = λ (key : ConfigKey). get_member (name_of key) document in
    let (buckets, threshold, receiving, sending, sets, differs, weighs) =
    steps (bad_if (has_other_key top_keys document) UnknownKey 0 Other)
    (number_at document 0 BucketCount 1 30000 3000)
    (number_at document 0 RebalancerDisbalanceThreshold 0 100 1)
    (number_at document 0 RebalancerMaxReceiving 1 30000 100)
    (number_at document 0 RebalancerMaxSending 1 15 1)
    (sets_at document)
    (λ all. differ (first_double [] all))
    (λ all. bad_if (list_all (λ s. s.weight == 0) all) NoWeight 0 Other) c e in
    let (some, few, weights) = value_range (at Set) c.sets sets in
    record {
      bucket_count = number_range (at BucketCount) 0 BucketCount 1 30000 3000 c.bucket_count (omega arith) (omega arith) buckets;
      threshold = (number_range (at RebalancerDisbalanceThreshold) 0 RebalancerDisbalanceThreshold 0 100 1 c.threshold (omega arith) (omega arith) threshold).1;
      max_receiving = number_range (at RebalancerMaxReceiving) 0 RebalancerMaxReceiving 1 30000 100 c.max_receiving (omega arith) (omega arith) receiving;
      max_sending = number_range (at RebalancerMaxSending) 0 RebalancerMaxSending 1 15 1 c.max_sending (omega arith) (omega arith) sending;
      number_of_sets = (some, few);
      weights = weights;
      uuids = differ_from [] c.sets (no_double (first_double [] c.sets) differs) (λ i j d _ within. absurd (omega arith));
      some_weight = some_weight c.sets (passed (list_all (λ s. s.weight == 0) c.sets) NoWeight 0 Other tt weighs);
    }
