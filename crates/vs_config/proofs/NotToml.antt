-- No document is refused as `NotToml`.
use Rattle.std.proofs.Common.{◌≡◌, ◌==◌, ◌+◌, ℕ, List, [], ◌∷◌, length, Option, Some, None, is_some, not, Result, Ok, Err, Bool, true, false, nat_lt, refl}
use Rattle.std.specs.List.{list_all}
use Rattle.toml.specs.Data.{Data, Items, Members, get_member, as_array, as_bool, as_integer, as_str}
use Rattle.uuid.specs.Text.{parsed}
use Rattle.vs_config.specs.Configuration.{Configuration}
use Rattle.vs_config.specs.Key.{name_of, top_keys, set_keys}
use Rattle.vs_config.specs.Reading.{bad_if, or_bad, ◌>>=◌, ◌>>◌, value_or, within, number_of, number_at, uuid_at, lock_at, name_is_text, has_other_key, set_of, sets_from, tables_of, sets_of, sets_at, first_double, differ, configuration_of}
use Rattle.vs_config.specs.declared.config.SetConfig.{SetConfig}
use Rattle.vs_config.specs.declared.fault.ConfigFault.{ConfigFault}
use Rattle.vs_config.specs.declared.fault.ConfigFault.TheVariants.{Bad, NoMemory}
use Rattle.vs_config.specs.declared.fault.ConfigKind.{ConfigKind}
use Rattle.vs_config.specs.declared.fault.ConfigKind.TheVariants.{NotToml, UnknownKey, MissingKey, WrongKind, OutOfRange, NoSets, TooManySets, BadUuid, NoWeight}
use Rattle.vs_config.specs.declared.key.ConfigKey.{ConfigKey}
use Rattle.vs_config.specs.declared.key.ConfigKey.TheVariants.{BucketCount, RebalancerDisbalanceThreshold, RebalancerMaxReceiving, RebalancerMaxSending, Set, Uuid, Weight, Lock, Name, Other}

abbrev is_not_toml : ConfigKind → Bool
is_not_toml NotToml = true
is_not_toml _ = false

-- the text is refused as no document
abbrev pub refuses_toml : {A : Type 0} → Result A ConfigFault → Bool
refuses_toml (Ok a) = false
refuses_toml (Err NoMemory) = false
refuses_toml (Err (Bad kind set key)) = is_not_toml kind

-- a step and those after it
then : {A B : Type 0} (r : Result A ConfigFault) (rest : A → Result B ConfigFault) → refuses_toml r ≡ false → ((a : A) → refuses_toml (rest a) ≡ false) → refuses_toml (r >>= rest) ≡ false
then (Ok a) rest here later = later a
then (Err NoMemory) rest here later = refl
then (Err (Bad kind set key)) rest here later = here

tested : (test : Bool) (kind : ConfigKind) (set : ℕ) (key : ConfigKey) → is_not_toml kind ≡ false → refuses_toml (bad_if test kind set key) ≡ false
tested true kind set key is = is
tested false kind set key is = refl

wanted : {A : Type 0} (o : Option A) (kind : ConfigKind) (set : ℕ) (key : ConfigKey) → is_not_toml kind ≡ false → refuses_toml (or_bad o kind set key) ≡ false
wanted (Some a) kind set key is = refl
wanted None kind set key is = is

given : {A : Type 0} (default : A) (read : Data → Result A ConfigFault) (value : Option Data) → ((d : Data) → refuses_toml (read d) ≡ false) → refuses_toml (value_or default read value) ≡ false
given default read None is = refl
given default read (Some d) is = is d

number : (table : Members) (set : ℕ) (key : ConfigKey) (low high default : ℕ) → refuses_toml (number_at table set key low high default) ≡ false
number table set key low high default =
    given default (number_of set key low high) (get_member (name_of key) table)
    (λ d. then (or_bad (as_integer d) WrongKind set key) (λ z. or_bad (within low high z) OutOfRange set key) (wanted (as_integer d) WrongKind set key refl) (λ z. wanted (within low high z) OutOfRange set key refl))

uuid : (table : Members) (set : ℕ) → refuses_toml (uuid_at table set) ≡ false
uuid table set =
    let parse = λ (text : List ℕ). or_bad (parsed text) BadUuid set Uuid in
    let read = λ (value : Data). or_bad (as_str value) WrongKind set Uuid >>= parse in
    then (or_bad (get_member (name_of Uuid) table) MissingKey set Uuid) read (wanted (get_member (name_of Uuid) table) MissingKey set Uuid refl)
    (λ value. then (or_bad (as_str value) WrongKind set Uuid) parse (wanted (as_str value) WrongKind set Uuid refl) (λ text. wanted (parsed text) BadUuid set Uuid refl))

-- the steps of a set
set_steps : (known : Result (Unit {0}) ConfigFault) (u : Result (List ℕ) ConfigFault) (w : Result ℕ ConfigFault) (l : Result Bool ConfigFault) (name : Result (Unit {0}) ConfigFault)
    → refuses_toml known ≡ false → refuses_toml u ≡ false → refuses_toml w ≡ false → refuses_toml l ≡ false → refuses_toml name ≡ false
    → refuses_toml (known >> (u >>= (λ uuid. w >>= (λ weight. l >>= (λ lock. name >> Ok (let set : SetConfig = record { uuid = uuid; weight = weight; lock = lock } in set)))))) ≡ false
set_steps (Err f) u w l name a b c d e = a
set_steps (Ok k) (Err f) w l name a b c d e = b
set_steps (Ok k) (Ok u) (Err f) l name a b c d e = c
set_steps (Ok k) (Ok u) (Ok w) (Err f) name a b c d e = d
set_steps (Ok k) (Ok u) (Ok w) (Ok l) (Err f) a b c d e = e
set_steps (Ok k) (Ok u) (Ok w) (Ok l) (Ok n) a b c d e = refl

set : (number_of_set : ℕ) (table : Members) → refuses_toml (set_of number_of_set table) ≡ false
set n table =
    set_steps (bad_if (has_other_key set_keys table) UnknownKey n Other) (uuid_at table n) (number_at table n Weight 0 1000000 1) (lock_at table n) (name_is_text table n)
    (tested (has_other_key set_keys table) UnknownKey n Other refl) (uuid table n) (number table n Weight 0 1000000 1)
    (given false (λ d. or_bad (as_bool d) WrongKind n Lock) (get_member (name_of Lock) table) (λ d. wanted (as_bool d) WrongKind n Lock refl))
    (given tt (λ d. bad_if (not (is_some (as_str d))) WrongKind n Name) (get_member (name_of Name) table) (λ d. tested (not (is_some (as_str d))) WrongKind n Name refl))

sets : (n : ℕ) (tables : List Members) → refuses_toml (sets_from n tables) ≡ false
sets n [] = refl
sets n (table ∷ tables) =
    let rest = λ (first : SetConfig). sets_from (n + 1) tables >>= (λ others. Ok (first ∷ others)) in
    then (set_of n table) rest (set n table)
    (λ first. then (sets_from (n + 1) tables) (λ others. Ok (first ∷ others)) (sets (n + 1) tables) (λ others. refl))

items : (all : Items) → refuses_toml (sets_of all) ≡ false
items all =
    let some = λ (tables : List Members). bad_if (length tables == 0) NoSets 0 Other in
    let few = λ (tables : List Members). bad_if (nat_lt 32 (length tables)) TooManySets 0 Other in
    then (or_bad (tables_of all) WrongKind 0 Set) (λ tables. some tables >> (few tables >> sets_from 1 tables)) (wanted (tables_of all) WrongKind 0 Set refl)
    (λ tables. then (some tables) (λ _. few tables >> sets_from 1 tables) (tested (length tables == 0) NoSets 0 Other refl)
    (λ _. then (few tables) (λ _. sets_from 1 tables) (tested (nat_lt 32 (length tables)) TooManySets 0 Other refl) (λ _. sets 1 tables)))

array : (document : Members) → refuses_toml (sets_at document) ≡ false
array document =
    let read = λ (value : Data). or_bad (as_array value) WrongKind 0 Set >>= sets_of in
    then (or_bad (get_member (name_of Set) document) MissingKey 0 Set) read (wanted (get_member (name_of Set) document) MissingKey 0 Set refl)
    (λ value. then (or_bad (as_array value) WrongKind 0 Set) sets_of (wanted (as_array value) WrongKind 0 Set refl) items)

differing : (double : Option ℕ) → refuses_toml (differ double) ≡ false
differing None = refl
differing (Some n) = refl

-- the steps of a document
steps : (known : Result (Unit {0}) ConfigFault) (n m r s : Result ℕ ConfigFault) (all : Result (List SetConfig) ConfigFault) (last : ℕ → ℕ → ℕ → ℕ → List SetConfig → Result Configuration ConfigFault)
    → refuses_toml known ≡ false → refuses_toml n ≡ false → refuses_toml m ≡ false → refuses_toml r ≡ false → refuses_toml s ≡ false → refuses_toml all ≡ false
    → ((n m r s : ℕ) (sets : List SetConfig) → refuses_toml (last n m r s sets) ≡ false)
    → refuses_toml (known >> (n >>= (λ bucket_count. m >>= (λ threshold. r >>= (λ max_receiving. s >>= (λ max_sending. all >>= (λ sets. last bucket_count threshold max_receiving max_sending sets))))))) ≡ false
steps (Err f) n m r s all last a b c d e g h = a
steps (Ok u) (Err f) m r s all last a b c d e g h = b
steps (Ok u) (Ok n) (Err f) r s all last a b c d e g h = c
steps (Ok u) (Ok n) (Ok m) (Err f) s all last a b c d e g h = d
steps (Ok u) (Ok n) (Ok m) (Ok r) (Err f) all last a b c d e g h = e
steps (Ok u) (Ok n) (Ok m) (Ok r) (Ok s) (Err f) last a b c d e g h = g
steps (Ok u) (Ok n) (Ok m) (Ok r) (Ok s) (Ok all) last a b c d e g h = h n m r s all

pub refuses_toml-configuration_of : (document : Members) → refuses_toml (configuration_of document) ≡ false
refuses_toml-configuration_of document =
    let weighs = λ (all : List SetConfig). bad_if (list_all (λ s. s.weight == 0) all) NoWeight 0 Other in
    let made = λ (n m r s : ℕ) (all : List SetConfig). let c : Configuration = record { bucket_count = n; threshold = m; max_receiving = r; max_sending = s; sets = all } in c in
    steps (bad_if (has_other_key top_keys document) UnknownKey 0 Other)
    (number_at document 0 BucketCount 1 30000 3000)
    (number_at document 0 RebalancerDisbalanceThreshold 0 100 1)
    (number_at document 0 RebalancerMaxReceiving 1 30000 100)
    (number_at document 0 RebalancerMaxSending 1 15 1)
    (sets_at document)
    (λ n m r s all. differ (first_double [] all) >> (weighs all >> Ok (made n m r s all)))
    (tested (has_other_key top_keys document) UnknownKey 0 Other refl)
    (number document 0 BucketCount 1 30000 3000)
    (number document 0 RebalancerDisbalanceThreshold 0 100 1)
    (number document 0 RebalancerMaxReceiving 1 30000 100)
    (number document 0 RebalancerMaxSending 1 15 1)
    (array document)
    (λ n m r s all. then (differ (first_double [] all)) (λ _. weighs all >> Ok (made n m r s all)) (differing (first_double [] all))
    (λ _. then (weighs all) (λ _. Ok (made n m r s all)) (tested (list_all (λ s. s.weight == 0) all) NoWeight 0 Other refl) (λ _. refl)))
