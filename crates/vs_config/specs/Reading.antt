-- The configuration that a text gives, or the first thing that is wrong with it.
use Rattle.std.specs.Prelude.{◌≡◌, IsUtf8, ℕ, ◌+◌, ◌==◌, nat_lt, nat_le, ℤ, pos, negsuc, Bool, false, not, ◌&&◌, ◌||◌, List, [], ◌∷◌, ◌++◌, length, Option, Some, None, is_some, option_map, option_and_then, Result, Ok, Err, if◌then◌else◌, bytes_eq}
use Rattle.std.specs.List.{list_any, list_all}
use Rattle.std.specs.Str.{is_utf8}
use Rattle.toml.specs.Data.{Data, Items, no_items, item, Members, no_members, member, get_member, as_str, as_bool, as_integer, as_table, as_array}
use Rattle.toml.specs.Parse.{parse_document}
use Rattle.uuid.specs.Text.{parsed}
use Rattle.vs_config.specs.Configuration.{Configuration}
use Rattle.vs_config.specs.Key.{name_of, top_keys, set_keys}
use Rattle.vs_config.specs.declared.config.SetConfig.{SetConfig}
use Rattle.vs_config.specs.declared.fault.ConfigFault.{ConfigFault}
use Rattle.vs_config.specs.declared.fault.ConfigFault.TheVariants.{Bad}
use Rattle.vs_config.specs.declared.fault.ConfigKind.{ConfigKind}
use Rattle.vs_config.specs.declared.fault.ConfigKind.TheVariants.{NotToml, UnknownKey, MissingKey, WrongKind, OutOfRange, NoSets, TooManySets, BadUuid, DoubleUuid, NoWeight}
use Rattle.vs_config.specs.declared.key.ConfigKey.{ConfigKey}
use Rattle.vs_config.specs.declared.key.ConfigKey.TheVariants.{BucketCount, RebalancerDisbalanceThreshold, RebalancerMaxReceiving, RebalancerMaxSending, Set, Uuid, Weight, Lock, Name, Other}

-- this is wrong at this key, in the set of this number or, at 0, outside the sets
abbrev pub bad : {A : Type 0} → ConfigKind → ℕ → ConfigKey → Result A ConfigFault
bad kind set key = Err (Bad kind set key)

-- that, where the test holds
abbrev pub bad_if : Bool → ConfigKind → ℕ → ConfigKey → Result (Unit {0}) ConfigFault
bad_if test kind set key = if test then bad kind set key else Ok tt

-- the value, or that where there is none
abbrev pub or_bad : {A : Type 0} → Option A → ConfigKind → ℕ → ConfigKey → Result A ConfigFault
or_bad (Some a) kind set key = Ok a
or_bad None kind set key = bad kind set key

-- a step and those after it, up to the first fault
infixl 10 ◌>>=◌
abbrev pub ◌>>=◌ : {A B : Type 0} → Result A ConfigFault → (A → Result B ConfigFault)
    → Result B ConfigFault
Ok a >>= rest = rest a
Err fault >>= rest = Err fault

infixl 10 ◌>>◌
abbrev pub ◌>>◌ : {A B : Type 0} → Result A ConfigFault → Result B ConfigFault
    → Result B ConfigFault
step >> rest = step >>= (λ _. rest)

-- the table has a key that is none of these
abbrev pub has_other_key : List ConfigKey → Members → Bool
has_other_key keys no_members = false
has_other_key keys (member bytes value rest) =
    not (list_any (λ key. bytes_eq bytes (name_of key)) keys) || has_other_key keys rest

-- what the value at a key stands for, and the default where the key isn't there
abbrev pub value_or : {A : Type 0} → A → (Data → Result A ConfigFault) → Option Data
    → Result A ConfigFault
value_or default read None = Ok default
value_or default read (Some value) = read value

-- a whole number from low to high
abbrev pub within : ℕ → ℕ → ℤ → Option ℕ
within low high (pos n) = if nat_le low n && nat_le n high then Some n else None
within low high (negsuc n) = None

abbrev pub number_of : ℕ → ConfigKey → ℕ → ℕ → Data → Result ℕ ConfigFault
number_of set key low high value = do
  number ← or_bad (as_integer value) WrongKind set key
  or_bad (within low high number) OutOfRange set key

abbrev pub number_at : Members → ℕ → ConfigKey → ℕ → ℕ → ℕ → Result ℕ ConfigFault
number_at table set key low high default =
    value_or default (number_of set key low high) (get_member (name_of key) table)

-- the uuid of a set, in any of the forms that `uuid` parses
abbrev pub uuid_at : Members → ℕ → Result (List ℕ) ConfigFault
uuid_at table set = do
  value ← or_bad (get_member (name_of Uuid) table) MissingKey set Uuid
  text ← or_bad (as_str value) WrongKind set Uuid
  or_bad (parsed text) BadUuid set Uuid

abbrev pub lock_at : Members → ℕ → Result Bool ConfigFault
lock_at table set =
    value_or false (λ value. or_bad (as_bool value) WrongKind set Lock)
    (get_member (name_of Lock) table)

-- the name of a set, which nothing uses, is a text where there is one
abbrev pub name_is_text : Members → ℕ → Result (Unit {0}) ConfigFault
name_is_text table set =
    value_or tt (λ value. bad_if (not (is_some (as_str value))) WrongKind set Name)
    (get_member (name_of Name) table)

-- the set of this number
abbrev pub set_of : ℕ → Members → Result SetConfig ConfigFault
set_of set table = do
  bad_if (has_other_key set_keys table) UnknownKey set Other
  uuid ← uuid_at table set
  weight ← number_at table set Weight 0 1000000 1
  lock ← lock_at table set
  name_is_text table set
  Ok (record { uuid = uuid; weight = weight; lock = lock })

-- the sets from this number on
abbrev pub sets_from : ℕ → List Members → Result (List SetConfig) ConfigFault
sets_from number [] = Ok []
sets_from number (table ∷ tables) = do
  set ← set_of number table
  sets ← sets_from (number + 1) tables
  Ok (set ∷ sets)

-- the tables that the items are, where each is one
abbrev pub tables_of : Items → Option (List Members)
tables_of no_items = Some []
tables_of (item value rest) =
    option_and_then (λ table. option_map (λ tables. table ∷ tables) (tables_of rest))
    (as_table value)

-- the sets that the items are: 1 to 32 tables
abbrev pub sets_of : Items → Result (List SetConfig) ConfigFault
sets_of items = do
  tables ← or_bad (tables_of items) WrongKind 0 Set
  bad_if (length tables == 0) NoSets 0 Other
  bad_if (nat_lt 32 (length tables)) TooManySets 0 Other
  sets_from 1 tables

abbrev pub sets_at : Members → Result (List SetConfig) ConfigFault
sets_at document = do
  value ← or_bad (get_member (name_of Set) document) MissingKey 0 Set
  items ← or_bad (as_array value) WrongKind 0 Set
  sets_of items

-- the number of the first of the later sets that has the uuid of a set before it
abbrev pub first_double : List SetConfig → List SetConfig → Option ℕ
first_double before [] = None
first_double before (set ∷ later) =
    if list_any (λ s. bytes_eq s.uuid set.uuid) before then Some (length before + 1)
    else first_double (before ++ set ∷ []) later

-- no set has the uuid of a set before it
abbrev pub differ : Option ℕ → Result (Unit {0}) ConfigFault
differ None = Ok tt
differ (Some set) = bad DoubleUuid set Uuid

-- the configuration that a document gives, or its first fault
abbrev pub configuration_of : Members → Result Configuration ConfigFault
configuration_of document = do
  bad_if (has_other_key top_keys document) UnknownKey 0 Other
  bucket_count ← number_at document 0 BucketCount 1 30000 3000
  threshold ← number_at document 0 RebalancerDisbalanceThreshold 0 100 1
  max_receiving ← number_at document 0 RebalancerMaxReceiving 1 30000 100
  max_sending ← number_at document 0 RebalancerMaxSending 1 15 1
  sets ← sets_at document
  differ (first_double [] sets)
  bad_if (list_all (λ s. s.weight == 0) sets) NoWeight 0 Other
  Ok (record {
    bucket_count = bucket_count;
    threshold = threshold;
    max_receiving = max_receiving;
    max_sending = max_sending;
    sets = sets;
  })

-- the text is this document
abbrev pub IsDocument : List ℕ → Members → Type 0
IsDocument text document = IsUtf8 text × (parse_document text ≡ Some document)

-- the document that a text is, if it is one: `is_utf8` is `IsUtf8` as a test
abbrev pub document_of : List ℕ → Option Members
document_of text = if is_utf8 text then parse_document text else None

-- the configuration that a text gives, or its first fault
unfoldable pub reading_of : List ℕ → Result Configuration ConfigFault
reading_of text = or_bad (document_of text) NotToml 0 Other >>= configuration_of
