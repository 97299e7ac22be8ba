-- What is told of a cluster, as a JSON value.
use Rattle.std.specs.Prelude.{ℕ, ◌+◌, ◌==◌, Bool, if◌then◌else◌, List, [], ◌∷◌, ◌++◌, map, codes, decimal}
use Rattle.std.specs.List.{flat_map, enumerate_from}
use Rattle.serde_json.specs.Data.{Data, number, unsigned, string, array, object, Members, no_members, member}
use Rattle.serde_json.specs.View.{items_of}
use Rattle.uuid.specs.Text.{hyphenated_text, lower}
use Rattle.vs_info.specs.declared.summary.SetSummary.{SetSummary}

-- members with these keys, in this order
abbrev pub members : List (List ℕ × Data) → Members
members [] = no_members
members (m ∷ ms) = member m.0 m.1 (members ms)

abbrev pub count : ℕ → Data
count n = number (unsigned n)

-- a set, its keys in byte order
unfoldable pub set_json : SetSummary → Data
set_json set = object (members (
    (codes "active", count set.active) ∷
    (codes "garbage", count set.garbage) ∷
    (codes "pinned", count set.pinned) ∷
    (codes "receiving", count set.receiving) ∷
    (codes "sending", count set.sending) ∷
    (codes "sent", count set.sent) ∷
    (codes "uuid", string (hyphenated_text lower set.uuid)) ∷ []))

-- `set S moving N`, say, where N is above 0
abbrev pub alert : List ℕ → ℕ → ℕ → List Data
alert kind x n =
    if n == 0 then []
    else string (codes "set " ++ decimal x ++ codes " " ++ kind ++ codes " " ++ decimal n) ∷ []

-- of the set of this number: its buckets that are under way, and those that it only has to give up
abbrev pub set_alerts : ℕ → SetSummary → List Data
set_alerts x set =
    alert (codes "moving") x (set.sending + set.receiving) ++ alert (codes "garbage") x (set.sent + set.garbage)

-- whether the sets are far from their ideal counts
abbrev pub disbalance : Bool → List Data
disbalance is_unbalanced = if is_unbalanced then string (codes "disbalanced") ∷ [] else []

abbrev pub alerts : List SetSummary → Bool → List Data
alerts sets is_unbalanced =
    flat_map (λ (x, set). set_alerts x set) (enumerate_from 1 sets) ++ disbalance is_unbalanced

-- the cluster, its keys in byte order: so many buckets, these sets, and whether they are far from their ideal counts
unfoldable pub cluster_json : ℕ → List SetSummary → Bool → Data
cluster_json buckets sets is_unbalanced = object (members (
    (codes "alerts", array (items_of (alerts sets is_unbalanced))) ∷
    (codes "bucket_count", count buckets) ∷
    (codes "sets", array (items_of (map set_json sets))) ∷ []))
