-- No float is told, so serde_json's text is the one by definition.
use Rattle.std.proofs.Common.{◌≡◌, ℕ, ◌+◌, Bool, true, false, List, [], ◌∷◌, ◌++◌, map, refl, ap, ap₂, ◌∙◌}
use Rattle.std.specs.Prelude.{◌||◌, ◌==◌, if◌then◌else◌, codes, decimal}
use Rattle.std.specs.List.{flat_map, enumerate_from}
use Rattle.serde_json.specs.Data.{Data, string}
use Rattle.serde_json.specs.View.{items_of}
use Rattle.serde_json.specs.Written.{has_float, items_have_float}
use Rattle.vs_info.specs.declared.summary.SetSummary.{SetSummary}
use Rattle.vs_info.specs.Json.{set_json, alert, set_alerts, disbalance, cluster_json}

abbrev have_float : List Data → Bool
have_float ds = items_have_float (items_of ds)

have_float-append : (xs ys : List Data) → have_float (xs ++ ys) ≡ (have_float xs || have_float ys)
have_float-append [] ys = refl
have_float-append (x ∷ xs) ys = ap (λ t. has_float x || t) (have_float-append xs ys) ∙ or_sym (has_float x) (have_float xs) (have_float ys)
  where
    or_sym : (a b c : Bool) → (a || (b || c)) ≡ ((a || b) || c)
    or_sym true b c = refl
    or_sym false b c = refl

none_in_both : (xs ys : List Data) → have_float xs ≡ false → have_float ys ≡ false → have_float (xs ++ ys) ≡ false
none_in_both xs ys first second = have_float-append xs ys ∙ ap₂ (λ a b. a || b) first second

none_of : (xs : Bool) (text : List ℕ) → have_float (if xs then [] else string text ∷ []) ≡ false
none_of true text = refl
none_of false text = refl

none_in_alert : (kind : List ℕ) (x n : ℕ) → have_float (alert kind x n) ≡ false
none_in_alert kind x n = none_of (n == 0) (codes "set " ++ decimal x ++ codes " " ++ kind ++ codes " " ++ decimal n)

none_in_disbalance : (is_unbalanced : Bool) → have_float (disbalance is_unbalanced) ≡ false
none_in_disbalance true = refl
none_in_disbalance false = refl

none_in_alerts : (n : ℕ) (sets : List SetSummary) → have_float (flat_map (λ (x, set). set_alerts x set) (enumerate_from n sets)) ≡ false
none_in_alerts n [] = refl
none_in_alerts n (set ∷ sets) =
    none_in_both (set_alerts n set) (flat_map (λ (x, set). set_alerts x set) (enumerate_from (n + 1) sets))
    (none_in_both (alert (codes "moving") n (set.sending + set.receiving)) (alert (codes "garbage") n (set.sent + set.garbage))
    (none_in_alert (codes "moving") n (set.sending + set.receiving)) (none_in_alert (codes "garbage") n (set.sent + set.garbage)))
    (none_in_alerts (n + 1) sets)

none_in_sets : (sets : List SetSummary) → have_float (map set_json sets) ≡ false
unfolding set_json
none_in_sets [] = refl
none_in_sets (set ∷ sets) = none_in_sets sets

pub none_in_cluster : (buckets : ℕ) (sets : List SetSummary) (is_unbalanced : Bool) → has_float (cluster_json buckets sets is_unbalanced) ≡ false
unfolding cluster_json
none_in_cluster buckets sets is_unbalanced =
    ap₂ (λ a b. a || (false || (b || false)))
    (none_in_both (flat_map (λ (x, set). set_alerts x set) (enumerate_from 1 sets)) (disbalance is_unbalanced) (none_in_alerts 1 sets) (none_in_disbalance is_unbalanced))
    (none_in_sets sets)
