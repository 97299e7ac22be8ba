-- The ideals of the last sharing, in a row.
use Rattle.std.proofs.Common.{◌≡◌, ℕ, ◌-◌, List, [], ◌∷◌, map, refl, ap, ◌∙◌, sum}
use Rattle.std.specs.List.{zip}
use Rattle.vs_balance.specs.declared.member.Member.{Member}
use Rattle.vs_balance.specs.Sharing.{is_broken, surplus, number_with}
use Rattle.vs_balance.specs.Member.{weight_of, weights_of, shared_count, ideal_in, ideals_in}
use Rattle.vs_balance.proofs.Shares.{one_if, numbers_from, numbers_in_a_row}

abbrev ideal_at : Member × ℕ → ℕ
ideal_at p = ideal_in p.0 p.1

abbrev pub ideals_from : ℕ → ℕ → ℕ → List Member → List ℕ
ideals_from buckets total left [] = []
ideals_from buckets total left (m ∷ members) =
    ideal_in m (number_with buckets total left (weight_of m)) ∷ ideals_from buckets total (left - one_if (is_broken buckets total (weight_of m))) members

ideals_with_numbers : (buckets total left : ℕ) (members : List Member) → map ideal_at (zip members (numbers_from buckets total left (weights_of members))) ≡ ideals_from buckets total left members
ideals_with_numbers buckets total left [] = refl
ideals_with_numbers buckets total left (m ∷ members) =
    ap (λ (rest : List ℕ). ideal_in m (number_with buckets total left (weight_of m)) ∷ rest) (ideals_with_numbers buckets total (left - one_if (is_broken buckets total (weight_of m))) members)

abbrev pub ideals_in_a_row : List Member → List ℕ
ideals_in_a_row members = ideals_from (shared_count members) (sum (weights_of members)) (surplus (shared_count members) (weights_of members)) members

pub ideals-in_a_row : (members : List Member) → ideals_in members ≡ ideals_in_a_row members
ideals-in_a_row members =
    ap (λ (ns : List ℕ). map ideal_at (zip members ns)) (numbers_in_a_row (shared_count members) (weights_of members))
    ∙ ideals_with_numbers (shared_count members) (sum (weights_of members)) (surplus (shared_count members) (weights_of members)) members
