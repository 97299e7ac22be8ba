-- The first set that has the uuid of a set before it, set by set.
use Rattle.std.proofs.Common.{◌≡◌, ◌<◌, ◌≤◌, arith, ◌+◌, ℕ, List, [], ◌∷◌, ◌++◌, Some, true, false, length, get_or, take, drop, ap, sym, ◌∙◌, length-take-le}
use Rattle.std.proofs.lemmas.List.{drop_more, take_more}
use Rattle.std.specs.List.{list_any}
use Rattle.std.specs.Str.{bytes_eq}
use Rattle.vs_config.specs.Reading.{first_double}
use Rattle.vs_config.specs.declared.config.SetConfig.{SetConfig}

-- the sets from this one on
from_here : (sets : List SetConfig) (i : ℕ) (set : SetConfig) → set ≡ get_or sets i set → i < length sets → drop i sets ≡ set ∷ drop (i + 1) sets
from_here sets i set here within = drop_more sets i set within ∙ ap (λ s. s ∷ drop (i + 1) sets) (sym here)

pub double_here : (sets : List SetConfig) (i : ℕ) (set : SetConfig) → set ≡ get_or sets i set → i < length sets
    → list_any (λ s. bytes_eq s.uuid set.uuid) (take i sets) ≡ true
    → first_double (take i sets) (drop i sets) ≡ Some (i + 1)
double_here sets i set here within double =
    let before : i ≤ length sets = omega arith in
    rw (from_here sets i set here within, double) (ap (λ n. Some (n + 1)) (length-take-le i sets before))

pub no_double_here : (sets : List SetConfig) (i : ℕ) (set : SetConfig) → set ≡ get_or sets i set → i < length sets
    → list_any (λ s. bytes_eq s.uuid set.uuid) (take i sets) ≡ false
    → first_double (take i sets) (drop i sets) ≡ first_double (take (i + 1) sets) (drop (i + 1) sets)
no_double_here sets i set here within none =
    rw (from_here sets i set here within, none)
    (ap (λ before. first_double before (drop (i + 1) sets)) (ap (λ s. take i sets ++ s ∷ []) here ∙ sym (take_more sets i set within)))
