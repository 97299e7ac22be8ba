-- What a text gives once its lines are read.
use Rattle.std.proofs.Common.{◌≡◌, ℕ, ◌≤◌, ◌<◌, nat_lt, Bool, false, inl, inr, List, Result, Ok, Err, ap, ◌∙◌}
use Rattle.std.specs.Str.Lines.{lines}
use Rattle.std.specs.Prelude.{IsTrue, ◌↔◌}
use Rattle.std.proofs.lemmas.Bool.{cases_lt, le-ltb, lt-ltb}
use Rattle.vs_script.specs.Words.{◌>>=◌, bad_if}
use Rattle.vs_plan.specs.declared.counts.SetCount.{SetCount}
use Rattle.vs_plan.specs.declared.fault.CountsError.{CountsError}
use Rattle.vs_plan.specs.declared.fault.CountsError.TheVariants as error
use Rattle.vs_plan.specs.declared.fault.CountsFault.{CountsFault}
use Rattle.vs_plan.specs.declared.fault.CountsFault.TheVariants.{TooMany}
use Rattle.vs_plan.specs.Faults.{IsBad}
use Rattle.vs_plan.specs.Reading.{counts_in, most_buckets, reading_of, total}

abbrev summed : List SetCount → Bool → Result (List SetCount) CountsFault
summed counts many = bad_if many TooMany >>= (λ _. Ok counts)

abbrev from_lines : Result (List SetCount) CountsFault → Result (List SetCount) CountsFault
from_lines given = given >>= (λ counts. summed counts (nat_lt most_buckets (total counts)))

of_lines : (sets : ℕ) (text : List ℕ) (given : Result (List SetCount) CountsFault) → counts_in 1 sets (lines text) ≡ given → reading_of sets text ≡ from_lines given
unfolding reading_of
of_lines sets text given is = ap from_lines is

pub are_read : (sets : ℕ) (text : List ℕ) (counts : List SetCount) → counts_in 1 sets (lines text) ≡ Ok counts → total counts ≤ 30000 → reading_of sets text ≡ Ok counts
are_read sets text counts is few = of_lines sets text (Ok counts) is ∙ ap (summed counts) (le-ltb 30000 (total counts) few)

pub too_many : (sets : ℕ) (text : List ℕ) (counts : List SetCount) → counts_in 1 sets (lines text) ≡ Ok counts → 30000 < total counts → reading_of sets text ≡ Err TooMany
too_many sets text counts is many = of_lines sets text (Ok counts) is ∙ ap (summed counts) (lt-ltb 30000 (total counts) many)

pub bad_lines : (e : CountsError) (sets : ℕ) (text : List ℕ) → IsBad e (counts_in 1 sets (lines text)) → IsBad e (reading_of sets text)
bad_lines (error.Bad fault) sets text is = of_lines sets text (Err fault) is
bad_lines error.NoMemory sets text is = tt

pub many_from : (b : Bool) (n : ℕ) → (IsTrue b ↔ (n ≤ 30000)) → b ≡ false → 30000 < n
many_from b n iff isnt = elim (cases_lt 30000 n) [
  | inl more ↦ more
  | inr less ↦ (let yes = iff.1 less in cc)
]
