-- The counts that a text gives for so many sets, or the first fault of the text.
use Rattle.std.specs.Prelude.{ℕ, zero, suc, ◌+◌, ◌≡◌, ◌≤◌, ◌&&◌, ◌==◌, not, nat_le, nat_lt, if◌then◌else◌, List, [], ◌∷◌, length, Option, Some, None, Result, Ok, Err, option_and_then}
use Rattle.std.specs.List.{list_all, sum_by, All}
use Rattle.std.specs.Str.Lines.{lines}
use Rattle.vs_text.specs.Lines.{has_short_words, is_text_byte, words_in}
use Rattle.vs_script.specs.Lines.{is_skipped}
use Rattle.vs_script.specs.Words.{◌>>=◌, ◌>>◌, or_bad, bad_if, short_number}
use Rattle.vs_plan.specs.declared.counts.SetCount.{SetCount}
use Rattle.vs_plan.specs.declared.fault.LineKind.{LineKind}
use Rattle.vs_plan.specs.declared.fault.LineKind.TheVariants.{BadByte, LongWord, BadCounts}
use Rattle.vs_plan.specs.declared.fault.CountsFault.{CountsFault}
use Rattle.vs_plan.specs.declared.fault.CountsFault.TheVariants.{Line, MissingSet, TooMany}

-- the most buckets of a cluster
abbrev pub most_buckets : ℕ
most_buckets = 30000

-- a set's count and its pinned buckets, if they can be such
abbrev pub set_count : ℕ → ℕ → Option SetCount
set_count count pinned =
    if nat_le pinned count && nat_le count most_buckets
    then Some (record { count = count; pinned = pinned }) else None

-- two words that are numbers of 1 to 9 digits
abbrev pub count_of : List (List ℕ) → Option SetCount
count_of (count ∷ pinned ∷ []) =
    option_and_then (λ c. option_and_then (set_count c) (short_number pinned)) (short_number count)
count_of words = None

-- what a line gives: nothing where it is skipped, and else the counts of a set
abbrev pub line_of : List ℕ → Result (Option SetCount) LineKind
line_of line = do
  bad_if (not (list_all is_text_byte line)) BadByte
  bad_if (not (has_short_words line)) LongWord
  if is_skipped (words_in line) then Ok None else (do
    count ← or_bad (count_of (words_in line)) BadCounts
    Ok (Some count))

-- a fault of the line of this number
abbrev pub at_line : {A : Type 0} → ℕ → Result A LineKind → Result A CountsFault
at_line number (Ok a) = Ok a
at_line number (Err kind) = Err (Line number kind)

-- What a line gives before others, where so many sets have no counts yet: the counts of the next
-- of them, before those that the other lines give to the sets after it.
abbrev pub before_others : ℕ → ℕ → Option SetCount → (ℕ → Result (List SetCount) CountsFault)
    → Result (List SetCount) CountsFault
before_others number left None others = others left
before_others number zero (Some count) others = Err (Line number BadCounts)
before_others number (suc left) (Some count) others =
    others left >>= (λ counts. Ok (count ∷ counts))

-- what these lines give to so many sets, the first line being of this number
abbrev pub counts_in : ℕ → ℕ → List (List ℕ) → Result (List SetCount) CountsFault
counts_in number left [] = if left == 0 then Ok [] else Err MissingSet
counts_in number left (line ∷ lines) =
    at_line number (line_of line)
    >>= (λ given. before_others number left given (λ n. counts_in (number + 1) n lines))

abbrev pub total : List SetCount → ℕ
total counts = sum_by (λ c. c.count) counts

-- what a text gives; lines are numbered from 1
unfoldable pub reading_of : ℕ → List ℕ → Result (List SetCount) CountsFault
reading_of sets text = do
  counts ← counts_in 1 sets (lines text)
  bad_if (nat_lt most_buckets (total counts)) TooMany
  Ok counts

-- counts that so many sets of a cluster may have
pub record AreCounts (sets : ℕ) (counts : List SetCount) : Type 0 where
  pub one_each : length counts ≡ sets
  pub pinned : All (λ c. c.pinned ≤ c.count) counts
  pub few : total counts ≤ most_buckets
