-- The buckets of a page are buckets of the cluster.
use Rattle.std.proofs.Common.{ℕ, zero, suc, ◌≤◌, Option, arith}
use Rattle.std.specs.List.{All, filter}
use Rattle.std.proofs.lemmas.List.Elements.{All-filter, All-take, All-push}
use Rattle.vs_machine.specs.State.{State}
use Rattle.vs_machine.specs.Tables.{list_to}
use Rattle.vs_survey.specs.Readers.{is_listed, page}

numbers_within : (most n : ℕ) → n ≤ most → All (λ (b : ℕ). b ≤ most) (list_to (λ (b : ℕ). b) n)
numbers_within most zero within = λ k d less. absurd (omega arith)
numbers_within most (suc n) within = All-push (λ (b : ℕ). b ≤ most) (list_to (λ b. b) n) (suc n) (numbers_within most n (omega arith)) within

pub page_within : (s : State) (x : ℕ) (after : Option ℕ) → All (λ b. b ≤ s.config.bucket_count) (page s x after)
page_within s x after =
    let most = s.config.bucket_count in
    let P : ℕ → Type 0 = λ b. b ≤ most in
    let all = list_to (λ b. b) most in
    All-take P 1000 (filter (is_listed s x after) all) (All-filter (is_listed s x after) P all (numbers_within most most (omega arith)))
