-- The number of entries of a kind: a count over the numbers of the buckets, or how many of them pass.
use Rattle.std.proofs.Common.{◌≡◌, ℕ, zero, suc, ◌+◌, Bool, true, false, [], ◌∷◌, length, cond, refl, ap, ap₂, sym, ◌∙◌}
use Rattle.std.specs.Prelude.{filter, if◌then◌else◌}
use Rattle.std.proofs.lemmas.List.{length-append}
use Rattle.std.proofs.lemmas.List.Elements.{filter-append}
use Rattle.vs_space.specs.declared.status.StatusKind.{StatusKind}
use Rattle.vs_machine.specs.Report.{numbers_to}
use Rattle.vs_machine.specs.State.{State}
use Rattle.vs_machine.specs.Tables.{count_to}
use Rattle.vs_state.specs.Statuses.{has_kind, number_at}
use Rattle.vs_info.specs.Summaries.{entries_of}

one : (p : ℕ → Bool) (n : ℕ) → length (filter p (n ∷ [])) ≡ (if p n then 1 else 0)
one p n = by (p n)
  where
    by : (t : Bool) → length (cond t (n ∷ []) []) ≡ (if t then 1 else 0)
    by true = refl
    by false = refl

passing : (p : ℕ → Bool) (n : ℕ) → length (filter p (numbers_to n)) ≡ count_to p n
passing p zero = refl
passing p (suc n) =
    ap length (filter-append p (numbers_to n) (suc n ∷ []))
    ∙ length-append (filter p (numbers_to n)) (filter p (suc n ∷ []))
    ∙ ap₂ (λ a b. a + b) (passing p n) (one p (suc n))

pub entries_counted : (s : State) (x : ℕ) (kind : StatusKind) → number_at s x kind ≡ entries_of s x kind
unfolding entries_of
entries_counted s x kind = sym (passing (λ b. has_kind kind ((s.bucket b).entry x)) s.config.bucket_count)
