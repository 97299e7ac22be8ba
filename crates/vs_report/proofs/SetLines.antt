-- The line of a set, from its tables.
use Rattle.std.proofs.Common.{◌≡◌, ℕ, ◌+◌, ◌<◌, true, List, [], ◌∷◌, ◌++◌, length, get_or, None, refl, ap, sym, ◌∙◌, arith}
use Rattle.std.specs.Prelude.{◌≢◌, codes, if◌then◌else◌}
use Rattle.std.specs.List.{flat_map}
use Rattle.vs_space.specs.declared.status.StatusKind.{StatusKind}
use Rattle.vs_space.specs.Entries.{RisesFrom, status_of, count_of}
use Rattle.vs_machine.specs.State.{has_bucket}
use Rattle.vs_machine.specs.Report.{number, kinds, kind_count, is_kind_at, set_line}
use Rattle.vs_state.specs.declared.tables.SetTables.{SetTables}
use Rattle.vs_state.specs.declared.state.State.{State}
use Rattle.vs_state.specs.Plain.{plain, entry_in}
use Rattle.vs_report.specs.SetText.{set_text}
use Rattle.vs_report.proofs.Counts.{count_is, count_same}
use Rattle.vs_report.proofs.Numbers.{numbered_next}

same_texts : {A : Type 0} (f g : A → List ℕ) (xs : List A) → ((x : A) → f x ≡ g x) → flat_map f xs ≡ flat_map g xs
same_texts f g [] same = refl
same_texts f g (x ∷ xs) same = rw (same x, same_texts f g xs same)

pub set_line_is : (s : State) (i : ℕ) (t : SetTables) → i < length s.sets.items → t ≡ get_or s.sets.items i t → RisesFrom 1 t.space.entries
    → ((b x : ℕ) → ((plain s).bucket b).entry x ≢ None → has_bucket (plain s) b ≡ true)
    → set_line (plain s) (i + 1) ≡ set_text (i + 1) t
set_line_is s i t within is rises inside =
    ap (λ u. codes "set" ++ number (i + 1) ++ (if u then codes " up" else codes " down") ++ flat_map (λ k. number (kind_count (plain s) (i + 1) k)) kinds) up_is
    ∙ ap (λ counts. codes "set" ++ number (i + 1) ++ (if t.is_up then codes " up" else codes " down") ++ counts)
    (same_texts (λ k. number (kind_count (plain s) (i + 1) k)) (λ k. number (count_of k t.space.entries)) kinds (λ k. ap number (counts_are k)))
  where
    up_is : (plain s).up (i + 1) ≡ t.is_up
    up_is = numbered_next (λ u. u.is_up) true refl i t within is

    entries_are : (b : ℕ) → ((plain s).bucket b).entry (i + 1) ≡ status_of t.space.entries b
    entries_are b = numbered_next (λ u. entry_in u b) None refl i t within is

    counts_are : (k : StatusKind) → kind_count (plain s) (i + 1) k ≡ count_of k t.space.entries
    counts_are k =
        count_same _ _ s.config.bucket_count (λ b below. ap (is_kind_at k) (entries_are b))
        ∙ count_is k t.space.entries 1 s.config.bucket_count (omega arith) rises (λ b some. inside b (i + 1) (λ none. some (sym (entries_are b) ∙ none)))
