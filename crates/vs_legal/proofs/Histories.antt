-- The histories of an account are those of the cluster: each entry is at its place, with its answers.
use Rattle.std.proofs.Common.{◌≡◌, ℕ, zero, suc, ◌+◌, List, [], ◌∷◌, length, take, Some, refl, ap, ◌∙◌, subst, arith, inl, inr}
use Rattle.std.specs.Prelude.{slice_get}
use Rattle.vs_rows.specs.Operations.{answers_to, rows_after}
use Rattle.vs_rows.specs.RowMap.{RowMap}
use Rattle.vs_history.specs.History as history
use Rattle.vs_script.specs.Calls as scripts
use Rattle.vs_machine.specs.History.{IsLegal}
use Rattle.vs_audit.specs.Account.{Entry}
use Rattle.vs_audit.specs.Legal as audit
use Rattle.vs_audit.specs.declared.fault.Illegal.TheVariants.{WrongPlace, WrongAnswers}
use Rattle.vs_legal.specs.Account.{entry_at, entries_from, history_at}

-- the entry says what the cluster's says
pub record IsOf (e : Entry) (m : history.Entry) : Type 0 where
  pub id : e.id ≡ m.id
  pub ops : e.ops ≡ m.ops
  pub answers : e.answers ≡ m.answers
  pub place : e.place ≡ m.place

pub entry_is_of : (line : ℕ) (es : List history.Entry) (n : ℕ) (e : Entry) → slice_get (entries_from line es) n ≡ Some e → (m : history.Entry) × (slice_get es n ≡ Some m) × IsOf e m
entry_is_of line [] zero e at = let no : ⊥ = cc at in absurd no
entry_is_of line [] (suc n) e at = let no : ⊥ = cc at in absurd no
entry_is_of line (x ∷ xs) zero e at =
    let same : entry_at line x ≡ e = cc at in
    (x, refl, subst (λ (e : Entry). IsOf e x) same (record { id = refl; ops = refl; answers = refl; place = refl }))
entry_is_of line (x ∷ xs) (suc n) e at = entry_is_of (line + 1) xs n e at

pub replay_same : (line : ℕ) (rows : RowMap) (es : List history.Entry) (k : ℕ) → audit.replay rows (take k (entries_from line es)) ≡ history.replay rows (take k es)
replay_same line rows [] zero = refl
replay_same line rows [] (suc k) = refl
replay_same line rows (x ∷ xs) zero = refl
replay_same line rows (x ∷ xs) (suc k) = replay_same (line + 1) (rows_after rows x.ops) xs k

pub entries_length : (line : ℕ) (es : List history.Entry) → length (entries_from line es) ≡ length es
entries_length line [] = refl
entries_length line (x ∷ xs) = ap suc (entries_length (line + 1) xs)

has_answers : (rows others : RowMap) (e : Entry) (m : history.Entry) → IsOf e m → rows ≡ others → m.answers ≡ answers_to others m.ops → audit.HasAnswers rows e
has_answers rows others e m of same right = rw (of.answers, of.ops, same) right

module _ (calls : ℕ → List scripts.Call) (line b : ℕ) (h : history.History) (legal : IsLegal calls b h) where
  pub rows_same : (place : ℕ) → audit.rows_at (history_at line b h) place ≡ history.rows_at h place
  rows_same place = replay_same (line + 1 + length h.base) h.base h.writes place

  pub right_places : (l : ℕ) → audit.HistoryFault (history_at line b h) l WrongPlace → ⊥
  right_places l (inl (n, w, at, is, wrong)) =
      let m = entry_is_of (line + 1 + length h.base) h.writes n w at in
      wrong (m.2.place ∙ legal.writes_placed n m.0 m.1)
  right_places l (inr (n, r, at, is, low)) =
      let m = entry_is_of (line + 1 + length h.base + length h.writes) h.reads n r at in
      omega (arith, low, m.2.place, legal.reads_placed n m.0 m.1, entries_length (line + 1 + length h.base) h.writes)

  pub right_answers : (l : ℕ) → audit.HistoryFault (history_at line b h) l WrongAnswers → ⊥
  right_answers l (inl (n, w, at, is, wrong)) =
      let m = entry_is_of (line + 1 + length h.base) h.writes n w at in
      wrong (has_answers (audit.rows_at (history_at line b h) n) (history.rows_at h n) w m.0 m.2 (rows_same n) (legal.writes_answered n m.0 m.1))
  right_answers l (inr (n, r, at, is, low, wrong)) =
      let m = entry_is_of (line + 1 + length h.base + length h.writes) h.reads n r at in
      let same : audit.rows_at (history_at line b h) r.place ≡ history.rows_at h m.0.place = ap (λ p. audit.rows_at (history_at line b h) p) m.2.place ∙ rows_same m.0.place in
      wrong (has_answers (audit.rows_at (history_at line b h) r.place) (history.rows_at h m.0.place) r m.0 m.2 same (legal.reads_answered n m.0 m.1))
