-- The references of one set are written.
use Rattle.std.proofs.Common.{◌≡◌, ℕ, suc, sym, ap, subst, ◌∙◌}
use Rattle.vs_refs.specs.Calls.{Call, Makes, after}
use Rattle.vs_refs.specs.Counts.{no_counts}
use Rattle.vs_refs.specs.Refs.{counts_of}
use Rattle.vs_machine.specs.Tables.{put}
use Rattle.vs_state.specs.declared.state.State.{State}
use Rattle.vs_state.specs.declared.tables.SetTables.{SetTables}
use Rattle.vs_state.specs.Agrees.{counts_at, hauls_in}
use Rattle.vs_state.specs.Plain.{plain}
use Rattle.vs_core.specs.Cells.{cell}
use Rattle.vs_core.specs.Keeps.{IsSound}
use Rattle.vs_core.specs.References.{MakesAt}
use Rattle.vs_core.proofs.Sets.{IsSlot, written, has_tables, at_set, same_at, sized_written}
use Rattle.vs_core.proofs.Shown.{SameShown, plain_shown, sound_plain}

module _ (s : State) (x k : ℕ) (t u : SetTables) (o : IsSlot s x k t) (rest : u ≡ record t { refs = u.refs }) where
  shown : SameShown t u
  shown = record {
    cells = λ b. ap (λ (w : SetTables). cell w b) rest;
    up = ap (λ (w : SetTables). w.is_up) rest;
    pending = ap (λ (w : SetTables). w.pending) rest;
    last_fault = ap (λ (w : SetTables). w.last_fault) rest;
  }

  pub plain_refs : plain (written s k u) ≡ plain s
  plain_refs = plain_shown s x k t u o shown

  hauls_refs : hauls_in (written s k u) ≡ hauls_in s
  hauls_refs = same_at s k t u o.within o.is (λ t. t.hauls) 0 (ap (λ (w : SetTables). w.hauls) rest)

  pub makes_refs : (call : Call) → Makes call t.refs.items u.refs.items → MakesAt s (written s k u) x call
  makes_refs call makes = record { counts = counts; hauls = hauls_refs; plain = plain_refs }
    where
      counts : (b : ℕ) → (λ y. counts_at (written s k u) y b) ≡ put (λ y. counts_at s y b) x (after call b (counts_at s x b))
      counts b = subst (λ x. (λ y. counts_at (written s k u) y b) ≡ put (λ y. counts_at s y b) x (after call b (counts_at s x b))) o.at
          (at_set s k t u o.within o.is (λ t. counts_of t.refs.items b) no_counts
          ∙ ap (put (λ y. counts_at s y b) (suc k)) (makes b ∙ ap (after call b) (sym (has_tables s k t u o.within o.is (λ t. counts_of t.refs.items b) no_counts))))

  -- only the room changed
  pub sound_refs : u.refs.items ≡ t.refs.items → IsSound s → IsSound (written s k u)
  sound_refs same i = sound_plain s (written s k u) plain_refs
      (λ y b. ap (λ (f : ℕ → _). f y) (same_at s k t u o.within o.is (λ t. counts_of t.refs.items b) no_counts (ap (λ items. counts_of items b) same)))
      (λ y. ap (λ (f : ℕ → _). f y) hauls_refs) (sized_written s k t u o.within o.is i.sized) i
