-- A history that grows by one entry.
use Rattle.std.proofs.Common.{◌≡◌, ℕ, zero, suc, inl, inr, ◌+◌, ◌≤◌, refl, sym, ap, ◌∙◌, arith, Some, List, [], ◌∷◌, ◌++◌, length}
use Rattle.std.specs.Prelude.{slice_get, ◌⊎◌}
use Rattle.std.proofs.lemmas.List.{take-append-le, take_all, length-append}
use Rattle.std.proofs.lemmas.Option.{slice_get_within}
use Rattle.vs_base.specs.declared.numbers.CallId.{CallId}
use Rattle.vs_rows.specs.RowMap.{RowMap}
use Rattle.vs_rows.specs.Operations.{answers_to, rows_after}
use Rattle.vs_rows.specs.Said.{Said}
use Rattle.vs_rows.specs.declared.op.Op.{Op}
use Rattle.vs_history.specs.History.{Entry, History, replay, rows_at, rows_now, write_count, with_write, with_read}
use Rattle.vs_machine.specs.Inner.Buckets.{IsReplayed}

pub replay-append : (m : RowMap) (ws : List Entry) (w : Entry) → replay m (ws ++ w ∷ []) ≡ rows_after (replay m ws) w.ops
replay-append m [] w = refl
replay-append m (v ∷ ws) w = replay-append (rows_after m v.ops) ws w

-- the rows at an earlier place are as they were
pub rows_at-with_write : (h : History) (id : CallId) (ops : List Op) (said : List Said) (v : ℕ) → v ≤ length h.writes → rows_at (with_write h id ops said) v ≡ rows_at h v
rows_at-with_write h id ops said v le = ap (replay h.base) (take-append-le v h.writes _ le)

-- the rows after all writes are those at the last place
pub rows_at-all : (h : History) → rows_at h (write_count h) ≡ rows_now h
rows_at-all h = ap (replay h.base) (take_all (length h.writes) h.writes (omega arith))

-- the last of a list that grew, or one of those before
pub slice_get-push : {A : Type 0} (xs : List A) (y : A) (n : ℕ) (x : A) → slice_get (xs ++ y ∷ []) n ≡ Some x → (slice_get xs n ≡ Some x) ⊎ ((n ≡ length xs) × (x ≡ y))
slice_get-push [] y zero x e = inr (refl, cc)
slice_get-push [] y (suc n) x e = absurd cc
slice_get-push (z ∷ xs) y zero x e = inl e
slice_get-push (z ∷ xs) y (suc n) x e = elim (slice_get-push xs y n x e) [ inl f ↦ inl f | inr f ↦ inr (ap suc f.0, f.1) ]

pub replayed_write : (h : History) (id : CallId) (ops : List Op) (said : List Said) → IsReplayed h → said ≡ answers_to (rows_now h) ops → IsReplayed (with_write h id ops said)
replayed_write h id ops said i says =
    let w : Entry = record { id = id; ops = ops; answers = said; place = length h.writes + 1 } in
    record {
      writes_placed = λ n e f. elim (slice_get-push h.writes w n e f) [ inl g ↦ i.writes_placed n e g | inr g ↦ ap (λ (u : Entry). u.place) g.1 ∙ ap (λ k. k + 1) (sym g.0) ];
      writes_answered = λ n e f. elim (slice_get-push h.writes w n e f) [
        | inl g ↦ rw (rows_at-with_write h id ops said n (omega (arith, slice_get_within h.writes n e g))) (i.writes_answered n e g)
        | inr g ↦ rw (g.1, g.0, rows_at-with_write h id ops said (length h.writes) (omega arith), take_all (length h.writes) h.writes (omega arith)) says
      ];
      reads_placed = λ n e f. omega (arith, i.reads_placed n e f, length-append h.writes (w ∷ []));
      reads_answered = λ n e f. rw (rows_at-with_write h id ops said e.place (i.reads_placed n e f)) (i.reads_answered n e f);
    }

pub replayed_read : (h : History) (id : CallId) (ops : List Op) (said : List Said) (place : ℕ) → IsReplayed h → place ≤ length h.writes → said ≡ answers_to (rows_at h place) ops → IsReplayed (with_read h id ops said place)
replayed_read h id ops said place i at says =
    let r : Entry = record { id = id; ops = ops; answers = said; place = place } in
    record {
      writes_placed = i.writes_placed;
      writes_answered = i.writes_answered;
      reads_placed = λ n e f. elim (slice_get-push h.reads r n e f) [ inl g ↦ i.reads_placed n e g | inr g ↦ rw (g.1) at ];
      reads_answered = λ n e f. elim (slice_get-push h.reads r n e f) [ inl g ↦ i.reads_answered n e g | inr g ↦ rw (g.1) says ];
    }
