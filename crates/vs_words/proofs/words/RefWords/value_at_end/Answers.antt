use Rattle.std.proofs.Common.{◌≡◌, ℕ, zero, suc, List, [], ◌∷◌, slice_index, sym, ap, ◌∙◌, subst}
use mathlib.Core.Option.{some, some-injective, some-ne-none}
use lib.ListN.{get_elem?}
use Rattle.atomic_table.specs.Seated.{TableId}
use Rattle.vs_words.specs.Rule.{IsSound, grip_of}
use Rattle.vs_words.specs.Standing.{Standing}
use Rattle.vs_words.proofs.words.RefWords.value_at_end.Goals as goal

index_of : (l : List ℕ) (i x : ℕ) → get_elem? l i ≡ some x → slice_index l i ≡ x
index_of [] i x at = absurd (some-ne-none x (sym at))
index_of (y ∷ ys) zero x at = some-injective y x at
index_of (y ∷ ys) (suc i) x at = index_of ys i x at

pub returns : goal.returns
returns c =
    let end = c.close_with-closed.ensures.values.2 in
    let key = c.self.invariant.0 ∙ ap (λ (z : TableId). z.words) c.self.view_is in
    record {
      state = end.0;
      sound = subst (λ count. IsSound count end.0) key end.1.0;
      value_is = ap (λ (l : List ℕ). slice_index l c.args.i) end.2 ∙ index_of _ c.args.i _ c.word-value.ensures;
      id = c.pass.inside.seat.id;
      view = c.pass.inside.seat.me.0;
      among = end.1.1;
      shows = record {
        spare = ap (λ (p : Standing). p.spare) c.pass.view_is;
        held = c.pass.invariant.0 ∙ ap (λ (p : Standing). grip_of p.held) c.pass.view_is;
        seen = ap (λ (p : Standing). p.seen) c.pass.view_is;
        known = ap (λ (p : Standing). p.known) c.pass.view_is;
      };
    }
