-- The rows once all writes of a front were carried out.
use Rattle.std.proofs.Common.{◌≡◌, ℕ, ◌≤◌, sym, ap, ◌∙◌, List, take, drop, length}
use Rattle.std.proofs.lemmas.List.{drop_all, take-map}
use Rattle.vs_rows.specs.RowMap.{RowMap}
use Rattle.vs_history.specs.History.{entry, entries, replay}
use Rattle.vs_history.specs.declared.entry.Entry as code

pub replayed : (rows base : RowMap) (es all : List code.Entry) (i place : ℕ) → length es ≤ i → es ≡ take place all → replay rows (entries (drop i es)) ≡ replay base (entries es) → rows ≡ replay base (take place (entries all))
replayed rows base es all i place past front same =
    let nothing_left : replay rows (entries (drop i es)) ≡ rows = ap (λ xs. replay rows (entries xs)) (drop_all i es past) in
    sym nothing_left ∙ same ∙ ap (λ xs. replay base (entries xs)) front ∙ ap (replay base) (sym (take-map entry place all))
