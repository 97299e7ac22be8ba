-- Pieces of the text of events, one after the other.
use Rattle.std.proofs.Common.{◌≡◌, ℕ, ◌+◌, ◌-◌, ◌≤◌, List, [], ◌∷◌, ◌++◌, length, take, drop, sym, ap, ◌∙◌, append_assoc, arith}
use Rattle.std.specs.List.{flat_map}
use Rattle.std.proofs.Math.Seq.{take-add}
use Rattle.std.proofs.lemmas.List.{append-nil, length-drop, take_all}
use Rattle.std.proofs.lemmas.Grind.{flat_map-append}
use Rattle.std.proofs.lemmas.Option.{slice_get_within}
use Rattle.vs_event.specs.declared.event.Event.{Event}
use Rattle.vs_event.specs.Event.{event_line, events_text}
use Rattle.vs_event.specs.Pieces.{IsPiece, ArePieces, PiecesAreText, piece_limit}

taken : (events : List Event) (from next : ℕ) → from ≤ next → take from events ++ take (next - from) (drop from events) ≡ take next events
taken events from next order =
    let sum : from + (next - from) ≡ next = omega (arith, order) in
    sym (take-add from (next - from) events) ∙ ap (λ (n : ℕ). take n events) sum

-- the text up to one event and that of the events from there up to another
pub text_up_to : (events : List Event) (from next : ℕ) → from ≤ next → events_text (take from events) ++ events_text (take (next - from) (drop from events)) ≡ events_text (take next events)
text_up_to events from next order =
    sym (flat_map-append (λ event. event_line event ++ 10 ∷ []) (take from events) (take (next - from) (drop from events))) ∙ ap events_text (taken events from next order)

-- the same with the number of events that the bytes tell
pub up_to : (events : List Event) (from next count : ℕ) (bytes : List ℕ) → next ≡ from + count → bytes ≡ events_text (take count (drop from events)) → events_text (take from events) ++ bytes ≡ events_text (take next events)
up_to events from next count bytes end text =
    let so_many : count ≡ next - from = omega (arith, end) in
    let is : bytes ≡ events_text (take (next - from) (drop from events)) = text ∙ ap (λ (n : ℕ). events_text (take n (drop from events))) so_many in
    ap (λ (more : List ℕ). events_text (take from events) ++ more) is ∙ text_up_to events from next (omega (arith, end))

-- a piece that has all the events that were left
pub last_piece : (events : List Event) (from next count : ℕ) (bytes : List ℕ) → from ≤ length events → count ≡ length (drop from events) → next ≡ from + count → bytes ≡ events_text (take count (drop from events)) → length bytes ≤ piece_limit → IsPiece events from next bytes
last_piece events from next count bytes within all end text fits =
    let left = length-drop from events in
    let so_many : count ≡ next - from = omega (arith, end) in
    record {
      order = omega (arith, end);
      within = omega (arith, end, all, left, within);
      text = text ∙ ap (λ (n : ℕ). events_text (take n (drop from events))) so_many;
      fits = fits;
      full = λ event found. absurd (omega (arith, end, all, left, within, slice_get_within events next event found));
    }

-- the text up to a piece and the piece
pub with_piece : (events : List Event) (from next : ℕ) (bytes : List ℕ) → IsPiece events from next bytes → events_text (take from events) ++ bytes ≡ events_text (take next events)
with_piece events from next bytes piece =
    ap (λ (text : List ℕ). events_text (take from events) ++ text) piece.text ∙ text_up_to events from next piece.order

-- the text up to some pieces and the pieces
with_pieces : (events : List Event) (from : ℕ) (pieces : List (List ℕ)) → ArePieces events from pieces → events_text (take from events) ++ flat_map (λ bytes. bytes) pieces ≡ events_text events
with_pieces events from [] end =
    append-nil (events_text (take from events)) ∙ ap events_text (take_all from events (omega (arith, end)))
with_pieces events from (bytes ∷ pieces) (next, piece, rest) =
    (sym (append_assoc (events_text (take from events)) bytes (flat_map (λ bytes. bytes) pieces))
    ∙ ap (λ (text : List ℕ). text ++ flat_map (λ bytes. bytes) pieces) (with_piece events from next bytes piece))
    ∙ with_pieces events next pieces rest

pub pieces_are_text : PiecesAreText
pieces_are_text events pieces are = with_pieces events 0 pieces are
