-- The text of events in pieces.
use Rattle.std.specs.Prelude.{ℕ, ◌≡◌, ◌≤◌, ◌<◌, ◌-◌, List, [], ◌∷◌, ◌++◌, length, take, drop, slice_get, Some}
use Rattle.std.specs.List.{flat_map}
use Rattle.vs_event.specs.declared.event.Event.{Event}
use Rattle.vs_event.specs.Event.{event_line, events_text}

-- the most bytes of a piece: 64 KiB
abbrev pub piece_limit : ℕ
piece_limit = 65536

-- The piece of the events from index `from` on: their text up to the event of index `next`, with as many whole lines as fit.
pub record IsPiece (events : List Event) (from next : ℕ) (bytes : List ℕ) : Type 0 where
  pub order : from ≤ next
  pub within : next ≤ length events
  pub text : bytes ≡ events_text (take (next - from) (drop from events))
  pub fits : length bytes ≤ piece_limit
  -- one more line doesn't fit
  pub full : (event : Event) → slice_get events next ≡ Some event
      → piece_limit < length (bytes ++ event_line event ++ 10 ∷ [])

-- Pieces one after the other: the first begins with the event of index `from`, each of the others with the event that the one
-- before it ends at, and the last ends with the last event.
abbrev pub ArePieces : List Event → ℕ → List (List ℕ) → Type 0
ArePieces events from [] = from ≡ length events
ArePieces events from (bytes ∷ pieces) =
    (next : ℕ) × IsPiece events from next bytes × ArePieces events next pieces

-- The pieces from the first event on are together the text of the events.
abbrev pub PiecesAreText : Type 0
PiecesAreText = (events : List Event) (pieces : List (List ℕ)) → ArePieces events 0 pieces
    → flat_map (λ bytes. bytes) pieces ≡ events_text events
