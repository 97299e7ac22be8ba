-- Bytes that were read ahead.
use Rattle.std.specs.Prelude.{◌≡◌, ℕ, List, take, drop}
use Rattle.vs_frame.specs.declared.ahead.ReadAhead.{ReadAhead}

-- what was read are the file's bytes from its place on
abbrev pub IsPieceOf : List ℕ → ReadAhead → Type 0
IsPieceOf file ahead = take ahead.count ahead.piece.items ≡ take ahead.count (drop ahead.start file)
