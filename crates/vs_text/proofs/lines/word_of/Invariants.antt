use Rattle.std.proofs.Common.{◌≡◌, ◌≤◌, ◌+◌, take, length}
use Rattle.vs_text.proofs.lines.word_of.Given as goal

abbrev pub invariant-loop-byte : goal.invariant-loop-byte
invariant-loop-byte l = (l.word.items ≡ take l.byte-index l.bytes) × (length l.bytes ≤ l.byte-index + l.word.room)
