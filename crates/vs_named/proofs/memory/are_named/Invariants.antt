use Rattle.std.proofs.Common.{◌<◌, ℕ, List, get_or}
use Rattle.vs_legal.specs.Named.{IsNamedRow}
use Rattle.vs_named.proofs.memory.are_named.Given as goal

abbrev pub invariant-loop-key : goal.invariant-loop-key
invariant-loop-key l = (k : ℕ) (d : List ℕ × List ℕ) → k < l.key-index → IsNamedRow (get_or l.rows k d)
