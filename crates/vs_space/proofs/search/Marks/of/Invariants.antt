use Rattle.std.proofs.Common.{◌<◌, ◌*◌, ℕ, length}
use Rattle.vs_space.specs.Marks.{AreMarks, IsTold}
use Rattle.vs_space.proofs.search.Marks.of.Given as goal

abbrev pub invariant-loop-block : goal.invariant-loop-block
invariant-loop-block l = record { parts : AreMarks (length l.places) l.marks; told : (k : ℕ) → k < 40 * l.block → IsTold l.class l.places l.marks k }
