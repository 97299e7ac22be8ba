-- Which set answers reads of a bucket.
use Rattle.std.specs.Prelude.{ℕ, ◌&&◌, Bool}
use Rattle.vs_base.specs.declared.numbers.Mode.TheVariants.{Ro}
use Rattle.vs_space.specs.Verdict.{verdict_of}
use Rattle.vs_machine.specs.Driven.{is_granted}
use Rattle.vs_machine.specs.State.{State, is_draining}

-- the set is up, and grants a read of the bucket
abbrev pub serves : State → ℕ → ℕ → Bool
serves s x b = let k = s.bucket b in s.up x && is_granted (verdict_of (k.entry x) (is_draining (k.transfer x)) Ro)
