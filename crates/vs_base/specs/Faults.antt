-- Counts of faults of the outside: of reads, of writes, of a disk.
use Rattle.std.specs.Prelude.{ℕ, ◌+◌, ◌^◌, ◌≤◌, min}

-- the count has risen, or stands at its end of 2^63, where it counts as risen in each call
abbrev pub Rose : ℕ → ℕ → Type 0
Rose before now = min (before + 1) (2 ^ 63) ≤ now
