use Rattle.std.proofs.Common.{◌≡◌, ◌≤◌, ◌+◌, ◌-◌, ℕ, List, length}
use Rattle.std.specs.Prelude.{codes}
use Rattle.vs_audit.proofs.Lists.{front}
use Rattle.vs_audit.specs.Reading.{all_at}
use Rattle.vs_audit.specs.Report.{Rest, begins, command_at, commands_at}
use Rattle.vs_audit.proofs.call_lines.commands.Given as goal

-- the commands so far, which are dropped
pub record SoFar (sets : ℕ) (old new : Rest) (last : ℕ) : Type 0 where
  pub done : List ℕ
  pub so_far : commands_at sets old ≡ front done (all_at (begins (codes "command")) (command_at sets) (λ _ n. n) (length old.lines - length done) last new)
  pub fewer : length new.lines + length done ≤ length old.lines

abbrev pub invariant-loop-lines : goal.invariant-loop-lines
invariant-loop-lines l = SoFar l.sets l.fn.lines l.lines l.last

abbrev pub decreases-loop-lines : goal.decreases-loop-lines
decreases-loop-lines l = length l.lines.lines
