use Rattle.std.proofs.Common.{arith}
use Rattle.vs_space.specs.declared.status.StatusKind.TheVariants as kind
use Rattle.vs_space.proofs.counts.KindCounts.of_active.Goals as goal

pub returns : goal.returns
returns c kind.Active = omega arith
returns c kind.Pinned = omega (arith, c.new.ensures kind.Pinned)
returns c kind.Sending = omega (arith, c.new.ensures kind.Sending)
returns c kind.Receiving = omega (arith, c.new.ensures kind.Receiving)
returns c kind.Sent = omega (arith, c.new.ensures kind.Sent)
returns c kind.Garbage = omega (arith, c.new.ensures kind.Garbage)
