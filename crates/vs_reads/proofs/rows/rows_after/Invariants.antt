use Rattle.std.proofs.Common.{take}
use Rattle.vs_script.specs.Calls.{calls}
use Rattle.vs_reads.specs.Jobs.{HaveRows}
use Rattle.vs_reads.specs.Reads.{rows_in}
use Rattle.vs_reads.proofs.rows.rows_after.Given as goal

abbrev pub invariant-loop-call : goal.invariant-loop-call
invariant-loop-call l = HaveRows l.maps.items l.buckets (rows_in (calls (take l.call-index l.writes)))
