use Rattle.std.proofs.Common.{◌+◌, ◌-◌, vec_len}
use Rattle.vs_host.proofs.real.read_whole.Given as goal

abbrev pub decreases-loop-file : goal.decreases-loop-file
decreases-loop-file g l = l.limit + 1 - vec_len l.bytes
