use Rattle.std.proofs.Common.{◌≡◌, length, map}
use Rattle.vs_script.specs.Calls.{calls}
use Rattle.vs_reads.specs.Jobs.{read_in}
use Rattle.vs_reads.specs.Reads.{reads_of}
use Rattle.vs_reads.proofs.jobs.jobs_of.Given as goal

abbrev pub invariant-loop-given : goal.invariant-loop-given
invariant-loop-given l = record {
  number : l.number ≡ length l.yielded;
  jobs : map read_in l.jobs.items ≡ reads_of (map (λ c. calls c.items) l.yielded);
}
