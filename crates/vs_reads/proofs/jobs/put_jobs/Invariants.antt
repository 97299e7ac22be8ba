use Rattle.std.proofs.Common.{◌≡◌, ◌++◌, length, map}
use Rattle.vs_script.specs.Calls.{calls}
use Rattle.vs_reads.specs.Jobs.{read_in}
use Rattle.vs_reads.specs.Reads.{client_reads}
use Rattle.vs_reads.proofs.jobs.put_jobs.Given as goal

abbrev pub invariant-loop-call : goal.invariant-loop-call
invariant-loop-call l = record {
  number : l.number ≡ length l.yielded;
  jobs : map read_in l.jobs.items ≡ map read_in l.fn.jobs.items ++ client_reads l.client (calls l.yielded);
}
