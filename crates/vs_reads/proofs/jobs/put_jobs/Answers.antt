use Rattle.std.proofs.Common.{[], ◌∷◌, ◌+◌, arith, length-append, map, refl}
use Rattle.vs_reads.specs.Jobs.{read_in}
use Rattle.vs_reads.proofs.Numbered.{one_job_more}
use Rattle.vs_reads.proofs.jobs.put_jobs.Goals as goal

pub loop-call-preserved : goal.loop-call-preserved
loop-call-preserved c =
    let pushed = rw c.reserve.ensures.items at c.push.ensures.items in
    let so_far = c.loop-call.invariant in record {
      number = omega (arith, so_far.number, length-append c.loop-call.yielded (c.in-Some.call ∷ []));
      jobs = one_job_more c.args.client (c.loop-call.number + 1) c.loop-call.jobs.items c.push.new.self.items (map read_in c.args.jobs.now.items) _ c.loop-call.yielded c.in-Some.call pushed so_far.jobs refl (omega (arith, so_far.number));
    }
