use Rattle.std.proofs.Common.{◌≡◌, ◌+◌, [], ◌∷◌, arith, length, length-append}
use Rattle.vs_reads.proofs.Numbered.{one_given_more}
use Rattle.vs_reads.proofs.jobs.jobs_of.Goals as goal

pub loop-given-preserved : goal.loop-given-preserved
loop-given-preserved c =
    let so_far = c.loop-given.invariant in
    let at : c.in-Some-new.client ≡ length c.loop-given.yielded + 1 = omega (arith, so_far.number, c.in-Some-new.ensures) in record {
      number = omega (arith, so_far.number, length-append c.loop-given.yielded (c.in-Some.given ∷ []));
      jobs = one_given_more c.in-Some-new.client c.loop-given.jobs.items c.put_jobs.new.jobs.items c.loop-given.yielded c.in-Some.given so_far.jobs c.in_ok-put_jobs.ensures at;
    }
