use Rattle.std.proofs.Common.{map}
use Rattle.vs_script.specs.Calls.{calls}
use Rattle.vs_reads.specs.Reads.{rows_in}
use Rattle.vs_reads.proofs.Served.{text_is, within_rows}
use Rattle.vs_reads.proofs.command.answers_for.Goals as goal

pub results_of-requires-clause-jobs : goal.results_of-requires-clause-jobs
results_of-requires-clause-jobs g c κs within =
    let have = rw c.as_slice.ensures at c.in_ok-maps.ensures in
    within_rows c.in_ok-maps.maps.items c.args.given.buckets (rows_in (calls c.args.given.writes.items)) (map (λ c. calls c.items) c.args.given.clients.items) c.in_ok-jobs.jobs.items have c.requires.clients c.in_ok-jobs.ensures

pub text_of-requires-clause-within : goal.text_of-requires-clause-within
text_of-requires-clause-within g c =
    let have = rw c.as_slice.ensures at c.in_ok-maps.ensures in
    rw (c.as_slice-3.ensures, c.as_slice-2.ensures)
    (within_rows c.in_ok-maps.maps.items c.args.given.buckets (rows_in (calls c.args.given.writes.items)) (map (λ c. calls c.items) c.args.given.clients.items) c.in_ok-jobs.jobs.items have c.requires.clients c.in_ok-jobs.ensures)

pub returns : goal.returns
returns g c =
    let have = rw c.as_slice.ensures at c.in_ok-maps.ensures in
    let text = rw (c.as_slice-2.ensures, c.as_slice-3.ensures) at c.text_of.ensures in
    text_is c.text_of.result c.in_ok-maps.maps.items c.in_ok-jobs.jobs.items c.args.given.buckets (calls c.args.given.writes.items) (map (λ c. calls c.items) c.args.given.clients.items) have c.requires.clients c.in_ok-jobs.ensures text
