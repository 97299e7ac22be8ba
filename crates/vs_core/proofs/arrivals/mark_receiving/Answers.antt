use Rattle.std.proofs.Common.{Some, sym, subst, ◌∙◌}
use Rattle.vs_space.specs.Entries.{status_of}
use Rattle.vs_space.specs.Status.{MayChange}
use Rattle.vs_space.specs.declared.status.Status.TheVariants.{Receiving}
use Rattle.vs_core.proofs.Arriving.{open_entry, status_stays}
use Rattle.vs_core.proofs.arrivals.mark_receiving.Goals as goal

pub returns-in-Some : goal.returns-in-Some
returns-in-Some c =
    let es = c.args.space.now.entries in
    let b = c.args.bucket in
    let x = c.args.source in
    status_stays es b (Some (Receiving x)) (open_entry (status_of es b) x c.requires.open (λ none. absurd (cc (sym c.in-Some.is ∙ c.get.ensures.status ∙ none))))

pub set_status-requires-clause-allowed : goal.set_status-requires-clause-allowed
set_status-requires-clause-allowed c = subst (λ e. MayChange e (Some (Receiving c.args.source))) (sym (sym c.get.ensures.status ∙ c.in-None.is)) tt
