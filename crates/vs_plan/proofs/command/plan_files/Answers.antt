use Rattle.std.proofs.Common.{ℕ, List, length, subst}
use Rattle.std.proofs.lemmas.Result.{err_from_is_err_and}
use Rattle.vs_config.specs.Configuration.{configuration}
use Rattle.vs_plan.specs.Faults.{IsBad}
use Rattle.vs_plan.specs.Names.{files}
use Rattle.vs_plan.specs.Reading.{reading_of}
use Rattle.vs_plan.proofs.Ending.{counts_fault, counts_bad}
use Rattle.vs_plan.proofs.command.plan_files.Goals as goal

pub returns-in_err-text-clause-err : goal.returns-in_err-text-clause-err
returns-in_err-text-clause-err g c =
    let p = err_from_is_err_and c.from_residual-in_err-text.result c.from_residual-in_err-text.ensures.1 in
    let first = c.in_ok-config.ensures.reads in
    rw (p.1, p.2)
    (counts_fault c.in_err-text.field-0.0 (files c.args.config.now c.args.counts.now) (configuration c.in_ok-config.config) (g.H.Host.told c.args.host.now) _ _ first.ok first.host c.in_err-text.ensures.host c.in_err-text.ensures.err)

pub returns-in_err-counts-clause-err : goal.returns-in_err-counts-clause-err
returns-in_err-counts-clause-err g c =
    let p = err_from_is_err_and c.from_residual-in_err-counts.result c.from_residual-in_err-counts.ensures.1 in
    let first = c.in_ok-config.ensures.reads in
    let config = configuration c.in_ok-config.config in
    let error = c.in_err-counts.field-0.0 in
    let of_sets = subst (λ (n : ℕ). IsBad error (reading_of n c.deref.result.now)) c.len.ensures.value c.in_err-counts.ensures.err in
    let bad = subst (λ (text : List ℕ). IsBad error (reading_of (length config.sets) text)) c.deref.ensures.value of_sets in
    rw (p.1, p.2)
    (counts_bad error (files c.args.config.now c.args.counts.now) config c.in_ok-text.text.items (g.H.Host.told c.args.host.now) _ _ first.ok first.host c.in_ok-text.ensures.host c.in_ok-text.ensures.ok bad)
