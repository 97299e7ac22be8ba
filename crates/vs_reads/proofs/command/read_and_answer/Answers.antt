use Rattle.std.proofs.Common.{map}
use Rattle.std.proofs.lemmas.Result.{err_from_is_err_and}
use Rattle.vs_script.specs.Calls.{calls}
use Rattle.vs_reads.specs.Names.{names}
use Rattle.vs_reads.proofs.Ending.{are_answered, has_answers, input_cause, is_cut, keeps, keeps_put}
use Rattle.vs_reads.proofs.command.read_and_answer.Goals as goal

-- ---- the files give no reads

pub returns-in_err-given-clause-host : goal.returns-in_err-given-clause-host
returns-in_err-given-clause-host g c = keeps _ _ c.in_err-given.ensures.host

pub returns-in_err-given-clause-err : goal.returns-in_err-given-clause-err
returns-in_err-given-clause-err g c =
    let p = err_from_is_err_and c.from_residual.result c.from_residual.ensures.1 in
    rw (p.1, p.2) (input_cause c.in_err-given.field-0.0 _ _ _ c.in_err-given.ensures.host c.in_err-given.ensures.err)

pub returns-in_err-given-clause-good : goal.returns-in_err-given-clause-good
returns-in_err-given-clause-good g c = λ good.
    let p = err_from_is_err_and c.from_residual.result c.from_residual.ensures.1 in
    rw (p.1, p.2) (c.in_err-given.ensures.good good)

-- ---- memory is refused

pub returns-in_err-text-clause-host : goal.returns-in_err-text-clause-host
returns-in_err-text-clause-host g c = keeps _ _ c.in_ok-given.ensures.host

pub returns-in_err-text-clause-err : goal.returns-in_err-text-clause-err
returns-in_err-text-clause-err g c =
    let p = err_from_is_err_and c.from_residual-in_err-text.result c.from_residual-in_err-text.ensures.1 in
    rw (p.1, p.2) c.in_ok-given.ensures.host.out

pub returns-in_err-text-clause-good : goal.returns-in_err-text-clause-good
returns-in_err-text-clause-good g c = λ good.
    let p = err_from_is_err_and c.from_residual-in_err-text.result c.from_residual-in_err-text.ensures.1 in
    rw (p.1, p.2) tt

-- ---- a write fails

pub returns-in_err-out-clause-host : goal.returns-in_err-out-clause-host
returns-in_err-out-clause-host g c = keeps_put c.deref.result.now _ _ _ _ c.in_ok-given.ensures.host c.in_err-out.ensures

pub returns-in_err-out-clause-err : goal.returns-in_err-out-clause-err
returns-in_err-out-clause-err g c =
    let p = err_from_is_err_and c.from_residual-in_err-out.result c.from_residual-in_err-out.ensures.1 in
    let has = has_answers _ (names c.args.config.now c.args.rows.now c.args.files.now) (calls c.in_ok-given.given.writes.items) (map (λ c. calls c.items) c.in_ok-given.given.clients.items) c.in_ok-text.text.items c.in_ok-given.ensures.ok c.in_ok-text.ensures in
    rw (p.1, p.2) (is_cut _ c.in_ok-text.text.items c.deref.result.now _ _ _ c.in_err-out.field-0.0 has c.in_ok-given.ensures.host c.deref.ensures.value c.in_err-out.ensures)

pub returns-in_err-out-clause-good : goal.returns-in_err-out-clause-good
returns-in_err-out-clause-good g c = λ good.
    let p = err_from_is_err_and c.from_residual-in_err-out.result c.from_residual-in_err-out.ensures.1 in
    rw (p.1, p.2) tt

-- ---- the answers are put out

pub returns-clause-host : goal.returns-clause-host
returns-clause-host g c = keeps_put c.deref.result.now _ _ _ _ c.in_ok-given.ensures.host c.in_ok-out.ensures

pub returns-clause-ok : goal.returns-clause-ok
returns-clause-ok g c =
    let has = has_answers _ (names c.args.config.now c.args.rows.now c.args.files.now) (calls c.in_ok-given.given.writes.items) (map (λ c. calls c.items) c.in_ok-given.given.clients.items) c.in_ok-text.text.items c.in_ok-given.ensures.ok c.in_ok-text.ensures in
    are_answered _ c.in_ok-text.text.items c.deref.result.now _ _ _ tt has c.in_ok-given.ensures.host c.deref.ensures.value c.in_ok-out.ensures

pub returns-clause-good : goal.returns-clause-good
returns-clause-good g c = λ good. tt
