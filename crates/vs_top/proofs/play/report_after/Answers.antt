use Rattle.std.proofs.Common.{inr}
use Rattle.std.proofs.lemmas.Result.{err_from_is_err_and}
use Rattle.vs_top.proofs.play.report_after.Goals as goal

pub returns-in_err-play-clause-stops : goal.returns-in_err-play-clause-stops
returns-in_err-play-clause-stops g c =
    let p = err_from_is_err_and c.from_residual.result c.from_residual.ensures.1 in
    rw (p.1, p.2) (inr c.in_err-play.ensures)

pub returns-clause-goes : goal.returns-clause-goes
returns-clause-goes g c = c.in_ok-play.ensures
