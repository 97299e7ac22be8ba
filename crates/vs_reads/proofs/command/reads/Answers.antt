use Rattle.std.proofs.Common.{inl, lit<, refl}
use Rattle.vs_reads.proofs.Ending.{ends, good_told, keeps_told, status_told}
use Rattle.vs_reads.proofs.command.reads.Goals as goal

pub returns-in-Ok-clause-ends : goal.returns-in-Ok-clause-ends
returns-in-Ok-clause-ends g c = inl (refl, c.in-Ok.ensures.ok)

pub returns-in-Ok-clause-good : goal.returns-in-Ok-clause-good
returns-in-Ok-clause-good g c = λ good none. (0, lit< tt, refl)

pub returns-in-Err-clause-status : goal.returns-in-Err-clause-status
returns-in-Err-clause-status g c = status_told c.in-Err.fault _ _ _ c.log_fault.ensures

pub returns-in-Err-clause-ends : goal.returns-in-Err-clause-ends
returns-in-Err-clause-ends g c =
    let e = c.in-Err.ensures in ends c.in-Err.fault _ _ _ _ _ e.log e.host e.err c.log_fault.ensures

pub returns-in-Err-clause-good : goal.returns-in-Err-clause-good
returns-in-Err-clause-good g c =
    let e = c.in-Err.ensures in λ good none. good_told c.in-Err.fault _ _ _ _ _ none e.err (e.good good) c.log_fault.ensures

pub returns-in-Err-clause-host : goal.returns-in-Err-clause-host
returns-in-Err-clause-host g c = keeps_told c.in-Err.fault _ _ _ _ c.in-Err.ensures.host c.log_fault.ensures
