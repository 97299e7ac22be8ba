use Rattle.std.proofs.Common.{refl, inl}
use Rattle.vs_auditing.proofs.Ends.{ends, status_told, legal_ends, illegal_ends}
use Rattle.vs_auditing.proofs.auditing.audit_report.Goals as goal

pub returns-in-Ok-clause-illegal : goal.returns-in-Ok-clause-illegal
returns-in-Ok-clause-illegal g c = λ file none. illegal_ends _ _ _ none 0 file (inl (refl, c.in-Ok.ensures.ok))

pub returns-in-Err-clause-status : goal.returns-in-Err-clause-status
returns-in-Err-clause-status g c = status_told c.in-Err.fault _ _ _ c.log_fault.ensures

pub returns-in-Err-clause-legal : goal.returns-in-Err-clause-legal
returns-in-Err-clause-legal g c =
    let e = c.in-Err.ensures in λ file none. legal_ends _ _ _ none _ file (ends c.in-Err.fault _ _ _ _ _ e.log e.host e.err c.log_fault.ensures)

pub returns-in-Err-clause-illegal : goal.returns-in-Err-clause-illegal
returns-in-Err-clause-illegal g c =
    let e = c.in-Err.ensures in λ file none. illegal_ends _ _ _ none _ file (ends c.in-Err.fault _ _ _ _ _ e.log e.host e.err c.log_fault.ensures)
