use Rattle.std.proofs.Common.{subst, inl, inr}
use Rattle.vs_generating.specs.Endings.{IsCause}
use Rattle.vs_generating.specs.declared.fault.Fault.{Fault}
use Rattle.vs_generating.proofs.Telling.{with_line}
use Rattle.vs_generating.proofs.command.run_generated.Goals as goal

pub returns-in-Err-Write-clause-ends : goal.returns-in-Err-Write-clause-ends
returns-in-Err-Write-clause-ends g c =
    let old = g.H.Host.told c.args.host.now in
    let mid = g.H.Host.told c.run_number.new.host in
    let cut = subst (λ (fault : Fault). IsCause c.args.number fault old mid) c.in-Err-Write.field-0-is c.in-Err-Write.ensures.cause in
    inr (inl (c.log_write.ensures.status, with_line c.args.number old mid (g.H.Host.told c.log_write.new.host) cut c.log_write.ensures.line c.in-Err-Write.ensures.host.write_faults))
