use Rattle.std.proofs.Common.{length, subst}
use Rattle.vs_core.specs.Opened.{held, IsCoreFault, IsLeastIncoherent}
use Rattle.vs_core.specs.declared.fault.CoreFault.{CoreFault}
use Rattle.vs_machine.specs.Opening.{Holdings}
use Rattle.vs_script.specs.Scripts.{scripts}
use Rattle.vs_test_cluster.proofs.clusters.new_core.Goals as goal

-- a new cluster is coherent
pub unreachable-requires : goal.unreachable-requires
unreachable-requires c =
    let n = length c.args.config.now.sets.items in
    let m = c.args.config.now.bucket_count in
    let b = c.in-Err-Incoherent.field-0-0 in
    let fault = subst (λ (f : CoreFault). IsCoreFault n m (held c.in_ok-states.states.items) f) c.in-Err-Incoherent.field-0-is c.in-Err-Incoherent.ensures.fault in
    let least = subst (λ (h : Holdings). IsLeastIncoherent n m h b) c.in_ok-states.ensures.states fault.0 in
    least.incoherent ((c.in_ok-states.ensures.opens (scripts c.args.scripts) c.requires).coherent b least.first least.last)
