use Rattle.std.proofs.Common.{◌≡◌, ℕ, true, subst, arith}
use Rattle.vs_machine.specs.Kinds.Stops.{is_next_fault}
use Rattle.vs_world.proofs.Pending.{next_number}
use Rattle.vs_world.proofs.steps.fault_number.Goals as goal

pub returns-clause-next : goal.returns-clause-next
returns-clause-next g c = subst (λ (last : ℕ). is_next_fault last c.max.result ≡ true) c.last_fault-last.ensures (next_number c.last_fault-last.result c.max.result (omega arith) (λ e. omega (arith, e)) (λ ne. omega (arith, ne)))
