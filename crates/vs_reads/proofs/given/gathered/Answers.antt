use Rattle.std.proofs.Common.{map, refl}
use Rattle.vs_script.specs.Calls.{calls}
use Rattle.vs_script.specs.Scripts.{script, scripts}
use Rattle.vs_reads.proofs.Together.{few_clients, may_gather, same_clients}
use Rattle.vs_reads.proofs.given.gathered.Goals as goal

pub returns-in-Ok-clause-ok : goal.returns-in-Ok-clause-ok
returns-in-Ok-clause-ok c = rw c.clients_of.ensures (same_clients (map script c.in_ok-scripts.scripts.items) (map (λ c. calls c.items) c.args.clients.items) (scripts c.in-Ok.scripts) c.in_ok-scripts.ensures c.in-Ok.ensures.ok)

pub returns-in-Ok-clause-gather : goal.returns-in-Ok-clause-gather
returns-in-Ok-clause-gather c = may_gather (map script c.in_ok-scripts.scripts.items) (map (λ c. calls c.items) c.args.clients.items) (scripts c.in-Ok.scripts) c.in_ok-scripts.ensures c.in-Ok.ensures.ok

pub returns-in-Ok-clause-few : goal.returns-in-Ok-clause-few
returns-in-Ok-clause-few c = rw c.clients_of.ensures (few_clients (scripts c.in-Ok.scripts) c.in-Ok.scripts.clients.items c.in-Ok.ensures.together refl)
