use Rattle.std.proofs.Common.{◌≡◌, ◌≤◌, ◌+◌, take, length, map}
use Rattle.vs_script.specs.Calls.{calls}
use Rattle.vs_script.proofs.scripts.copy_clients.Given as goal

abbrev pub invariant-loop-client : goal.invariant-loop-client
invariant-loop-client l = record {
  copied : map (λ c. calls c.items) l.copy.items ≡ map (λ c. calls c.items) (take l.client-index l.client-items);
  room : length l.client-items ≤ l.copy.room + l.client-index;
}
