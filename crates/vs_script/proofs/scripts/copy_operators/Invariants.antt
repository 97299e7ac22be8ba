use Rattle.std.proofs.Common.{◌≡◌, ◌≤◌, ◌+◌, take, length, map}
use Rattle.vs_script.proofs.scripts.copy_operators.Given as goal

abbrev pub invariant-loop-operator : goal.invariant-loop-operator
invariant-loop-operator l = record {
  copied : map (λ c. c.items) l.copy.items ≡ map (λ c. c.items) (take l.operator-index l.operator-items);
  room : length l.operator-items ≤ l.copy.room + l.operator-index;
}
