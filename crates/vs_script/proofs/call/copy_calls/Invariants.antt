use Rattle.std.proofs.Common.{◌≡◌, ◌≤◌, ◌+◌, take, length}
use Rattle.vs_script.specs.Calls.{calls}
use Rattle.vs_script.proofs.call.copy_calls.Given as goal

abbrev pub invariant-loop-call : goal.invariant-loop-call
invariant-loop-call l = record {
  copied : calls l.copy.items ≡ calls (take l.call-index l.call-items);
  room : length l.call-items ≤ l.copy.room + l.call-index;
}
