use Rattle.std.proofs.Common.{◌≡◌, ◌≤◌, ◌+◌, ◌*◌}
use Rattle.vs_script.specs.Calls.{calls}
use Rattle.vs_gen.specs.Calls.{drawn_calls}
use Rattle.vs_gen.specs.Draws.{state_after}
use Rattle.vs_gen.proofs.calls.calls.Given as goal

abbrev pub invariant-loop-call : goal.invariant-loop-call
invariant-loop-call l = record {
  drawn : calls l.calls.items ≡ drawn_calls l.fn.draws 0 l._call;
  draws : l.draws ≡ state_after l.fn.draws (4 * l._call);
  room : l.many ≤ l.calls.room + l._call;
}
