use Rattle.std.proofs.Common.{◌≡◌, ◌≤◌, ◌+◌, ◌*◌, map}
use Rattle.vs_script.specs.Calls.{calls}
use Rattle.vs_gen.specs.Calls.{drawn_clients}
use Rattle.vs_gen.specs.Draws.{state_after}
use Rattle.vs_gen.proofs.calls.clients.Given as goal

abbrev pub invariant-loop-client : goal.invariant-loop-client
invariant-loop-client l = record {
  drawn : map (λ k. calls k.items) l.drawn.items ≡ drawn_clients l.number l._client l.each;
  draws : l.draws ≡ state_after l.number (4 * (l.each * l._client));
  room : l.clients ≤ l.drawn.room + l._client;
}
