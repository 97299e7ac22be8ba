use Rattle.std.proofs.Common.{◌≡◌, ◌≤◌, ◌+◌, ◌-◌, drop}
use Rattle.vs_script.specs.Calls.{calls}
use Rattle.vs_script.specs.Lawful.{scans_in}
use Rattle.vs_script.proofs.limit.scans_left.Given as goal

abbrev pub invariant-loop-call : goal.invariant-loop-call
invariant-loop-call l = record {
  within : l.left ≤ l.most;
  spent : scans_in (calls l.given) ≡ scans_in (calls (drop l.call-index l.given)) + (l.most - l.left);
}
