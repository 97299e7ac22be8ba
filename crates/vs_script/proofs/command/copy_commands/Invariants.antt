use Rattle.std.proofs.Common.{◌≡◌, ◌≤◌, ◌+◌, take, length}
use Rattle.vs_script.proofs.command.copy_commands.Given as goal

abbrev pub invariant-loop-command : goal.invariant-loop-command
invariant-loop-command l = record {
  copied : l.copy.items ≡ take l.command-index l.command-items;
  room : length l.command-items ≤ l.copy.room + l.command-index;
}
