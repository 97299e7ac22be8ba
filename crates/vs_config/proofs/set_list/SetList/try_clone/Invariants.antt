use Rattle.std.proofs.Common.{◌≡◌, ◌≤◌, ◌+◌, length, take}
use Rattle.vs_config.proofs.set_list.SetList.try_clone.Given as goal

abbrev pub invariant-loop-set : goal.invariant-loop-set
invariant-loop-set l =
    record {
      copied : l.copy.items ≡ take l.set-index l.set-items;
      room : length l.set-items ≤ l.copy.room + l.set-index;
    }
