use Rattle.std.proofs.Common.{◌≡◌, take, reverse}
use Rattle.vs_disk.specs.Images.{plays, picked}
use Rattle.vs_disk.proofs.image.image_after.Given as goal

abbrev pub invariant-loop-call : goal.invariant-loop-call
invariant-loop-call l = record {
  now : l.now.items ≡ plays l.first (reverse (take l.call-index l.calls));
  image : l.image.items ≡ picked l.pick l.first (reverse (take l.call-index l.calls));
}
