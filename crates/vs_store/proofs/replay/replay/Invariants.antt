use Rattle.std.proofs.Common.{◌≡◌, ◌+◌, ◌≤◌}
use Rattle.vs_frame.specs.Scan.{told_under, left_of, part_of, place_of, version_under, MayGoOn}
use Rattle.vs_frame.specs.Unwritten.{IsUnwritten}
use Rattle.vs_record.specs.States.{durable, IsOfBuckets}
use Rattle.vs_disk.specs.Told.{Reads}
use Rattle.vs_store.specs.Replay.{IsReadSoFar}
use Rattle.vs_store.proofs.replay.replay.Given as goal

abbrev pub invariant-bodies : goal.invariant-bodies
invariant-bodies g l = record {
  going : MayGoOn l.scan;
  few : l.count + 36 ≤ place_of l.scan;
  within : IsOfBuckets l.head.bucket_count l.state;
  version : version_under l.scan ≡ version_under l.initial.scan;
  so_far : Reads (told_under l.scan) (λ file. IsReadSoFar file (part_of l.scan) (place_of l.scan) l.head l.count (durable l.state));
  unwritten : IsUnwritten (told_under l.initial.scan) (told_under l.scan);
}

abbrev pub decreases-bodies : goal.decreases-bodies
decreases-bodies g l = left_of l.scan
