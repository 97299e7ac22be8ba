-- Which changes fit a state, as a test.
use Rattle.std.specs.Prelude.{ℕ, ◌==◌, nat_le, Bool, true, false, ◌&&◌, length, Option, Some, None}
use Rattle.vs_space.specs.declared.status.Status.{Status}
use Rattle.vs_space.specs.declared.status.Status.TheVariants.{Active, Pinned, Sending, Receiving, Sent, Garbage}
use Rattle.vs_record.specs.Change.{Change, SetStatus, AddRows, Write, Wipe, Forget, bucket_of}
use Rattle.vs_record.specs.Durable.{Durable}

-- the entry may take this status
abbrev pub follows : Option Status → Status → Bool
follows (Some Active) Pinned = true
follows (Some Active) (Sending to) = true
follows (Some Pinned) Active = true
follows (Some (Sending to)) Active = true
follows (Some (Sending to)) (Sent there) = to == there
follows (Some (Receiving from)) Active = true
follows (Some (Receiving from)) Garbage = true
follows (Some (Sent to)) Garbage = true
follows _ _ = false

abbrev pub receives : Option Status → ℕ → Bool
receives None x = true
receives (Some (Receiving from)) x = from == x
receives _ x = false

abbrev pub takes_writes : Option Status → Bool
takes_writes (Some Active) = true
takes_writes (Some Pinned) = true
takes_writes _ = false

abbrev pub is_garbage : Option Status → Bool
is_garbage (Some Garbage) = true
is_garbage _ = false

abbrev pub fits_state : Durable → Change → Bool
fits_state d (SetStatus b status) = follows (d.entry b) status
fits_state d (AddRows b x rows) = receives (d.entry b) x
fits_state d (Write id b ops) = takes_writes (d.entry b) && (nat_le 1 id.call && nat_le id.call 200000)
fits_state d (Wipe b n) = is_garbage (d.entry b) && nat_le n (length (d.rows b))
fits_state d (Forget b) = is_garbage (d.entry b) && (length (d.rows b) == 0)

-- the same, in a cluster of so many buckets
abbrev pub fits : ℕ → Durable → Change → Bool
fits buckets d c = nat_le (bucket_of c) buckets && fits_state d c
