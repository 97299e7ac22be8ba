-- What a set that is up answers to a call.
use Rattle.std.specs.Prelude.{Bool, true, false, Option, Some, None}
use Rattle.vs_base.specs.declared.numbers.Mode.{Mode}
use Rattle.vs_base.specs.declared.numbers.Mode.TheVariants.{Ro, Rw}
use Rattle.vs_space.specs.declared.status.Cause.TheVariants.{WrongBucket, TransferInProgress, BucketIsLocked}
use Rattle.vs_space.specs.declared.status.Status.{Status}
use Rattle.vs_space.specs.declared.status.Status.TheVariants.{Active, Pinned, Sending, Receiving, Sent, Garbage}
use Rattle.vs_space.specs.declared.status.Verdict.{Verdict}
use Rattle.vs_space.specs.declared.status.Verdict.TheVariants.{Granted, Refused}

-- by the bucket's status, whether its read-write lock stands, and the call's mode
abbrev pub verdict_of : Option Status → Bool → Mode → Verdict
verdict_of (Some Active) locked Ro = Granted
verdict_of (Some Active) false Rw = Granted
verdict_of (Some Active) true Rw = Refused BucketIsLocked
verdict_of (Some Pinned) locked Ro = Granted
verdict_of (Some Pinned) false Rw = Granted
verdict_of (Some Pinned) true Rw = Refused BucketIsLocked
verdict_of (Some (Sending to)) locked Ro = Granted
verdict_of (Some (Sending to)) locked Rw = Refused (TransferInProgress to)
verdict_of (Some (Receiving from)) locked mode = Refused (TransferInProgress from)
verdict_of (Some (Sent to)) locked mode = Refused (WrongBucket (Some to))
verdict_of (Some Garbage) locked mode = Refused (WrongBucket None)
verdict_of None locked mode = Refused (WrongBucket None)
