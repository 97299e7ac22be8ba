-- What a set does with a message of a transfer.
use Rattle.std.specs.Prelude.{ℕ, ◌==◌, nat_le, Bool, true, false, not, Option, Some, None, Result, Ok, Err, if◌then◌else◌}
use Rattle.vs_space.specs.declared.status.Status.{Status}
use Rattle.vs_space.specs.declared.status.Status.TheVariants.{Receiving}
use Rattle.vs_space.specs.declared.reply.RecvFault.{RecvFault}
use Rattle.vs_space.specs.declared.reply.RecvFault.TheVariants.{SetLocked, TooManyReceiving, WrongSender, WrongBucket}
use Rattle.vs_recv.specs.declared.took.Took.{Took}
use Rattle.vs_recv.specs.declared.took.Took.TheVariants.{Created, Added, Activated}

-- by the bucket's status, whether the set is locked, how many buckets it receives and how many it may,
-- the sender, and whether the message is the last of its transfer
abbrev pub received : Option Status → Bool → ℕ → ℕ → ℕ → Bool → Result Took RecvFault
received (Some (Receiving sender)) locked receiving max from last =
    if not (sender == from) then Err (WrongSender sender) else Ok (if last then Activated else Added)
received (Some status) locked receiving max from last = Err (WrongBucket (Some status))
received None locked receiving max from true = Err (WrongBucket None)
received None true receiving max from false = Err SetLocked
received None false receiving max from false =
    if nat_le max receiving then Err (TooManyReceiving receiving) else Ok Created
