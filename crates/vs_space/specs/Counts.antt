-- Numbers of statuses by kind.
use Rattle.std.specs.Prelude.{ℕ, Option, Some, None, if◌then◌else◌}
use Rattle.vs_space.specs.declared.counts.KindCounts.{KindCounts}
use Rattle.vs_space.specs.declared.status.Status.{Status}
use Rattle.vs_space.specs.declared.status.StatusKind.{StatusKind}
use Rattle.vs_space.specs.declared.status.StatusKind.TheVariants as kind
use Rattle.vs_space.specs.Status.{is_kind}

-- the number of this kind
abbrev pub number_of : KindCounts → StatusKind → ℕ
number_of c kind.Active = c.active
number_of c kind.Pinned = c.pinned
number_of c kind.Sending = c.sending
number_of c kind.Receiving = c.receiving
number_of c kind.Sent = c.sent
number_of c kind.Garbage = c.garbage

-- 1 where there is a status of this kind, else 0
abbrev pub counted : StatusKind → Option Status → ℕ
counted kind None = 0
counted kind (Some status) = if is_kind kind status then 1 else 0
