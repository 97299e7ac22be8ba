-- The kind of status that a bucket has at a set.
use Rattle.std.specs.Prelude.{ℕ, Bool, false, Option, Some, None}
use Rattle.vs_space.specs.declared.status.Status.{Status}
use Rattle.vs_space.specs.declared.status.StatusKind.{StatusKind}
use Rattle.vs_space.specs.Status.{is_kind}
use Rattle.vs_machine.specs.State.{State}
use Rattle.vs_machine.specs.Tables.{count_to}

-- there is a status, and it is of this kind
abbrev pub has_kind : StatusKind → Option Status → Bool
has_kind kind None = false
has_kind kind (Some status) = is_kind kind status

-- how many buckets have a status of this kind at a set
abbrev pub number_at : State → ℕ → StatusKind → ℕ
number_at s x kind = count_to (λ b. has_kind kind ((s.bucket b).entry x)) s.config.bucket_count
