-- The kinds of statuses, and which changes of a status there are.
use Rattle.std.specs.Prelude.{◌≡◌, ⊤, Bool, true, false, Option, Some, None}
use Rattle.vs_space.specs.declared.status.Status.{Status}
use Rattle.vs_space.specs.declared.status.Status.TheVariants.{Active, Pinned, Sending, Receiving, Sent, Garbage}
use Rattle.vs_space.specs.declared.status.StatusKind.{StatusKind}
use Rattle.vs_space.specs.declared.status.StatusKind.TheVariants as kind

-- a status without its set
abbrev pub kind_of : Status → StatusKind
kind_of Active = kind.Active
kind_of Pinned = kind.Pinned
kind_of (Sending to) = kind.Sending
kind_of (Receiving from) = kind.Receiving
kind_of (Sent to) = kind.Sent
kind_of Garbage = kind.Garbage

-- the status is of this kind
abbrev pub is_kind : StatusKind → Status → Bool
is_kind kind.Active Active = true
is_kind kind.Pinned Pinned = true
is_kind kind.Sending (Sending to) = true
is_kind kind.Receiving (Receiving from) = true
is_kind kind.Sent (Sent to) = true
is_kind kind.Garbage Garbage = true
is_kind _ _ = false

-- there is a status, and it is active
abbrev pub is_active : Option Status → Bool
is_active (Some Active) = true
is_active status = false

-- there is a status, and it leaves something to do: it is neither active nor pinned
abbrev pub is_open : Option Status → Bool
is_open None = false
is_open (Some Active) = false
is_open (Some Pinned) = false
is_open (Some status) = true

-- a bucket's status, or its having no entry, may become this
abbrev pub MayChange : Option Status → Option Status → Type 0
MayChange None (Some (Receiving from)) = ⊤
MayChange (Some Active) (Some Pinned) = ⊤
MayChange (Some Pinned) (Some Active) = ⊤
MayChange (Some Active) (Some (Sending to)) = ⊤
MayChange (Some (Sending to)) (Some (Sent there)) = to ≡ there
MayChange (Some (Sending to)) (Some Active) = ⊤
MayChange (Some (Receiving from)) (Some Active) = ⊤
MayChange (Some (Receiving from)) (Some Garbage) = ⊤
MayChange (Some (Sent to)) (Some Garbage) = ⊤
MayChange (Some Garbage) None = ⊤
MayChange _ _ = ⊥
