-- Why a command is refused: the first cause that holds.
use Rattle.std.specs.Prelude.{ℕ, ◌==◌, not, Bool, if◌then◌else◌, Option, Some, None}
use Rattle.vs_space.specs.declared.status.Status.{Status}
use Rattle.vs_space.specs.declared.status.Status.TheVariants as status
use Rattle.vs_machine.specs.declared.outcome.CommandFault.{CommandFault}
use Rattle.vs_machine.specs.declared.outcome.CommandFault.TheVariants.{MoveToSelf, Down, WrongStatus, Pinned, SetLocked, BucketIsLocked}
use Rattle.vs_machine.specs.Tables.{or_else}
use Rattle.vs_machine.specs.State.{State, is_locked, is_draining}

-- the cause, where the test holds
abbrev pub fault_if : Bool → CommandFault → Option CommandFault
fault_if test fault = if test then Some fault else None

-- a bucket is moved or pinned where it is active
abbrev pub unless_active : Option Status → Option CommandFault
unless_active (Some status.Active) = None
unless_active (Some status.Pinned) = Some Pinned
unless_active entry = Some (WrongStatus entry)

abbrev pub unless_pinned : Option Status → Option CommandFault
unless_pinned (Some status.Pinned) = None
unless_pinned entry = Some (WrongStatus entry)

abbrev pub if_draining : State → ℕ → ℕ → Option CommandFault
if_draining s x b = fault_if (is_draining ((s.bucket b).transfer x)) BucketIsLocked

abbrev pub if_down : State → ℕ → Option CommandFault
if_down s x = fault_if (not (s.up x)) (Down x)

-- bucket b is to be moved from set x to set d
abbrev pub send_fault : State → ℕ → ℕ → ℕ → Option CommandFault
send_fault s b x d =
    or_else (fault_if (x == d) MoveToSelf)
    (or_else (if_down s x)
    (or_else (if_down s d)
    (or_else (unless_active ((s.bucket b).entry x))
    (or_else (fault_if (is_locked s x) (SetLocked x))
    (if_draining s x b)))))

-- bucket b is to be pinned at set x
abbrev pub pin_fault : State → ℕ → ℕ → Option CommandFault
pin_fault s b x = or_else (if_down s x) (or_else (unless_active ((s.bucket b).entry x)) (if_draining s x b))

-- bucket b is to be unpinned at set x
abbrev pub unpin_fault : State → ℕ → ℕ → Option CommandFault
unpin_fault s b x = or_else (if_down s x) (unless_pinned ((s.bucket b).entry x))
