-- Why a text of events is not read.
use Rattle.std.specs.Prelude.{ℕ, ◌≡◌, List, Result, MatchResult, ⊤}
use Rattle.vs_base.specs.Listed.{Listed}
use Rattle.vs_event.specs.declared.event.Event.{Event}
use Rattle.vs_event.specs.declared.fault.EventFault.{EventFault}
use Rattle.vs_event.specs.declared.fault.EventFault.TheVariants.{BadEvent, NoMemory}
use Rattle.vs_event.specs.Event.{IsFirstBadLine}

-- the text has this fault, or memory was wanted
abbrev pub IsFaultOf : List ℕ → EventFault → Type 0
IsFaultOf text (BadEvent number) = IsFirstBadLine text number
IsFaultOf text NoMemory = ⊤

-- these events were read, or memory was wanted
abbrev pub Gives : List Event → Result (Listed Event) EventFault → Type 0
Gives events result =
    MatchResult result (λ trace. trace.items ≡ events) (λ fault. fault ≡ NoMemory)
