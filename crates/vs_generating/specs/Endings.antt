-- How the command `gen` ends, by its status.
use Rattle.std.specs.Prelude.{◌≡◌, ◌⊎◌, ℕ, List, [], ◌∷◌, Option}
use Rattle.std.specs.Io.KnownBytes.{Appends}
use Rattle.vs_base.specs.Faults.{Rose}
use Rattle.vs_ending.specs.Ending.{IsLogged}
use Rattle.vs_ending.specs.Lines.{memory_line, write_line}
use Rattle.vs_event.specs.declared.event.Event.{Event}
use Rattle.vs_event.specs.Event.{events_text}
use Rattle.vs_host.specs.Calls.{AppendsFront}
use Rattle.vs_host.specs.Told.{Told}
use Rattle.vs_machine.specs.State.{State}
use Rattle.vs_generating.specs.Running.{IsRunOf}
use Rattle.vs_generating.specs.declared.fault.Fault.{Fault}
use Rattle.vs_generating.specs.declared.fault.Fault.TheVariants as faults
use Rattle.vs_generating.specs.Summary.{summary_text}

-- a run of the number: its events, and the state to which they lead
pub record Run (number : ℕ) : Type 0 where
  pub events : List Event
  pub last : State
  pub is : IsRunOf number events last

abbrev pub summary_of : {number : ℕ} → Run number → List ℕ
summary_of {number} run = summary_text number run.last run.events

-- ---- status 0: the summary of a run was put out, and the text of its events was logged
pub record IsTold (number : ℕ) (old new : Told) : Type 0 where
  pub run : Run number
  pub out : Appends old.out new.out (summary_of run)
  pub log : Appends old.log new.log (events_text run.events)

-- ---- status 6: a write failed, that of the summary or that of the events

-- this was logged when it failed
pub record IsCut (number : ℕ) (old new : Told) (logged : Option (List ℕ)) : Type 0 where
  pub run : Run number
  pub rose : Rose old.write_faults new.write_faults
  pub at : (AppendsFront old.out new.out (summary_of run) × (logged ≡ old.log))
      ⊎ (Appends old.out new.out (summary_of run) × AppendsFront old.log logged (events_text run.events))

-- and then the line of that, or a front of it where that write failed too
pub record IsToldInPart (number : ℕ) (old new : Told) : Type 0 where
  pub logged : Option (List ℕ)
  pub cut : IsCut number old new logged
  pub line : Appends logged new.log write_line ⊎ (AppendsFront logged new.log write_line × Rose old.write_faults new.write_faults)

-- ---- status 9: memory was refused, before anything was put out or logged
pub record IsUntold (old new : Told) : Type 0 where
  pub out : new.out ≡ old.out
  pub line : IsLogged memory_line old new

-- ---- what is known before the line of a fault is logged

-- nothing was put out or logged
pub record NothingTold (old new : Told) : Type 0 where
  pub out : new.out ≡ old.out
  pub log : new.log ≡ old.log

abbrev pub IsCause : ℕ → Fault → Told → Told → Type 0
IsCause number faults.Write old new = IsCut number old new new.log
IsCause number faults.NoMemory old new = NothingTold old new

-- ---- the end

abbrev pub Ends : ℕ → ℕ → Told → Told → Type 0
Ends status number old new =
    ((status ≡ 0) × IsTold number old new)
    ⊎ ((status ≡ 6) × IsToldInPart number old new)
    ⊎ ((status ≡ 9) × IsUntold old new)

abbrev pub statuses : List ℕ
statuses = 0 ∷ 6 ∷ 9 ∷ []

-- no file is read
pub record ReadsNothing (old new : Told) : Type 0 where
  pub taken : new.taken ≡ old.taken
  pub read_faults : new.read_faults ≡ old.read_faults
