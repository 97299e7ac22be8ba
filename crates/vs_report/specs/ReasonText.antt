-- Why an event can't happen, as a text: the reason's name and, where it has one, its number or its status.
use Rattle.std.specs.Prelude.{ℕ, List, ◌++◌, codes, Some, None}
use Rattle.vs_event.specs.declared.reason.Reason.{Reason}
use Rattle.vs_event.specs.declared.reason.Reason.TheVariants as reason
use Rattle.vs_machine.specs.Report.{number, word, status_text}

abbrev pub reason_text : Reason → List ℕ
reason_text reason.Unknown = codes "Unknown"
reason_text reason.NoCommand = codes "NoCommand"
reason_text reason.Stage = codes "Stage"
reason_text reason.TriesSpent = codes "TriesSpent"
reason_text reason.TriesLeft = codes "TriesLeft"
reason_text reason.NotReached = codes "NotReached"
reason_text reason.NoRoute = codes "NoRoute"
reason_text reason.Live = codes "Live"
reason_text reason.NoTransfer = codes "NoTransfer"
reason_text reason.Unreferenced = codes "Unreferenced"
reason_text reason.TurnsSpent = codes "TurnsSpent"
reason_text (reason.Referenced n) = codes "Referenced" ++ number n
reason_text (reason.Down x) = codes "Down" ++ number x
reason_text reason.Standing = codes "Standing"
reason_text reason.Empty = codes "Empty"
reason_text (reason.Unfit None) = codes "Unfit none"
reason_text (reason.Unfit (Some status)) = codes "Unfit" ++ word (status_text status)
reason_text reason.NoRows = codes "NoRows"
reason_text (reason.Rows n) = codes "Rows" ++ number n
reason_text (reason.Moving b) = codes "Moving" ++ number b
reason_text (reason.FaultNumber n) = codes "FaultNumber" ++ number n
reason_text reason.NoRecord = codes "NoRecord"
reason_text (reason.Up x) = codes "Up" ++ number x
reason_text reason.NotFinished = codes "NotFinished"
reason_text reason.NoPending = codes "NoPending"
