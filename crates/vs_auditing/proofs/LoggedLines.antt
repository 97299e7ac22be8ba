-- A line that was logged tells its fault.
use Rattle.std.proofs.Common.{◌≡◌, ℕ, List, ◌∙◌, subst, inl, inr, Result, Ok, Err}
use Rattle.std.specs.Prelude.{IfOk, MatchResult}
use Rattle.std.specs.Global.{Vec}
use Rattle.vs_ending.specs.Ending.{OnlyLogs}
use Rattle.vs_ending.specs.Lines.{memory_line}
use Rattle.vs_host.specs.Told.{Told}
use Rattle.vs_auditing.specs.declared.fault.ReportFault.{ReportFault}
use Rattle.vs_auditing.specs.Endings.{IsEarly, IsToldOr}
use Rattle.vs_auditing.specs.Lines.{status_of, fault_line}

pub tells : {E : Type 0} (fault : ReportFault) (status result : ℕ) (old new : Told) (line : Result (Vec ℕ) E) → IsEarly fault → status ≡ status_of fault → IfOk line (λ l. l.items ≡ fault_line fault)
    → MatchResult line (λ l. (result ≡ status) × OnlyLogs l.items old new) (λ _. (result ≡ 9) × OnlyLogs memory_line old new) → IsToldOr fault result old new
tells fault status result old new (Ok l) early same is logs = inl (logs.0 ∙ same, subst (λ (bytes : List ℕ). OnlyLogs bytes old new) is logs.1)
tells fault status result old new (Err e) early same is logs = inr (early, logs)
