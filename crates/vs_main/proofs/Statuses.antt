-- With which statuses the program ends.
use Rattle.std.proofs.Common.{◌≡◌, ℕ, Option, Some, None, lit<, refl, sym, subst, inl, inr}
use Rattle.std.specs.Prelude.{Contains}
use Rattle.vs_command.specs.Command.{Command}
use Rattle.vs_command.specs.Command as command
use Rattle.vs_command.specs.Word.{Text}
use Rattle.vs_auditing.specs.Endings as audit
use Rattle.vs_auditing.specs.Lines as audit_lines
use Rattle.vs_auditing.specs.declared.fault.ReportFault.{ReportFault}
use Rattle.vs_auditing.specs.declared.fault.ReportFault.TheVariants as audit_faults
use Rattle.vs_generating.specs.Endings as generating
use Rattle.vs_host.specs.Told.{Told}
use Rattle.vs_informing.specs.Endings as info
use Rattle.vs_inputs.specs.Words.{Names}
use Rattle.vs_plan.specs.Endings as plan
use Rattle.vs_plan.specs.Lines as plan_lines
use Rattle.vs_plan.specs.Names.{Names as PlanNames}
use Rattle.vs_plan.specs.declared.fault.PlanFault.{PlanFault}
use Rattle.vs_plan.specs.declared.fault.PlanFault.TheVariants as plan_faults
use Rattle.vs_reads.specs.Endings as reads
use Rattle.vs_reads.specs.Lines as reads_lines
use Rattle.vs_reads.specs.Names.{Names as ReadsNames}
use Rattle.vs_reads.specs.declared.fault.ReadsFault.{ReadsFault}
use Rattle.vs_reads.specs.declared.fault.ReadsFault.TheVariants as reads_faults
use Rattle.vs_inputs.specs.RunInputs.{RunNames}
use Rattle.vs_run.specs.Endings as run
use Rattle.vs_top.specs.Endings.{Outside, IsFilesCause}
use Rattle.vs_top.specs.declared.fault.Fault.{Fault}
use Rattle.vs_top.specs.declared.fault.Fault.TheVariants as faults
use Rattle.vs_top.specs.Statuses.{status_of}
use Rattle.vs_main.specs.Endings.{Ends, PlayEnds, statuses}

-- that of a fault of the files
fault_status : {D : Type 0} (fault : Fault) (names : Names) (o : Outside D) → IsFilesCause fault o names → Contains statuses (status_of fault) × (status_of fault ≡ 2 → ⊥)
fault_status faults.Words names o cause = absurd cause
fault_status (faults.Text k fault) names o cause = ((2, lit< tt, refl), λ two. cc (two))
fault_status (faults.Event number reason) names o cause = ((3, lit< tt, refl), λ two. cc (two))
fault_status (faults.Read k) names o cause = ((4, lit< tt, refl), λ two. cc (two))
fault_status faults.Write names o cause = ((5, lit< tt, refl), λ two. cc (two))
fault_status (faults.Disk x) names o cause = ((6, lit< tt, refl), λ two. cc (two))
fault_status (faults.Journal x fault wanted) names o cause = ((7, lit< tt, refl), λ two. cc (two))
fault_status (faults.Incoherent bucket entries) names o cause = ((7, lit< tt, refl), λ two. cc (two))
fault_status faults.NoMemory names o cause = ((8, lit< tt, refl), λ two. cc (two))
fault_status (faults.Full x) names o cause = ((9, lit< tt, refl), λ two. cc (two))

play_status : {D : Type 0} (status : ℕ) (names : Names) (o : Outside D) → PlayEnds status names o → Contains statuses status × (status ≡ 2 → ⊥)
play_status status names o (inl played) = (subst (Contains statuses) (sym played.0) (0, lit< tt, refl), λ two. cc (two, played.0))
play_status status names o (inr (fault, not)) =
    let of = fault_status fault names o not.cause in
    subst (λ (s : ℕ). Contains statuses s × (s ≡ 2 → ⊥)) (sym not.status_is) of

info_fault_status : {D : Type 0} (fault : Fault) (config : Text) (o : Outside D) → info.IsCause fault o config → Contains statuses (status_of fault) × (status_of fault ≡ 2 → ⊥)
info_fault_status faults.Words config o cause = absurd cause
info_fault_status (faults.Text k fault) config o cause = ((2, lit< tt, refl), λ two. cc (two))
info_fault_status (faults.Event number reason) config o cause = absurd cause
info_fault_status (faults.Read k) config o cause = ((4, lit< tt, refl), λ two. cc (two))
info_fault_status faults.Write config o cause = ((5, lit< tt, refl), λ two. cc (two))
info_fault_status (faults.Disk x) config o cause = ((6, lit< tt, refl), λ two. cc (two))
info_fault_status (faults.Journal x fault wanted) config o cause = ((7, lit< tt, refl), λ two. cc (two))
info_fault_status (faults.Incoherent bucket entries) config o cause = ((7, lit< tt, refl), λ two. cc (two))
info_fault_status faults.NoMemory config o cause = ((8, lit< tt, refl), λ two. cc (two))
info_fault_status (faults.Full x) config o cause = ((9, lit< tt, refl), λ two. cc (two))

info_status : {D : Type 0} (status : ℕ) (config : Text) (o : Outside D) → info.Ends status o config → Contains statuses status × (status ≡ 2 → ⊥)
info_status status config o (inl told) = (subst (Contains statuses) (sym told.0) (0, lit< tt, refl), λ two. cc (two, told.0))
info_status status config o (inr (fault, is, by)) =
    subst (λ (s : ℕ). Contains statuses s × (s ≡ 2 → ⊥)) (sym is) (info_fault_status fault config o by.cause)

plan_fault_status : (fault : PlanFault) → Contains statuses (plan_lines.status_of fault) × (plan_lines.status_of fault ≡ 2 → ⊥)
plan_fault_status (plan_faults.Text k fault) = ((2, lit< tt, refl), λ two. cc (two))
plan_fault_status (plan_faults.Counts fault) = ((2, lit< tt, refl), λ two. cc (two))
plan_fault_status (plan_faults.Read k) = ((4, lit< tt, refl), λ two. cc (two))
plan_fault_status plan_faults.Write = ((5, lit< tt, refl), λ two. cc (two))
plan_fault_status plan_faults.NoMemory = ((8, lit< tt, refl), λ two. cc (two))

plan_status : (status : ℕ) (old new : Told) (names : PlanNames) → plan.Ends status old new names → Contains statuses status × (status ≡ 2 → ⊥)
plan_status status old new names (inl planned) = (subst (Contains statuses) (sym planned.0) (0, lit< tt, refl), λ two. cc (two, planned.0))
plan_status status old new names (inr (fault, is, by)) = subst (λ (s : ℕ). Contains statuses s × (s ≡ 2 → ⊥)) (sym is) (plan_fault_status fault)

reads_fault_status : (fault : ReadsFault) → Contains statuses (reads_lines.status_of fault) × (reads_lines.status_of fault ≡ 2 → ⊥)
reads_fault_status (reads_faults.Text k fault) = ((2, lit< tt, refl), λ two. cc (two))
reads_fault_status (reads_faults.NotReads k) = ((2, lit< tt, refl), λ two. cc (two))
reads_fault_status (reads_faults.Read k) = ((4, lit< tt, refl), λ two. cc (two))
reads_fault_status reads_faults.Write = ((5, lit< tt, refl), λ two. cc (two))
reads_fault_status reads_faults.NoMemory = ((8, lit< tt, refl), λ two. cc (two))

reads_status : (status : ℕ) (old new : Told) (names : ReadsNames) → reads.Ends status old new names → Contains statuses status × (status ≡ 2 → ⊥)
reads_status status old new names (inl answered) = (subst (Contains statuses) (sym answered.0) (0, lit< tt, refl), λ two. cc (two, answered.0))
reads_status status old new names (inr (fault, is, by)) = subst (λ (s : ℕ). Contains statuses s × (s ≡ 2 → ⊥)) (sym is) (reads_fault_status fault)

run_fault_status : {D : Type 0} (fault : Fault) (names : RunNames) (o : Outside D) → run.EndsBy fault names o → Contains statuses (status_of fault) × (status_of fault ≡ 2 → ⊥)
run_fault_status (faults.Text k fault) names o by = ((2, lit< tt, refl), λ two. cc (two))
run_fault_status (faults.Read k) names o by = ((4, lit< tt, refl), λ two. cc (two))
run_fault_status faults.Write names o by = ((5, lit< tt, refl), λ two. cc (two))
run_fault_status (faults.Disk x) names o by = ((6, lit< tt, refl), λ two. cc (two))
run_fault_status (faults.Journal x fault wanted) names o by = ((7, lit< tt, refl), λ two. cc (two))
run_fault_status (faults.Incoherent bucket entries) names o by = ((7, lit< tt, refl), λ two. cc (two))
run_fault_status faults.NoMemory names o by = ((8, lit< tt, refl), λ two. cc (two))
run_fault_status (faults.Full x) names o by = ((9, lit< tt, refl), λ two. cc (two))
run_fault_status faults.Words names o by = absurd by.holds.1
run_fault_status (faults.Event number reason) names o by = absurd by.holds.1

run_status : {D : Type 0} (status : ℕ) (names : RunNames) (o : Outside D) → run.Ends status names o → Contains statuses status × (status ≡ 2 → ⊥)
run_status status names o (inl ran) = elim ran.holds [
  | inl zero ↦ (subst (Contains statuses) (sym zero.0) (0, lit< tt, refl), λ two. cc (two, zero.0))
  | inr seven ↦ (subst (Contains statuses) (sym seven.0) (6, lit< tt, refl), λ two. cc (two, seven.0))
]
run_status status names o (inr (fault, is, by)) = subst (λ (s : ℕ). Contains statuses s × (s ≡ 2 → ⊥)) (sym is) (run_fault_status fault names o by)

gen_status : (status number : ℕ) (old new : Told) → generating.Ends status number old new → Contains statuses status × (status ≡ 2 → ⊥)
gen_status status number old new (inl told) = (subst (Contains statuses) (sym told.0) (0, lit< tt, refl), λ two. cc (two, told.0))
gen_status status number old new (inr (inl part)) = (subst (Contains statuses) (sym part.0) (5, lit< tt, refl), λ two. cc (two, part.0))
gen_status status number old new (inr (inr untold)) = (subst (Contains statuses) (sym untold.0) (8, lit< tt, refl), λ two. cc (two, untold.0))

audit_fault_status : (fault : ReportFault) → Contains statuses (audit_lines.status_of fault) × (audit_lines.status_of fault ≡ 2 → ⊥)
audit_fault_status audit_faults.TooLong = ((2, lit< tt, refl), λ two. cc (two))
audit_fault_status (audit_faults.BadReport line) = ((2, lit< tt, refl), λ two. cc (two))
audit_fault_status audit_faults.Read = ((4, lit< tt, refl), λ two. cc (two))
audit_fault_status audit_faults.Write = ((5, lit< tt, refl), λ two. cc (two))
audit_fault_status (audit_faults.Illegal line kind) = ((10, lit< tt, refl), λ two. cc (two))
audit_fault_status audit_faults.NoMemory = ((8, lit< tt, refl), λ two. cc (two))

audit_status : (status : ℕ) (old new : Told) (report : Text) → audit.Ends status old new report → Contains statuses status × (status ≡ 2 → ⊥)
audit_status status old new report (inl legal) = (subst (Contains statuses) (sym legal.0) (0, lit< tt, refl), λ two. cc (two, legal.0))
audit_status status old new report (inr (fault, is, by)) = subst (λ (s : ℕ). Contains statuses s × (s ≡ 2 → ⊥)) (sym is) (audit_fault_status fault)

-- each is one of the list, and 2 is that of words that are no command
pub status_in : {D : Type 0} (found : Option Command) (status : ℕ) (o : Outside D) → Ends found status o → Contains statuses status × (status ≡ 2 → found ≡ None)
status_in None status o ends = elim ends.told [
  | inl told ↦ (subst (Contains statuses) (sym told.0) (1, lit< tt, refl), λ two. refl)
  | inr told ↦ (subst (Contains statuses) (sym told.0) (8, lit< tt, refl), λ two. refl)
]
status_in (Some (command.Play config events files)) status o ends =
    let of = play_status status _ o ends in (of.0, λ two. absurd (of.1 two))
status_in (Some (command.Info config)) status o ends =
    let of = info_status status config o ends in (of.0, λ two. absurd (of.1 two))
status_in (Some (command.Run config files)) status o ends =
    let of = run_status status _ o ends in (of.0, λ two. absurd (of.1 two))
status_in (Some (command.Gen number)) status o ends =
    let of = gen_status status number _ _ ends.host in (of.0, λ two. absurd (of.1 two))
status_in (Some (command.Reads config rows files)) status o ends =
    let of = reads_status status _ _ _ ends.host in (of.0, λ two. absurd (of.1 two))
status_in (Some (command.Plan config counts)) status o ends =
    let of = plan_status status _ _ _ ends.host in (of.0, λ two. absurd (of.1 two))
status_in (Some (command.Audit report)) status o ends =
    let of = audit_status status _ _ _ ends.host in (of.0, λ two. absurd (of.1 two))
