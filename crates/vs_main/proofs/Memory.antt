-- How the program ends where there was no memory to read the words, or to log what commands there are.
use Rattle.std.proofs.Common.{◌≡◌, ◌⊎◌, ℕ, List, [], ◌∷◌, Option, Some, None, lit<, refl, sym, subst, inl, inr}
use Rattle.std.specs.Prelude.{Contains}
use Rattle.vs_command.specs.Command.{Command}
use Rattle.vs_command.specs.Command as command
use Rattle.vs_command.specs.Usage.{usage}
use Rattle.vs_command.specs.declared.verbs.TheConstants.{BUILT}
use Rattle.vs_auditing.specs.declared.fault.ReportFault.TheVariants as audit
use Rattle.vs_disk.specs.Told as disk
use Rattle.vs_ending.specs.Ending.{OnlyLogs}
use Rattle.vs_ending.specs.Lines.{memory_line}
use Rattle.vs_host.specs.Told.{Told}
use Rattle.vs_plan.specs.declared.fault.PlanFault.TheVariants as plan
use Rattle.vs_reads.specs.declared.fault.ReadsFault.TheVariants as reads
use Rattle.vs_top.specs.Endings.{between}
use Rattle.vs_top.specs.declared.fault.Fault.TheVariants as faults
use Rattle.vs_main.specs.Endings.{AreNoCommand, Ends}
use Rattle.vs_main.specs.Good.{EndsWell}

module _ {D : Type 0} (tells : D → disk.Told) (disks : List D) (old new : Told) where
  pub none_told : (status : ℕ) → ((status ≡ 2) × OnlyLogs (usage BUILT) old new) ⊎ ((status ≡ 9) × OnlyLogs memory_line old new) → AreNoCommand status (between tells old new disks disks)
  none_told status (inl told) = record { untouched = record { out = told.1.out; disks = refl }; told = inl (told.0, told.1.logged) }
  none_told status (inr told) = record { untouched = record { out = told.1.out; disks = refl }; told = inr (told.0, told.1.logged) }

  pub no_memory : (found : Option Command) (status : ℕ) → status ≡ 9 → OnlyLogs memory_line old new → Ends found status (between tells old new disks disks)
  no_memory None status nine told = none_told status (inr (nine, told))
  no_memory (Some (command.Play config events files)) status nine told = inr (faults.NoMemory, record { status_is = nine; cause = told.out; logged = told.logged })
  no_memory (Some (command.Info config)) status nine told = inr (faults.NoMemory, nine, record { cause = told.out; logged = told.logged })
  no_memory (Some (command.Run config files)) status nine told = inr (faults.NoMemory, nine, (told.out, told.logged))
  no_memory (Some (command.Gen number)) status nine told = record { host = inr (inr (nine, record { out = told.out; line = told.logged })); disks = refl }
  no_memory (Some (command.Reads config rows files)) status nine told = record { host = inr (reads.NoMemory, nine, record { cause = told.out; logged = told.logged }); disks = refl }
  no_memory (Some (command.Plan config counts)) status nine told = record { host = inr (plan.NoMemory, nine, record { cause = told.out; logged = told.logged }); disks = refl }
  no_memory (Some (command.Audit report)) status nine told = record { host = inr (audit.NoMemory, nine, record { cause = told.out; logged = told.logged }); disks = refl }

  -- then good inputs may end so
  pub no_memory_well : (found : Option Command) (status : ℕ) → status ≡ 9 → EndsWell found status (between tells old new disks disks)
  no_memory_well None status nine = tt
  no_memory_well (Some (command.Play config events files)) status nine = (
    λ good none. subst (Contains (0 ∷ 4 ∷ 9 ∷ [])) (sym nine) (2, lit< tt, refl),
    λ good none. subst (Contains (0 ∷ 9 ∷ [])) (sym nine) (1, lit< tt, refl),
  )
  no_memory_well (Some (command.Info config)) status nine = λ good none. subst (Contains (0 ∷ 9 ∷ [])) (sym nine) (1, lit< tt, refl)
  no_memory_well (Some (command.Run config files)) status nine = λ good none. subst (Contains (0 ∷ 9 ∷ [])) (sym nine) (1, lit< tt, refl)
  no_memory_well (Some (command.Gen number)) status nine = λ none. subst (Contains (0 ∷ 9 ∷ [])) (sym nine) (1, lit< tt, refl)
  no_memory_well (Some (command.Reads config rows files)) status nine = λ good none. subst (Contains (0 ∷ 9 ∷ [])) (sym nine) (1, lit< tt, refl)
  no_memory_well (Some (command.Plan config counts)) status nine = λ good none. subst (Contains (0 ∷ 9 ∷ [])) (sym nine) (1, lit< tt, refl)
  no_memory_well (Some (command.Audit report)) status nine = record {
    legal = λ is none. subst (Contains (0 ∷ 9 ∷ [])) (sym nine) (1, lit< tt, refl);
    illegal = λ is none. subst (Contains (9 ∷ 11 ∷ [])) (sym nine) (0, lit< tt, refl);
    refused = λ is none. subst (Contains (3 ∷ 9 ∷ [])) (sym nine) (1, lit< tt, refl);
  }
