-- What was found after other files were read holds from the beginning on.
use Rattle.std.proofs.Common.{ℕ, List, refl, ◌∙◌, sym, subst, arith}
use Rattle.std.specs.Prelude.{Result}
use Rattle.vs_host.specs.Told.{Told}
use Rattle.vs_inputs.specs.declared.fault.InputFault.{InputFault}
use Rattle.vs_inputs.specs.declared.fault.InputFault.TheVariants.{Text, Read, NoMemory}
use Rattle.vs_inputs.specs.declared.fault.TextFault.{TextFault}
use Rattle.vs_inputs.specs.Files.{Files, HasText}
use Rattle.vs_inputs.specs.Reading.{OnlyReads, HasFault, IsFileCause, IsGood}

pub nothing_read : (host : Told) → OnlyReads host host
nothing_read host = record { files = record { file = refl; may_read = refl }; out = refl; log = refl; write_faults = refl; read_faults = omega arith }

pub reads_both : (old mid new : Told) → OnlyReads old mid → OnlyReads mid new → OnlyReads old new
reads_both old mid new first second = record {
  files = record { file = second.files.file ∙ first.files.file; may_read = second.files.may_read ∙ first.files.may_read };
  out = second.out ∙ first.out;
  log = second.log ∙ first.log;
  write_faults = second.write_faults ∙ first.write_faults;
  read_faults = omega (arith, first.read_faults, second.read_faults);
}

pub cause_before : {Y : Type 0} (fault : InputFault) (place : ℕ) (name : List ℕ) (Gives : List ℕ → Result Y TextFault → Type 0) (old mid new : Told) → OnlyReads old mid → IsFileCause fault place name Gives mid new → IsFileCause fault place name Gives old new
cause_before (Text k fault) place name Gives old mid new reads cause = (cause.0, subst (λ (files : Files). HasFault files name Gives fault) reads.files.file cause.1, cause.2)
cause_before (Read k) place name Gives old mid new reads cause = (cause.0, omega (arith, cause.1, reads.read_faults))
cause_before NoMemory place name Gives old mid new reads cause = tt

pub text_before : (name : List ℕ) (P : List ℕ → Type 0) (old mid : Told) → OnlyReads old mid → HasText mid.file name P → HasText old.file name P
text_before name P old mid reads has = subst (λ (files : Files). HasText files name P) reads.files.file has

pub good_after : {Y : Type 0} (name : List ℕ) (Gives : List ℕ → Result Y TextFault → Type 0) (value : Y) (old mid : Told) → OnlyReads old mid → IsGood old.file name Gives value → IsGood mid.file name Gives value
good_after name Gives value old mid reads good = subst (λ (files : Files). IsGood files name Gives value) (sym reads.files.file) good
