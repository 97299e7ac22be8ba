-- A cause that was found before a line was logged is one after it.
use Rattle.std.proofs.Common.{◌≡◌, ℕ, List, arith, inl, inr}
use Rattle.std.specs.Prelude.{Result}
use Rattle.vs_host.specs.Told.{Told}
use Rattle.vs_inputs.specs.declared.fault.InputFault.{InputFault}
use Rattle.vs_inputs.specs.declared.fault.InputFault.TheVariants.{Text, Read, NoMemory}
use Rattle.vs_inputs.specs.declared.fault.TextFault.{TextFault}
use Rattle.vs_inputs.specs.declared.fault.TextFault.TheVariants as text
use Rattle.vs_inputs.specs.Inputs.{IsInputCause}
use Rattle.vs_inputs.specs.Reading.{IsFileCause, TookTooMuch}
use Rattle.vs_inputs.specs.Words.{Names}

took : (fault : TextFault) (mid new : Told) → new.taken ≡ mid.taken → TookTooMuch fault mid → TookTooMuch fault new
took text.TooLong mid new same more = omega (arith, same, more)
took fault mid new same more = tt

pub file_cause : {Y : Type 0} (fault : InputFault) (place : ℕ) (name : List ℕ) (Gives : List ℕ → Result Y TextFault → Type 0) (old mid new : Told) → new.taken ≡ mid.taken → new.read_faults ≡ mid.read_faults
    → IsFileCause fault place name Gives old mid → IsFileCause fault place name Gives old new
file_cause (Text k fault) place name Gives old mid new taken faults cause = (cause.0, cause.1, took fault mid new taken cause.2)
file_cause (Read k) place name Gives old mid new taken faults cause = (cause.0, omega (arith, cause.1, faults))
file_cause NoMemory place name Gives old mid new taken faults cause = tt

pub input_cause : (names : Names) (fault : InputFault) (old mid new : Told) → new.taken ≡ mid.taken → new.read_faults ≡ mid.read_faults → IsInputCause names fault old mid → IsInputCause names fault old new
input_cause names fault old mid new taken faults (inl config) = inl (file_cause fault _ _ _ old mid new taken faults config)
input_cause names fault old mid new taken faults (inr (inl events)) =
    inr (inl (record { config = events.config; config_file = events.config_file; cause = file_cause fault _ _ _ old mid new taken faults events.cause }))
input_cause names fault old mid new taken faults (inr (inr (inl scripts))) =
    inr (inr (inl (record {
      config = scripts.config;
      config_file = scripts.config_file;
      events = scripts.events;
      events_file = scripts.events_file;
      script = record {
        before = scripts.script.before;
        before_files = scripts.script.before_files;
        there = scripts.script.there;
        cause = file_cause fault _ _ _ old mid new taken faults scripts.script.cause;
      };
    })))
input_cause names fault old mid new taken faults (inr (inr (inr gather))) = inr (inr (inr gather))
