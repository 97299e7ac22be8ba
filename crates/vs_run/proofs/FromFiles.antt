-- From the files of a command to how it ends.
use Rattle.std.proofs.Common.{◌≡◌, ℕ, List, Option, Result, Ok, Err, refl, subst, ◌∙◌, inl, inr}
use Rattle.std.specs.Prelude.{◌⊎◌, IfOk, IfErr}
use Rattle.std.specs.Io.KnownBytes.{Appends}
use Rattle.vs_base.specs.Faults.{Rose}
use Rattle.vs_config.specs.Configuration.{Configuration}
use Rattle.vs_disk.specs.Told as disk
use Rattle.vs_host.specs.Calls.{AppendsFront}
use Rattle.vs_host.specs.Told.{Told}
use Rattle.vs_inputs.specs.declared.fault.InputFault.{InputFault}
use Rattle.vs_inputs.specs.declared.fault.InputFault.TheVariants as input
use Rattle.vs_inputs.specs.Files.{Files}
use Rattle.vs_inputs.specs.Reading.{OnlyReads, IsOutside}
use Rattle.vs_inputs.specs.RunInputs.{RunNames, AreRunInputs, IsRunInputCause}
use Rattle.vs_named.specs.Named.{AreRead}
use Rattle.vs_script.specs.Scripts.{Scripts}
use Rattle.vs_store.specs.declared.fault.StoreFault.TheVariants as store
use Rattle.vs_world.specs.NotOpened.{IsNotOpened}
use Rattle.vs_world.specs.declared.fault.WorldFault.{WorldFault}
use Rattle.vs_world.specs.declared.fault.WorldFault.TheVariants as world
use Rattle.vs_top.specs.Endings.{between, MayEndGood}
use Rattle.vs_top.specs.Faults.{IsNumbered, from_inputs, from_opening}
use Rattle.vs_top.specs.Plays.{journal_limit}
use Rattle.vs_top.specs.declared.fault.Fault.{Fault}
use Rattle.vs_top.specs.declared.fault.Fault.TheVariants as faults
use Rattle.vs_run.specs.Endings.{HasGiven, IsRunEnd, IsRunCause, IsFilesCause}

-- a read that failed was counted
read_rose : (k : ℕ) (names : RunNames) (old new : Told) → IsRunInputCause names (input.Read k) old new → Rose old.read_faults new.read_faults
read_rose k names old new (inl config) = config.1
read_rose k names old new (inr (inl scripts)) = scripts.script.cause.1
read_rose k names old new (inr (inr gather)) = absurd gather.refused

pub outside_good : (fault : InputFault) → IsOutside fault → MayEndGood (from_inputs fault)
outside_good (input.Text k fault) is = absurd is
outside_good (input.Read k) is = tt
outside_good input.NoMemory is = tt

module _ {D : Type 0} (tells : D → disk.Told) where
  -- files that give no inputs
  pub input_fault : (fault : InputFault) (names : RunNames) (old new : Told) (disks : List D) → OnlyReads old new → IsRunInputCause names fault old new → IsFilesCause (from_inputs fault) (between tells old new disks disks) names
  input_fault (input.Text k fault) names old new disks reads cause = (record { cause = cause; untouched = record { out = reads.out; disks = refl } }, reads.log)
  input_fault (input.Read k) names old new disks reads cause = ((record { cause = cause; untouched = record { out = reads.out; disks = refl } }, read_rose k names old new cause), reads.log)
  input_fault input.NoMemory names old new disks reads cause = record { out = reads.out; log = reads.log }

  -- journals that weren't opened
  pub opening_cause : (config : Configuration) (scripts : Scripts) (before after : List D) (host : Told) (fault : WorldFault) → IsNumbered (from_opening fault config) → IsNotOpened tells config journal_limit before fault after
      → IsRunCause (from_opening fault config) (between tells host host before after) config scripts host.log
  opening_cause config scripts before after host (world.OfSet x store.DiskFault) numbered cause = (numbered, record { refused = cause; untold = record { out = refl; log = refl } })
  opening_cause config scripts before after host (world.OfSet x (store.Full len)) numbered cause = record { at = inl (len, cause); untold = record { out = refl; log = refl } }
  opening_cause config scripts before after host (world.OfSet x store.NoMemory) numbered cause = record { out = refl; log = refl }
  opening_cause config scripts before after host (world.OfSet x (store.NotAJournal place)) numbered cause = (tt, refl, record { refused = cause; untold = record { out = refl; log = refl } })
  opening_cause config scripts before after host (world.OfSet x (store.OtherSet uuid)) numbered cause = (tt, refl, record { refused = cause; untold = record { out = refl; log = refl } })
  opening_cause config scripts before after host (world.OfSet x (store.OtherCount count)) numbered cause = (tt, refl, record { refused = cause; untold = record { out = refl; log = refl } })
  opening_cause config scripts before after host (world.Incoherent bucket entries) numbered cause = record { refused = cause; untold = record { out = refl; log = refl } }
  opening_cause config scripts before after host world.NoMemory numbered cause = record { out = refl; log = refl }

  -- ---- before the disks were touched the files were read

  module _ (config : Configuration) (scripts : Scripts) (before after : List D) (old mid new : Told) (reads : OnlyReads old mid) where
    adds : (text : List ℕ) → Appends mid.out new.out text → Appends old.out new.out text
    adds text a = subst (λ (o : Option (List ℕ)). Appends o new.out text) reads.out a

    logs : (text : List ℕ) (end : Option (List ℕ)) → Appends mid.log end text → Appends old.log end text
    logs text end a = subst (λ (o : Option (List ℕ)). Appends o end text) reads.log a

    risen : Rose mid.write_faults new.write_faults → Rose old.write_faults new.write_faults
    risen r = subst (λ (n : ℕ). Rose n new.write_faults) reads.write_faults r

    pub end_since : (status : ℕ) → IsRunEnd status (between tells mid new before after) config scripts → IsRunEnd status (between tells old new before after) config scripts
    end_since status (inl (zero, ran)) = inl (zero, record { run = ran.run; out = adds _ ran.out; log = logs _ _ ran.log; legal = ran.legal })
    end_since status (inr (seven, (x, failed))) = inr (seven, (x, record { number = failed.number; run = failed.run; out = failed.out ∙ reads.out; between = failed.between; events = by _ _ failed.events; line = line _ _ failed.line }))
      where
        by : (text : List ℕ) (end : Option (List ℕ)) → (Appends mid.log end text) ⊎ (AppendsFront mid.log end text × Rose mid.write_faults new.write_faults) → (Appends old.log end text) ⊎ (AppendsFront old.log end text × Rose old.write_faults new.write_faults)
        by text end (inl a) = inl (logs text end a)
        by text end (inr (front, rose)) = inr ((front.0, logs _ end front.1), risen rose)

        line : (text : List ℕ) (begin : Option (List ℕ)) → (Appends begin new.log text) ⊎ (AppendsFront begin new.log text × Rose mid.write_faults new.write_faults) → (Appends begin new.log text) ⊎ (AppendsFront begin new.log text × Rose old.write_faults new.write_faults)
        line text begin (inl a) = inl a
        line text begin (inr (front, rose)) = inr (front, risen rose)

    pub cause_since : (fault : Fault) → IsRunCause fault (between tells mid new before after) config scripts new.log → IsRunCause fault (between tells old new before after) config scripts new.log
    cause_since faults.Write c = record { run = c.run; rose = risen c.rose; at = by _ _ c.at }
      where
        by : (text events : List ℕ) → (AppendsFront mid.out new.out text × (new.log ≡ mid.log)) ⊎ (Appends mid.out new.out text × AppendsFront mid.log new.log events)
            → (AppendsFront old.out new.out text × (new.log ≡ old.log)) ⊎ (Appends old.out new.out text × AppendsFront old.log new.log events)
        by text events (inl (front, same)) = inl ((front.0, adds _ front.1), same ∙ reads.log)
        by text events (inr (whole, front)) = inr (adds text whole, (front.0, logs _ new.log front.1))
    cause_since (faults.Disk x) c = (c.0, record { refused = c.1.refused; untold = record { out = c.1.untold.out ∙ reads.out; log = c.1.untold.log ∙ reads.log } })
    cause_since (faults.Journal x fault wanted) c = (c.0, c.1, record { refused = c.2.refused; untold = record { out = c.2.untold.out ∙ reads.out; log = c.2.untold.log ∙ reads.log } })
    cause_since (faults.Incoherent bucket entries) c = record { refused = c.refused; untold = record { out = c.untold.out ∙ reads.out; log = c.untold.log ∙ reads.log } }
    cause_since (faults.Full x) c = record { at = c.at; untold = record { out = c.untold.out ∙ reads.out; log = c.untold.log ∙ reads.log } }
    cause_since faults.NoMemory c = record { out = c.out ∙ reads.out; log = c.log ∙ reads.log }
    cause_since fault c = absurd c

    module _ (names : RunNames) (inputs : AreRunInputs old.file names config scripts) where
      pub ends_given : (status : ℕ) → IsRunEnd status (between tells mid new before after) config scripts → HasGiven (between tells old new before after) names (IsRunEnd status (between tells old new before after))
      ends_given status e = record { config = config; scripts = scripts; inputs = inputs; holds = end_since status e }

      pub cause_given : (fault : Fault) → IsRunCause fault (between tells mid new before after) config scripts new.log → IsFilesCause fault (between tells old new before after) names
      cause_given faults.NoMemory c = cause_since faults.NoMemory c
      cause_given faults.Write c = record { config = config; scripts = scripts; inputs = inputs; holds = cause_since faults.Write c }
      cause_given (faults.Disk x) c = record { config = config; scripts = scripts; inputs = inputs; holds = cause_since (faults.Disk x) c }
      cause_given (faults.Journal x fault wanted) c = record { config = config; scripts = scripts; inputs = inputs; holds = cause_since (faults.Journal x fault wanted) c }
      cause_given (faults.Incoherent bucket entries) c = record { config = config; scripts = scripts; inputs = inputs; holds = cause_since (faults.Incoherent bucket entries) c }
      cause_given (faults.Full x) c = record { config = config; scripts = scripts; inputs = inputs; holds = cause_since (faults.Full x) c }
      cause_given faults.Words c = absurd c
      cause_given (faults.Text k fault) c = absurd c
      cause_given (faults.Event number reason) c = absurd c
      cause_given (faults.Read k) c = absurd c

      -- whatever the answer
      pub ends_any : (r : Result ℕ Fault) → ((files : Files) (names : List (List ℕ)) → AreRead files names config scripts → IfOk r (λ status. IsRunEnd status (between tells mid new before after) config scripts))
          → IfOk r (λ status. HasGiven (between tells old new before after) names (IsRunEnd status (between tells old new before after)))
      ends_any (Ok status) e = ends_given status (e old.file names.scripts (record { each = inputs.each; script_files = inputs.script_files; gathered = inputs.gathered }))
      ends_any (Err fault) e = tt

      pub cause_any : (r : Result ℕ Fault) → IfErr r (λ fault. IsRunCause fault (between tells mid new before after) config scripts new.log) → IfErr r (λ fault. IsFilesCause fault (between tells old new before after) names)
      cause_any (Ok status) c = tt
      cause_any (Err fault) c = cause_given fault c
