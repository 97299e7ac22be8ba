-- From the file and the disks to how the command ends.
use Rattle.std.proofs.Common.{◌≡◌, ℕ, List, refl, ◌∙◌, sym, subst, inl, inr, Ok, Err}
use Rattle.vs_config.specs.Configuration.{Configuration}
use Rattle.vs_disk.specs.Told as disk
use Rattle.vs_host.specs.declared.fault.HostFailed.{HostFailed}
use Rattle.vs_host.specs.Told.{Told}
use Rattle.vs_host.specs.Calls.{PutsOut}
use Rattle.vs_inputs.specs.declared.fault.InputFault.{InputFault}
use Rattle.vs_inputs.specs.declared.fault.InputFault.TheVariants as input
use Rattle.vs_inputs.specs.Files.{HasText}
use Rattle.vs_inputs.specs.Gives.{GivesConfig}
use Rattle.vs_inputs.specs.Places.{config_place}
use Rattle.vs_inputs.specs.Reading.{IsFileCause, IsOutside, OnlyReads}
use Rattle.vs_store.specs.declared.fault.StoreFault.TheVariants as store
use Rattle.vs_world.specs.NotOpened.{IsNotOpened}
use Rattle.vs_world.specs.declared.fault.WorldFault.{WorldFault}
use Rattle.vs_world.specs.declared.fault.WorldFault.TheVariants as world
use Rattle.vs_top.specs.Endings.{between}
use Rattle.vs_top.specs.Faults.{IsNumbered, from_inputs, from_opening}
use Rattle.vs_top.specs.Plays.{journal_limit}
use Rattle.vs_informing.specs.Cluster.{IsInfoOf, IsRefusal, opened_on}
use Rattle.vs_informing.specs.Endings.{AreRefused, HasInfo, IsCause, IsInfoCut, IsTold, MayEndGood}

-- what may come of a file that is good
pub outside_good : (fault : InputFault) → IsOutside fault → MayEndGood (from_inputs fault)
outside_good (input.Text k fault) is = absurd is
outside_good (input.Read k) is = tt
outside_good input.NoMemory is = tt

module _ {D : Type 0} (tells : D → disk.Told) (name : List ℕ) (old mid : Told) (reads : OnlyReads old mid) where
  -- a file that gives no configuration
  pub file_fault : (fault : InputFault) (disks : List D) → IsFileCause fault config_place name GivesConfig old mid → IsCause (from_inputs fault) (between tells old mid disks disks) name
  file_fault (input.Text k fault) disks cause = record { cause = cause; untouched = record { out = reads.out; disks = refl } }
  file_fault (input.Read k) disks cause = record { place = cause.0; rose = cause.1; untouched = record { out = reads.out; disks = refl } }
  file_fault input.NoMemory disks cause = reads.out

  module _ (config : Configuration) (before after : List D) (file : HasText old.file name (λ text. GivesConfig text (Ok config))) where
    has_info : (new : Told) (text : List ℕ) → IsInfoOf (opened_on tells config before after) text → HasInfo (between tells old new before after) name text
    has_info new text info = record { config = config; config_file = file; info = info }

    -- the line, or a front of it, was put out after the file was read
    pub is_told : (text bytes : List ℕ) (new : Told) (u : Unit {0}) → IsInfoOf (opened_on tells config before after) text → bytes ≡ text → PutsOut bytes mid new (Ok u) → IsTold (between tells old new before after) name
    is_told text bytes new u info is puts = record { text = text; info = has_info new text info; out = rw (← reads.out, ← is) puts.out; log = puts.log ∙ reads.log }

    pub is_cut : (text bytes : List ℕ) (new : Told) (e : HostFailed) → IsInfoOf (opened_on tells config before after) text → bytes ≡ text → PutsOut {U = Unit {0}} bytes mid new (Err e) → IsInfoCut (between tells old new before after) name
    is_cut text bytes new e info is puts = record { text = text; info = has_info new text info; out = rw (← reads.out, ← is) puts.out; rose = rw (← reads.write_faults) puts.failed }

    -- journals that weren't opened
    refused : (fault : WorldFault) → IsNotOpened tells config journal_limit before fault after → AreRefused fault config (between tells old mid before after) name
    refused fault cause = record { config_file = file; refused = cause; out = reads.out }

    not_opened : (fault : WorldFault) → IsNumbered (from_opening fault config) → IsNotOpened tells config journal_limit before fault after → IsCause (from_opening fault config) (between tells old mid before after) name
    not_opened (world.OfSet x store.DiskFault) numbered cause = record {
      config = config;
      refused = refused (world.OfSet x store.DiskFault) cause;
      number = numbered;
      failed = λ was is at now. (cause.cause.refused was is at now).failed refl;
    }
    not_opened (world.OfSet x (store.Full len)) numbered cause = record { config = config; long = len; refused = refused (world.OfSet x (store.Full len)) cause }
    not_opened (world.OfSet x store.NoMemory) numbered cause = reads.out
    not_opened (world.OfSet x (store.NotAJournal place)) numbered cause = record { config = config; refused = refused (world.OfSet x (store.NotAJournal place)) cause; of_bytes = tt; uuid = refl }
    not_opened (world.OfSet x (store.OtherSet uuid)) numbered cause = record { config = config; refused = refused (world.OfSet x (store.OtherSet uuid)) cause; of_bytes = tt; uuid = refl }
    not_opened (world.OfSet x (store.OtherCount count)) numbered cause = record { config = config; refused = refused (world.OfSet x (store.OtherCount count)) cause; of_bytes = tt; uuid = refl }
    not_opened (world.Incoherent bucket entries) numbered cause = record { config = config; refused = refused (world.Incoherent bucket entries) cause }
    not_opened world.NoMemory numbered cause = reads.out

    pub refusal_cause : (fault : WorldFault) → IsNumbered (from_opening fault config) → IsRefusal tells config before fault after → IsCause (from_opening fault config) (between tells old mid before after) name
    refusal_cause fault numbered (inl none) = subst (λ (f : WorldFault). IsCause (from_opening f config) (between tells old mid before after) name) (sym none) reads.out
    refusal_cause fault numbered (inr cause) = not_opened fault numbered cause
