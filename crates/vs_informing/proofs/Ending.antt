-- How the command ends, once its line was logged, and with which statuses.
use Rattle.std.proofs.Common.{◌≡◌, ◌≤◌, ℕ, List, [], ◌∷◌, length, lit<, refl, sym, ◌∙◌, subst, arith, inl, inr, Result, Ok, Err}
use Rattle.std.specs.Prelude.{Contains, ◌⊎◌}
use Rattle.vs_config.specs.Configuration.{Configuration}
use Rattle.vs_disk.specs.Told as disk
use Rattle.vs_host.specs.declared.fault.HostFailed.{HostFailed}
use Rattle.vs_host.specs.Told.{Told}
use Rattle.vs_host.specs.Calls.{Logs}
use Rattle.vs_inputs.specs.declared.fault.InputFault.TheVariants as input
use Rattle.vs_inputs.specs.Gives.{GivesConfig}
use Rattle.vs_inputs.specs.Places.{config_place}
use Rattle.vs_world.specs.declared.fault.WorldFault.{WorldFault}
use Rattle.vs_top.specs.declared.fault.Fault.{Fault}
use Rattle.vs_top.specs.declared.fault.Fault.TheVariants as faults
use Rattle.vs_top.specs.Endings.{NoneRose, Outside, between}
use Rattle.vs_top.specs.Logged.{IsEarly, IsTold as IsFaultTold, IsToldOr}
use Rattle.vs_top.specs.Statuses.{fault_line, status_of}
use Rattle.vs_top.proofs.Causes.{file_cause}
use Rattle.vs_top.proofs.Ending.{later, line_logged}
use Rattle.vs_top.proofs.Possible.{has_item}
use Rattle.vs_informing.specs.Endings.{AreRefused, Ends, HasInfo, IsCause, IsDiskFault, MayEndGood}

abbrev statuses : List ℕ
statuses = 0 ∷ 3 ∷ 5 ∷ 6 ∷ 7 ∷ 8 ∷ 9 ∷ 10 ∷ []

module _ {D : Type 0} (tells : D → disk.Told) (before after : List D) (name : List ℕ) (old mid new : Told) where
  abbrev o_mid : Outside D
  o_mid = between tells old mid before after

  abbrev o_new : Outside D
  o_new = between tells old new before after

  -- where nothing was put out, there may be no memory for the line
  early_cause : (fault : Fault) → IsEarly fault → IsCause fault o_mid name → IsCause faults.NoMemory o_mid name
  early_cause (faults.Text k fault) early c = c.untouched.out
  early_cause (faults.Event number reason) early c = absurd c
  early_cause (faults.Read k) early c = c.untouched.out
  early_cause (faults.Disk x) early c = c.refused.out
  early_cause (faults.Journal x fault wanted) early c = c.refused.out
  early_cause (faults.Incoherent bucket entries) early c = c.refused.out
  early_cause (faults.Full x) early c = c.refused.out
  early_cause faults.Words early c = absurd c
  early_cause faults.Write early c = absurd early
  early_cause faults.NoMemory early c = absurd early

  -- ---- the line is logged after the fault

  module _ (line : List ℕ) (r : Result (Unit {0}) HostFailed) (logs : Logs line mid new r) where
    info_still : (text : List ℕ) → HasInfo o_mid name text → HasInfo o_new name text
    info_still text h = record { config = h.config; config_file = h.config_file; info = h.info }

    refused_still : (fault : WorldFault) (config : Configuration) → AreRefused fault config o_mid name → AreRefused fault config o_new name
    refused_still fault config a = record { config_file = a.config_file; refused = a.refused; out = logs.out ∙ a.out }

    cause_logged : (fault : Fault) → IsCause fault o_mid name → IsCause fault o_new name
    cause_logged faults.Words c = c
    cause_logged (faults.Text k fault) c = record {
      cause = file_cause (input.Text k fault) config_place name GivesConfig old mid new logs.taken logs.read_faults c.cause;
      untouched = record { out = logs.out ∙ c.untouched.out; disks = c.untouched.disks };
    }
    cause_logged (faults.Event number reason) c = c
    cause_logged (faults.Read k) c = record {
      place = c.place;
      rose = omega (arith, c.rose, logs.read_faults);
      untouched = record { out = logs.out ∙ c.untouched.out; disks = c.untouched.disks };
    }
    cause_logged faults.Write c = record {
      text = c.text;
      info = info_still c.text c.info;
      out = rw logs.out c.out;
      rose = omega (arith, c.rose, logs.later);
    }
    cause_logged (faults.Disk x) c = record { config = c.config; refused = refused_still _ c.config c.refused; number = c.number; failed = c.failed }
    cause_logged (faults.Journal x fault wanted) c = record { config = c.config; refused = refused_still _ c.config c.refused; of_bytes = c.of_bytes; uuid = c.uuid }
    cause_logged (faults.Incoherent bucket entries) c = record { config = c.config; refused = refused_still _ c.config c.refused }
    cause_logged (faults.Full x) c = record { config = c.config; long = c.long; refused = refused_still _ c.config c.refused }
    cause_logged faults.NoMemory c = logs.out ∙ c

  -- ---- the fault was told

  module _ (status : ℕ) (same : mid.log ≡ old.log) (grew : old.write_faults ≤ mid.write_faults) where
    told : (fault : Fault) → IsCause fault o_mid name → IsFaultTold fault status mid new → Ends status o_new name
    told fault cause is =
        let r = is.logged.0 in
        let logs = is.logged.1 in
        inr (fault, is.status_is, record { cause = cause_logged (fault_line fault) r logs fault cause; logged = line_logged (fault_line fault) old mid new r same grew logs })

    pub told_or : (fault : Fault) → IsCause fault o_mid name → IsToldOr fault status mid new → Ends status o_new name
    told_or fault cause (inl is) = told fault cause is
    told_or fault cause (inr early) = told faults.NoMemory (early_cause fault early.0 cause) early.1

  -- ---- a good file over good disks

  module _ (count : length before ≡ 32) (count_after : length after ≡ 32) where
    no_disk : (x : ℕ) → NoneRose o_new → IsDiskFault x o_mid name → ⊥
    no_disk x none c =
        let was = has_item before x count c.number.0 c.number.1 in
        let is = has_item after x count_after c.number.0 c.number.1 in
        none.disks x was.0 is.0 was.1 is.1 (c.failed was.0 is.0 was.1 is.1)

    good_status : (fault : Fault) → NoneRose o_new → mid.read_faults ≤ new.read_faults → mid.write_faults ≤ new.write_faults → IsCause fault o_mid name → MayEndGood fault → Contains (0 ∷ 9 ∷ []) (status_of fault)
    good_status faults.Words none reads writes cause may = absurd cause
    good_status (faults.Text k fault) none reads writes cause may = absurd may
    good_status (faults.Event number reason) none reads writes cause may = absurd cause
    good_status (faults.Read k) none reads writes cause may = absurd (none.reads (omega (arith, cause.rose, reads)))
    good_status faults.Write none reads writes cause may = absurd (none.writes (omega (arith, cause.rose, writes)))
    good_status (faults.Disk x) none reads writes cause may = absurd (no_disk x none cause)
    good_status (faults.Journal x fault wanted) none reads writes cause may = absurd may
    good_status (faults.Incoherent bucket entries) none reads writes cause may = absurd may
    good_status (faults.Full x) none reads writes cause may = absurd may
    good_status faults.NoMemory none reads writes cause may = (1, lit< tt, refl)

    pub good_told : (fault : Fault) (status : ℕ) → NoneRose o_new → IsCause fault o_mid name → MayEndGood fault → IsToldOr fault status mid new → Contains (0 ∷ 9 ∷ []) status
    good_told fault status none cause may (inl is) =
        let grew = later fault status mid new (inl is) in
        subst (Contains (0 ∷ 9 ∷ [])) (sym is.status_is) (good_status fault none grew.0 grew.1 cause may)
    good_told fault status none cause may (inr early) = subst (Contains (0 ∷ 9 ∷ [])) (sym early.1.status_is) (1, lit< tt, refl)

-- ---- each status is one of eight

fault_status : {D : Type 0} (fault : Fault) (o : Outside D) (name : List ℕ) → IsCause fault o name → Contains statuses (status_of fault)
fault_status faults.Words o name cause = absurd cause
fault_status (faults.Text k fault) o name cause = (1, lit< tt, refl)
fault_status (faults.Event number reason) o name cause = absurd cause
fault_status (faults.Read k) o name cause = (2, lit< tt, refl)
fault_status faults.Write o name cause = (3, lit< tt, refl)
fault_status (faults.Disk x) o name cause = (4, lit< tt, refl)
fault_status (faults.Journal x fault wanted) o name cause = (5, lit< tt, refl)
fault_status (faults.Incoherent bucket entries) o name cause = (5, lit< tt, refl)
fault_status faults.NoMemory o name cause = (6, lit< tt, refl)
fault_status (faults.Full x) o name cause = (7, lit< tt, refl)

pub ends_with : {D : Type 0} (status : ℕ) (o : Outside D) (name : List ℕ) → Ends status o name → Contains statuses status
ends_with status o name (inl told) = subst (Contains statuses) (sym told.0) (0, lit< tt, refl)
ends_with status o name (inr (fault, is, by)) = subst (Contains statuses) (sym is) (fault_status fault o name by.cause)
