-- What good files over good disks end with, where nothing of the outside failed.
use Rattle.std.proofs.Common.{◌≡◌, ℕ, ◌≤◌, List, [], ◌∷◌, length, Option, lit<, refl, sym, subst, ◌∙◌, arith, inl, inr}
use Rattle.std.specs.Prelude.{Contains}
use Rattle.vs_base.specs.Numbers.{IsSetNo}
use Rattle.vs_disk.specs.Told as disk
use Rattle.vs_host.specs.Told.{Told}
use Rattle.vs_inputs.specs.RunInputs.{RunNames}
use Rattle.vs_top.specs.Endings.{Outside, between, NoneRose, MayEndGood}
use Rattle.vs_top.specs.Logged.{IsToldOr}
use Rattle.vs_top.specs.Statuses.{status_of}
use Rattle.vs_top.specs.declared.fault.Fault.{Fault}
use Rattle.vs_top.specs.declared.fault.Fault.TheVariants as faults
use Rattle.vs_top.proofs.Ending.{later}
use Rattle.vs_top.proofs.Possible.{has_item}
use Rattle.vs_run.specs.Endings.{HasGiven, IsFilesCause, IsFull, IsRunEnd}

abbrev good_statuses : List ℕ
good_statuses = 0 ∷ 9 ∷ []

-- what is told puts nothing out
out_same : (fault : Fault) (status : ℕ) (mid new : Told) → IsToldOr fault status mid new → new.out ≡ mid.out
out_same fault status mid new (inl is) = is.logged.1.out
out_same fault status mid new (inr early) = early.1.logged.1.out

module _ {D : Type 0} (tells : D → disk.Told) (before after : List D) (count : length before ≡ 32) (count_after : length after ≡ 32) (old mid new : Told) (names : RunNames) where
  abbrev o_mid : Outside D
  o_mid = between tells old mid before after

  abbrev o_new : Outside D
  o_new = between tells old new before after

  -- a journal that had no room before the line was logged has none after it
  full_still : (x : ℕ) → new.out ≡ mid.out → IsFilesCause (faults.Full x) o_mid names → HasGiven o_new names (λ config scripts. (logged : Option (List ℕ)) × IsFull x o_new config scripts logged)
  full_still x same c = record {
    config = c.config;
    scripts = c.scripts;
    inputs = c.inputs;
    holds = (old.log, record { at = c.holds.at; untold = record { out = same ∙ c.holds.untold.out; log = refl } });
  }

  -- no disk failed
  no_disk : (x : ℕ) → NoneRose o_new → IsFilesCause (faults.Disk x) o_mid names → ⊥
  no_disk x none c =
      let number : IsSetNo x = c.holds.0 in
      let was = has_item before x count number.0 number.1 in
      let is = has_item after x count_after number.0 number.1 in
      none.disks x was.0 is.0 was.1 is.1 ((c.holds.1.refused.cause.refused was.0 is.0 was.1 is.1).failed refl)

  module _ (none : NoneRose o_new) (none_full : (x : ℕ) → ¬ (HasGiven o_new names (λ config scripts. (logged : Option (List ℕ)) × IsFull x o_new config scripts logged))) (same : new.out ≡ mid.out) (reads : mid.read_faults ≤ new.read_faults) (writes : mid.write_faults ≤ new.write_faults) where
    -- a fault that may come, and no count of faults rose
    good_status : (fault : Fault) → IsFilesCause fault o_mid names → MayEndGood fault → Contains good_statuses (status_of fault)
    good_status faults.Words cause may = absurd cause.holds
    good_status (faults.Text k fault) cause may = absurd may
    good_status (faults.Event number reason) cause may = absurd cause.holds
    good_status (faults.Read k) cause may = absurd (none.reads (omega (arith, cause.0.1, reads)))
    good_status faults.Write cause may = absurd (none.writes (omega (arith, cause.holds.rose, writes)))
    good_status (faults.Disk x) cause may = absurd (no_disk x none cause)
    good_status (faults.Journal x fault wanted) cause may = absurd may
    good_status (faults.Incoherent bucket entries) cause may = absurd may
    good_status (faults.Full x) cause may = absurd (none_full x (full_still x same cause))
    good_status faults.NoMemory cause may = (1, lit< tt, refl)

  pub good_told : (fault : Fault) (status : ℕ) → NoneRose o_new → ((x : ℕ) → ¬ (HasGiven o_new names (λ config scripts. (logged : Option (List ℕ)) × IsFull x o_new config scripts logged))) → IsFilesCause fault o_mid names → MayEndGood fault → IsToldOr fault status mid new → Contains good_statuses status
  good_told fault status none none_full cause may (inl is) =
      let grew = later fault status mid new (inl is) in
      subst (Contains good_statuses) (sym is.status_is) (good_status none none_full (out_same fault status mid new (inl is)) grew.0 grew.1 fault cause may)
  good_told fault status none none_full cause may (inr early) = subst (Contains good_statuses) (sym early.1.status_is) (1, lit< tt, refl)

-- it didn't end where a disk failed
pub good_end : {D : Type 0} (status : ℕ) (names : RunNames) (o : Outside D) → length o.before ≡ 32 → length o.after ≡ 32 → NoneRose o → HasGiven o names (IsRunEnd status o) → Contains good_statuses status
good_end status names o count count_after none ran = by ran.holds
  where
    by : IsRunEnd status o ran.config ran.scripts → Contains good_statuses status
    by (inl zero) = subst (Contains good_statuses) (sym zero.0) (0, lit< tt, refl)
    by (inr (seven, (x, failed))) =
        let was = has_item o.before x count failed.number.0 failed.number.1 in
        let is = has_item o.after x count_after failed.number.0 failed.number.1 in
        absurd (none.disks x was.0 is.0 was.1 is.1 (failed.run.holds.disk was.0 is.0 was.1 is.1))
