-- How a cluster comes to rest, and what is told of it.
use Rattle.std.proofs.Common.{◌≡◌, ℕ, List, Result, Ok, Err, refl, subst, sym, ◌∙◌, arith, inl, inr}
use Rattle.std.specs.Prelude.{◌⊎◌}
use Rattle.std.specs.Io.KnownBytes.{Appends}
use Rattle.vs_base.specs.Faults.{Rose}
use Rattle.vs_disk.specs.Told as disk
use Rattle.vs_ending.specs.Ending.{OnlyLogs}
use Rattle.vs_event.specs.Event.{events_text}
use Rattle.vs_host.specs.Calls.{AppendsFront, Logs}
use Rattle.vs_host.specs.Told.{Told}
use Rattle.vs_host.specs.declared.fault.HostFailed.{HostFailed}
use Rattle.vs_settle.specs.Stopped as settle
use Rattle.vs_settle.specs.declared.fault.SettleFault.{SettleFault}
use Rattle.vs_settle.specs.declared.fault.SettleFault.TheVariants as stop
use Rattle.vs_world.specs.World.{World}
use Rattle.vs_top.specs.Faults.{IsNumbered}
use Rattle.vs_top.specs.Statuses.{fault_line}
use Rattle.vs_top.specs.declared.fault.Fault.{Fault}
use Rattle.vs_top.specs.declared.fault.Fault.TheVariants as faults
use Rattle.vs_run.specs.Worlds.{IsAtRest, IsTellingCause, IsEndCause, IsOfDisk, HasFailedAtRest, from_service}

-- why it wasn't told whole
pub telling_end : {D : Type 0} (w : World D) (fault : Fault) (old new : Told) → IsAtRest w → IsTellingCause w fault old new → IsEndCause fault w old new
telling_end w faults.Write old new rest c = (rest, c)
telling_end w faults.NoMemory old new rest c = c
telling_end w fault old new rest c = absurd c

-- why the service stopped, where no disk failed
pub stopped_end : {D : Type 0} (told : D → disk.Told) (first last : World D) (stopped : SettleFault) (fault : Fault) (host : Told) → fault ≡ from_service stopped → ¬ (IsOfDisk fault) → settle.IsSettleCause told first last stopped → IsEndCause fault last host host
stopped_end told first last stopped fault host is other cause =
    subst (λ (f : Fault). IsEndCause f last host host) (sym is) (by stopped (subst (λ (f : Fault). ¬ (IsOfDisk f)) is other) cause)
  where
    by : (s : SettleFault) → ¬ (IsOfDisk (from_service s)) → settle.IsSettleCause told first last s → IsEndCause (from_service s) last host host
    by (stop.DiskFault x) other c = absurd (other tt)
    by (stop.Full x) other c = (c, record { out = refl; log = refl })
    by stop.NoMemory other c = record { out = refl; log = refl }

module _ {D : Type 0} (told : D → disk.Told) (first last : World D) (old mid new : Told) (r : Result (Unit {0}) HostFailed) (line : List ℕ) (events : Logs (events_text last.played.events) old mid r) (logs : OnlyLogs line mid new) where
  events_logged : (a : Result (Unit {0}) HostFailed) → Logs (events_text last.played.events) old mid a → Appends old.log mid.log (events_text last.played.events) ⊎ (AppendsFront old.log mid.log (events_text last.played.events) × Rose old.write_faults new.write_faults)
  events_logged (Ok u) l = inl l.log
  events_logged (Err e) l = inr (l.log, omega (arith, l.failed, logs.host.write_faults))

  line_logged : Appends mid.log new.log line ⊎ (AppendsFront mid.log new.log line × Rose mid.write_faults new.write_faults) → Appends mid.log new.log line ⊎ (AppendsFront mid.log new.log line × Rose old.write_faults new.write_faults)
  line_logged (inl whole) = inl whole
  line_logged (inr front) = inr (front.0, omega (arith, front.1, events.later))

  -- a disk failed
  pub failed_at_rest : (stopped : SettleFault) (fault : Fault) → fault ≡ from_service stopped → IsNumbered fault → IsOfDisk fault → line ≡ fault_line fault → settle.IsSettleCause told first last stopped → HasFailedAtRest told first last old new
  failed_at_rest (stop.DiskFault x) fault is numbered of_disk text cause = record {
    set = x;
    number = subst IsNumbered is numbered;
    failed = cause;
    logged = record {
      out = logs.out ∙ events.out;
      between = mid.log;
      events = events_logged r events;
      line_is = subst (λ (t : List ℕ). Appends mid.log new.log t ⊎ (AppendsFront mid.log new.log t × Rose old.write_faults new.write_faults)) (subst (λ (f : Fault). line ≡ fault_line f) is text) (line_logged logs.logged);
    };
  }
  failed_at_rest (stop.Full x) fault is numbered of_disk text cause = absurd (subst IsOfDisk is of_disk)
  failed_at_rest stop.NoMemory fault is numbered of_disk text cause = absurd (subst IsOfDisk is of_disk)
