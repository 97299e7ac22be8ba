-- What was put out and logged.
use Rattle.std.proofs.Common.{◌≡◌, ℕ, ◌≤◌, List, Option, Result, Ok, Err, sym, subst, arith, inl, inr}
use Rattle.std.specs.Prelude.{◌⊎◌}
use Rattle.std.specs.Io.KnownBytes.{Appends}
use Rattle.vs_base.specs.Faults.{Rose}
use Rattle.vs_ending.specs.Ending.{OnlyLogs}
use Rattle.vs_ending.specs.Lines.{write_line}
use Rattle.vs_event.specs.declared.event.Event.{Event}
use Rattle.vs_event.specs.Event.{events_text}
use Rattle.vs_host.specs.Calls.{AppendsFront, Logs, PutsOut}
use Rattle.vs_host.specs.Told.{Told}
use Rattle.vs_host.specs.declared.fault.HostFailed.{HostFailed}
use Rattle.vs_machine.specs.State.{State}
use Rattle.vs_generating.specs.Endings.{IsCut, IsTold, IsToldInPart, Run, summary_of}
use Rattle.vs_generating.specs.Running.{IsRunOf}
use Rattle.vs_generating.specs.Summary.{summary_text}

abbrev pub went : Result (Unit {0}) HostFailed
went = Ok tt

abbrev pub failed_by : HostFailed → Result (Unit {0}) HostFailed
failed_by e = Err e

-- where an option of a text is the same, what is added to it is
adds_to : (old mid new : Option (List ℕ)) (text : List ℕ) → old ≡ mid → Appends old new text → Appends mid new text
adds_to old mid new text same adds = subst (λ (o : Option (List ℕ)). Appends o new text) same adds

adds_up_to : (old mid new : Option (List ℕ)) (text : List ℕ) → mid ≡ new → Appends old mid text → Appends old new text
adds_up_to old mid new text same adds = subst (λ (o : Option (List ℕ)). Appends old o text) same adds

module _ (number : ℕ) (events : List Event) (last : State) (is : IsRunOf number events last) (old mid new : Told) (text : List ℕ) (text_is : text ≡ summary_text number last events) where
  abbrev run : Run number
  run = record { events = events; last = last; is = is }

  -- all was
  pub told : PutsOut text old mid went → Logs (events_text events) mid new went → IsTold number old new
  told out log = record {
    run = run;
    out = adds_up_to old.out mid.out new.out (summary_text number last events) (sym log.out) (subst (λ (t : List ℕ). Appends old.out mid.out t) text_is out.out);
    log = adds_to mid.log old.log new.log (events_text events) out.log log.log;
  }

  -- the events weren't, or in part
  pub cut_in_events : (e : HostFailed) → PutsOut text old mid went → Logs (events_text events) mid new (failed_by e) → IsCut number old new new.log
  cut_in_events e out log = record {
    run = run;
    rose = omega (arith, log.failed, out.later);
    at = inr (
      adds_up_to old.out mid.out new.out (summary_text number last events) (sym log.out) (subst (λ (t : List ℕ). Appends old.out mid.out t) text_is out.out),
      (log.log.0, adds_to mid.log old.log new.log _ out.log log.log.1),
    );
  }

  -- the summary wasn't, or in part
  pub cut_in_summary : (e : HostFailed) → PutsOut text old new (failed_by e) → IsCut number old new new.log
  cut_in_summary e out = record {
    run = run;
    rose = out.failed;
    at = inl (subst (λ (t : List ℕ). AppendsFront old.out new.out t) text_is out.out, out.log);
  }

-- the line of a write that failed was logged behind that
pub with_line : (number : ℕ) (old mid new : Told) → IsCut number old mid mid.log → OnlyLogs write_line mid new → old.write_faults ≤ mid.write_faults → IsToldInPart number old new
with_line number old mid new cut logs grew = record {
  logged = mid.log;
  cut = record { run = cut.run; rose = omega (arith, cut.rose, logs.host.write_faults); at = at (summary_of cut.run) (events_text cut.run.events) cut.at };
  line = line logs.logged;
}
  where
    at : (summary events : List ℕ) → (AppendsFront old.out mid.out summary × (mid.log ≡ old.log)) ⊎ (Appends old.out mid.out summary × AppendsFront old.log mid.log events)
        → (AppendsFront old.out new.out summary × (mid.log ≡ old.log)) ⊎ (Appends old.out new.out summary × AppendsFront old.log mid.log events)
    at summary events (inl (front, same)) = inl ((front.0, adds_up_to old.out mid.out new.out _ (sym logs.out) front.1), same)
    at summary events (inr (whole, front)) = inr (adds_up_to old.out mid.out new.out summary (sym logs.out) whole, front)

    line : Appends mid.log new.log write_line ⊎ (AppendsFront mid.log new.log write_line × Rose mid.write_faults new.write_faults)
        → Appends mid.log new.log write_line ⊎ (AppendsFront mid.log new.log write_line × Rose old.write_faults new.write_faults)
    line (inl whole) = inl whole
    line (inr front) = inr (front.0, omega (arith, front.1, grew))
