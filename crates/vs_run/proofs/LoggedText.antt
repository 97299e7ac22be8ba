-- The text of events is logged piece by piece.
use Rattle.std.proofs.Common.{◌≡◌, ℕ, ◌+◌, ◌≤◌, List, [], ◌++◌, length, take, drop, Option, Some, None, Result, Ok, Err, refl, sym, ap, ◌∙◌, subst, arith, append_assoc, take-append-drop}
use Rattle.std.specs.Prelude.{min}
use Rattle.std.specs.Io.KnownBytes.{Appends}
use Rattle.std.proofs.Math.Seq.{take-append-add, take-length}
use Rattle.std.proofs.lemmas.Grind.{flat_map-append}
use Rattle.std.proofs.lemmas.List.{append-nil, take-append-le, take_min}
use Rattle.vs_event.specs.declared.event.Event.{Event}
use Rattle.vs_event.specs.Event.{events_text}
use Rattle.vs_host.specs.Calls.{Logs}
use Rattle.vs_host.specs.Told.{Told}
use Rattle.vs_host.specs.declared.fault.HostFailed.{HostFailed}

pub nothing_added : (old : Option (List ℕ)) → Appends old old []
nothing_added None = tt
nothing_added (Some xs) = sym (append-nil xs)

pub both_added : (old mid new : Option (List ℕ)) (a b : List ℕ) → Appends old mid a → Appends mid new b → Appends old new (a ++ b)
both_added None mid new a b x y = tt
both_added (Some xs) None new a b x y = absurd x
both_added (Some xs) (Some ys) None a b x y = absurd y
both_added (Some xs) (Some ys) (Some zs) a b x y = y ∙ (ap (λ (l : List ℕ). l ++ b) x ∙ append_assoc xs a b)

-- the first bytes of the middle of a text end a front of it
front_of : (a p rest : List ℕ) (n : ℕ) → take (length a + min n (length p)) (a ++ (p ++ rest)) ≡ a ++ take n p
front_of a p rest n =
    take-append-add a (p ++ rest) (min n (length p))
    ∙ ap (λ (l : List ℕ). a ++ l) (take-append-le (min n (length p)) p rest (omega arith) ∙ take_min n p)

-- the texts of the events up to one, and of those behind it
text_split : (events : List Event) (next : ℕ) → events_text events ≡ events_text (take next events) ++ events_text (drop next events)
text_split events next = ap events_text (sym (take-append-drop next events)) ∙ flat_map-append _ (take next events) (drop next events)

abbrev pub went : Result (Unit {0}) HostFailed
went = Ok tt

abbrev pub failed_by : HostFailed → Result (Unit {0}) HostFailed
failed_by e = Err e

-- the text of the first events was logged
pub record LoggedTo (events : List Event) (old now : Told) (next : ℕ) : Type 0 where
  pub within : next ≤ length events
  pub logs : Logs (events_text (take next events)) old now went

pub none_logged : (events : List Event) (old : Told) → LoggedTo events old old 0
none_logged events old = record {
  within = omega arith;
  logs = record { log = nothing_added old.log; failed = tt; later = omega arith; files = record { file = refl; may_read = refl }; out = refl; taken = refl; read_faults = refl };
}

module _ (events : List Event) (old mid new : Told) (next end : ℕ) (piece : List ℕ) (so_far : LoggedTo events old mid next) (text : events_text (take next events) ++ piece ≡ events_text (take end events)) where
  pub more_logged : end ≤ length events → Logs piece mid new went → LoggedTo events old new end
  more_logged within logs = record {
    within = within;
    logs = record {
      log = subst (λ (t : List ℕ). Appends old.log new.log t) text (both_added old.log mid.log new.log (events_text (take next events)) piece so_far.logs.log logs.log);
      failed = tt;
      later = omega (arith, so_far.logs.later, logs.later);
      files = record { file = logs.files.file ∙ so_far.logs.files.file; may_read = logs.files.may_read ∙ so_far.logs.files.may_read };
      out = logs.out ∙ so_far.logs.out;
      taken = logs.taken ∙ so_far.logs.taken;
      read_faults = logs.read_faults ∙ so_far.logs.read_faults;
    };
  }

  -- a write failed: the text is logged in part
  pub part_logged : (e : HostFailed) → Logs piece mid new (failed_by e) → Logs (events_text events) old new (failed_by e)
  part_logged e logs = record {
    log = (length before + min logs.log.0 (length piece), subst (λ (t : List ℕ). Appends old.log new.log t) front (both_added old.log mid.log new.log before (take logs.log.0 piece) so_far.logs.log logs.log.1));
    failed = omega (arith, logs.failed, so_far.logs.later);
    later = omega (arith, so_far.logs.later, logs.later);
    files = record { file = logs.files.file ∙ so_far.logs.files.file; may_read = logs.files.may_read ∙ so_far.logs.files.may_read };
    out = logs.out ∙ so_far.logs.out;
    taken = logs.taken ∙ so_far.logs.taken;
    read_faults = logs.read_faults ∙ so_far.logs.read_faults;
  }
    where
      before : List ℕ
      before = events_text (take next events)

      whole : events_text events ≡ before ++ (piece ++ events_text (drop end events))
      whole = text_split events end ∙ (ap (λ (t : List ℕ). t ++ events_text (drop end events)) (sym text) ∙ append_assoc before piece (events_text (drop end events)))

      front : before ++ take logs.log.0 piece ≡ take (length before + min logs.log.0 (length piece)) (events_text events)
      front = sym (ap (take (length before + min logs.log.0 (length piece))) whole ∙ front_of before piece (events_text (drop end events)) logs.log.0)

-- all were logged
pub all_logged : (events : List Event) (old now : Told) (next : ℕ) → LoggedTo events old now next → length events ≤ next → Logs (events_text events) old now went
all_logged events old now next so_far over =
    let at : next ≡ length events = omega (arith, so_far.within, over) in
    subst (λ (es : List Event). Logs (events_text es) old now went) (ap (λ (n : ℕ). take n events) at ∙ take-length events) so_far.logs
