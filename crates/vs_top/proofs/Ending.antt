-- How a command ends, once its line was logged, and with which statuses.
use Rattle.std.proofs.Common.{◌≡◌, ◌≤◌, ℕ, List, [], ◌∷◌, length, lit<, refl, sym, ◌∙◌, subst, arith, inl, inr, Result, Ok, Err}
use Rattle.std.specs.Prelude.{Contains, ◌↔◌, ◌⊎◌}
use Rattle.vs_base.specs.Listed.{Listed}
use Rattle.vs_disk.specs.Told as disk
use Rattle.vs_ending.specs.Ending.{IsLogged}
use Rattle.vs_event.specs.declared.reason.Reason.{Reason}
use Rattle.vs_host.specs.declared.fault.HostFailed.{HostFailed}
use Rattle.vs_host.specs.Told.{Told}
use Rattle.vs_host.specs.Calls.{Logs}
use Rattle.vs_inputs.specs.declared.fault.InputFault.TheVariants as input
use Rattle.vs_inputs.specs.declared.fault.TextFault.{TextFault}
use Rattle.vs_inputs.specs.Words.{Names, IsCommand}
use Rattle.vs_space.specs.declared.status.Status.{Status}
use Rattle.vs_store.specs.declared.fault.StoreFault.{StoreFault}
use Rattle.vs_top.specs.declared.fault.Fault.{Fault}
use Rattle.vs_top.specs.declared.fault.Fault.TheVariants as faults
use Rattle.vs_top.specs.Endings.{Outside, between, IsGiven, ByCommand, IsPlayed, IsFilesCause, IsCause, EndsBy, statuses, Ends, IsFull, IsDiskFault, NoneRose, MayEndGood, MayEndPossible}
use Rattle.vs_top.specs.Logged.{IsTold, IsEarly, IsToldOr}
use Rattle.vs_top.specs.Statuses.{status_of, fault_line}
use Rattle.vs_top.proofs.Causes.{input_cause}
use Rattle.vs_top.proofs.Possible.{has_item}

-- where nothing was put out, there may be no memory for the line
early_cause : {D : Type 0} (fault : Fault) (o : Outside D) (names : Names) → IsEarly fault → IsFilesCause fault o names → IsFilesCause faults.NoMemory o names
early_cause (faults.Text k fault) o names early c = c.untouched.out
early_cause (faults.Event number reason) o names early c = c.out
early_cause (faults.Read k) o names early c = c.untouched.out
early_cause (faults.Disk x) o names early c = c.out
early_cause (faults.Journal x fault wanted) o names early c = c.out
early_cause (faults.Incoherent bucket entries) o names early c = c.out
early_cause (faults.Full x) o names early c = c.out
early_cause faults.Words o names early c = absurd c
early_cause faults.Write o names early c = absurd early
early_cause faults.NoMemory o names early c = absurd early

-- the cause of a command that names files
of_command : {D : Type 0} (fault : Fault) (words : List (List ℕ)) (names : Names) (o : Outside D) → IsCommand words names → IsFilesCause fault o names → IsCause fault words o
of_command faults.Words words names o command c = absurd c
of_command (faults.Text k fault) words names o command c = record { names = names; command = command; holds = c }
of_command (faults.Event number reason) words names o command c = record { names = names; command = command; holds = c }
of_command (faults.Read k) words names o command c = record { names = names; command = command; holds = c }
of_command faults.Write words names o command c = record { names = names; command = command; holds = c }
of_command (faults.Disk x) words names o command c = record { names = names; command = command; holds = c }
of_command (faults.Journal x fault wanted) words names o command c = record { names = names; command = command; holds = c }
of_command (faults.Incoherent bucket entries) words names o command c = record { names = names; command = command; holds = c }
of_command (faults.Full x) words names o command c = record { names = names; command = command; holds = c }
of_command faults.NoMemory words names o command c = record { names = names; command = command; holds = c }

pub line_logged : (line : List ℕ) (old mid new : Told) (r : Result (Unit {0}) HostFailed) → mid.log ≡ old.log → old.write_faults ≤ mid.write_faults → Logs line mid new r → IsLogged line old new
line_logged line old mid new (Ok u) same grew logs = inl (rw (← same) logs.log)
line_logged line old mid new (Err e) same grew logs = inr (rw (← same) logs.log, omega (arith, logs.failed, grew))

module _ {D : Type 0} (tells : D → disk.Told) (before after : List D) where
  -- ---- the line is logged after the fault

  module _ (line : List ℕ) (old mid new : Told) (names : Names) (r : Result (Unit {0}) HostFailed) (logs : Logs line mid new r) where
    abbrev given_still : IsGiven (between tells old mid before after) names → IsGiven (between tells old new before after) names
    given_still g = record { config = g.config; events = g.events; scripts = g.scripts; inputs = g.inputs }

    pub cause_logged : (fault : Fault) → IsFilesCause fault (between tells old mid before after) names → IsFilesCause fault (between tells old new before after) names
    cause_logged faults.Words c = c
    cause_logged (faults.Text k fault) c = record {
      cause = input_cause names (input.Text k fault) old mid new logs.taken logs.read_faults c.cause;
      untouched = record { out = logs.out ∙ c.untouched.out; disks = c.untouched.disks };
    }
    cause_logged (faults.Event number reason) c = record { given = given_still c.given; refused = c.refused; out = logs.out ∙ c.out }
    cause_logged (faults.Read k) c = record {
      cause = input_cause names (input.Read k) old mid new logs.taken logs.read_faults c.cause;
      rose = omega (arith, c.rose, logs.read_faults);
      untouched = record { out = logs.out ∙ c.untouched.out; disks = c.untouched.disks };
    }
    cause_logged faults.Write c = record {
      text = c.text;
      report = record { given = given_still c.report.given; report = c.report.report };
      out = rw logs.out c.out;
      rose = omega (arith, c.rose, logs.later);
    }
    cause_logged (faults.Disk x) c = record { given = given_still c.given; at = c.at; number = c.number; failed = c.failed; out = logs.out ∙ c.out }
    cause_logged (faults.Journal x fault wanted) c = record { given = given_still c.given; of_bytes = c.of_bytes; uuid = c.uuid; refused = c.refused; out = logs.out ∙ c.out }
    cause_logged (faults.Incoherent bucket entries) c = record { given = given_still c.given; refused = c.refused; out = logs.out ∙ c.out }
    cause_logged (faults.Full x) c = record { given = given_still c.given; at = c.at; out = logs.out ∙ c.out }
    cause_logged faults.NoMemory c = logs.out ∙ c

  -- ---- the fault was told

  module _ (status : ℕ) (words : List (List ℕ)) (names : Names) (old mid new : Told) (command : IsCommand words names) (same : mid.log ≡ old.log) (grew : old.write_faults ≤ mid.write_faults) where
    told : (fault : Fault) → IsFilesCause fault (between tells old mid before after) names → IsTold fault status mid new → Ends status words (between tells old new before after)
    told fault cause is =
        let r = is.logged.0 in
        let logs = is.logged.1 in
        inr (
          fault,
          is.status_is,
          record {
            cause = of_command fault words names (between tells old new before after) command (cause_logged (fault_line fault) old mid new names r logs fault cause);
            logged = line_logged (fault_line fault) old mid new r same grew logs;
          },
        )

    pub told_or : (fault : Fault) → IsFilesCause fault (between tells old mid before after) names → IsToldOr fault status mid new → Ends status words (between tells old new before after)
    told_or fault cause (inl is) = told fault cause is
    told_or fault cause (inr early) = told faults.NoMemory (early_cause fault (between tells old mid before after) names early.0 cause) early.1

-- the words are no command
pub told_usage : {D : Type 0} (tells : D → disk.Told) (disks : List D) (status : ℕ) (words : List (List ℕ)) (old new : Told) → ((names : Names) → ¬ (IsCommand words names)) → IsTold faults.Words status old new
    → Ends status words (between tells old new disks disks)
told_usage tells disks status words old new none is =
    let r = is.logged.0 in
    let logs = is.logged.1 in
    inr (
      faults.Words,
      is.status_is,
      record { cause = record { none = none; untouched = record { out = logs.out; disks = refl } }; logged = line_logged (fault_line faults.Words) old old new r refl (omega arith) logs },
    )

-- ---- each status is one of ten

fault_status : (fault : Fault) → Contains statuses (status_of fault)
fault_status faults.Words = (1, lit< tt, refl)
fault_status (faults.Text k fault) = (2, lit< tt, refl)
fault_status (faults.Event number reason) = (3, lit< tt, refl)
fault_status (faults.Read k) = (4, lit< tt, refl)
fault_status faults.Write = (5, lit< tt, refl)
fault_status (faults.Disk x) = (6, lit< tt, refl)
fault_status (faults.Journal x fault wanted) = (7, lit< tt, refl)
fault_status (faults.Incoherent bucket entries) = (7, lit< tt, refl)
fault_status faults.NoMemory = (8, lit< tt, refl)
fault_status (faults.Full x) = (9, lit< tt, refl)

pub ends_with : {D : Type 0} (status : ℕ) (words : List (List ℕ)) (o : Outside D) → Ends status words o → Contains statuses status
ends_with status words o (inl played) = subst (Contains statuses) (sym played.0) (0, lit< tt, refl)
ends_with status words o (inr by) = subst (Contains statuses) (sym by.1) (fault_status by.0)

-- what is told grows the counts of faults
pub later : (fault : Fault) (status : ℕ) (mid new : Told) → IsToldOr fault status mid new → (mid.read_faults ≤ new.read_faults) × (mid.write_faults ≤ new.write_faults)
later fault status mid new (inl is) = (omega (arith, is.logged.1.read_faults), is.logged.1.later)
later fault status mid new (inr early) = (omega (arith, early.1.logged.1.read_faults), early.1.logged.1.later)

-- ---- what each status says

pub usage_is : {D : Type 0} (status : ℕ) (words : List (List ℕ)) (o : Outside D) → Ends status words o → (status ≡ 2) ↔ ((names : Names) → ¬ (IsCommand words names))
usage_is status words o (inl played) = ((λ two. absurd (cc (two, played.0))), (λ none. absurd (none played.1.names played.1.command)))
usage_is status words o (inr (faults.Words, is, by)) = ((λ two. by.cause.none), (λ none. is))
usage_is status words o (inr ((faults.Text k fault), is, by)) = ((λ two. absurd (cc (two, is))), (λ none. absurd (none by.cause.names by.cause.command)))
usage_is status words o (inr ((faults.Event number reason), is, by)) = ((λ two. absurd (cc (two, is))), (λ none. absurd (none by.cause.names by.cause.command)))
usage_is status words o (inr ((faults.Read k), is, by)) = ((λ two. absurd (cc (two, is))), (λ none. absurd (none by.cause.names by.cause.command)))
usage_is status words o (inr (faults.Write, is, by)) = ((λ two. absurd (cc (two, is))), (λ none. absurd (none by.cause.names by.cause.command)))
usage_is status words o (inr ((faults.Disk x), is, by)) = ((λ two. absurd (cc (two, is))), (λ none. absurd (none by.cause.names by.cause.command)))
usage_is status words o (inr ((faults.Journal x fault wanted), is, by)) = ((λ two. absurd (cc (two, is))), (λ none. absurd (none by.cause.names by.cause.command)))
usage_is status words o (inr ((faults.Incoherent bucket entries), is, by)) = ((λ two. absurd (cc (two, is))), (λ none. absurd (none by.cause.names by.cause.command)))
usage_is status words o (inr (faults.NoMemory, is, by)) = ((λ two. absurd (cc (two, is))), (λ none. absurd (none by.cause.names by.cause.command)))
usage_is status words o (inr ((faults.Full x), is, by)) = ((λ two. absurd (cc (two, is))), (λ none. absurd (none by.cause.names by.cause.command)))

pub event_is : {D : Type 0} (status : ℕ) (words : List (List ℕ)) (o : Outside D) → Ends status words o → status ≡ 4 → (number : ℕ) × (reason : Reason) × EndsBy (faults.Event number reason) words o
event_is status words o (inl played) at = absurd (cc (at, played.0))
event_is status words o (inr (faults.Words, is, by)) at = absurd (cc (at, is))
event_is status words o (inr ((faults.Text k fault), is, by)) at = absurd (cc (at, is))
event_is status words o (inr ((faults.Event number reason), is, by)) at = (number, reason, by)
event_is status words o (inr ((faults.Read k), is, by)) at = absurd (cc (at, is))
event_is status words o (inr (faults.Write, is, by)) at = absurd (cc (at, is))
event_is status words o (inr ((faults.Disk x), is, by)) at = absurd (cc (at, is))
event_is status words o (inr ((faults.Journal x fault wanted), is, by)) at = absurd (cc (at, is))
event_is status words o (inr ((faults.Incoherent bucket entries), is, by)) at = absurd (cc (at, is))
event_is status words o (inr (faults.NoMemory, is, by)) at = absurd (cc (at, is))
event_is status words o (inr ((faults.Full x), is, by)) at = absurd (cc (at, is))

pub write_is : {D : Type 0} (status : ℕ) (words : List (List ℕ)) (o : Outside D) → Ends status words o → status ≡ 6 → EndsBy faults.Write words o
write_is status words o (inl played) at = absurd (cc (at, played.0))
write_is status words o (inr (faults.Words, is, by)) at = absurd (cc (at, is))
write_is status words o (inr ((faults.Text k fault), is, by)) at = absurd (cc (at, is))
write_is status words o (inr ((faults.Event number reason), is, by)) at = absurd (cc (at, is))
write_is status words o (inr ((faults.Read k), is, by)) at = absurd (cc (at, is))
write_is status words o (inr (faults.Write, is, by)) at = by
write_is status words o (inr ((faults.Disk x), is, by)) at = absurd (cc (at, is))
write_is status words o (inr ((faults.Journal x fault wanted), is, by)) at = absurd (cc (at, is))
write_is status words o (inr ((faults.Incoherent bucket entries), is, by)) at = absurd (cc (at, is))
write_is status words o (inr (faults.NoMemory, is, by)) at = absurd (cc (at, is))
write_is status words o (inr ((faults.Full x), is, by)) at = absurd (cc (at, is))

pub disk_is : {D : Type 0} (status : ℕ) (words : List (List ℕ)) (o : Outside D) → Ends status words o → status ≡ 7 → (x : ℕ) × EndsBy (faults.Disk x) words o
disk_is status words o (inl played) at = absurd (cc (at, played.0))
disk_is status words o (inr (faults.Words, is, by)) at = absurd (cc (at, is))
disk_is status words o (inr ((faults.Text k fault), is, by)) at = absurd (cc (at, is))
disk_is status words o (inr ((faults.Event number reason), is, by)) at = absurd (cc (at, is))
disk_is status words o (inr ((faults.Read k), is, by)) at = absurd (cc (at, is))
disk_is status words o (inr (faults.Write, is, by)) at = absurd (cc (at, is))
disk_is status words o (inr ((faults.Disk x), is, by)) at = (x, by)
disk_is status words o (inr ((faults.Journal x fault wanted), is, by)) at = absurd (cc (at, is))
disk_is status words o (inr ((faults.Incoherent bucket entries), is, by)) at = absurd (cc (at, is))
disk_is status words o (inr (faults.NoMemory, is, by)) at = absurd (cc (at, is))
disk_is status words o (inr ((faults.Full x), is, by)) at = absurd (cc (at, is))

pub journal_is : {D : Type 0} (status : ℕ) (words : List (List ℕ)) (o : Outside D) → Ends status words o → status ≡ 8 → ((x : ℕ) × (fault : StoreFault) × (wanted : List ℕ) × EndsBy (faults.Journal x fault wanted) words o) ⊎ ((bucket : ℕ) × (entries : Listed (ℕ × Status)) × EndsBy (faults.Incoherent bucket entries) words o)
journal_is status words o (inl played) at = absurd (cc (at, played.0))
journal_is status words o (inr (faults.Words, is, by)) at = absurd (cc (at, is))
journal_is status words o (inr ((faults.Text k fault), is, by)) at = absurd (cc (at, is))
journal_is status words o (inr ((faults.Event number reason), is, by)) at = absurd (cc (at, is))
journal_is status words o (inr ((faults.Read k), is, by)) at = absurd (cc (at, is))
journal_is status words o (inr (faults.Write, is, by)) at = absurd (cc (at, is))
journal_is status words o (inr ((faults.Disk x), is, by)) at = absurd (cc (at, is))
journal_is status words o (inr ((faults.Journal x fault wanted), is, by)) at = inl (x, fault, wanted, by)
journal_is status words o (inr ((faults.Incoherent bucket entries), is, by)) at = inr (bucket, entries, by)
journal_is status words o (inr (faults.NoMemory, is, by)) at = absurd (cc (at, is))
journal_is status words o (inr ((faults.Full x), is, by)) at = absurd (cc (at, is))

pub memory_is : {D : Type 0} (status : ℕ) (words : List (List ℕ)) (o : Outside D) → Ends status words o → status ≡ 9 → EndsBy faults.NoMemory words o
memory_is status words o (inl played) at = absurd (cc (at, played.0))
memory_is status words o (inr (faults.Words, is, by)) at = absurd (cc (at, is))
memory_is status words o (inr ((faults.Text k fault), is, by)) at = absurd (cc (at, is))
memory_is status words o (inr ((faults.Event number reason), is, by)) at = absurd (cc (at, is))
memory_is status words o (inr ((faults.Read k), is, by)) at = absurd (cc (at, is))
memory_is status words o (inr (faults.Write, is, by)) at = absurd (cc (at, is))
memory_is status words o (inr ((faults.Disk x), is, by)) at = absurd (cc (at, is))
memory_is status words o (inr ((faults.Journal x fault wanted), is, by)) at = absurd (cc (at, is))
memory_is status words o (inr ((faults.Incoherent bucket entries), is, by)) at = absurd (cc (at, is))
memory_is status words o (inr (faults.NoMemory, is, by)) at = by
memory_is status words o (inr ((faults.Full x), is, by)) at = absurd (cc (at, is))

pub full_is : {D : Type 0} (status : ℕ) (words : List (List ℕ)) (o : Outside D) → Ends status words o → status ≡ 10 → (x : ℕ) × EndsBy (faults.Full x) words o
full_is status words o (inl played) at = absurd (cc (at, played.0))
full_is status words o (inr (faults.Words, is, by)) at = absurd (cc (at, is))
full_is status words o (inr ((faults.Text k fault), is, by)) at = absurd (cc (at, is))
full_is status words o (inr ((faults.Event number reason), is, by)) at = absurd (cc (at, is))
full_is status words o (inr ((faults.Read k), is, by)) at = absurd (cc (at, is))
full_is status words o (inr (faults.Write, is, by)) at = absurd (cc (at, is))
full_is status words o (inr ((faults.Disk x), is, by)) at = absurd (cc (at, is))
full_is status words o (inr ((faults.Journal x fault wanted), is, by)) at = absurd (cc (at, is))
full_is status words o (inr ((faults.Incoherent bucket entries), is, by)) at = absurd (cc (at, is))
full_is status words o (inr (faults.NoMemory, is, by)) at = absurd (cc (at, is))
full_is status words o (inr ((faults.Full x), is, by)) at = (x, by)

pub played_is : {D : Type 0} (status : ℕ) (words : List (List ℕ)) (o : Outside D) → Ends status words o → status ≡ 0 → ByCommand words (IsPlayed o)
played_is status words o (inl played) at = played.1
played_is status words o (inr (faults.Words, is, by)) at = absurd (cc (at, is))
played_is status words o (inr ((faults.Text k fault), is, by)) at = absurd (cc (at, is))
played_is status words o (inr ((faults.Event number reason), is, by)) at = absurd (cc (at, is))
played_is status words o (inr ((faults.Read k), is, by)) at = absurd (cc (at, is))
played_is status words o (inr (faults.Write, is, by)) at = absurd (cc (at, is))
played_is status words o (inr ((faults.Disk x), is, by)) at = absurd (cc (at, is))
played_is status words o (inr ((faults.Journal x fault wanted), is, by)) at = absurd (cc (at, is))
played_is status words o (inr ((faults.Incoherent bucket entries), is, by)) at = absurd (cc (at, is))
played_is status words o (inr (faults.NoMemory, is, by)) at = absurd (cc (at, is))
played_is status words o (inr ((faults.Full x), is, by)) at = absurd (cc (at, is))

pub words_is : {D : Type 0} (status : ℕ) (words : List (List ℕ)) (o : Outside D) → Ends status words o → status ≡ 2 → EndsBy faults.Words words o
words_is status words o (inl played) at = absurd (cc (at, played.0))
words_is status words o (inr (faults.Words, is, by)) at = by
words_is status words o (inr ((faults.Text k fault), is, by)) at = absurd (cc (at, is))
words_is status words o (inr ((faults.Event number reason), is, by)) at = absurd (cc (at, is))
words_is status words o (inr ((faults.Read k), is, by)) at = absurd (cc (at, is))
words_is status words o (inr (faults.Write, is, by)) at = absurd (cc (at, is))
words_is status words o (inr ((faults.Disk x), is, by)) at = absurd (cc (at, is))
words_is status words o (inr ((faults.Journal x fault wanted), is, by)) at = absurd (cc (at, is))
words_is status words o (inr ((faults.Incoherent bucket entries), is, by)) at = absurd (cc (at, is))
words_is status words o (inr (faults.NoMemory, is, by)) at = absurd (cc (at, is))
words_is status words o (inr ((faults.Full x), is, by)) at = absurd (cc (at, is))

pub text_is : {D : Type 0} (status : ℕ) (words : List (List ℕ)) (o : Outside D) → Ends status words o → status ≡ 3 → (k : ℕ) × (fault : TextFault) × EndsBy (faults.Text k fault) words o
text_is status words o (inl played) at = absurd (cc (at, played.0))
text_is status words o (inr (faults.Words, is, by)) at = absurd (cc (at, is))
text_is status words o (inr ((faults.Text k fault), is, by)) at = (k, fault, by)
text_is status words o (inr ((faults.Event number reason), is, by)) at = absurd (cc (at, is))
text_is status words o (inr ((faults.Read k), is, by)) at = absurd (cc (at, is))
text_is status words o (inr (faults.Write, is, by)) at = absurd (cc (at, is))
text_is status words o (inr ((faults.Disk x), is, by)) at = absurd (cc (at, is))
text_is status words o (inr ((faults.Journal x fault wanted), is, by)) at = absurd (cc (at, is))
text_is status words o (inr ((faults.Incoherent bucket entries), is, by)) at = absurd (cc (at, is))
text_is status words o (inr (faults.NoMemory, is, by)) at = absurd (cc (at, is))
text_is status words o (inr ((faults.Full x), is, by)) at = absurd (cc (at, is))

pub read_is : {D : Type 0} (status : ℕ) (words : List (List ℕ)) (o : Outside D) → Ends status words o → status ≡ 5 → (k : ℕ) × EndsBy (faults.Read k) words o
read_is status words o (inl played) at = absurd (cc (at, played.0))
read_is status words o (inr (faults.Words, is, by)) at = absurd (cc (at, is))
read_is status words o (inr ((faults.Text k fault), is, by)) at = absurd (cc (at, is))
read_is status words o (inr ((faults.Event number reason), is, by)) at = absurd (cc (at, is))
read_is status words o (inr ((faults.Read k), is, by)) at = (k, by)
read_is status words o (inr (faults.Write, is, by)) at = absurd (cc (at, is))
read_is status words o (inr ((faults.Disk x), is, by)) at = absurd (cc (at, is))
read_is status words o (inr ((faults.Journal x fault wanted), is, by)) at = absurd (cc (at, is))
read_is status words o (inr ((faults.Incoherent bucket entries), is, by)) at = absurd (cc (at, is))
read_is status words o (inr (faults.NoMemory, is, by)) at = absurd (cc (at, is))
read_is status words o (inr ((faults.Full x), is, by)) at = absurd (cc (at, is))

-- ---- what good files may end with

abbrev good_statuses : List ℕ
good_statuses = 0 ∷ 4 ∷ 9 ∷ []

abbrev possible_statuses : List ℕ
possible_statuses = 0 ∷ 9 ∷ []

-- what is told puts nothing out
out_same : (fault : Fault) (status : ℕ) (mid new : Told) → IsToldOr fault status mid new → new.out ≡ mid.out
out_same fault status mid new (inl is) = is.logged.1.out
out_same fault status mid new (inr early) = early.1.logged.1.out

module _ {D : Type 0} (tells : D → disk.Told) (before after : List D) (count : length before ≡ 32) (count_after : length after ≡ 32) (old mid new : Told) (names : Names) where
  abbrev o_mid : Outside D
  o_mid = between tells old mid before after

  abbrev o_new : Outside D
  o_new = between tells old new before after

  full_still : (x : ℕ) → new.out ≡ mid.out → IsFull x o_mid names → IsFull x o_new names
  full_still x same c = record { given = record { config = c.given.config; events = c.given.events; scripts = c.given.scripts; inputs = c.given.inputs }; at = c.at; out = same ∙ c.out }

  -- no disk failed
  no_disk : (x : ℕ) → NoneRose o_new → IsDiskFault x o_mid names → ⊥
  no_disk x none c =
      let was = has_item before x count c.number.0 c.number.1 in
      let is = has_item after x count_after c.number.0 c.number.1 in
      none.disks x was.0 is.0 was.1 is.1 (c.failed was.0 is.0 was.1 is.1)

  module _ (none : NoneRose o_new) (none_full : (x : ℕ) → ¬ (IsFull x o_new names)) (same : new.out ≡ mid.out) (reads : mid.read_faults ≤ new.read_faults) (writes : mid.write_faults ≤ new.write_faults) where
    -- a fault that may come, and no count of faults rose
    good_status : (fault : Fault) → IsFilesCause fault o_mid names → MayEndGood fault → Contains good_statuses (status_of fault)
    good_status faults.Words cause may = absurd cause
    good_status (faults.Text k fault) cause may = absurd may
    good_status (faults.Event number reason) cause may = (1, lit< tt, refl)
    good_status (faults.Read k) cause may = absurd (none.reads (omega (arith, cause.rose, reads)))
    good_status faults.Write cause may = absurd (none.writes (omega (arith, cause.rose, writes)))
    good_status (faults.Disk x) cause may = absurd (no_disk x none cause)
    good_status (faults.Journal x fault wanted) cause may = absurd may
    good_status (faults.Incoherent bucket entries) cause may = absurd may
    good_status (faults.Full x) cause may = absurd (none_full x (full_still x same cause))
    good_status faults.NoMemory cause may = (2, lit< tt, refl)

    possible_status : (fault : Fault) → IsFilesCause fault o_mid names → MayEndPossible fault → Contains possible_statuses (status_of fault)
    possible_status faults.Words cause may = absurd cause
    possible_status (faults.Text k fault) cause may = absurd may
    possible_status (faults.Event number reason) cause may = absurd may
    possible_status (faults.Read k) cause may = absurd (none.reads (omega (arith, cause.rose, reads)))
    possible_status faults.Write cause may = absurd (none.writes (omega (arith, cause.rose, writes)))
    possible_status (faults.Disk x) cause may = absurd (no_disk x none cause)
    possible_status (faults.Journal x fault wanted) cause may = absurd may
    possible_status (faults.Incoherent bucket entries) cause may = absurd may
    possible_status (faults.Full x) cause may = absurd (none_full x (full_still x same cause))
    possible_status faults.NoMemory cause may = (1, lit< tt, refl)

  pub good_told : (fault : Fault) (status : ℕ) → NoneRose o_new → ((x : ℕ) → ¬ (IsFull x o_new names)) → IsFilesCause fault o_mid names → MayEndGood fault → IsToldOr fault status mid new → Contains good_statuses status
  good_told fault status none none_full cause may (inl is) =
      let grew = later fault status mid new (inl is) in
      subst (Contains good_statuses) (sym is.status_is) (good_status none none_full (out_same fault status mid new (inl is)) grew.0 grew.1 fault cause may)
  good_told fault status none none_full cause may (inr early) = subst (Contains good_statuses) (sym early.1.status_is) (2, lit< tt, refl)

  pub possible_told : (fault : Fault) (status : ℕ) → NoneRose o_new → ((x : ℕ) → ¬ (IsFull x o_new names)) → IsFilesCause fault o_mid names → MayEndPossible fault → IsToldOr fault status mid new → Contains possible_statuses status
  possible_told fault status none none_full cause may (inl is) =
      let grew = later fault status mid new (inl is) in
      subst (Contains possible_statuses) (sym is.status_is) (possible_status none none_full (out_same fault status mid new (inl is)) grew.0 grew.1 fault cause may)
  possible_told fault status none none_full cause may (inr early) = subst (Contains possible_statuses) (sym early.1.status_is) (1, lit< tt, refl)
