-- What events record, kind by kind.
use Rattle.std.proofs.Common.{◌≡◌, Bool, true, false, Option, Some, None, refl, ap}
use Rattle.std.specs.Prelude.{◌≢◌}
use Rattle.vs_event.specs.declared.event.Event.{Event}
use Rattle.vs_event.specs.declared.event.Event.TheVariants as event
use Rattle.vs_event.specs.declared.event.Recorded.{Recorded}
use Rattle.vs_event.specs.declared.event.Recorded.TheVariants.{Act, Freeze, Seal, Deliver, Hear, Condemn, Wipe, Forget, Pin}
use Rattle.vs_event.specs.Recorded.{event_of}
use Rattle.vs_machine.specs.Journals.{written}
use Rattle.vs_machine.specs.Kinds.Stops.{Recording, recording_of}
use Rattle.vs_machine.specs.State.{State}
use Rattle.vs_core.specs.Records.{records}

-- an event of a kind that may record does what that kind does
pub records_of : (s : State) (v : Recorded) → records s (event_of v) ≡ recording_of s v
records_of s (Act c) = refl
records_of s (Freeze x b) = refl
records_of s (Seal x b) = refl
records_of s (Deliver x y) = refl
records_of s (Hear x y) = refl
records_of s (Condemn x b) = refl
records_of s (Wipe x b) = refl
records_of s (Forget x b) = refl
records_of s (Pin o) = refl

-- and one of any other kind records nothing
pub records_none : (s : State) (e : Event) → ((v : Recorded) → e ≢ event_of v) → records s e ≡ None
records_none s (event.Post c x) other = refl
records_none s (event.Begin c) other = refl
records_none s (event.Act c) other = absurd (other (Act c) refl)
records_none s (event.End c) other = refl
records_none s (event.Take c) other = refl
records_none s (event.Cut o) other = refl
records_none s (event.Start o) other = refl
records_none s (event.Haul o x d) other = refl
records_none s (event.NotYet x b) other = refl
records_none s (event.Freeze x b) other = absurd (other (Freeze x b) refl)
records_none s (event.Chunk x b) other = refl
records_none s (event.Seal x b) other = absurd (other (Seal x b) refl)
records_none s (event.Last x b) other = refl
records_none s (event.Abort x b) other = refl
records_none s (event.EndMove x b) other = refl
records_none s (event.Deliver x y) other = absurd (other (Deliver x y) refl)
records_none s (event.Hear x y) other = absurd (other (Hear x y) refl)
records_none s (event.Close o) other = refl
records_none s (event.Ask x b) other = refl
records_none s (event.Condemn x b) other = absurd (other (Condemn x b) refl)
records_none s (event.Wipe x b) other = absurd (other (Wipe x b) refl)
records_none s (event.Forget x b) other = absurd (other (Forget x b) refl)
records_none s (event.Pin o) other = absurd (other (Pin o) refl)
records_none s (event.Plan o) other = refl
records_none s (event.Stop o) other = refl
records_none s (event.Fault x n r) other = refl
records_none s (event.Restart x kept by) other = refl

-- what is recorded is written
pub records_written : (s : State) (e : Event) (r : Recording) → records s e ≡ Some r → written s e ≡ Some r
records_written s (event.Post c x) r is = is
records_written s (event.Begin c) r is = is
records_written s (event.Act c) r is = is
records_written s (event.End c) r is = is
records_written s (event.Take c) r is = is
records_written s (event.Cut o) r is = is
records_written s (event.Start o) r is = is
records_written s (event.Haul o x d) r is = is
records_written s (event.NotYet x b) r is = is
records_written s (event.Freeze x b) r is = is
records_written s (event.Chunk x b) r is = is
records_written s (event.Seal x b) r is = is
records_written s (event.Last x b) r is = is
records_written s (event.Abort x b) r is = is
records_written s (event.EndMove x b) r is = is
records_written s (event.Deliver x y) r is = is
records_written s (event.Hear x y) r is = is
records_written s (event.Close o) r is = is
records_written s (event.Ask x b) r is = is
records_written s (event.Condemn x b) r is = is
records_written s (event.Wipe x b) r is = is
records_written s (event.Forget x b) r is = is
records_written s (event.Pin o) r is = is
records_written s (event.Plan o) r is = is
records_written s (event.Stop o) r is = is
records_written s (event.Fault x n v) r is = is
records_written s (event.Restart x kept by) r is = absurd (cc is)

-- what is recorded is one change at one set
pub one_record : (o : Option Recording) (p r : Recording) → o ≡ Some p → o ≡ Some r → p ≡ r
one_record o p r is also = cc (is, also)

pub not_there : {A : Type 0} (x : A) → None ≡ Some x → ⊥
not_there x is = cc is

-- ---- kinds that may record

abbrev may_record : Event → Bool
may_record (event.Act c) = true
may_record (event.Freeze x b) = true
may_record (event.Seal x b) = true
may_record (event.Deliver x y) = true
may_record (event.Hear x y) = true
may_record (event.Condemn x b) = true
may_record (event.Wipe x b) = true
may_record (event.Forget x b) = true
may_record (event.Pin o) = true
may_record e = false

recorded_may : (v : Recorded) → may_record (event_of v) ≡ true
recorded_may (Act c) = refl
recorded_may (Freeze x b) = refl
recorded_may (Seal x b) = refl
recorded_may (Deliver x y) = refl
recorded_may (Hear x y) = refl
recorded_may (Condemn x b) = refl
recorded_may (Wipe x b) = refl
recorded_may (Forget x b) = refl
recorded_may (Pin o) = refl

pub not_recorded : (v : Recorded) (e : Event) → event_of v ≡ e → may_record e ≡ false → ⊥
not_recorded v e is other = absurd (cc (recorded_may v, ap may_record is, other))
