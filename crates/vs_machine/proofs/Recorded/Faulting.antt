-- Where a possible event writes, a fault that has it is possible.
use Rattle.std.proofs.Common.{◌≡◌, ℕ, Bool, true, refl, ap, ◌∙◌, Option, Some, None, Result, Ok}
use Rattle.std.specs.Prelude.{◌≢◌, ◌==◌, ◌&&◌}
use Rattle.std.proofs.lemmas.Bool.{eq-eqb}
use Rattle.vs_event.specs.declared.event.Event.{Event}
use Rattle.vs_event.specs.declared.event.Event.TheVariants.{Act, Freeze, Seal, Deliver, Hear, Condemn, Wipe, Forget, Pin, Restart}
use Rattle.vs_event.specs.Recorded.{event_of}
use Rattle.vs_event.specs.declared.event.Recorded.{Recorded}
use Rattle.vs_event.specs.declared.event.Recorded.TheVariants as recorded
use Rattle.vs_event.specs.declared.reason.Reason.{Reason}
use Rattle.vs_event.specs.declared.reason.Reason.TheVariants as reason
use Rattle.vs_machine.specs.Check.{◌>>=◌, ◌>>◌, needs, wants}
use Rattle.vs_machine.specs.Kinds.Stops.{Recording, recording_of, recorded_step, has_recorded, is_next_fault, fault, after_fault}
use Rattle.vs_machine.specs.Journals.{written, IsNoRestart, WritesRecorded}
use Rattle.vs_machine.specs.State.{State, has_set}
use Rattle.vs_machine.specs.Step.{step}
use Rattle.vs_machine.proofs.Can.Calls.{can_act}
use Rattle.vs_machine.proofs.Can.Others.{can_deliver, can_hear, can_condemn, can_wipe, can_forget, can_pin}
use Rattle.vs_machine.proofs.Can.Sender.{can_freeze, can_seal}

-- what an event names is in the cluster
known : (s t : State) (e : Recorded) → recorded_step s e ≡ Ok t → has_recorded s e ≡ true
known s t (recorded.Act c) h = (can_act s t c h).client
known s t (recorded.Freeze x b) h = let p = can_freeze s t x b h in λ i. p.set i && p.bucket i
known s t (recorded.Seal x b) h = let p = can_seal s t x b h in λ i. p.set i && p.bucket i
known s t (recorded.Deliver x y) h = let p = can_deliver s t x y h in λ i. p.from i && p.to i
known s t (recorded.Hear x y) h = let p = can_hear s t x y h in λ i. p.to i && p.from i
known s t (recorded.Condemn x b) h = let p = can_condemn s t x b h in λ i. p.set i && p.bucket i
known s t (recorded.Wipe x b) h = let p = can_wipe s t x b h in λ i. p.set i && p.bucket i
known s t (recorded.Forget x b) h = let p = can_forget s t x b h in λ i. p.set i && p.bucket i
known s t (recorded.Pin o) h = (can_pin s t o h).operator

-- the event by itself, and what it records
pub event_step : (s : State) (v : Recorded) → step s (event_of v) ≡ recorded_step s v
event_step s (recorded.Act c) = refl
event_step s (recorded.Freeze x b) = refl
event_step s (recorded.Seal x b) = refl
event_step s (recorded.Deliver x y) = refl
event_step s (recorded.Hear x y) = refl
event_step s (recorded.Condemn x b) = refl
event_step s (recorded.Wipe x b) = refl
event_step s (recorded.Forget x b) = refl
event_step s (recorded.Pin o) = refl

event_writes : (s : State) (v : Recorded) → written s (event_of v) ≡ recording_of s v
event_writes s (recorded.Act c) = refl
event_writes s (recorded.Freeze x b) = refl
event_writes s (recorded.Seal x b) = refl
event_writes s (recorded.Deliver x y) = refl
event_writes s (recorded.Hear x y) = refl
event_writes s (recorded.Condemn x b) = refl
event_writes s (recorded.Wipe x b) = refl
event_writes s (recorded.Forget x b) = refl
event_writes s (recorded.Pin o) = refl

others_write : (s : State) (e : Event) → ((v : Recorded) → e ≢ event_of v) → IsNoRestart e → written s e ≡ None
others_write s (Act c) other calm = absurd (other (recorded.Act c) refl)
others_write s (Freeze x b) other calm = absurd (other (recorded.Freeze x b) refl)
others_write s (Seal x b) other calm = absurd (other (recorded.Seal x b) refl)
others_write s (Deliver x y) other calm = absurd (other (recorded.Deliver x y) refl)
others_write s (Hear x y) other calm = absurd (other (recorded.Hear x y) refl)
others_write s (Condemn x b) other calm = absurd (other (recorded.Condemn x b) refl)
others_write s (Wipe x b) other calm = absurd (other (recorded.Wipe x b) refl)
others_write s (Forget x b) other calm = absurd (other (recorded.Forget x b) refl)
others_write s (Pin o) other calm = absurd (other (recorded.Pin o) refl)
others_write s (Restart x kept by) other calm = absurd calm
others_write s e other calm = refl

pub writes_recorded : (s : State) → WritesRecorded s
writes_recorded s = record { recorded_by = event_writes s; none_by = others_write s }

-- a fault, where this is known of its guards
abbrev tried : State → ℕ → ℕ → Bool → Bool → Bool → Result State Reason → Option Recording → Result State Reason
tried s x n there up next stepped recording = do
  needs there reason.Unknown
  needs up (reason.Down x)
  needs next (reason.FaultNumber (s.last_fault x))
  t ← stepped
  r ← wants recording reason.NoRecord
  needs (r.at == x) reason.NoRecord
  Ok (after_fault s x n r.change)

pub may_fault : (s t : State) (e : Recorded) (r : Recording) (n : ℕ) → has_set s r.at ≡ true → s.up r.at ≡ true → recorded_step s e ≡ Ok t → recording_of s e ≡ Some r → is_next_fault (s.last_fault r.at) n ≡ true
    → fault s r.at n e ≡ Ok (after_fault s r.at n r.change)
may_fault s t e r n set up h is next =
    let named = known s t e h in
    (λ i. tried s r.at n (set i && named i) (up i) (next i) (h i) (is i))
    ∙ ap (λ q. needs q reason.NoRecord >> Ok (after_fault s r.at n r.change)) (eq-eqb r.at r.at refl)
