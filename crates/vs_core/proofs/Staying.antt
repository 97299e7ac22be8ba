-- What is ready for an event that records stays so, where operators get room for answers.
use Rattle.std.proofs.Common.{◌≡◌, ℕ, refl, sym, subst}
use Rattle.vs_event.specs.declared.event.Event.TheVariants as event
use Rattle.vs_event.specs.declared.event.Recorded.{Recorded}
use Rattle.vs_event.specs.declared.event.Recorded.TheVariants.{Act, Freeze, Seal, Deliver, Hear, Condemn, Wipe, Forget, Pin}
use Rattle.vs_event.specs.Recorded.{event_of}
use Rattle.vs_state.specs.declared.state.State.{State}
use Rattle.vs_core.specs.declared.dispatch.Prepared.{Prepared}
use Rattle.vs_core.specs.declared.dispatch.Prepared.TheVariants as prepared
use Rattle.vs_core.specs.declared.kinds.fault.PreparedFault.{PreparedFault}
use Rattle.vs_core.specs.declared.kinds.restart.PreparedRestart.{PreparedRestart}
use Rattle.vs_core.specs.Ready.{HasRoomFor, IsReadyFor, IsFaultReadyFor, IsRestartReadyFor}
use Rattle.vs_core.specs.Rooms.{HasAnswerRoom}
use Rattle.vs_core.proofs.Journaled.{not_recorded}

no_fault : (s : State) (v : Recorded) (p : PreparedFault) → IsFaultReadyFor s (event_of v) p → ⊥
no_fault s (Act c) p h = h
no_fault s (Freeze x b) p h = h
no_fault s (Seal x b) p h = h
no_fault s (Deliver x y) p h = h
no_fault s (Hear x y) p h = h
no_fault s (Condemn x b) p h = h
no_fault s (Wipe x b) p h = h
no_fault s (Forget x b) p h = h
no_fault s (Pin o) p h = h

no_restart : (s : State) (v : Recorded) (p : PreparedRestart) → IsRestartReadyFor s (event_of v) p → ⊥
no_restart s (Act c) p h = h
no_restart s (Freeze x b) p h = h
no_restart s (Seal x b) p h = h
no_restart s (Deliver x y) p h = h
no_restart s (Hear x y) p h = h
no_restart s (Condemn x b) p h = h
no_restart s (Wipe x b) p h = h
no_restart s (Forget x b) p h = h
no_restart s (Pin o) p h = h

module _ (s t : State) (rest : t ≡ record s { operators = t.operators }) (answers : (o : ℕ) → HasAnswerRoom t o) where
  -- the first state with the operators of the second
  abbrev other : State
  other = record s { operators = t.operators }

  room_there : (v : Recorded) → HasRoomFor s (event_of v) → HasRoomFor other (event_of v)
  room_there (Act c) h = h
  room_there (Freeze x b) h = h
  room_there (Seal x b) h = h
  room_there (Deliver x y) h = h
  room_there (Hear x y) h = h
  room_there (Condemn x b) h = h
  room_there (Wipe x b) h = h
  room_there (Forget x b) h = h
  room_there (Pin o) h = answers o

  ready_there : (v : Recorded) (p : Prepared) → IsReadyFor s (event_of v) p → IsReadyFor other (event_of v) p
  ready_there v prepared.Nothing h = room_there v h
  ready_there v (prepared.Act c p) h = (h.0, record { prepared = h.1.prepared; history = h.1.history })
  ready_there v (prepared.Chunk x b p) h = (h.0, record { page = h.1.page; last = h.1.last; line = h.1.line })
  ready_there v (prepared.Haul o x d p) h = absurd (not_recorded v (event.Haul o x d) h.0 refl)
  ready_there v (prepared.Plan o p) h = absurd (not_recorded v (event.Plan o) h.0 refl)
  ready_there v (prepared.Fault p) h = absurd (no_fault s v p h)
  ready_there v (prepared.Restart p) h = absurd (no_restart s v p h)

  pub ready_kept : (v : Recorded) (p : Prepared) → IsReadyFor s (event_of v) p → IsReadyFor t (event_of v) p
  ready_kept v p h = subst (λ (u : State). IsReadyFor u (event_of v) p) (sym rest) (ready_there v p h)
