-- What was made ahead is for the event that has room.
use Rattle.std.proofs.Common.{◌≡◌, ◌<◌, ◌-◌, ◌^◌, ℕ, [], Option, Some, None, Ok, sym, ap, subst, ◌∙◌, inl, inr}
use Rattle.std.specs.Option.{option_map}
use Rattle.vs_event.specs.declared.event.Event.{Event}
use Rattle.vs_event.specs.declared.event.Event.TheVariants as event
use Rattle.vs_event.specs.declared.event.Recorded.{Recorded}
use Rattle.vs_event.specs.Recorded.{event_of}
use Rattle.vs_record.specs.Change.{change}
use Rattle.vs_send.specs.declared.transfer.By.{By}
use Rattle.vs_send.specs.declared.transfer.By.TheVariants.{Command, Haul}
use Rattle.vs_machine.specs.Kinds.Stops.{Recording, fault, recording_of}
use Rattle.vs_machine.specs.Opening.{client_at}
use Rattle.vs_machine.specs.State as machine
use Rattle.vs_machine.proofs.Can.Stops.{CanFault, can_fault}
use Rattle.vs_state.specs.declared.actors.ClientTables.{ClientTables}
use Rattle.vs_state.specs.declared.state.State.{State}
use Rattle.vs_state.specs.Guard.{verdict}
use Rattle.vs_state.specs.Plain.{plain, client}
use Rattle.vs_state.specs.Tables.{numbered}
use Rattle.vs_core.specs.Core.{HasRoom, IsReservedKind}
use Rattle.vs_core.specs.Keeps.{IsKnown}
use Rattle.vs_core.specs.Ready.{CanFail, HasRoomFor, IsReadyFor}
use Rattle.vs_core.specs.Records.{records}
use Rattle.vs_core.specs.Reserving.{IsReserved}
use Rattle.vs_core.specs.Sending.{HasAbortRoom}
use Rattle.vs_core.specs.Standing.{IsReadyNow, shown}
use Rattle.vs_core.specs.Stopping.{IsDownReady, IsFaultReady}
use Rattle.vs_core.specs.declared.cores.Ready.TheVariants.{Single, AnyReserved}
use Rattle.vs_core.specs.declared.dispatch.Prepared.{Prepared}
use Rattle.vs_core.specs.declared.dispatch.Prepared.TheVariants as prepared
use Rattle.vs_core.specs.declared.kinds.fault.PreparedFault.{PreparedFault}
use Rattle.vs_core.proofs.Journaled.{not_there, one_record, records_of}
use Rattle.vs_core.proofs.Numbered.{numbered_of}
use Rattle.vs_core.proofs.Sender.{goes_on}

-- ---- the reserved kinds

module _ (s : State) (known : IsKnown (plain s)) (r : IsReserved s) where
  number_there : (c : ℕ) (t : ClientTables) → numbered Some None s.clients.items c ≡ Some t → t.present.number < 2 ^ 32 - 1
  number_there c t there = subst (λ (k : machine.Client). k.present.number < 2 ^ 32 - 1) (numbered_of client (client_at []) s.clients.items c t there) (known.numbers c)

  abort_there : (by : By) → HasAbortRoom s by
  abort_there (Command o) = r.answers o
  abort_there (Haul o) = tt

  reserved_room : (e : Event) → IsReservedKind e → HasRoomFor s e
  reserved_room (event.Post c x) kind = absurd kind
  reserved_room (event.Begin c) kind = λ x is. r.references x
  reserved_room (event.Act c) kind = absurd kind
  reserved_room (event.End c) kind = tt
  reserved_room (event.Take c) kind = λ t there. record { outcomes = r.outcomes c t there; number = number_there c t there }
  reserved_room (event.Cut o) kind = absurd kind
  reserved_room (event.Start o) kind = absurd kind
  reserved_room (event.Haul o x d) kind = absurd kind
  reserved_room (event.NotYet x b) kind = absurd kind
  reserved_room (event.Freeze x b) kind = absurd kind
  reserved_room (event.Chunk x b) kind = absurd kind
  reserved_room (event.Seal x b) kind = absurd kind
  reserved_room (event.Last x b) kind = absurd kind
  reserved_room (event.Abort x b) kind = λ t there. abort_there t.by
  reserved_room (event.EndMove x b) kind = absurd kind
  reserved_room (event.Deliver x y) kind = absurd kind
  reserved_room (event.Hear x y) kind = absurd kind
  reserved_room (event.Close o) kind = record { answer = r.answers o; epoch = λ x y next. r.epochs o x y next }
  reserved_room (event.Ask x b) kind = absurd kind
  reserved_room (event.Condemn x b) kind = absurd kind
  reserved_room (event.Wipe x b) kind = absurd kind
  reserved_room (event.Forget x b) kind = absurd kind
  reserved_room (event.Pin o) kind = absurd kind
  reserved_room (event.Plan o) kind = absurd kind
  reserved_room (event.Stop o) kind = absurd kind
  reserved_room (event.Fault x n r) kind = absurd kind
  reserved_room (event.Restart x kept by) kind = absurd kind

  -- any event of one of them has its room
  pub any_reserved : (e : Event) → HasRoom (shown s (Some AnyReserved)) e → IsReadyFor s e prepared.Nothing
  any_reserved e (inl is) = absurd (cc is)
  any_reserved e (inr (inl of)) = absurd (cc (of.of))
  any_reserved e (inr (inr kind)) = reserved_room e kind.1

pub never_ready : (s : State) (e : Event) → HasRoom (shown s None) e → ⊥
never_ready s e (inl is) = absurd (cc is)
never_ready s e (inr (inl of)) = absurd (cc (of.of))
never_ready s e (inr (inr kind)) = absurd (cc (kind.0))

-- ---- the event itself, and a fault in its place

module _ (s : State) (x n : ℕ) (v : Recorded) (possible : verdict (fault (plain s) x n v) ≡ Ok tt) where
  failed : (t : machine.State) × CanFault (plain s) x n v t
  failed = let after = goes_on (fault (plain s) x n v) possible in (after.0, can_fault (plain s) after.0 x n v after.1)

  -- what the event in whose place it comes would record is made ready
  failing : (p : PreparedFault) → CanFail s (event_of v) p → IsFaultReady s x n v p
  failing p f =
      let can = failed.1 in
      let recorded : recording_of (plain s) v ≡ Some (record { at = f.at; change = change p.change }) = sym (records_of (plain s) v) ∙ f.recorded in
      let here : f.at ≡ x = ap (λ (r : Recording). r.at) (one_record (recording_of (plain s) v) _ _ recorded can.records) in
      record {
        records = ap (option_map (λ r. r.change)) recorded;
        down = subst (λ y. IsDownReady s y) here f.down;
      }

  module _ (e : Event) (p : Prepared) where
    pub fault_ready : (f : PreparedFault) → IsReadyNow s e p (Some f) → HasRoom (shown s (Some (Single e p (Some f)))) (event.Fault x n v) → IsReadyFor s (event.Fault x n v) (prepared.Fault f)
    fault_ready f now (inl is) =
        let same : e ≡ event.Fault x n v = cc is in
        absurd (not_there _ (sym (ap (records (plain s)) same) ∙ now.failing.recorded))
    fault_ready f now (inr (inl of)) =
        let same : e ≡ event_of v = cc (of.is, of.of) in
        failing f (subst (λ (e : Event). CanFail s e f) same now.failing)
    fault_ready f now (inr (inr kind)) = absurd (cc (kind.0))

    pub itself_ready : IsReadyNow s e p None → HasRoom (shown s (Some (Single e p None))) (event.Fault x n v) → IsReadyFor s (event.Fault x n v) p
    itself_ready now (inl is) = let same : e ≡ event.Fault x n v = cc is in subst (λ (e : Event). IsReadyFor s e p) same now.room
    itself_ready now (inr (inl of)) =
        let same : e ≡ event_of v = cc (of.is, of.of) in
        absurd (not_there _ (sym now.failing ∙ ap (records (plain s)) same ∙ records_of (plain s) v ∙ failed.1.records))
    itself_ready now (inr (inr kind)) = absurd (cc (kind.0))

-- an event that is no fault is the one that is ready
pub event_ready : (s : State) (e v : Event) (p : Prepared) (f : Option PreparedFault) → IsReadyNow s e p f → ((x n : ℕ) (r : Recorded) → v ≡ event.Fault x n r → ⊥)
    → HasRoom (shown s (Some (Single e p f))) v → IsReadyFor s v p
event_ready s e v p f now other (inl is) = let same : e ≡ v = cc is in subst (λ (e : Event). IsReadyFor s e p) same now.room
event_ready s e v p f now other (inr (inl of)) = absurd (other of.at of.number of.recorded of.is)
event_ready s e v p f now other (inr (inr kind)) = absurd (cc (kind.0))
