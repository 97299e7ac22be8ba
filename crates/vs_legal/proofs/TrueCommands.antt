-- What commands were answered names sets of the cluster, and numbers of 32 bits.
use Rattle.std.proofs.Common.{◌≡◌, ℕ, ◌<◌, ◌≤◌, ◌^◌, inl, inr, Bool, true, false, Option, Some, None, Ok, Err, refl, sym, subst, arith}
use Rattle.std.specs.Prelude.{if◌then◌else◌, ◌==◌, not, nat_le, slice_get}
use Rattle.vs_event.specs.declared.event.Event.{Event}
use Rattle.vs_space.specs.declared.status.Status.{Status}
use Rattle.vs_space.specs.declared.status.Status.TheVariants.{Active, Pinned, Sending, Receiving, Sent, Garbage}
use Rattle.vs_space.specs.declared.reply.RecvFault.{RecvFault}
use Rattle.vs_space.specs.declared.reply.RecvFault.TheVariants as receiver
use Rattle.vs_recv.specs.Receive.{received}
use Rattle.vs_recv.specs.declared.took.Took.TheVariants.{Created, Added, Activated}
use Rattle.vs_script.specs.declared.command.Command.{Command}
use Rattle.vs_script.specs.declared.command.Command.TheVariants as command
use Rattle.vs_send.specs.declared.abort.AbortCause.TheVariants as abort
use Rattle.vs_machine.specs.declared.outcome.CommandFault.{CommandFault}
use Rattle.vs_machine.specs.declared.outcome.CommandFault.TheVariants as fault
use Rattle.vs_machine.specs.declared.outcome.CommandOutcome.{CommandOutcome}
use Rattle.vs_machine.specs.declared.outcome.CommandOutcome.TheVariants as outcome
use Rattle.vs_machine.specs.Causes.Commands.{Refuses}
use Rattle.vs_machine.specs.Causes.Moves.{IsCommandCaused}
use Rattle.vs_machine.specs.Kinds.Connections.{is_receiving, receiving_at, received_at}
use Rattle.vs_machine.specs.Kinds.Faults.{fault_if, unless_active, unless_pinned, if_draining, if_down, send_fault, pin_fault, unpin_fault}
use Rattle.vs_machine.specs.Kinds.Pinning.{Pinning, pinning_of, pinning_fault}
use Rattle.vs_machine.specs.Kinds.Sender.{Move, move_of}
use Rattle.vs_machine.specs.Opening.{opening}
use Rattle.vs_machine.specs.Runs.{IsReached}
use Rattle.vs_machine.specs.State.{State, sets_of, next_command, is_locked}
use Rattle.vs_machine.proofs.Causes.Moves.{caused_commands}
use Rattle.vs_machine.proofs.Inputs.{command_runs, input_runs}
use Rattle.vs_legal.proofs.Words.Statuses.{IsSetOf, NamesSetIn, ReceiverNamesSet}
use Rattle.vs_legal.proofs.Before.{before, before_sets, entry_named, count_few, or_some, least_within}
use Rattle.vs_legal.proofs.ReadCommands.{FaultNamesSet, IsReadableCommand}
use Rattle.vs_legal.proofs.Unchanged.{few_rounds}

-- ---- refusals

fault_is : (t : Bool) (f g : CommandFault) → fault_if t f ≡ Some g → f ≡ g
fault_is true f g h = cc
fault_is false f g h = let no : ⊥ = cc h in absurd no

active_named : (sets : ℕ) (entry : Option Status) (f : CommandFault) → NamesSetIn sets entry → unless_active entry ≡ Some f → FaultNamesSet sets f
active_named sets (Some Active) f names h = let no : ⊥ = cc h in absurd no
active_named sets (Some Pinned) f names h = let is : fault.Pinned ≡ f = cc h in subst (FaultNamesSet sets) is tt
active_named sets None f names h = let is : fault.WrongStatus None ≡ f = cc h in subst (FaultNamesSet sets) is tt
active_named sets (Some (Sending d)) f names h = let is : fault.WrongStatus (Some (Sending d)) ≡ f = cc h in subst (FaultNamesSet sets) is names
active_named sets (Some (Receiving x)) f names h = let is : fault.WrongStatus (Some (Receiving x)) ≡ f = cc h in subst (FaultNamesSet sets) is names
active_named sets (Some (Sent d)) f names h = let is : fault.WrongStatus (Some (Sent d)) ≡ f = cc h in subst (FaultNamesSet sets) is names
active_named sets (Some Garbage) f names h = let is : fault.WrongStatus (Some Garbage) ≡ f = cc h in subst (FaultNamesSet sets) is tt

pinned_named : (sets : ℕ) (entry : Option Status) (f : CommandFault) → NamesSetIn sets entry → unless_pinned entry ≡ Some f → FaultNamesSet sets f
pinned_named sets (Some Pinned) f names h = let no : ⊥ = cc h in absurd no
pinned_named sets (Some Active) f names h = let is : fault.WrongStatus (Some Active) ≡ f = cc h in subst (FaultNamesSet sets) is tt
pinned_named sets None f names h = let is : fault.WrongStatus None ≡ f = cc h in subst (FaultNamesSet sets) is tt
pinned_named sets (Some (Sending d)) f names h = let is : fault.WrongStatus (Some (Sending d)) ≡ f = cc h in subst (FaultNamesSet sets) is names
pinned_named sets (Some (Receiving x)) f names h = let is : fault.WrongStatus (Some (Receiving x)) ≡ f = cc h in subst (FaultNamesSet sets) is names
pinned_named sets (Some (Sent d)) f names h = let is : fault.WrongStatus (Some (Sent d)) ≡ f = cc h in subst (FaultNamesSet sets) is names
pinned_named sets (Some Garbage) f names h = let is : fault.WrongStatus (Some Garbage) ≡ f = cc h in subst (FaultNamesSet sets) is tt

module _ (s : State) (r : IsReached s) where
  down_named : (x : ℕ) (f : CommandFault) → IsSetOf (sets_of s) x → if_down s x ≡ Some f → FaultNamesSet (sets_of s) f
  down_named x f within h = subst (FaultNamesSet (sets_of s)) (fault_is _ (fault.Down x) f h) within

  draining_named : (x b : ℕ) (f : CommandFault) → if_draining s x b ≡ Some f → FaultNamesSet (sets_of s) f
  draining_named x b f h = subst (FaultNamesSet (sets_of s)) (fault_is _ fault.BucketIsLocked f h) tt

  send_named : (b x d : ℕ) (f : CommandFault) → IsSetOf (sets_of s) x → IsSetOf (sets_of s) d → send_fault s b x d ≡ Some f → FaultNamesSet (sets_of s) f
  send_named b x d f from to h =
      elim (or_some (fault_if (x == d) fault.MoveToSelf) _ f h) [
        | inl is ↦ subst (FaultNamesSet (sets_of s)) (fault_is _ fault.MoveToSelf f is) tt
        | inr rest ↦ elim (or_some (if_down s x) _ f rest) [
          | inl is ↦ down_named x f from is
          | inr rest ↦ elim (or_some (if_down s d) _ f rest) [
            | inl is ↦ down_named d f to is
            | inr rest ↦ elim (or_some (unless_active ((s.bucket b).entry x)) _ f rest) [
              | inl is ↦ active_named (sets_of s) ((s.bucket b).entry x) f (entry_named s r b x) is
              | inr rest ↦ elim (or_some (fault_if (is_locked s x) (fault.SetLocked x)) _ f rest) [
                | inl is ↦ subst (FaultNamesSet (sets_of s)) (fault_is _ (fault.SetLocked x) f is) from
                | inr is ↦ draining_named x b f is
              ]
            ]
          ]
        ]
      ]

  pin_named : (b x : ℕ) (f : CommandFault) → IsSetOf (sets_of s) x → pin_fault s b x ≡ Some f → FaultNamesSet (sets_of s) f
  pin_named b x f at h =
      elim (or_some (if_down s x) _ f h) [
        | inl is ↦ down_named x f at is
        | inr rest ↦ elim (or_some (unless_active ((s.bucket b).entry x)) _ f rest) [
          | inl is ↦ active_named (sets_of s) ((s.bucket b).entry x) f (entry_named s r b x) is
          | inr is ↦ draining_named x b f is
        ]
      ]

  unpin_named : (b x : ℕ) (f : CommandFault) → IsSetOf (sets_of s) x → unpin_fault s b x ≡ Some f → FaultNamesSet (sets_of s) f
  unpin_named b x f at h =
      elim (or_some (if_down s x) _ f h) [
        | inl is ↦ down_named x f at is
        | inr is ↦ pinned_named (sets_of s) ((s.bucket b).entry x) f (entry_named s r b x) is
      ]

  pinning_named : (p : Pinning) (status : Status) (f : CommandFault) → IsSetOf (sets_of s) p.at → pinning_fault s p status ≡ Some f → FaultNamesSet (sets_of s) f
  pinning_named p Pinned f at h = pin_named p.bucket p.at f at h
  pinning_named p Active f at h = unpin_named p.bucket p.at f at h
  pinning_named p (Sending d) f at h = unpin_named p.bucket p.at f at h
  pinning_named p (Receiving x) f at h = unpin_named p.bucket p.at f at h
  pinning_named p (Sent d) f at h = unpin_named p.bucket p.at f at h
  pinning_named p Garbage f at h = unpin_named p.bucket p.at f at h

  move_within : (o : ℕ) (m : Move) → move_of (next_command (s.operator o)) ≡ Some m → IsSetOf (sets_of s) m.from × IsSetOf (sets_of s) m.to
  move_within o m named = by_command (next_command (s.operator o)) refl named
    where
      by_command : (c : Option Command) → next_command (s.operator o) ≡ c → move_of c ≡ Some m → IsSetOf (sets_of s) m.from × IsSetOf (sets_of s) m.to
      by_command (Some (command.Send b x d)) is h =
          let lawful = (command_runs s r o (command.Send b x d) is).lawful in
          let same : record { bucket = b; from = x; to = d } ≡ m = cc h in
          subst (λ (m : Move). IsSetOf (sets_of s) m.from × IsSetOf (sets_of s) m.to) same (lawful.1, lawful.2)
      by_command None is h = let no : ⊥ = cc h in absurd no
      by_command (Some (command.Pin b x)) is h = let no : ⊥ = cc h in absurd no
      by_command (Some (command.Unpin b x)) is h = let no : ⊥ = cc h in absurd no
      by_command (Some (command.Close x y)) is h = let no : ⊥ = cc h in absurd no
      by_command (Some (command.Cut c k)) is h = let no : ⊥ = cc h in absurd no
      by_command (Some (command.Stop x)) is h = let no : ⊥ = cc h in absurd no
      by_command (Some (command.Restart x)) is h = let no : ⊥ = cc h in absurd no
      by_command (Some command.Balance) is h = let no : ⊥ = cc h in absurd no

  pinning_within : (o : ℕ) (p : Pinning) → pinning_of (next_command (s.operator o)) ≡ Some p → IsSetOf (sets_of s) p.at
  pinning_within o p named = by_command (next_command (s.operator o)) refl named
    where
      by_command : (c : Option Command) → next_command (s.operator o) ≡ c → pinning_of c ≡ Some p → IsSetOf (sets_of s) p.at
      by_command (Some (command.Pin b x)) is h =
          let lawful = (command_runs s r o (command.Pin b x) is).lawful in
          let same : record { bucket = b; at = x; status = Pinned } ≡ p = cc h in
          subst (λ (p : Pinning). IsSetOf (sets_of s) p.at) same lawful.1
      by_command (Some (command.Unpin b x)) is h =
          let lawful = (command_runs s r o (command.Unpin b x) is).lawful in
          let same : record { bucket = b; at = x; status = Active } ≡ p = cc h in
          subst (λ (p : Pinning). IsSetOf (sets_of s) p.at) same lawful.1
      by_command None is h = let no : ⊥ = cc h in absurd no
      by_command (Some (command.Send b x d)) is h = let no : ⊥ = cc h in absurd no
      by_command (Some (command.Close x y)) is h = let no : ⊥ = cc h in absurd no
      by_command (Some (command.Cut c k)) is h = let no : ⊥ = cc h in absurd no
      by_command (Some (command.Stop x)) is h = let no : ⊥ = cc h in absurd no
      by_command (Some (command.Restart x)) is h = let no : ⊥ = cc h in absurd no
      by_command (Some command.Balance) is h = let no : ⊥ = cc h in absurd no

  refused_named : (e : Event) (o : ℕ) (f : CommandFault) → Refuses s e o f → FaultNamesSet (sets_of s) f
  refused_named e o f (inl m) = let within = move_within o m.move m.named in send_named m.move.bucket m.move.from m.move.to f within.0 within.1 m.faulty
  refused_named e o f (inr (inl p)) = pinning_named p.pinning p.pinning.status f (pinning_within o p.pinning p.named) p.faulty
  refused_named e o f (inr (inr p)) = subst (FaultNamesSet (sets_of s)) (sym p.faulty) (least_within (λ y. not (s.up y)) (sets_of s) p.set p.first)

  -- ---- what a receiver answers

  few_buckets : s.config.bucket_count < 2 ^ 32
  few_buckets = let within = (input_runs s r).lawful.buckets in let high = within.1 in omega (arith, high)

received_named : (sets : ℕ) (entry : Option Status) (locked : Bool) (receiving max from : ℕ) (last : Bool) (f : RecvFault) → NamesSetIn sets entry → receiving < 2 ^ 32
    → received entry locked receiving max from last ≡ Err f → ReceiverNamesSet sets f
received_named sets (Some (Receiving sender)) locked receiving max from last f names few h = by_sender (not (sender == from)) h
  where
    by_sender : (b : Bool) → (if b then Err (receiver.WrongSender sender) else Ok (if last then Activated else Added)) ≡ Err f → ReceiverNamesSet sets f
    by_sender true h = let is : receiver.WrongSender sender ≡ f = cc h in subst (ReceiverNamesSet sets) is names
    by_sender false h = let no : ⊥ = cc h in absurd no
received_named sets (Some Active) locked receiving max from last f names few h = let is : receiver.WrongBucket (Some Active) ≡ f = cc h in subst (ReceiverNamesSet sets) is names
received_named sets (Some Pinned) locked receiving max from last f names few h = let is : receiver.WrongBucket (Some Pinned) ≡ f = cc h in subst (ReceiverNamesSet sets) is names
received_named sets (Some (Sending d)) locked receiving max from last f names few h = let is : receiver.WrongBucket (Some (Sending d)) ≡ f = cc h in subst (ReceiverNamesSet sets) is names
received_named sets (Some (Sent d)) locked receiving max from last f names few h = let is : receiver.WrongBucket (Some (Sent d)) ≡ f = cc h in subst (ReceiverNamesSet sets) is names
received_named sets (Some Garbage) locked receiving max from last f names few h = let is : receiver.WrongBucket (Some Garbage) ≡ f = cc h in subst (ReceiverNamesSet sets) is names
received_named sets None locked receiving max from true f names few h = let is : receiver.WrongBucket None ≡ f = cc h in subst (ReceiverNamesSet sets) is tt
received_named sets None true receiving max from false f names few h = let is : receiver.SetLocked ≡ f = cc h in subst (ReceiverNamesSet sets) is tt
received_named sets None false receiving max from false f names few h = by_count (nat_le max receiving) h
  where
    by_count : (b : Bool) → (if b then Err (receiver.TooManyReceiving receiving) else Ok Created) ≡ Err f → ReceiverNamesSet sets f
    by_count true h = let is : receiver.TooManyReceiving receiving ≡ f = cc h in subst (ReceiverNamesSet sets) is few
    by_count false h = let no : ⊥ = cc h in absurd no

at_receiver : (s : State) (r : IsReached s) (x d b : ℕ) (last : Bool) (f : RecvFault) → received_at s x d b last ≡ Err f → ReceiverNamesSet (sets_of s) f
at_receiver s r x d b last f h =
    let few : receiving_at s d ≤ s.config.bucket_count = count_few (λ q. is_receiving ((s.bucket q).entry d)) s.config.bucket_count in
    let buckets = few_buckets s r in
    let receiving : receiving_at s d < 2 ^ 32 = omega (arith, few, buckets) in
    received_named (sets_of s) ((s.bucket b).entry d) (is_locked s d) (receiving_at s d) s.config.max_receiving x last f (entry_named s r b d) receiving h

-- ---- all answers

by_cause : (s : State) (r : IsReached s) (o m : ℕ) (out : CommandOutcome) → IsCommandCaused (opening r.config r.scripts r.held) r.events o m out → IsReadableCommand (sets_of s) out
by_cause s r o m outcome.Moved w = tt
by_cause s r o m outcome.Done w = tt
by_cause s r o m outcome.Late w = tt
by_cause s r o m outcome.WasDown w = tt
by_cause s r o m outcome.WasUp w = tt
by_cause s r o m (outcome.Balanced rounds) w =
    let few = few_rounds w.before (before s r w.g w.before w.it.reached) o in
    let same = w.found.counted in
    omega (arith, few, same)
by_cause s r o m (outcome.Stuck rounds) w =
    let few = few_rounds w.before (before s r w.g w.before w.it.reached) o in
    let same = w.found.counted in
    omega (arith, few, same)
by_cause s r o m (outcome.Refused f) w =
    subst (λ n. FaultNamesSet n f) (before_sets s r w.g w.before w.it.reached) (refused_named w.before (before s r w.g w.before w.it.reached) w.event o f w.found)
by_cause s r o m (outcome.Aborted abort.Drained) w = tt
by_cause s r o m (outcome.Aborted abort.Closed) w = tt
by_cause s r o m (outcome.Aborted abort.Stopped) w = tt
by_cause s r o m (outcome.Aborted (abort.Receiver f)) w =
    let at = w.why.3 in
    let i = w.why.0 in
    subst (λ n. ReceiverNamesSet n f) (before_sets s r i at.before at.it.reached) (at_receiver at.before (before s r i at.before at.it.reached) w.x w.d w.b at.is_last f at.refused)
by_cause s r o m (outcome.Aborted (abort.SetDown y)) w =
    let first = w.move.started in
    let r' = before s r w.f first.before first.it.reached in
    let lawful = (command_runs first.before r' o (command.Send w.b w.x w.d) first.named).lawful in
    let within : IsSetOf (sets_of first.before) w.d = lawful.2 in
    subst (λ n. IsSetOf n y) (before_sets s r w.f first.before first.it.reached) (subst (λ d. IsSetOf (sets_of first.before) d) (sym w.why.0) within)

pub command_readable : (s : State) (r : IsReached s) (o m : ℕ) (out : CommandOutcome) → slice_get (s.operator o).answered m ≡ Some out → IsReadableCommand (sets_of s) out
command_readable s r o m out at = by_cause s r o m out (caused_commands r.config r.scripts r.held r.events s r.opens r.runs o m out at)
