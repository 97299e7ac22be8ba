-- A bucket is pinned or unpinned.
use Rattle.std.proofs.Common.{◌≡◌, ℕ, true, Option, Some, None, Ok, refl, arith}
use Rattle.std.specs.Prelude.{IsNone}
use Rattle.std.proofs.lemmas.Bool.Decides.{nat_tests}
use Rattle.vs_script.specs.declared.command.Command.TheVariants.{Pin, Unpin}
use Rattle.vs_space.specs.Status.{MayChange}
use Rattle.vs_space.specs.declared.status.Status.{Status}
use Rattle.vs_space.specs.declared.status.Status.TheVariants.{Active, Pinned, Sending, Receiving, Sent, Garbage}
use Rattle.vs_machine.specs.State as machine
use Rattle.vs_machine.specs.Kinds.Collection.{is_garbage}
use Rattle.vs_machine.specs.Kinds.Pinning.{pin}
use Rattle.vs_machine.proofs.Can.Others.{can_pin}
use Rattle.vs_state.specs.Guard.{verdict}
use Rattle.vs_core.specs.Keeps.{IsKnown}
use Rattle.vs_core.specs.Pins.{MayTurn}
use Rattle.vs_core.proofs.Sender.{goes_on}

-- ---- statuses

pub may_change : (e : Option Status) (st : Status) → MayTurn e st → MayChange e (Some st)
may_change (Some Active) Pinned h = tt
may_change (Some Pinned) Active h = tt
may_change None st h = absurd h
may_change (Some Active) Active h = absurd h
may_change (Some Active) (Sending d) h = absurd h
may_change (Some Active) (Receiving x) h = absurd h
may_change (Some Active) (Sent d) h = absurd h
may_change (Some Active) Garbage h = absurd h
may_change (Some Pinned) Pinned h = absurd h
may_change (Some Pinned) (Sending d) h = absurd h
may_change (Some Pinned) (Receiving x) h = absurd h
may_change (Some Pinned) (Sent d) h = absurd h
may_change (Some Pinned) Garbage h = absurd h
may_change (Some (Sending d)) st h = absurd h
may_change (Some (Receiving x)) st h = absurd h
may_change (Some (Sent d)) st h = absurd h
may_change (Some Garbage) st h = absurd h

pub has_entry : (e : Option Status) (st : Status) → MayTurn e st → IsNone e → ⊥
has_entry None st h none = h
has_entry (Some e) st h none = cc

-- neither is garbage
pub same_garbage : (e : Option Status) (st : Status) → MayTurn e st → is_garbage (Some st) ≡ is_garbage e
same_garbage (Some Active) Pinned h = refl
same_garbage (Some Pinned) Active h = refl
same_garbage None st h = absurd h
same_garbage (Some Active) Active h = absurd h
same_garbage (Some Active) (Sending d) h = absurd h
same_garbage (Some Active) (Receiving x) h = absurd h
same_garbage (Some Active) (Sent d) h = absurd h
same_garbage (Some Active) Garbage h = absurd h
same_garbage (Some Pinned) Pinned h = absurd h
same_garbage (Some Pinned) (Sending d) h = absurd h
same_garbage (Some Pinned) (Receiving x) h = absurd h
same_garbage (Some Pinned) (Sent d) h = absurd h
same_garbage (Some Pinned) Garbage h = absurd h
same_garbage (Some (Sending d)) st h = absurd h
same_garbage (Some (Receiving x)) st h = absurd h
same_garbage (Some (Sent d)) st h = absurd h
same_garbage (Some Garbage) st h = absurd h

-- ---- the command

module _ (s : machine.State) (o : ℕ) (h : verdict (pin s o) ≡ Ok tt) where
  pub pin_operator : machine.has_operator s o ≡ true
  pin_operator = let next = goes_on (pin s o) h in (can_pin s next.0 o next.1).operator

module _ (s : machine.State) (known : IsKnown s) (o b x : ℕ) where
  pub pin_bucket : machine.next_command (s.operator o) ≡ Some (Pin b x) → machine.has_bucket s b ≡ true
  pin_bucket next =
      let l = (known.commands o (Pin b x) next).lawful in
      grind (arith, nat_tests, l.0.0, l.0.1)

  pub pin_set : machine.next_command (s.operator o) ≡ Some (Pin b x) → machine.has_set s x ≡ true
  pin_set next =
      let l = (known.commands o (Pin b x) next).lawful in
      grind (arith, nat_tests, l.1.0, l.1.1)

  pub unpin_bucket : machine.next_command (s.operator o) ≡ Some (Unpin b x) → machine.has_bucket s b ≡ true
  unpin_bucket next =
      let l = (known.commands o (Unpin b x) next).lawful in
      grind (arith, nat_tests, l.0.0, l.0.1)

  pub unpin_set : machine.next_command (s.operator o) ≡ Some (Unpin b x) → machine.has_set s x ≡ true
  unpin_set next =
      let l = (known.commands o (Unpin b x) next).lawful in
      grind (arith, nat_tests, l.1.0, l.1.1)
