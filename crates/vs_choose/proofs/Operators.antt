-- Where an operator has no event.
use Rattle.std.proofs.Common.{◌≡◌, ℕ, true, false, Option, Some, None, refl, sym, ap, subst, arith}
use Rattle.std.specs.Prelude.{◌↔◌}
use Rattle.std.specs.Option.{SomeIff}
use Rattle.std.proofs.lemmas.Bool.Decides.{nat_tests}
use Rattle.vs_event.specs.declared.event.Event.{Event}
use Rattle.vs_event.specs.declared.event.Event.TheVariants as event
use Rattle.vs_event.specs.declared.event.RestartBy.TheVariants.{Line}
use Rattle.vs_script.specs.declared.command.Command.{Command}
use Rattle.vs_script.specs.declared.command.Command.TheVariants as command
use Rattle.vs_machine.specs.Actors as actors
use Rattle.vs_machine.specs.Actors.{HasEvent, IsChoice, IsOf, IsPossible}
use Rattle.vs_machine.specs.Kinds.Calls.{call_to_cut, cut_call}
use Rattle.vs_machine.specs.Kinds.Connections.{connection_to_close, close}
use Rattle.vs_machine.specs.Kinds.Pinning.{Pinning, pinning_of, pin}
use Rattle.vs_machine.specs.Kinds.Rebalancing.{is_balance, plan}
use Rattle.vs_machine.specs.Kinds.Sender.{Move, move_of, start}
use Rattle.vs_machine.specs.Kinds.Stops.{set_to_stop, is_restart_of, stop, restart}
use Rattle.vs_machine.specs.State.{State, next_command}
use Rattle.vs_machine.proofs.Can.Calls.{can_cut}
use Rattle.vs_machine.proofs.Can.Others.{can_close, can_pin, can_plan}
use Rattle.vs_machine.proofs.Can.Sender.{can_start}
use Rattle.vs_machine.proofs.Can.Stops.{can_stop, can_restart_line}
use Rattle.vs_choose.specs.Operator.{event_of}
use Rattle.vs_choose.specs.Restart.{IsBareChoice}
use Rattle.vs_choose.proofs.Chosen.{bare_line, exactly, gives, if_chosen, if_refused}

-- ---- each command has its event

-- there is a next command, and this is its event
record IsNextEvent (o : ℕ) (next : Option Command) (e : Event) : Type 0 where
  named : Command
  there : next ≡ Some named
  same : event_of o named ≡ e

start_of : (o : ℕ) (next : Option Command) (m : Move) → move_of next ≡ Some m → IsNextEvent o next (event.Start o)
start_of o (Some (command.Send b x y)) m h = record { named = command.Send b x y; there = refl; same = refl }
start_of o next m h = absurd (cc h)

pin_of : (o : ℕ) (next : Option Command) (p : Pinning) → pinning_of next ≡ Some p → IsNextEvent o next (event.Pin o)
pin_of o (Some (command.Pin b x)) p h = record { named = command.Pin b x; there = refl; same = refl }
pin_of o (Some (command.Unpin b x)) p h = record { named = command.Unpin b x; there = refl; same = refl }
pin_of o next p h = absurd (cc h)

close_of : (o : ℕ) (next : Option Command) (pair : ℕ × ℕ) → connection_to_close next ≡ Some pair → IsNextEvent o next (event.Close o)
close_of o (Some (command.Close x y)) pair h = record { named = command.Close x y; there = refl; same = refl }
close_of o next pair h = absurd (cc h)

cut_of : (o : ℕ) (next : Option Command) (call : ℕ × ℕ) → call_to_cut next ≡ Some call → IsNextEvent o next (event.Cut o)
cut_of o (Some (command.Cut c n)) call h = record { named = command.Cut c n; there = refl; same = refl }
cut_of o next call h = absurd (cc h)

stop_of : (o : ℕ) (next : Option Command) (x : ℕ) → set_to_stop next ≡ Some x → IsNextEvent o next (event.Stop o)
stop_of o (Some (command.Stop y)) x h = record { named = command.Stop y; there = refl; same = refl }
stop_of o next x h = absurd (cc h)

plan_of : (o : ℕ) (next : Option Command) → is_balance next ≡ true → IsNextEvent o next (event.Plan o)
plan_of o (Some command.Balance) h = record { named = command.Balance; there = refl; same = refl }
plan_of o next h = absurd (cc h)

restart_of : (o : ℕ) (next : Option Command) (x : ℕ) → is_restart_of next x ≡ true → IsNextEvent o next (event.Restart x false (Line o))
restart_of o (Some (command.Restart y)) x h =
    let same : y ≡ x = grind (arith, nat_tests, h) in
    record { named = command.Restart y; there = refl; same = ap (λ z. event.Restart z false (Line o)) same }
restart_of o next x h = absurd (cc h)

-- it is the operator's own, and a restart bare
pub command_chosen : (s : State) (o : ℕ) (k : Command) → IsPossible s (event_of o k) → IsBareChoice s (actors.Operator o) (event_of o k)
command_chosen s o (command.Send b x y) possible = record { choice = record { its_own = refl; possible = possible; wanted = λ aside. aside }; bare = tt }
command_chosen s o (command.Pin b x) possible = record { choice = record { its_own = refl; possible = possible; wanted = λ aside. aside }; bare = tt }
command_chosen s o (command.Unpin b x) possible = record { choice = record { its_own = refl; possible = possible; wanted = λ aside. aside }; bare = tt }
command_chosen s o (command.Close x y) possible = record { choice = record { its_own = refl; possible = possible; wanted = λ aside. aside }; bare = tt }
command_chosen s o (command.Cut c n) possible = record { choice = record { its_own = refl; possible = possible; wanted = λ aside. aside }; bare = tt }
command_chosen s o (command.Stop x) possible = record { choice = record { its_own = refl; possible = possible; wanted = λ aside. aside }; bare = tt }
command_chosen s o (command.Restart x) possible = record { choice = record { its_own = refl; possible = possible; wanted = λ aside. aside }; bare = refl }
command_chosen s o command.Balance possible = record { choice = record { its_own = refl; possible = possible; wanted = λ aside. aside }; bare = tt }

-- ---- the whole: where the event of the next command isn't possible, none is

module _ (s : State) (o : ℕ) (none : (k : Command) → next_command (s.operator o) ≡ Some k → IsPossible s (event_of o k) → ⊥) where
  refused : (e : Event) → IsNextEvent o (next_command (s.operator o)) e → IsPossible s e → ⊥
  refused e next possible = none next.named next.there (subst (λ (f : Event). IsPossible s f) (sym next.same) possible)

  no_own : (e : Event) → IsOf (actors.Operator o) e → IsPossible s e → ⊥
  no_own (event.Cut k) own possible =
      let here = subst (λ (n : ℕ). IsPossible s (event.Cut n)) own possible in
      let g = gives (cut_call s o) here in
      let can = can_cut s g.0 o g.1 in
      refused (event.Cut o) (cut_of o (next_command (s.operator o)) (can.c, can.n) can.named) here
  no_own (event.Start k) own possible =
      let here = subst (λ (n : ℕ). IsPossible s (event.Start n)) own possible in
      let g = gives (start s o) here in
      let can = can_start s g.0 o g.1 in
      refused (event.Start o) (start_of o (next_command (s.operator o)) can.m can.named) here
  no_own (event.Close k) own possible =
      let here = subst (λ (n : ℕ). IsPossible s (event.Close n)) own possible in
      let g = gives (close s o) here in
      let can = can_close s g.0 o g.1 in
      refused (event.Close o) (close_of o (next_command (s.operator o)) (can.x, can.y) can.named) here
  no_own (event.Pin k) own possible =
      let here = subst (λ (n : ℕ). IsPossible s (event.Pin n)) own possible in
      let g = gives (pin s o) here in
      let can = can_pin s g.0 o g.1 in
      refused (event.Pin o) (pin_of o (next_command (s.operator o)) can.p can.named) here
  no_own (event.Plan k) own possible =
      let here = subst (λ (n : ℕ). IsPossible s (event.Plan n)) own possible in
      let g = gives (plan s o) here in
      refused (event.Plan o) (plan_of o (next_command (s.operator o)) (can_plan s g.0 o g.1).balance) here
  no_own (event.Stop k) own possible =
      let here = subst (λ (n : ℕ). IsPossible s (event.Stop n)) own possible in
      let g = gives (stop s o) here in
      let can = can_stop s g.0 o g.1 in
      refused (event.Stop o) (stop_of o (next_command (s.operator o)) can.x can.named) here
  no_own (event.Restart x kept (Line k)) own possible =
      let here = subst (λ (n : ℕ). IsPossible s (event.Restart x kept (Line n))) own possible in
      let g = gives (restart s x kept (Line o)) here in
      let can = can_restart_line s g.0 x o kept g.1 in
      refused (event.Restart x false (Line o)) (restart_of o (next_command (s.operator o)) x can.named) (bare_line s x o kept here)
  no_own e own possible = own

  pub no_operator_event : HasEvent s (actors.Operator o) → ⊥
  no_operator_event h = no_own h.0 h.1.its_own h.1.possible

-- ---- as the code goes

pub command_answer : (s : State) (o : ℕ) (k : Command) (r : Option Event) → Some k ≡ next_command (s.operator o) → SomeIff r (IsPossible s (event_of o k)) (event_of o k)
    → (r ≡ None) ↔ (HasEvent s (actors.Operator o) → ⊥)
command_answer s o k r there answer =
    exactly (IsBareChoice s (actors.Operator o)) (IsChoice s (actors.Operator o)) r (λ e h. h.choice)
    (if_chosen r (IsPossible s (event_of o k)) (event_of o k) (IsBareChoice s (actors.Operator o)) answer (command_chosen s o k))
    (if_refused r (IsPossible s (event_of o k)) (event_of o k) (HasEvent s (actors.Operator o) → ⊥) answer
    (λ refused. no_operator_event s o (λ l next possible. refused (subst (λ (m : Command). IsPossible s (event_of o m)) (same l next) possible))))
  where
    same : (l : Command) → next_command (s.operator o) ≡ Some l → l ≡ k
    same l next = cc (next, there)

pub no_command : (s : State) (o : ℕ) → None ≡ next_command (s.operator o) → HasEvent s (actors.Operator o) → ⊥
no_command s o nothing = no_operator_event s o (λ l next possible. absurd (cc (next, nothing)))
