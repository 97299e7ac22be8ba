-- An operator that closes a connection.
use Rattle.std.proofs.Common.{◌≡◌, ℕ, ◌-◌, ◌<◌, true, Some, Ok, sym, ap, subst, ◌∙◌, arith}
use Rattle.std.specs.Prelude.{◌^◌, if◌then◌else◌}
use Rattle.std.proofs.lemmas.Bool.{ne_eqb}
use Rattle.std.proofs.lemmas.Bool.Decides.{nat_tests}
use Rattle.vs_link.specs.Connection.{closed, unused}
use Rattle.vs_link.specs.Links.{IsPair, connection_of}
use Rattle.vs_script.specs.declared.command.Command.TheVariants.{Close}
use Rattle.vs_machine.specs.declared.outcome.CommandOutcome.TheVariants.{Done}
use Rattle.vs_machine.specs.State as machine
use Rattle.vs_machine.specs.Kinds.Connections.{close}
use Rattle.vs_state.specs.declared.state.State.{State}
use Rattle.vs_state.specs.Guard.{verdict}
use Rattle.vs_state.specs.Plain.{plain}
use Rattle.vs_core.specs.Closing.{IsCloseReady}
use Rattle.vs_core.specs.Keeps.{IsKnown}
use Rattle.vs_core.specs.Rooms.{HasAnswerRoom}

pub close_operator : (s : machine.State) (o : ℕ) → verdict (close s o) ≡ Ok tt → machine.has_operator s o ≡ true
close_operator s o h = grind (arith, h)

module _ (s : machine.State) (o x y : ℕ) (next : machine.next_command (s.operator o) ≡ Some (Close x y)) where
  pub closed_link : IsKnown s → machine.is_link s x y ≡ true
  closed_link known =
      let l = (known.commands o (Close x y) next).lawful in
      grind (arith, nat_tests, l.0.0, l.0.1, l.1.0, l.1.1, l.2)

  pub close_is : verdict (close s o) ≡ Ok tt → close s o ≡ Ok (machine.put_operator (machine.put_link s x y (closed (s.link x y))) o (machine.answer (s.operator o) Done))
  close_is h = grind (arith, h, next)

-- two sets have the connection of the table
pub link_of : (s : State) (x y : ℕ) → IsPair s.links x y → (plain s).link x y ≡ connection_of s.links x y
link_of s x y pair = ap (λ e. if e then unused else connection_of s.links x y) (ne_eqb x y pair.apart)

-- the command that is ready to be carried out is the next one
pub close_ready : (s t : State) (o x y : ℕ) → plain t ≡ plain s → machine.next_command ((plain s).operator o) ≡ Some (Close x y) → ((plain s).link x y).epoch < 2 ^ 63 - 1 → HasAnswerRoom t o → IsCloseReady t o
close_ready s t o x y same next below room = record {
  answer = room;
  epoch = λ p q there.
      let both : Some (Close x y) ≡ Some (Close p q) = sym next ∙ ap (λ (m : machine.State). machine.next_command (m.operator o)) (sym same) ∙ there in
      let first : x ≡ p = cc in
      let second : y ≡ q = cc in
      subst (λ (m : machine.State). (m.link p q).epoch < 2 ^ 63 - 1) (sym same) (subst (λ p. ((plain s).link p q).epoch < 2 ^ 63 - 1) first (subst (λ q. ((plain s).link x q).epoch < 2 ^ 63 - 1) second below));
}
