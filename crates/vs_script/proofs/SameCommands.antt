-- Commands compared one by one.
use Rattle.std.proofs.Common.{◌≡◌, Bool, Decides, refl}
use Rattle.std.proofs.lemmas.Bool.{false≢true}
use Rattle.std.proofs.lemmas.Bool.Decides.{Decides-eqb, Decides-like, Decides-and}
use Rattle.vs_script.specs.declared.command.Command.{Command}
use Rattle.vs_script.specs.declared.command.Command.TheVariants.{Send, Pin, Unpin, Close, Cut, Stop, Restart, Balance}
use Rattle.vs_script.specs.contracts.command.CommandPartialEq.TheImpl.{eq-value}

abbrev pub same_command : Command → Command → Bool
same_command = eq-value.it

pub command_decides : (a b : Command) → Decides (same_command a b) (a ≡ b)
command_decides (Send b x y) (Send c z w) = Decides-like _ (λ p i. Send (p.0 i) (p.1.0 i) (p.1.1 i)) (λ e. ((cc), ((cc), (cc)))) (Decides-and _ _ (Decides-eqb b c) (Decides-and _ _ (Decides-eqb x z) (Decides-eqb y w)))
command_decides (Pin b x) (Pin c y) = Decides-like _ (λ p i. Pin (p.0 i) (p.1 i)) (λ e. ((cc), (cc))) (Decides-and _ _ (Decides-eqb b c) (Decides-eqb x y))
command_decides (Unpin b x) (Unpin c y) = Decides-like _ (λ p i. Unpin (p.0 i) (p.1 i)) (λ e. ((cc), (cc))) (Decides-and _ _ (Decides-eqb b c) (Decides-eqb x y))
command_decides (Close x y) (Close z w) = Decides-like _ (λ p i. Close (p.0 i) (p.1 i)) (λ e. ((cc), (cc))) (Decides-and _ _ (Decides-eqb x z) (Decides-eqb y w))
command_decides (Cut c k) (Cut d l) = Decides-like _ (λ p i. Cut (p.0 i) (p.1 i)) (λ e. ((cc), (cc))) (Decides-and _ _ (Decides-eqb c d) (Decides-eqb k l))
command_decides (Stop x) (Stop y) = Decides-like _ (λ p i. Stop (p i)) (λ e. cc) (Decides-eqb x y)
command_decides (Restart x) (Restart y) = Decides-like _ (λ p i. Restart (p i)) (λ e. cc) (Decides-eqb x y)
command_decides Balance Balance = (λ is. refl, λ same. refl)
command_decides (Send _ _ _) _ = (λ is. absurd (false≢true is), λ same. cc)
command_decides (Pin _ _) _ = (λ is. absurd (false≢true is), λ same. cc)
command_decides (Unpin _ _) _ = (λ is. absurd (false≢true is), λ same. cc)
command_decides (Close _ _) _ = (λ is. absurd (false≢true is), λ same. cc)
command_decides (Cut _ _) _ = (λ is. absurd (false≢true is), λ same. cc)
command_decides (Stop _) _ = (λ is. absurd (false≢true is), λ same. cc)
command_decides (Restart _) _ = (λ is. absurd (false≢true is), λ same. cc)
command_decides Balance _ = (λ is. absurd (false≢true is), λ same. cc)
