-- An operator is written.
use Rattle.std.proofs.Common.{◌≡◌, ℕ, suc, ◌-◌, ◌<◌, ◌≤◌, true, [], length, get_or, refl, sym, ap, subst, ◌∙◌, arith}
use Rattle.std.specs.Option.{option_map_or}
use Rattle.std.specs.Vec.{with_item}
use Rattle.std.proofs.lemmas.Bool.Decides.{nat_tests}
use Rattle.std.proofs.lemmas.Option.{slice_get-get_or}
use Rattle.std.proofs.Math.ListN.{length-set}
use Rattle.vs_machine.specs.State as machine
use Rattle.vs_machine.specs.Opening.{operator_at}
use Rattle.vs_state.specs.declared.state.State.{State}
use Rattle.vs_state.specs.declared.actors.OperatorTables.{OperatorTables}
use Rattle.vs_state.specs.Plain.{plain, operator}
use Rattle.vs_core.specs.Keeps.{IsSound}
use Rattle.vs_core.proofs.Agrees.{agrees_same}
use Rattle.vs_core.proofs.Numbered.{numbered_set}

abbrev pub with_operator : State → ℕ → OperatorTables → State
with_operator s k t = record s { operators = with_item s.operators k t }

-- operator p, which has the index k
pub record IsOperator (s : State) (p k : ℕ) (t : OperatorTables) : Type 0 where
  pub at : suc k ≡ p
  pub within : k < length s.operators.items
  pub is : t ≡ get_or s.operators.items k t

pub operator_of : (s : State) (p n : ℕ) (t : OperatorTables) → machine.has_operator (plain s) p ≡ true → n ≡ p → t ≡ get_or s.operators.items (n - 1) t → IsOperator s p (n - 1) t
operator_of s p n t has same is = record { at = grind (arith, nat_tests, has, same); within = grind (arith, nat_tests, has, same); is = is }

module _ (s : State) (p k : ℕ) (t u : OperatorTables) (o : IsOperator s p k t) where
  pub operator_is : (plain s).operator p ≡ operator t
  operator_is = subst (λ p. (plain s).operator p ≡ operator t) o.at (ap (λ i. option_map_or operator i (operator_at [])) (slice_get-get_or s.operators.items k t o.within) ∙ ap operator (sym o.is))

  pub operator_written : plain (with_operator s k u) ≡ machine.put_operator (plain s) p (operator u)
  operator_written = subst (λ p. plain (with_operator s k u) ≡ machine.put_operator (plain s) p (operator u)) o.at (λ i. record (plain s) {
    operators = length-set s.operators.items k u i;
    operator = numbered_set operator (operator_at []) s.operators.items k u o.within i;
  })

  pub sound_operator : IsSound s → IsSound (with_operator s k u)
  sound_operator i = record {
    sized = record { sets = i.sized.sets; links = i.sized.links; buckets = i.sized.buckets; histories = i.sized.histories; clients = i.sized.clients; operators = subst (λ n. n ≤ 16) (sym (length-set s.operators.items k u)) i.sized.operators };
    agrees = agrees_same s (with_operator s k u) (record { clients = refl; holds = λ m x b c. refl; up = refl; count = refl; entry = λ b. refl; transfer = λ b. refl }) (λ x b. refl) (λ x. refl) i.agrees;
  }
