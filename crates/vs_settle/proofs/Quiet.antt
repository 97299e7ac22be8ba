-- Where every call and every command is answered, nobody is left who waits for a call or a transfer.
use Rattle.std.proofs.Common.{◌≡◌, ℕ, Bool, true, false, refl, sym, subst, length, Option, Some, None, arith}
use Rattle.std.specs.Prelude.{◌==◌, ◌&&◌}
use Rattle.std.proofs.lemmas.Bool.{eqb-true}
use Rattle.std.proofs.lemmas.Option.{slice_get_within}
use Rattle.vs_base.specs.declared.numbers.Mode.{Mode}
use Rattle.vs_calls.specs.Progress.{is_held, is_idle}
use Rattle.vs_calls.specs.declared.stage.Stage.{Stage}
use Rattle.vs_calls.specs.declared.stage.Stage.TheVariants.{Idle}
use Rattle.vs_script.specs.Calls.{Call}
use Rattle.vs_script.specs.declared.command.Command.{Command}
use Rattle.vs_send.specs.declared.transfer.By.{By}
use Rattle.vs_send.specs.declared.transfer.By.TheVariants as by
use Rattle.vs_send.specs.declared.transfer.Transfer.{Transfer}
use Rattle.vs_machine.specs.Kinds.Stops.{is_client_done, is_operator_done, is_finished}
use Rattle.vs_machine.specs.Laws.{IsBegunBy, PostedRuns, ReachesOn, TransferRuns, WholeRuns}
use Rattle.vs_machine.specs.Runs.{IsReached}
use Rattle.vs_machine.specs.State.{State, Client, Operator, has_client, has_operator, next_call, next_command, holds, is_call_of, is_set}
use Rattle.vs_machine.specs.Tables.{count_to}
use Rattle.vs_machine.proofs.Counts.{counts_none}
use Rattle.vs_machine.proofs.Possible.{both_are}
use Rattle.vs_settle.specs.Quiet.{QuietRuns}
use Rattle.vs_settle.proofs.Counted.{all_counted}
use Rattle.vs_settle.proofs.Rounds.Frame.{HaulFits, IsRoundOf}
use Rattle.vs_settle.proofs.Rounds.Steps.{reached_rounds}

-- ---- who is answered has nothing next

no_call : (c : Client) (k : Call) → is_client_done c ≡ true → next_call c ≡ Some k → ⊥
no_call c k done next =
    let lt = slice_get_within c.script (length c.answered) k next in
    let all = eqb-true (length c.script) (length c.answered) done in
    absurd (omega (arith, lt, all))

no_command : (o : Operator) (k : Command) → is_operator_done o ≡ true → next_command o ≡ Some k → ⊥
no_command o k done next =
    let lt = slice_get_within o.script (length o.answered) k next in
    let all = eqb-true (length o.script) (length o.answered) done in
    absurd (omega (arith, lt, all))

record AllDone (s : State) : Type 0 where
  clients : (c : ℕ) → has_client s c ≡ true → is_client_done (s.client c) ≡ true
  operators : (o : ℕ) → has_operator s o ≡ true → is_operator_done (s.operator o) ≡ true

all_done : (s : State) → is_finished s ≡ true → AllDone s
all_done s finished =
    let clients = count_to (λ c. is_client_done (s.client c)) s.clients in
    let operators = count_to (λ o. is_operator_done (s.operator o)) s.operators in
    let both = both_are (clients == s.clients) (operators == s.operators) finished in
    record {
      clients = all_counted (λ c. is_client_done (s.client c)) s.clients (eqb-true clients s.clients both.0);
      operators = all_counted (λ o. is_operator_done (s.operator o)) s.operators (eqb-true operators s.operators both.1);
    }

-- ---- calls

idle_is : (g : Stage) → is_idle g ≡ true → g ≡ Idle
idle_is g h = grind arith

holds_none : (mode : Mode) (x b : ℕ) (c : Client) → c.present.stage ≡ Idle → holds mode x b c ≡ false
holds_none mode x b c idle = subst (λ g. (is_held g && is_set c.present.set x && is_call_of mode b (next_call c)) ≡ false) (sym idle) refl

-- ---- the law

module _ (reaches : ReachesOn) (whole : WholeRuns) (posted : PostedRuns) (begun : TransferRuns) (s : State) (r : IsReached s) (done : AllDone s) where
  all_idle : (c : ℕ) → (s.client c).present.stage ≡ Idle
  all_idle c = idle_is (s.client c).present.stage (at (has_client s c) refl)
    where
      of_cluster : has_client s c ≡ true → (t : Bool) → is_idle (s.client c).present.stage ≡ t → t ≡ true
      of_cluster here true e = refl
      of_cluster here false e = let was = posted s r c e in absurd (no_call (s.client c) was.call (done.clients c here) was.called)

      at : (t : Bool) → has_client s c ≡ t → is_idle (s.client c).present.stage ≡ true
      at true e = of_cluster e (is_idle (s.client c).present.stage) refl
      at false e = (whole s r).1.inner.absent c e

  -- nobody is there who could have begun a transfer
  no_transfer_by : (b x d : ℕ) (w : By) → IsBegunBy s.operators s.operator b x d w → IsRoundOf s.operator w → ⊥
  no_transfer_by b x d (by.Command o) h round = no_command (s.operator o) _ (done.operators o h.0) h.1.named
  no_transfer_by b x d (by.Haul o) h round = no_command (s.operator o) _ (done.operators o h) round

  no_transfers : (b x : ℕ) (v : Option Transfer) → (s.bucket b).transfer x ≡ v → HaulFits s.operator v → v ≡ None
  no_transfers b x None is round = refl
  no_transfers b x (Some t) is round = absurd (no_transfer_by b x t.dest t.by (begun s r b x t is) round)

pub quiet_runs : ReachesOn → WholeRuns → PostedRuns → TransferRuns → QuietRuns
quiet_runs reaches whole posted begun s r finished =
    let done = all_done s finished in
    let rounds = reached_rounds reaches whole begun s r in
    let idle = all_idle reaches whole posted begun s r done in
    record {
      no_transfer = λ b x. no_transfers reaches whole posted begun s r done b x ((s.bucket b).transfer x) refl (rounds.hauls b x);
      idle = idle;
      unreferenced = λ mode x b. counts_none (λ c. holds mode x b (s.client c)) s.clients (λ c. holds_none mode x b (s.client c) (idle c));
    }
