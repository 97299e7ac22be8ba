-- A transfer that is given up, or has ended.
use Rattle.std.proofs.Common.{◌≡◌, ℕ, true, Some, Result, Ok, Err, OnOk, ap, subst, arith}
use Rattle.vs_send.specs.declared.abort.AbortCause.{AbortCause}
use Rattle.vs_send.specs.declared.transfer.By.{By}
use Rattle.vs_send.specs.declared.transfer.Transfer.{Transfer}
use Rattle.vs_machine.specs.State as machine
use Rattle.vs_machine.specs.Kinds.Sender.{cause_at, abort, after_abort, end_move, after_end_move}
use Rattle.vs_state.specs.declared.state.State.{State}
use Rattle.vs_state.specs.Guard.{verdict}
use Rattle.vs_core.specs.Keeps.{IsKnown, operator_of}
use Rattle.vs_core.specs.Sending.{transfer_at, HasAbortRoom, HasEndRoom, IsAbortReady, IsEndReady}

pub on_ok : {A B : Type 0} (r : Result A B) (P Q : Type 0) → (P → Q) → OnOk r P → OnOk r Q
on_ok (Ok a) P Q along h = along h
on_ok (Err e) P Q along h = tt

-- there is one transfer, so one who began it
by_same : (s : State) (x b : ℕ) (t u : Transfer) → transfer_at s x b ≡ Some t → transfer_at s x b ≡ Some u → t.by ≡ u.by
by_same s x b t u is there =
    let same : t ≡ u = cc in
    ap (λ (t : Transfer). t.by) same

pub abort_ready : (s : State) (x b : ℕ) (t : Transfer) → transfer_at s x b ≡ Some t → HasAbortRoom s t.by → IsAbortReady s x b
abort_ready s x b t is room = λ u there. subst (HasAbortRoom s) (by_same s x b t u is there) room

pub end_ready : (s : State) (x b : ℕ) (t : Transfer) → transfer_at s x b ≡ Some t → HasEndRoom s t.by → IsEndReady s x b
end_ready s x b t is room = λ u there. subst (HasEndRoom s) (by_same s x b t u is there) room

module _ (s : machine.State) (x b : ℕ) (t : Transfer) (is : (s.bucket b).transfer x ≡ Some t) where
  -- who began it is an operator of the cluster
  pub mover : IsKnown s → (by : By) → t.by ≡ by → machine.has_operator s (operator_of by) ≡ true
  mover known by same = subst (λ by. machine.has_operator s (operator_of by) ≡ true) same (known.movers b x t is)

  pub abort_is : verdict (abort s x b) ≡ Ok tt → (cause : AbortCause) → cause_at s x b t ≡ Some cause → abort s x b ≡ Ok (after_abort s x b t cause)
  abort_is h cause caused = grind (arith, h, is, caused)

  pub end_move_is : verdict (end_move s x b) ≡ Ok tt → end_move s x b ≡ Ok (after_end_move s x b t)
  end_move_is h = grind (arith, h, is)
