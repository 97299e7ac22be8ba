-- The events of a call leave what transfers wait for.
use Rattle.std.proofs.Common.{◌≡◌, ℕ, Ok, Bool, true, false, subst}
use Rattle.std.specs.Prelude.{if◌then◌else◌}
use Rattle.vs_calls.specs.Progress.{cut}
use Rattle.vs_link.specs.Connection.{Connection}
use Rattle.vs_send.specs.declared.transfer.Phase.{Phase}
use Rattle.vs_machine.specs.declared.outcome.CommandOutcome.TheVariants.{Done, Late}
use Rattle.vs_machine.specs.State.{State, call_id, answer, put_client, put_operator, with_progress}
use Rattle.vs_machine.specs.Kinds.Calls.{post, begin, act, «end», take, cut_call, bucket_after, is_answered}
use Rattle.vs_machine.proofs.Leaves.{acted_transfer}
use Rattle.vs_machine.proofs.Can.Calls.{can_post, can_begin, can_act, can_end, can_take, can_cut}
use Rattle.vs_machine.proofs.Waits.Staying.{Stable}
use Rattle.vs_machine.proofs.Waits.Frame.{HoldsIn, same_waits}

module _ (P : Connection → ℕ → Phase → Type 0) (k : Stable P) where
  pub post_waits : (s t : State) (c x : ℕ) → HoldsIn P s → post s c x ≡ Ok t → HoldsIn P t
  post_waits s t c x w e = subst (HoldsIn P) (can_post s t c x e).gives w

  pub begin_waits : (s t : State) (c : ℕ) → HoldsIn P s → begin s c ≡ Ok t → HoldsIn P t
  begin_waits s t c w e = subst (HoldsIn P) (can_begin s t c e).gives w

  pub act_waits : (s t : State) (c : ℕ) → HoldsIn P s → act s c ≡ Ok t → HoldsIn P t
  act_waits s t c w e =
      let p = can_act s t c e in
      let b = s.bucket p.k.bucket in
      let id = call_id c (s.client c) in
      subst (HoldsIn P) p.gives (same_waits P s.bucket s.link p.k.bucket (bucket_after b p.x id p.k.mode p.k.ops) (acted_transfer b p.x id p.k.mode p.k.ops) w)

  pub end_waits : (s t : State) (c : ℕ) → HoldsIn P s → «end» s c ≡ Ok t → HoldsIn P t
  end_waits s t c w e = subst (HoldsIn P) (can_end s t c e).gives w

  pub take_waits : (s t : State) (c : ℕ) → HoldsIn P s → take s c ≡ Ok t → HoldsIn P t
  take_waits s t c w e = subst (HoldsIn P) (can_take s t c e).gives w

  pub cut_waits : (s t : State) (o : ℕ) → HoldsIn P s → cut_call s o ≡ Ok t → HoldsIn P t
  cut_waits s t o w e =
      let p = can_cut s t o e in
      subst (HoldsIn P) p.gives (by p.c (is_answered (s.client p.c) p.n))
    where
      by : (c : ℕ) (late : Bool) → HoldsIn P (let old = s.client c in if late then put_operator s o (answer (s.operator o) Late) else put_operator (put_client s c (with_progress old (cut old.present))) o (answer (s.operator o) Done))
      by c true = w
      by c false = w
