-- Collection, pins and rounds leave what transfers wait for; a set goes down, and is up again.
use Rattle.std.proofs.Common.{◌≡◌, ℕ, Ok, inl, inr, Bool, true, false, refl, subst, drop, Option, Some, None}
use Rattle.std.specs.Prelude.{◌==◌, ◌||◌, not, if◌then◌else◌}
use Rattle.vs_event.specs.declared.event.Recorded.{Recorded}
use Rattle.vs_event.specs.declared.event.RestartBy.{RestartBy}
use Rattle.vs_event.specs.declared.event.RestartBy.TheVariants.{Line, Service}
use Rattle.vs_event.specs.declared.reason.Reason.TheVariants as reason
use Rattle.vs_link.specs.Connection.{Connection, unused, closed}
use Rattle.vs_record.specs.Change.{Change, bucket_of}
use Rattle.vs_space.specs.declared.status.Status.TheVariants.{Garbage}
use Rattle.vs_send.specs.declared.transfer.Phase.{Phase}
use Rattle.vs_machine.specs.declared.outcome.CommandFault.{CommandFault}
use Rattle.vs_machine.specs.declared.outcome.CommandOutcome.TheVariants.{Done, WasDown, WasUp}
use Rattle.vs_machine.specs.State.{State, sets_of, is_link, answer, put_operator, with_entry, put_rows}
use Rattle.vs_machine.specs.Tables.{least_to}
use Rattle.vs_machine.specs.Kinds.Collection.{condemn, wipe, forget}
use Rattle.vs_machine.specs.Kinds.Pinning.{Pinning, pin, pinning_fault, after_pin}
use Rattle.vs_machine.specs.Kinds.Rebalancing.{plan, plan_round, is_in_move}
use Rattle.vs_machine.specs.Kinds.Stops.{gone_down, stop, fault, restart, restarted, with_change}
use Rattle.vs_machine.proofs.Frame.{put_split}
use Rattle.vs_machine.proofs.Leaves.{changed_transfer}
use Rattle.vs_machine.proofs.Linked.{AreLinked}
use Rattle.vs_machine.proofs.Possible.{ok_is, wants_none_ok}
use Rattle.vs_machine.proofs.Can.Others.{can_condemn, can_wipe, can_forget, can_pin, can_plan}
use Rattle.vs_machine.proofs.Can.Stops.{can_stop, can_fault, can_restart, can_restart_line}
use Rattle.vs_machine.proofs.Waits.Staying.{Stable}
use Rattle.vs_machine.proofs.Waits.Frame.{HoldsIn, same_waits}

module _ (P : Connection → ℕ → Phase → Type 0) (k : Stable P) where
  pub condemn_waits : (s t : State) (x b : ℕ) → HoldsIn P s → condemn s x b ≡ Ok t → HoldsIn P t
  condemn_waits s t x b w e = subst (HoldsIn P) (can_condemn s t x b e).gives (same_waits P s.bucket s.link b (with_entry (s.bucket b) x (Some Garbage)) refl w)

  pub wipe_waits : (s t : State) (x b : ℕ) → HoldsIn P s → wipe s x b ≡ Ok t → HoldsIn P t
  wipe_waits s t x b w e = subst (HoldsIn P) (can_wipe s t x b e).gives (same_waits P s.bucket s.link b (put_rows (s.bucket b) x (drop 1000 ((s.bucket b).rows x))) refl w)

  pub forget_waits : (s t : State) (x b : ℕ) → HoldsIn P s → forget s x b ≡ Ok t → HoldsIn P t
  forget_waits s t x b w e = subst (HoldsIn P) (can_forget s t x b e).gives (same_waits P s.bucket s.link b (with_entry (s.bucket b) x None) refl w)

  pub pin_waits : (s t : State) (o : ℕ) → HoldsIn P s → pin s o ≡ Ok t → HoldsIn P t
  pin_waits s t o w e =
      let p = can_pin s t o e in
      subst (HoldsIn P) p.gives (by p.p (pinning_fault s p.p p.p.status))
    where
      by : (p : Pinning) (f : Option CommandFault) → HoldsIn P (after_pin s o p f)
      by p (Some f) = w
      by p None = same_waits P s.bucket s.link p.bucket (with_entry (s.bucket p.bucket) p.at (Some p.status)) refl w

  pub plan_waits : (s t : State) (o : ℕ) → HoldsIn P s → plan s o ≡ Ok t → HoldsIn P t
  plan_waits s t o w e = by (least_to (λ x. not (s.up x)) (sets_of s)) (can_plan s t o e).gives
    where
      by : (down : Option ℕ) → plan_round s o down ≡ Ok t → HoldsIn P t
      by (Some x) h = subst (HoldsIn P) (ok_is _ t h) w
      by None h =
          let g = wants_none_ok (least_to (is_in_move s) s.config.bucket_count) reason.Moving _ t h in
          subst (HoldsIn P) (ok_is _ t g.1) w

  -- the transfers of a set that goes down are gone, and its connections are closed
  gone_down_waits : (s : State) (x : ℕ) → AreLinked s → HoldsIn P s → HoldsIn P (gone_down s x)
  gone_down_waits s x linked w b z t h = elim (put_split (s.bucket b).transfer x None z (Some t) h) [
    | inl e ↦ absurd (cc (e.1))
    | inr e ↦ by (is_link s z t.dest) (linked.transfers b z t e.1) (z == x) (t.dest == x) (w b z t e.1)
  ]
    where
      by : (there : Bool) → there ≡ true → (a d : Bool) → P (s.link z t.dest) b t.phase → P (if there then (if a || d then closed (s.link z t.dest) else s.link z t.dest) else unused) b t.phase
      by true is true d g = k.cut (s.link z t.dest) b t.phase g
      by true is false true g = k.cut (s.link z t.dest) b t.phase g
      by true is false false g = g
      by false is a d g = absurd cc

  pub stop_waits : (s t : State) (o : ℕ) → AreLinked s → HoldsIn P s → stop s o ≡ Ok t → HoldsIn P t
  stop_waits s t o linked w e =
      let p = can_stop s t o e in
      subst (HoldsIn P) p.gives (by p.x (s.up p.x))
    where
      by : (x : ℕ) (up : Bool) → HoldsIn P (if up then put_operator (gone_down s x) o (answer (s.operator o) Done) else put_operator s o (answer (s.operator o) WasDown))
      by x true = gone_down_waits s x linked w
      by x false = w

  pub fault_waits : (s t : State) (x n : ℕ) (e : Recorded) → AreLinked s → HoldsIn P s → fault s x n e ≡ Ok t → HoldsIn P t
  fault_waits s t x n e linked w h = subst (HoldsIn P) (can_fault s t x n e h).gives (gone_down_waits s x linked w)

  restarted_waits : (s : State) (x : ℕ) (kept : Bool) (pending : Option Change) → HoldsIn P s → HoldsIn P (restarted s x kept pending)
  restarted_waits s x true (Some change) w =
      let b = bucket_of change in
      same_waits P s.bucket s.link b (with_change (s.bucket b) x change) (changed_transfer (s.bucket b) x change) w
  restarted_waits s x true None w = w
  restarted_waits s x false (Some change) w = w
  restarted_waits s x false None w = w

  pub restart_waits : (s t : State) (x : ℕ) (kept : Bool) (by : RestartBy) → HoldsIn P s → restart s x kept by ≡ Ok t → HoldsIn P t
  restart_waits s t x kept Service w e = subst (HoldsIn P) (can_restart s t x kept e).gives (restarted_waits s x kept (s.pending x) w)
  restart_waits s t x kept (Line o) w e = subst (HoldsIn P) (can_restart_line s t x o kept e).gives (by (s.up x))
    where
      by : (up : Bool) → HoldsIn P (if up then put_operator s o (answer (s.operator o) WasUp) else put_operator (restarted s x kept (s.pending x)) o (answer (s.operator o) Done))
      by true = w
      by false = restarted_waits s x kept (s.pending x) w
