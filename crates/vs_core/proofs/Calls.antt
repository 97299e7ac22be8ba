-- What a client's event is, where it is possible.
use Rattle.std.proofs.Common.{◌≡◌, ℕ, Bool, true, false, Option, Some, None, Ok, refl, arith}
use Rattle.std.specs.Prelude.{◌||◌, ◌≢◌, if◌then◌else◌, not, nat_le}
use Rattle.vs_calls.specs.Progress.{is_idle, is_acted, is_posted, is_refused, is_over}
use Rattle.vs_script.specs.Calls.{Call}
use Rattle.vs_script.specs.declared.command.Command.TheVariants.{Cut}
use Rattle.vs_machine.specs.State as machine
use Rattle.vs_machine.specs.Kinds.Calls.{post, after_post, begin, after_begin, verdict_at, take, after_take, «end», after_end, cut_call, after_cut, is_answered}
use Rattle.vs_base.specs.declared.numbers.Mode.{Mode}
use Rattle.vs_space.specs.declared.status.Status.{Status}
use Rattle.vs_space.specs.declared.status.Cause.TheVariants.{Down}
use Rattle.vs_space.specs.declared.status.Verdict.TheVariants.{Granted, Refused}
use Rattle.vs_space.specs.Verdict.{verdict_of}
use Rattle.std.proofs.lemmas.Bool.Decides.{nat_tests}
use Rattle.vs_core.specs.Keeps.{IsKnown}
use Rattle.vs_state.specs.Guard.{verdict}

-- ---- post

pub post_is : (s : machine.State) (c x : ℕ) (k : Call) → verdict (post s c x) ≡ Ok tt → machine.next_call (s.client c) ≡ Some k → post s c x ≡ Ok (after_post s c x k)
post_is s c x k h next = grind (arith, h, next)

-- ---- take

module _ (s : machine.State) (c : ℕ) (h : verdict (take s c) ≡ Ok tt) where
  pub take_client : machine.has_client s c ≡ true
  take_client = grind (arith, h)

  pub take_tried : (not (is_refused (s.client c).present.stage) || nat_le 128 (s.client c).present.tries) ≡ true
  take_tried = grind (arith, h)

  pub take_over : (is_refused (s.client c).present.stage || is_over (s.client c).present.stage) ≡ true
  take_over = grind (arith, h)

  pub take_is : take s c ≡ Ok (after_take s c)
  take_is = grind (arith, h)

-- ---- end

module _ (s : machine.State) (c : ℕ) (h : verdict («end» s c) ≡ Ok tt) where
  pub end_client : machine.has_client s c ≡ true
  end_client = grind (arith, h)

  pub end_acted : is_acted (s.client c).present.stage ≡ true
  end_acted = grind (arith, h)

  pub end_is : «end» s c ≡ Ok (after_end s c)
  end_is = grind (arith, h)

-- ---- begin

module _ (s : machine.State) (c : ℕ) (h : verdict (begin s c) ≡ Ok tt) where
  pub begin_client : machine.has_client s c ≡ true
  begin_client = grind (arith, h)

  pub begin_posted : is_posted (s.client c).present.stage ≡ true
  begin_posted = grind (arith, h)

  pub begin_is : (k : Call) (x : ℕ) → machine.next_call (s.client c) ≡ Some k → (s.client c).present.set ≡ Some x → begin s c ≡ Ok (after_begin s c k x)
  begin_is k x next set = grind (arith, h, next, set)

-- a set that grants a call has the bucket
granted_entry : (up : Bool) (entry : Option Status) (locked : Bool) (mode : Mode) → (if up then verdict_of entry locked mode else Refused Down) ≡ Granted → entry ≢ None
granted_entry true None locked mode h = absurd (cc h)
granted_entry false None locked mode h = absurd (cc h)
granted_entry up (Some st) locked mode h = λ none. absurd (cc none)

pub granted_set : (s : machine.State) → IsKnown s → (x : ℕ) (k : Call) → verdict_at s x k ≡ Granted → machine.has_set s x ≡ true
granted_set s known x k granted =
    let within = known.whole.bounds k.bucket x (granted_entry (s.up x) ((s.bucket k.bucket).entry x) (machine.is_draining ((s.bucket k.bucket).transfer x)) k.mode granted) in
    grind (arith, nat_tests, within.0, within.1)

-- ---- cut

module _ (s : machine.State) (o c n : ℕ) (h : verdict (cut_call s o) ≡ Ok tt) (next : machine.next_command (s.operator o) ≡ Some (Cut c n)) where
  pub cut_is : cut_call s o ≡ Ok (after_cut s o c n)
  cut_is = grind (arith, h, next)

  cut_posted : is_answered (s.client c) n ≡ false → is_idle (s.client c).present.stage ≡ false
  cut_posted waits = grind (arith, h, next, waits)

  -- only clients of the cluster post
  pub cut_client : IsKnown s → is_answered (s.client c) n ≡ false → machine.has_client s c ≡ true
  cut_client known waits = by (machine.has_client s c) refl
    where
      by : (e : Bool) → machine.has_client s c ≡ e → machine.has_client s c ≡ true
      by true is = is
      by false is = absurd (cc (known.whole.inner.absent c is, cut_posted waits))
