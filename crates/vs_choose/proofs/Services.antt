-- Where an event of a service isn't possible.
use Rattle.std.proofs.Common.{◌≡◌, ℕ, ◌<◌, ◌≤◌, Bool, true, false, Option, Some, None, refl, sym, ap, subst, arith, inl, inr}
use Rattle.std.specs.Prelude.{◌⊎◌}
use Rattle.vs_space.specs.declared.status.Status.{Status}
use Rattle.vs_space.specs.declared.status.Status.TheVariants as status
use Rattle.vs_space.specs.Next.{IsNext}
use Rattle.vs_space.specs.Status.{is_open}
use Rattle.vs_event.specs.declared.event.Event.{Event}
use Rattle.vs_event.specs.declared.event.Event.TheVariants as event
use Rattle.vs_event.specs.declared.event.RestartBy.TheVariants.{Service}
use Rattle.vs_machine.specs.Actors as actors
use Rattle.vs_machine.specs.Actors.{HasEvent, IsLeftAside, IsOf, IsPossible}
use Rattle.vs_machine.specs.State.{State}
use Rattle.vs_machine.specs.Kinds.Connections.{asked_set}
use Rattle.vs_machine.specs.Kinds.Recovery.{ask}
use Rattle.vs_machine.specs.Kinds.Collection.{condemn, wipe, forget}
use Rattle.vs_machine.proofs.Can.Others.{can_ask, can_condemn, can_wipe, can_forget}
use Rattle.vs_choose.specs.Service.{IsIdleAt}
use Rattle.vs_choose.proofs.Chosen.{gives, within}

-- ---- a bucket whose status leaves nothing open

asked_open : (e : Option Status) (y : ℕ) → asked_set e ≡ Some y → is_open e ≡ true
asked_open (Some (status.Sending d)) y named = refl
asked_open (Some (status.Receiving x)) y named = refl
asked_open e y named = absurd (cc named)

pub not_open : (s : State) (x b : ℕ) → is_open ((s.bucket b).entry x) ≡ false → IsIdleAt s x b
not_open s x b shut = record {
  ask = λ possible.
      let g = gives (ask s x b) possible in
      let can = can_ask s g.0 x b g.1 in
      absurd (cc (asked_open ((s.bucket b).entry x) can.y can.named, shut));
  condemn = λ possible. let g = gives (condemn s x b) possible in cc (ap is_open (can_condemn s g.0 x b g.1).sent, shut);
  wipe = λ possible. let g = gives (wipe s x b) possible in cc (ap is_open (can_wipe s g.0 x b g.1).garbage, shut);
  forget = λ possible. let g = gives (forget s x b) possible in cc (ap is_open (can_forget s g.0 x b g.1).garbage, shut);
}

-- ---- the buckets that are tried are those that are open

-- the buckets count from 1
counted : (s : State) (x : ℕ) → ((b : ℕ) → 1 ≤ b → IsIdleAt s x b) → (b : ℕ) → IsIdleAt s x b
counted s x idle b = record {
  ask = λ possible. let g = gives (ask s x b) possible in (idle b (within s.config.bucket_count b (can_ask s g.0 x b g.1).bucket).0).ask possible;
  condemn = λ possible. let g = gives (condemn s x b) possible in (idle b (within s.config.bucket_count b (can_condemn s g.0 x b g.1).bucket).0).condemn possible;
  wipe = λ possible. let g = gives (wipe s x b) possible in (idle b (within s.config.bucket_count b (can_wipe s g.0 x b g.1).bucket).0).wipe possible;
  forget = λ possible. let g = gives (forget s x b) possible in (idle b (within s.config.bucket_count b (can_forget s g.0 x b g.1).bucket).0).forget possible;
}

above_or_not : (b after : ℕ) → (b ≤ after) ⊎ (after < b)
above_or_not b after = grind arith

last_or : (b next : ℕ) → b ≤ next → (b ≡ next) ⊎ (b < next)
last_or b next l = grind arith

module _ (s : State) (x after : ℕ) (tried : (b : ℕ) → 1 ≤ b → b ≤ after → IsIdleAt s x b) where
  -- none is open above those that were tried
  pub all_tried : IsNext (λ b. is_open ((s.bucket b).entry x)) after None → (b : ℕ) → IsIdleAt s x b
  all_tried none = counted s x (λ b first. by b first (above_or_not b after))
    where
      by : (b : ℕ) → 1 ≤ b → (b ≤ after) ⊎ (after < b) → IsIdleAt s x b
      by b first (inl below) = tried b first below
      by b first (inr above) = not_open s x b (none b above)

  -- the next open one is tried too
  pub one_tried : (next : ℕ) → IsNext (λ b. is_open ((s.bucket b).entry x)) after (Some next) → IsIdleAt s x next → (b : ℕ) → 1 ≤ b → b ≤ next → IsIdleAt s x b
  one_tried next is idle b first last = by (last_or b next last)
    where
      between : b < next → (b ≤ after) ⊎ (after < b) → IsIdleAt s x b
      between below (inl before) = tried b first before
      between below (inr above) = not_open s x b (is.2 b above below)

      by : (b ≡ next) ⊎ (b < next) → IsIdleAt s x b
      by (inl same) = subst (λ (k : ℕ). IsIdleAt s x k) (sym same) idle
      by (inr below) = between below (above_or_not b after)

-- ---- the whole

module _ (s : State) (x : ℕ)
    (messages : (y : ℕ) → IsPossible s (event.Deliver y x) → ⊥)
    (replies : (y : ℕ) → IsPossible s (event.Hear x y) → ⊥)
    (restarts : (kept : Bool) → IsPossible s (event.Restart x kept Service) → ⊥)
    (buckets : (b : ℕ) → IsIdleAt s x b) where
  idle : (e : Event) → IsOf (actors.Service x) e → IsPossible s e → IsLeftAside s e
  idle (event.Deliver y z) own possible = absurd (messages y (subst (λ (n : ℕ). IsPossible s (event.Deliver y n)) own possible))
  idle (event.Hear y z) own possible = absurd (replies z (subst (λ (n : ℕ). IsPossible s (event.Hear n z)) own possible))
  idle (event.Ask y b) own possible =
      subst (λ (n : ℕ). IsLeftAside s (event.Ask n b)) (sym own) ((buckets b).ask (subst (λ (n : ℕ). IsPossible s (event.Ask n b)) own possible))
  idle (event.Condemn y b) own possible = absurd ((buckets b).condemn (subst (λ (n : ℕ). IsPossible s (event.Condemn n b)) own possible))
  idle (event.Wipe y b) own possible = absurd ((buckets b).wipe (subst (λ (n : ℕ). IsPossible s (event.Wipe n b)) own possible))
  idle (event.Forget y b) own possible = absurd ((buckets b).forget (subst (λ (n : ℕ). IsPossible s (event.Forget n b)) own possible))
  idle (event.Restart y kept Service) own possible = absurd (restarts kept (subst (λ (n : ℕ). IsPossible s (event.Restart n kept Service)) own possible))
  idle e own possible = absurd own

  pub no_event : HasEvent s (actors.Service x) → ⊥
  no_event h = h.1.wanted (idle h.0 h.1.its_own h.1.possible)
