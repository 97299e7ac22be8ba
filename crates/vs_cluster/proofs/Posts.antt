-- How a post goes, by what is known of the client's call and the set.
use Rattle.std.proofs.Common.{◌≡◌, ℕ, ◌≤◌, Bool, true, false, Option, Some, None, refl, sym, subst, ◌∙◌, inl, inr, arith}
use Rattle.std.specs.Prelude.{◌↔◌, ◌⊎◌, not}
use Rattle.vs_cluster.specs.Steering.{GoesSo, allows, is_hinted}
use Rattle.vs_cluster.specs.declared.steering.Steering.TheVariants.{First, Granted, Stranded, Hinted, Unsteered}
use Rattle.vs_machine.specs.Actors.{IsByHintAlone, IsHinted, IsSteered, IsStranded, WouldGrant}
use Rattle.vs_machine.specs.Driven.{GoesByHint, IsPostAllowed}
use Rattle.vs_machine.specs.State.{State, next_call}
use Rattle.vs_script.specs.Calls.{Call}

some_is : (k h : Call) → ◌≡◌ {A = Option Call} (Some k) (Some h) → k ≡ h
some_is k h e = cc

module _ (s : State) (c x : ℕ) where
  -- it isn't a further post
  pub no_call : next_call (s.client c) ≡ None → GoesSo s c x First
  no_call none = record {
    allowed = λ by_hint. (λ e. record { steered = λ k is further. absurd (cc (is, none)); not_both = λ on by. absurd (cc (by.called, none)) }, λ h. refl);
    hinted = (λ e. absurd (cc e), λ by. absurd (cc (by.called, none)));
  }

  pub first_post : (s.client c).present.tries ≡ 0 → GoesSo s c x First
  first_post first = record {
    allowed = λ by_hint. (λ e. record { steered = λ k is further. absurd (omega (arith, first, further)); not_both = λ on by. absurd (omega (arith, first, by.further)) }, λ h. refl);
    hinted = (λ e. absurd (cc e), λ by. absurd (omega (arith, first, by.further)));
  }

  module _ (k : Call) (called : next_call (s.client c) ≡ Some k) where
    -- what holds of this call holds of the client's next
    of_next : (P : Call → Type 0) → P k → (h : Call) → next_call (s.client c) ≡ Some h → P h
    of_next P here h is = subst P (some_is k h (sym called ∙ is)) here

    alone : (by : GoesByHint s c x) → IsByHintAlone s c x k
    alone by = subst (λ (h : Call). IsByHintAlone s c x h) (some_is by.call k (sym by.called ∙ called)) by.alone

    pub granted : WouldGrant s x k → GoesSo s c x Granted
    granted grants = record {
      allowed = λ by_hint. (
        λ e. record { steered = λ h is further. inl (of_next (λ (q : Call). WouldGrant s x q) grants h is); not_both = λ on by. (alone by).refused grants },
        λ h. refl,
      );
      hinted = (λ e. absurd (cc e), λ by. absurd ((alone by).refused grants));
    }

    pub stranded : IsStranded s k → GoesSo s c x Stranded
    stranded is_so = record {
      allowed = λ by_hint. (
        λ e. record { steered = λ h is further. inr (inr (of_next (λ (q : Call). IsStranded s q) is_so h is)); not_both = λ on by. (alone by).moving is_so },
        λ h. refl,
      );
      hinted = (λ e. absurd (cc e), λ by. absurd ((alone by).moving is_so));
    }

    module _ (further : 1 ≤ (s.client c).present.tries) (refused : WouldGrant s x k → ⊥) (moving : IsStranded s k → ⊥) where
      pub hinted : IsHinted s c x → GoesSo s c x Hinted
      hinted hint = record {
        allowed = λ by_hint. (by_flag by_hint, only by_hint);
        hinted = (λ e. goes, λ by. refl);
      }
        where
          goes : GoesByHint s c x
          goes = record { call = k; called = called; further = further; alone = record { hinted = hint; refused = refused; moving = moving } }

          by_flag : (by_hint : Bool) → not by_hint ≡ true → IsPostAllowed s by_hint c x
          by_flag true e = absurd (cc e)
          by_flag false e = record { steered = λ h is more. inr (inl hint); not_both = λ on by. absurd (cc on) }

          only : (by_hint : Bool) → IsPostAllowed s by_hint c x → not by_hint ≡ true
          only true allowed = absurd (allowed.not_both refl goes)
          only false allowed = refl

      no_way : (IsHinted s c x → ⊥) → IsSteered s c x k → ⊥
      no_way no_hint (inl grants) = refused grants
      no_way no_hint (inr (inl hint)) = no_hint hint
      no_way no_hint (inr (inr is_so)) = moving is_so

      pub unsteered : (IsHinted s c x → ⊥) → GoesSo s c x Unsteered
      unsteered no_hint = record {
        allowed = λ by_hint. (λ e. absurd (cc e), λ allowed. absurd (no_way no_hint (allowed.steered k called further)));
        hinted = (λ e. absurd (cc e), λ by. absurd (no_hint (alone by).hinted));
      }
