-- What a client's call holds, and the references once it took one or gave it back.
use Rattle.std.proofs.Common.{◌≡◌, ℕ, Bool, true, false, Some, None, refl, sym, ap, ◌∙◌, arith}
use Rattle.std.specs.Prelude.{◌&&◌}
use Rattle.std.proofs.lemmas.Bool.Decides.{nat_tests}
use Rattle.vs_base.specs.declared.numbers.Mode.{Mode}
use Rattle.vs_calls.specs.Progress.{is_held}
use Rattle.vs_script.specs.Calls.{Call}
use Rattle.vs_refs.specs.Calls.{Take, Give, after}
use Rattle.vs_refs.specs.Calls as refs
use Rattle.vs_machine.specs.State as machine
use Rattle.vs_machine.specs.Tables.{put}
use Rattle.vs_machine.specs.Inner.Calls.{is_held_at}
use Rattle.vs_machine.specs.Kinds.Rebalancing.{hauls_at}
use Rattle.vs_state.specs.declared.actors.ClientTables.{ClientTables}
use Rattle.vs_state.specs.declared.state.State.{State}
use Rattle.vs_state.specs.Agrees.{Agrees, agreed}
use Rattle.vs_state.specs.Plain.{plain}
use Rattle.vs_state.specs.Sized.{IsSized}
use Rattle.vs_core.specs.Keeps.{IsKnown, IsSound}
use Rattle.vs_core.specs.References.{AgreesWith, MakesAt}
use Rattle.vs_core.proofs.Acting.{held_entry}
use Rattle.vs_core.proofs.Clients.{IsClient, with_client, sized_with}
use Rattle.vs_core.proofs.Counting.{IsFree, IsHolding, agreed_given, agreed_kept, agreed_taken}

-- ---- by its stage, its set and its bucket

and_false : (e : Bool) → (e && false) ≡ false
and_false true = refl
and_false false = refl

module _ (v : machine.Client) where
  pub holding_is : (x : ℕ) (k : Call) → is_held v.present.stage ≡ true → v.present.set ≡ Some x → machine.next_call v ≡ Some k → IsHolding v x k.bucket k.mode
  holding_is x k held set next = record { one = λ p y q i. held i && machine.is_set (set i) y && machine.is_call_of p q (next i) }

  pub free_by_stage : is_held v.present.stage ≡ false → IsFree v
  free_by_stage held = record { none = λ p y q i. held i && machine.is_set v.present.set y && machine.is_call_of p q (machine.next_call v) }

  pub free_by_set : v.present.set ≡ None → IsFree v
  free_by_set set = record {
    none = λ p y q. (λ i. is_held v.present.stage && machine.is_set (set i) y && machine.is_call_of p q (machine.next_call v))
        ∙ ap (λ e. e && machine.is_call_of p q (machine.next_call v)) (and_false (is_held v.present.stage));
  }

  pub free_by_call : machine.next_call v ≡ None → IsFree v
  free_by_call next = record {
    none = λ p y q. (λ i. is_held v.present.stage && machine.is_set v.present.set y && machine.is_call_of p q (next i))
        ∙ and_false (is_held v.present.stage && machine.is_set v.present.set y);
  }

-- what a call holds a reference at is a set of the cluster
pub held_set : (s : machine.State) → IsKnown s → (c x : ℕ) (k : Call) → is_held (s.client c).present.stage ≡ true → machine.next_call (s.client c) ≡ Some k → (s.client c).present.set ≡ Some x → machine.has_set s x ≡ true
held_set s known c x k holds next set =
    let held : is_held_at (s.client c).present x ≡ true = grind (arith, nat_tests, holds, set) in
    let within = known.whole.bounds k.bucket x (held_entry (s.bucket k.bucket) x k.mode (s.client c).present.writes ((s.bucket k.bucket).entry x) refl (known.whole.inner.clients c k x next held)) in
    grind (arith, nat_tests, within.0, within.1)

-- ---- the references agree with what the client's call becomes

module _ (s : State) (c : ℕ) (v : machine.Client) (client : machine.has_client (plain s) c ≡ true) (a : Agrees s) where
  pub agrees_free : IsFree ((plain s).client c) → IsFree v → AgreesWith s (machine.put_client (plain s) c v)
  agrees_free before later = record {
    counts = λ y q. a.counts y q ∙ sym (agreed_kept (plain s) c v client y q (λ p. later.none p y q ∙ sym (before.none p y q)));
    hauls = a.hauls;
  }

  module _ (m : State) (x b : ℕ) (mode : Mode) where
    agrees_made : (call : refs.Call) → MakesAt s m x call → ((q : ℕ) → (λ y. agreed (machine.put_client (plain s) c v) y q) ≡ put (λ y. agreed (plain s) y q) x (after call q (agreed (plain s) x q))) → AgreesWith m (machine.put_client (plain s) c v)
    agrees_made call made becomes = record {
      counts = λ y q. ap (λ (f : ℕ → _). f y) (made.counts q) ∙ (λ i. put (λ z. a.counts z q i) x (after call q (a.counts x q i)) y) ∙ sym (ap (λ (f : ℕ → _). f y) (becomes q));
      hauls = λ y. ap (λ (f : ℕ → _). f y) made.hauls ∙ a.hauls y;
    }

    pub agrees_taken : MakesAt s m x (Take b mode) → IsFree ((plain s).client c) → IsHolding v x b mode → AgreesWith m (machine.put_client (plain s) c v)
    agrees_taken made free holding = agrees_made (Take b mode) made (λ q. agreed_taken (plain s) c v client x b free mode q holding)

    pub agrees_given : MakesAt s m x (Give b mode) → IsHolding ((plain s).client c) x b mode → IsFree v → AgreesWith m (machine.put_client (plain s) c v)
    agrees_given made holding free = agrees_made (Give b mode) made (λ q. agreed_given (plain s) c v client x b free mode q holding)

-- the client becomes what the references agree with already
pub sound_client : (m : State) (c k : ℕ) (t u : ClientTables) (n : machine.State) → IsClient m c k t → plain (with_client m k u) ≡ n → AgreesWith m n → IsSized m → IsSound (with_client m k u)
sound_client m c k t u n o becomes a sized = record {
  sized = sized_with m c k t u o sized;
  agrees = record {
    counts = λ y q. a.counts y q ∙ ap (λ (w : machine.State). agreed w y q) (sym becomes);
    hauls = λ y. a.hauls y ∙ ap (λ (w : machine.State). hauls_at w y) (sym becomes);
  };
}
