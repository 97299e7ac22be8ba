-- What a change at one set leaves of the facts about the others on which a recovery rests.
use Rattle.std.proofs.Common.{◌≡◌, ℕ, inl, inr, refl, sym, ap, subst, ◌∙◌, Option, Some, None}
use Rattle.std.specs.Prelude.{◌≢◌}
use Rattle.vs_space.specs.declared.status.Status.{Status}
use Rattle.vs_space.specs.declared.status.Status.TheVariants.{Active, Pinned, Sending, Receiving, Sent, Garbage}
use Rattle.vs_recover.specs.declared.decision.Decision.{Decision}
use Rattle.vs_recover.specs.declared.decision.Decision.TheVariants.{Stay, ToActive, ToGarbage}
use Rattle.vs_send.specs.declared.transfer.Transfer.{Transfer}
use Rattle.vs_machine.specs.Tables.{put}
use Rattle.vs_machine.specs.State.{Bucket}
use Rattle.vs_machine.specs.Coherence.{IsServing}
use Rattle.vs_machine.specs.Kinds.Connections.{decided}
use Rattle.vs_machine.specs.Inner.Asks.{AskFits, DecisionFits}
use Rattle.vs_machine.specs.Inner.Buckets.{BucketFits}
use Rattle.vs_machine.specs.Inner.Down.{IsStuck, IsWaiting}
use Rattle.vs_machine.specs.Inner.Phases.{PhaseFits}
use Rattle.vs_machine.proofs.Frame.{put_here, put_there}
use Rattle.vs_machine.proofs.Owners.{sending_owns}
use Rattle.vs_machine.proofs.Kept.Collecting.{IsLeft, IsSpent}
use Rattle.vs_machine.proofs.Kept.Taking.{IsOpenTo, no_phase}

-- the entry and the transfer of set z change, and the owner is o, and then p: what has to be shown of it.
-- A, S and T say what is known of another set, where the three facts are asked for
pub record Calm (A S T : ℕ → Type 0) (o p : ℕ) (has : ℕ → Option Status) (moves : ℕ → Option Transfer) (later : ℕ → Option Status) (next : ℕ → Option Transfer) (z : ℕ) : Type 0 where
  pub entries : (x : ℕ) → x ≢ z → later x ≡ has x
  pub transfers : (x : ℕ) → x ≢ z → next x ≡ moves x
  -- z doesn't begin to receive from a set that is sending without a transfer
  pub away : (x : ℕ) → A x → has x ≡ Some (Sending z) → moves x ≡ None → has z ≢ Some (Receiving x) → later z ≢ Some (Receiving x)
  -- z stays sending without a transfer while another receives from it
  pub still : (x : ℕ) → S x → has x ≡ Some (Receiving z) → has z ≡ Some (Sending x) → moves z ≡ None → (later z ≡ Some (Sending x)) × (next z ≡ None)
  -- z stays sending with a transfer that waits, or without one, while another may still take its rows
  pub stuck : (x : ℕ) → T x → IsOpenTo z (has x) → has z ≡ Some (Sending x) → IsStuck (moves z) → (later z ≡ Some (Sending x)) × IsStuck (next z)
  -- an owner that is receiving stays the owner
  pub owner : (x d : ℕ) → x ≢ z → has x ≡ Some (Receiving d) → o ≡ x → p ≡ x

module _ (A S T : ℕ → Type 0) (o : ℕ) (has : ℕ → Option Status) (moves : ℕ → Option Transfer) (x : ℕ) where
  -- only a transfer changes, at a set that can't ask
  pub phase_calm : (v : Option Transfer) → (AskFits (has x) (moves x) → ⊥) → ((w : ℕ) → T w → has x ≡ Some (Sending w) → IsStuck (moves x) → IsStuck v) → Calm A S T o o has moves has (put moves x v) x
  phase_calm v never waits = record {
    entries = λ w ne. refl;
    transfers = λ w ne. put_there moves x v w ne;
    away = λ w k h g n. n;
    still = λ w k h to free. absurd (never (subst (λ e. AskFits e (moves x)) (sym to) free));
    stuck = λ w k h to st. (to, subst IsStuck (sym (put_here moves x v)) (waits w k to st));
    owner = λ w d ne h e. e;
  }

  -- the transfer is gone, or nothing changes
  pub gone_calm : Calm A S T o o has moves has (put moves x None) x
  gone_calm = record {
    entries = λ w ne. refl;
    transfers = λ w ne. put_there moves x None w ne;
    away = λ w k h g n. n;
    still = λ w k h to free. (to, put_here moves x None);
    stuck = λ w k h to st. (to, subst IsStuck (sym (put_here moves x None)) tt);
    owner = λ w d ne h e. e;
  }

  pub same_calm : Calm A S T o o has moves has moves x
  same_calm = record { entries = λ w ne. refl; transfers = λ w ne. refl; away = λ w k h g n. n; still = λ w k h to free. (to, free); stuck = λ w k h to st. (to, st); owner = λ w d ne h e. e }

-- the entry of z changes, and isn't receiving
pub entry_calm : (A S T : ℕ → Type 0) (o p : ℕ) (has : ℕ → Option Status) (moves next : ℕ → Option Transfer) (z : ℕ) (e : Option Status) → ((w : ℕ) → e ≢ Some (Receiving w)) → ((x : ℕ) → x ≢ z → next x ≡ moves x)
    → ((x : ℕ) → S x → has x ≡ Some (Receiving z) → has z ≡ Some (Sending x) → moves z ≡ None → ⊥) → ((x : ℕ) → T x → IsOpenTo z (has x) → has z ≡ Some (Sending x) → IsStuck (moves z) → ⊥)
    → ((x d : ℕ) → x ≢ z → has x ≡ Some (Receiving d) → o ≡ x → p ≡ x) → Calm A S T o p has moves (put has z e) next z
entry_calm A S T o p has moves next z e other there never moved owner = record {
  entries = λ w ne. put_there has z e w ne;
  transfers = there;
  away = λ w u h g n k. other w (sym (put_here has z e) ∙ k);
  still = λ w u h to free. absurd (never w u h to free);
  stuck = λ w u h to st. absurd (moved w u h to st);
  owner = owner;
}

-- ---- each change of an entry

-- a set with a transfer hasn't asked
pub unasked : (n o : ℕ) (b : Bucket) (x : ℕ) (t : Transfer) → BucketFits n o b → b.transfer x ≡ Some t → AskFits (b.entry x) (b.transfer x) → ⊥
unasked n o b x t f at h = by (b.entry x) refl (f.transfers x t at).phase (subst (AskFits (b.entry x)) at h)
  where
    by : (e : Option Status) → b.entry x ≡ e → PhaseFits t.dest e t.phase → AskFits e (Some t) → ⊥
    by None is ph h = h
    by (Some Active) is ph h = h
    by (Some Pinned) is ph h = h
    by (Some (Sent d)) is ph h = h
    by (Some Garbage) is ph h = h
    by (Some (Sending d)) is ph h = absurd cc
    by (Some (Receiving d)) is ph h = no_phase t.dest (Some (Receiving d)) t.phase (λ e. absurd cc) (λ e. absurd cc) (λ e. absurd cc) ph

module _ (A S T : ℕ → Type 0) (o : ℕ) (b : Bucket) (x : ℕ) where
  -- a set that isn't sending gets an entry that isn't receiving
  settled_calm : (next : ℕ → Option Transfer) (e : Option Status) → ((w : ℕ) → w ≢ x → next w ≡ b.transfer w) → ((w : ℕ) → b.entry x ≢ Some (Sending w)) → ((w : ℕ) → e ≢ Some (Receiving w)) → Calm A S T o o b.entry b.transfer (put b.entry x e) next x
  settled_calm next e there was other = entry_calm A S T o o b.entry b.transfer next x e other there (λ w u h to free. absurd (was w to)) (λ w u h to st. absurd (was w to)) (λ w c ne h k. k)

  pub freeze_calm : (d : ℕ) (v : Option Transfer) → b.entry x ≡ Some Active → Calm A S T o o b.entry b.transfer (put b.entry x (Some (Sending d))) (put b.transfer x v) x
  freeze_calm d v active = settled_calm (put b.transfer x v) (Some (Sending d)) (λ w ne. put_there b.transfer x v w ne) (λ w to. absurd (cc (to, active))) (λ w k. absurd cc)

  pub froze_calm : (d : ℕ) → b.entry x ≡ Some Active → Calm A S T o o b.entry b.transfer (put b.entry x (Some (Sending d))) b.transfer x
  froze_calm d active = settled_calm b.transfer (Some (Sending d)) (λ w ne. refl) (λ w to. absurd (cc (to, active))) (λ w k. absurd cc)

  pub last_calm : (y : ℕ) → b.entry x ≡ Some (Receiving y) → Calm A S T o o b.entry b.transfer (put b.entry x (Some Active)) b.transfer x
  last_calm y from = settled_calm b.transfer (Some Active) (λ w ne. refl) (λ w to. absurd (cc (to, from))) (λ w k. absurd cc)

  pub pinned_calm : (e : Option Status) → IsServing (b.entry x) → IsServing e → Calm A S T o o b.entry b.transfer (put b.entry x e) b.transfer x
  pinned_calm e at serves = settled_calm b.transfer e (λ w ne. refl) (λ w to. subst IsServing to at) (λ w k. subst IsServing k serves)

  pub left_calm : (e : Option Status) → IsLeft (b.entry x) → IsSpent e → Calm A S T o o b.entry b.transfer (put b.entry x e) b.transfer x
  left_calm e left spent = settled_calm b.transfer e (λ w ne. refl) (λ w to. subst IsLeft to left) (λ w k. subst IsSpent k spent)

  -- x hands the bucket over, and p is its new owner
  pub seal_calm : (p d : ℕ) (t : Transfer) (v : Option Transfer) → x ≡ o → b.transfer x ≡ Some t → (IsWaiting t.phase → ⊥) → Calm A S T o p b.entry b.transfer (put b.entry x (Some (Sent d))) (put b.transfer x v) x
  seal_calm p d t v owns at ready = entry_calm A S T o p b.entry b.transfer (put b.transfer x v) x (Some (Sent d)) (λ w k. absurd cc) (λ w ne. put_there b.transfer x v w ne)
      (λ w u h to free. absurd (cc (at, free))) (λ w u h to st. ready (subst IsStuck at st)) (λ w c ne h e. absurd (ne (sym e ∙ sym owns)))

  pub handed_calm : (p d : ℕ) → x ≡ o → ((w : ℕ) → S w → b.transfer x ≡ None → ⊥) → ((w : ℕ) → T w → d ≡ w → ⊥) → b.entry x ≡ Some (Sending d) → Calm A S T o p b.entry b.transfer (put b.entry x (Some (Sent d))) b.transfer x
  handed_calm p d owns never apart sends = entry_calm A S T o p b.entry b.transfer b.transfer x (Some (Sent d)) (λ w k. absurd cc) (λ w ne. refl) (λ w u h to free. never w u free)
      (λ w u h to st. apart w u (cc (sends, to))) (λ w c ne h e. absurd (ne (sym e ∙ sym owns)))

-- y takes rows from x, which isn't sending without a transfer where that is asked for
pub page_calm : (A S T : ℕ → Type 0) (n o : ℕ) (b : Bucket) (x y : ℕ) → BucketFits n o b → b.entry x ≡ Some (Sending y) → IsOpenTo x (b.entry y) → (A x → b.transfer x ≡ None → ⊥) → Calm A S T o o b.entry b.transfer (put b.entry y (Some (Receiving x))) b.transfer y
page_calm A S T n o b x y f sends free moving = record {
  entries = λ w ne. put_there b.entry y _ w ne;
  transfers = λ w ne. refl;
  away = λ w u to none n k.
      let one : w ≡ x = sending_owns o b.entry w y f.placed to ∙ sym (sending_owns o b.entry x y f.placed sends) in
      moving (subst A one u) (subst (λ q. b.transfer q ≡ None) one none);
  still = λ w u g to none. absurd (not_sending w free to);
  stuck = λ w u g to st. absurd (not_sending w free to);
  owner = λ w d ne g e. e;
}
  where
    not_sending : (w : ℕ) → IsOpenTo x (b.entry y) → b.entry y ≡ Some (Sending w) → ⊥
    not_sending w (inl h) to = absurd (cc (h, to))
    not_sending w (inr h) to = absurd (cc (h, to))

pub decided_calm : (A S T : ℕ → Type 0) (o : ℕ) (b : Bucket) (x y : ℕ) (d : Decision) → DecisionFits o b.entry b.transfer x y d → ((w : ℕ) → T w → d ≡ ToActive → y ≡ w → ⊥) → Calm A S T o o b.entry b.transfer (decided b x d).entry (decided b x d).transfer x
decided_calm A S T o b x y Stay k apart = same_calm A S T o b.entry b.transfer x
decided_calm A S T o b x y ToActive k apart = entry_calm A S T o o b.entry b.transfer b.transfer x (Some Active) (λ w g. absurd cc) (λ w ne. refl) (λ w u g to free. never w g to k) (λ w u h to st. moved w u to k) (λ w c ne h e. e)
  where
    -- nobody receives from x, which is active again
    never : (w : ℕ) → b.entry w ≡ Some (Receiving x) → b.entry x ≡ Some (Sending w) → DecisionFits o b.entry b.transfer x y ToActive → ⊥
    never w g to (inl k) = let same : w ≡ y = cc (to, k.0) in k.2 (ap b.entry (sym same) ∙ g)
    never w g to (inr k) = absurd (cc (to, k.0))

    moved : (w : ℕ) → T w → b.entry x ≡ Some (Sending w) → DecisionFits o b.entry b.transfer x y ToActive → ⊥
    moved w u to (inl k) = apart w u refl (cc (to, k.0))
    moved w u to (inr k) = absurd (cc (to, k.0))
decided_calm A S T o b x y ToGarbage k apart = entry_calm A S T o o b.entry b.transfer b.transfer x (Some Garbage) (λ w g. absurd cc) (λ w ne. refl) (λ w u g to free. absurd (cc (to, k.0))) (λ w u h to st. absurd (cc (to, k.0))) (λ w c ne h e. e)
