-- A set that asks another about a bucket.
use Rattle.std.proofs.Common.{◌≡◌, ℕ, ◌≤◌, ◌==◌, List, Option, Some, None, Ok, true, refl, sym, ap, subst, ◌∙◌, if◌then◌else◌, arith}
use Rattle.std.proofs.lemmas.Bool.Decides.{nat_tests}
use Rattle.vs_recover.specs.Asks.{ask_of, Sets}
use Rattle.vs_machine.specs.State as machine
use Rattle.vs_machine.specs.Kinds.Connections.{asked_set}
use Rattle.vs_machine.specs.Kinds.Recovery.{ask, after_ask}
use Rattle.vs_machine.proofs.Linked.{are_linked}
use Rattle.vs_state.specs.declared.state.State.{State}
use Rattle.vs_state.specs.declared.tables.SetTables.{SetTables}
use Rattle.vs_state.specs.Guard.{verdict}
use Rattle.vs_state.specs.Plain.{plain}
use Rattle.vs_state.specs.Tables.{numbered}
use Rattle.vs_core.specs.Asking.{HasAskRoom, IsAskReady}
use Rattle.vs_core.specs.Cells.{cell, HasCell, SameRefs}
use Rattle.vs_core.specs.Keeps.{IsKnown, IsSound}
use Rattle.vs_core.specs.Sending.{HasLineRoom}
use Rattle.vs_core.proofs.Sets.{IsSlot, written, cell_written, sound_written, with_ask_is}

turned : (x y : ℕ) → (x == y) ≡ (y == x)
turned x y = grind (arith, nat_tests)

-- asks in which one is written
pub ask_set : (old new : List (ℕ × (ℕ × ℕ))) (id : ℕ) (a : Option (ℕ × ℕ)) → Sets old new id a → (q : ℕ) → ask_of new q ≡ (if q == id then a else ask_of old q)
ask_set old new id a sets q = sets q ∙ ap (λ t. if t then a else ask_of old q) (turned id q)

-- ---- the tables of a set

module _ (s : State) (x k : ℕ) (t u : SetTables) (o : IsSlot s x k t) (b : ℕ) (a : Option machine.Ask) (h : HasCell t u b (record (cell t b) { ask = a })) where
  pub ask_written : plain (written s k u) ≡ machine.put_bucket (plain s) b (machine.with_ask ((plain s).bucket b) x a)
  ask_written = cell_written s x k t u o b (λ v. record v { ask = a }) h ∙ ap (machine.put_bucket (plain s) b) (with_ask_is ((plain s).bucket b) x a)

  pub sound_ask : SameRefs t u → IsSound s → IsSound (written s k u)
  sound_ask r i = sound_written s x k t u o b (record (cell t b) { ask = a }) h r refl refl i

-- ---- an ask that is possible

module _ (s : machine.State) (x b : ℕ) (h : verdict (ask s x b) ≡ Ok tt) where
  pub ask_from : machine.has_set s x ≡ true
  ask_from = grind (arith, h)

  module _ (y : ℕ) (named : asked_set ((s.bucket b).entry x) ≡ Some y) where
    pub ask_is : ask s x b ≡ Ok (after_ask s x b y)
    ask_is = grind (arith, h, named)

-- there is a connection to the set that an entry names
pub asked_link : (s : machine.State) → IsKnown s → (x b y : ℕ) → asked_set ((s.bucket b).entry x) ≡ Some y → machine.is_link s x y ≡ true
asked_link s known x b y named = (are_linked known.own s known.whole.inner known.whole.bounds).asks b x y named

-- the set that is asked is the one for which room was made; r is the state in between
pub ask_ready : (s r t : State) (x b y : ℕ) → plain t ≡ plain s → asked_set (((plain s).bucket b).entry x) ≡ Some y → t.sets ≡ r.sets → HasAskRoom r x → HasLineRoom t.links x y → IsAskReady t x b
ask_ready s r t x b y same named sets room line = record {
  ask = subst (λ sets. (w : SetTables) → numbered Some None sets.items x ≡ Some w → 1 ≤ w.asks.room) (sym sets) room;
  line = λ z there.
      let both : Some y ≡ Some z = sym named ∙ ap (λ (m : machine.State). asked_set ((m.bucket b).entry x)) (sym same) ∙ there in
      let one : y ≡ z = cc in
      subst (HasLineRoom t.links x) one line;
}
