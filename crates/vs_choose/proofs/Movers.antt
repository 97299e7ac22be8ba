-- Where a mover has no event.
use Rattle.std.proofs.Common.{◌≡◌, ℕ, suc, ◌≤◌, Bool, true, false, List, [], ◌∷◌, length, take, Option, Some, None, refl, sym, ap, subst, ◌∙◌, arith}
use Rattle.std.specs.Prelude.{◌↔◌, ◌&&◌, ◌||◌, nat_lt, slice_get, IfSome, IfNone, IsTrue}
use Rattle.std.specs.BTreeMap.{is_at}
use Rattle.std.specs.List.{list_any, All}
use Rattle.std.specs.Option.{SomeIff}
use Rattle.std.specs.Ordering.{nat_cmp}
use Rattle.std.proofs.lemmas.Bool.Decides.{nat_tests}
use Rattle.std.proofs.lemmas.Map.Entries.{place_from_lookup}
use Rattle.std.proofs.lemmas.List.{take_all}
use Rattle.std.proofs.lemmas.List.Elements.{All-same}
use Rattle.std.proofs.lemmas.Option.{get_or_from_slice_get, slice_get_within}
use Rattle.vs_balance.specs.declared.route.Route.{Route}
use Rattle.vs_table.specs.Entries.{value_of}
use Rattle.vs_send.specs.declared.transfer.Phase.{Phase}
use Rattle.vs_send.specs.declared.transfer.Phase.TheVariants as phase
use Rattle.vs_send.specs.declared.transfer.Transfer.{Transfer}
use Rattle.vs_event.specs.declared.event.Event.{Event}
use Rattle.vs_event.specs.declared.event.Event.TheVariants.{Haul, NotYet, Freeze, Chunk, Seal, Last, Abort, EndMove}
use Rattle.vs_machine.specs.Actors as actors
use Rattle.vs_machine.specs.Actors.{HasEvent, IsChoice, IsLeftAside, IsOf, IsPossible}
use Rattle.vs_machine.specs.Kinds.Rebalancing.{haul, is_route}
use Rattle.vs_machine.specs.Kinds.Sender.{freeze, chunk, seal, last, abort, end_move}
use Rattle.vs_machine.specs.Opening.{operator_at}
use Rattle.vs_machine.specs.State.{State, Operator}
use Rattle.vs_machine.proofs.Can.Others.{can_haul}
use Rattle.vs_machine.proofs.Can.Sender.{can_freeze, can_chunk, can_seal, can_last, can_abort, can_end_move}
use Rattle.vs_state.specs.declared.actors.OperatorTables.{OperatorTables}
use Rattle.vs_state.specs.declared.state.State as tables
use Rattle.vs_state.specs.declared.tables.SetTables.{SetTables}
use Rattle.vs_state.specs.Plain.{plain, operator, transfer_in}
use Rattle.vs_state.specs.Tables.{numbered}
use Rattle.vs_state.proofs.Numbered.{numbered_none, numbered_some}
use Rattle.vs_state.proofs.Routes.{some_left}
use Rattle.vs_choose.specs.Mover.{step_in, HasNoMove}
use Rattle.vs_choose.proofs.Chosen.{gives, if_refused, within}

-- ---- one bucket

-- a step is the mover's own
pub step_chosen : (s : State) (x b : ℕ) (p : Phase) → IfSome (step_in p x b) (λ e. IsPossible s e → IsChoice s (actors.Mover x) e)
step_chosen s x b (phase.Draining turns) = λ possible. record { its_own = refl; possible = possible; wanted = λ aside. aside }
step_chosen s x b (phase.Ready key) = λ possible. record { its_own = refl; possible = possible; wanted = λ aside. aside }
step_chosen s x b phase.Copied = λ possible. record { its_own = refl; possible = possible; wanted = λ aside. aside }
step_chosen s x b phase.Sealed = λ possible. record { its_own = refl; possible = possible; wanted = λ aside. aside }
step_chosen s x b phase.Done = λ possible. record { its_own = refl; possible = possible; wanted = λ aside. aside }
step_chosen s x b (phase.Waiting epoch number key) = tt
step_chosen s x b (phase.WaitingLast epoch number) = tt
step_chosen s x b (phase.Refused fault) = tt

-- where the transfer isn't given up, and the step of its phase isn't possible, nothing is
pub no_move : (s : State) (x b : ℕ) → (IsPossible s (Abort x b) → ⊥)
    → ((t : Transfer) (e : Event) → (s.bucket b).transfer x ≡ Some t → step_in t.phase x b ≡ Some e → IsPossible s e → ⊥)
    → HasNoMove s x b
no_move s x b stands none = record {
  freeze = λ possible.
      let g = gives (freeze s x b) possible in
      let can = can_freeze s g.0 x b g.1 in
      none can.u (Freeze x b) can.there (ap (λ p. step_in p x b) can.draining) possible;
  chunk = λ possible.
      let g = gives (chunk s x b) possible in
      let can = can_chunk s g.0 x b g.1 in
      none can.u (Chunk x b) can.there (ap (λ p. step_in p x b) can.ready) possible;
  seal = λ possible.
      let g = gives (seal s x b) possible in
      let can = can_seal s g.0 x b g.1 in
      none can.u (Seal x b) can.there (ap (λ p. step_in p x b) can.copied) possible;
  last = λ possible.
      let g = gives (last s x b) possible in
      let can = can_last s g.0 x b g.1 in
      none can.u (Last x b) can.there (ap (λ p. step_in p x b) can.sealed) possible;
  abort = stands;
  ends = λ possible.
      let g = gives (end_move s x b) possible in
      let can = can_end_move s g.0 x b g.1 in
      none can.u (EndMove x b) can.there (ap (λ p. step_in p x b) can.done) possible;
}

-- nor where there is no transfer
pub no_transfer : (s : State) (x b : ℕ) → (s.bucket b).transfer x ≡ None → HasNoMove s x b
no_transfer s x b gone = no_move s x b stands (λ t e there step possible. absurd (cc (gone, there)))
  where
    stands : IsPossible s (Abort x b) → ⊥
    stands possible =
        let g = gives (abort s x b) possible in
        let there = (can_abort s g.0 x b g.1).there in
        absurd (cc (gone, there))

-- the event of its phase was tried
pub bucket_none : (s : State) (x b : ℕ) (t : Transfer) (e : Event) (tried : Bool) (o : Option Event) → IsTrue tried ↔ IsPossible s (Abort x b) → tried ≡ false
    → Some t ≡ (s.bucket b).transfer x → Some e ≡ step_in t.phase x b → SomeIff o (IsPossible s e) e → IfNone o (HasNoMove s x b)
bucket_none s x b t e tried o told stands there is answer =
    if_refused o (IsPossible s e) e (HasNoMove s x b) answer
    (λ refused. no_move s x b (λ possible. let yes = told.1 possible in absurd (cc (yes, stands))) (λ u f at step possible. refused (subst (λ (g : Event). IsPossible s g) (same u f at step) possible)))
  where
    same : (u : Transfer) (f : Event) → (s.bucket b).transfer x ≡ Some u → step_in u.phase x b ≡ Some f → f ≡ e
    same u f at step =
        let one : u ≡ t = cc (at, there) in
        let by_t : step_in t.phase x b ≡ Some f = subst (λ (w : Transfer). step_in w.phase x b ≡ Some f) one step in
        cc (by_t, is)

-- ---- all that the table of the transfers has

same_key : (a b : ℕ) → is_at (nat_cmp a) b ≡ true → b ≡ a
same_key a b h = grind (arith, nat_tests, h)

-- what holds of as many as there are holds of all
all_taken : {A : Type 0} (P : A → Type 0) (xs : List A) (i : ℕ) → length xs ≤ i → All P (take i xs) → (k : ℕ) (x : A) → slice_get xs k ≡ Some x → P x
all_taken P xs i end taken k x at =
    let all : All P xs = All-same P xs (take i xs) (sym (take_all i xs end)) taken in
    subst P (get_or_from_slice_get xs k x x at) (all k x (slice_get_within xs k x at))

no_moves : (s : State) (x : ℕ) (es : List (ℕ × Transfer)) → ((b : ℕ) → (s.bucket b).transfer x ≡ value_of nat_cmp es b)
    → ((k : ℕ) (e : ℕ × Transfer) → slice_get es k ≡ Some e → HasNoMove s x e.0) → (b : ℕ) → HasNoMove s x b
no_moves s x es read tried b = by (value_of nat_cmp es b) refl
  where
    by : (o : Option Transfer) → value_of nat_cmp es b ≡ o → HasNoMove s x b
    by None is = no_transfer s x b (read b ∙ is)
    by (Some t) is =
        let place = place_from_lookup (is_at (nat_cmp b)) es t is in
        subst (λ (n : ℕ). HasNoMove s x n) (same_key b place.1 place.3) (tried place.0 (place.1, t) place.2)

module _ (st : tables.State) (x : ℕ) where
  -- each entry of the set's table was tried
  pub table_moves : (t : SetTables) (es : List (ℕ × Transfer)) (i : ℕ) → Some t ≡ numbered Some None st.sets.items x → es ≡ t.transfers.items → length es ≤ i
      → All (λ e. HasNoMove (plain st) x e.0) (take i es) → (b : ℕ) → HasNoMove (plain st) x b
  table_moves t es i there all end tried = no_moves (plain st) x es read (all_taken (λ (e : ℕ × Transfer). HasNoMove (plain st) x e.0) es i end tried)
    where
      read : (b : ℕ) → ((plain st).bucket b).transfer x ≡ value_of nat_cmp es b
      read b = numbered_some (λ u. transfer_in u b) None st.sets.items x t (sym there) ∙ ap (λ (fs : List (ℕ × Transfer)). value_of nat_cmp fs b) (sym all)

  -- the cluster has no such set
  pub no_table : None ≡ numbered Some None st.sets.items x → (b : ℕ) → HasNoMove (plain st) x b
  no_table gone b = no_transfer (plain st) x b (numbered_none (λ u. transfer_in u b) None st.sets.items x (sym gone))

-- ---- routes

any_place : {A : Type 0} (p : A → Bool) (xs : List A) → list_any p xs ≡ true → (k : ℕ) × (x : A) × (slice_get xs k ≡ Some x) × (p x ≡ true)
any_place p [] h = absurd (cc h)
any_place {A = A} p (x ∷ xs) h = by (p x) refl (λ rest. any_place p xs rest) h
  where
    by : (t : Bool) → p x ≡ t → (list_any p xs ≡ true → (k : ℕ) × (y : A) × (slice_get xs k ≡ Some y) × (p y ≡ true))
        → (t || list_any p xs) ≡ true → (k : ℕ) × (y : A) × (slice_get (x ∷ xs) k ≡ Some y) × (p y ≡ true)
    by true is later h = (0, x, refl, is)
    by false is later h = let found = later h in (suc found.0, found.1, found.2, found.3)

leads : (x d n : ℕ) (r : Route) → (is_route x d r && nat_lt 0 n) ≡ true → (r.giver ≡ x) × (r.taker ≡ d)
leads x d n r h = (grind (arith, nat_tests, h), grind (arith, nat_tests, h))

-- where no route of the operator's round leads to a haul from set x, none is possible
pub no_haul : (s : State) (o x : ℕ) → ((k : ℕ) (r : Route) → slice_get (s.operator o).routes k ≡ Some r → r.giver ≡ x → IsPossible s (Haul o x r.taker) → ⊥)
    → (d : ℕ) → IsPossible s (Haul o x d) → ⊥
no_haul s o x tried d possible =
    let g = gives (haul s o x d) possible in
    let some = sym (some_left (s.operator o).routes x d) ∙ (can_haul s g.0 o x d g.1).left in
    let place = any_place (λ r. is_route x d r && nat_lt 0 r.number) (s.operator o).routes some in
    let ends = leads x d place.1.number place.1 place.3 in
    tried place.0 place.1 place.2 ends.0 (subst (λ (n : ℕ). IsPossible s (Haul o x n)) (sym ends.1) possible)

module _ (st : tables.State) (o x : ℕ) where
  -- each route of the operator's round was tried
  pub route_hauls : (t : OperatorTables) (rs : List Route) (i : ℕ) → Some t ≡ numbered Some None st.operators.items o → rs ≡ t.routes.items → length rs ≤ i
      → All (λ r. r.giver ≡ x → IsPossible (plain st) (Haul o x r.taker) → ⊥) (take i rs) → (d : ℕ) → IsPossible (plain st) (Haul o x d) → ⊥
  route_hauls t rs i there all end tried = no_haul (plain st) o x
      (λ k r at. all_taken (λ (q : Route). q.giver ≡ x → IsPossible (plain st) (Haul o x q.taker) → ⊥) rs i end tried k r (subst (λ (qs : List Route). slice_get qs k ≡ Some r) same at))
    where
      same : ((plain st).operator o).routes ≡ rs
      same = ap (λ (p : Operator). p.routes) (numbered_some operator (operator_at []) st.operators.items o t (sym there)) ∙ sym all

  -- the cluster has no such operator
  pub no_operator : None ≡ numbered Some None st.operators.items o → (d : ℕ) → IsPossible (plain st) (Haul o x d) → ⊥
  no_operator gone = no_haul (plain st) o x (λ k r at. absurd (cc (subst (λ (qs : List Route). slice_get qs k ≡ Some r) none at)))
    where
      none : ((plain st).operator o).routes ≡ []
      none = ap (λ (p : Operator). p.routes) (numbered_none operator (operator_at []) st.operators.items o (sym gone))

-- hauls are of operators of the cluster
pub no_hauls : (s : State) (x : ℕ) → ((o : ℕ) → 1 ≤ o → o ≤ s.operators → (d : ℕ) → IsPossible s (Haul o x d) → ⊥) → (o d : ℕ) → IsPossible s (Haul o x d) → ⊥
no_hauls s x tried o d possible =
    let g = gives (haul s o x d) possible in
    let known = (can_haul s g.0 o x d g.1).operator in
    tried o (within s.operators o known).0 (within s.operators o known).1 d possible

-- ---- the whole

module _ (s : State) (x : ℕ) (moves : (b : ℕ) → HasNoMove s x b) (hauls : (o d : ℕ) → IsPossible s (Haul o x d) → ⊥) where
  idle : (e : Event) → IsOf (actors.Mover x) e → IsPossible s e → IsLeftAside s e
  idle (Haul o y d) own possible = absurd (hauls o d (subst (λ (n : ℕ). IsPossible s (Haul o n d)) own possible))
  idle (NotYet y b) own possible = tt
  idle (Freeze y b) own possible = absurd ((moves b).freeze (subst (λ (n : ℕ). IsPossible s (Freeze n b)) own possible))
  idle (Chunk y b) own possible = absurd ((moves b).chunk (subst (λ (n : ℕ). IsPossible s (Chunk n b)) own possible))
  idle (Seal y b) own possible = absurd ((moves b).seal (subst (λ (n : ℕ). IsPossible s (Seal n b)) own possible))
  idle (Last y b) own possible = absurd ((moves b).last (subst (λ (n : ℕ). IsPossible s (Last n b)) own possible))
  idle (Abort y b) own possible = absurd ((moves b).abort (subst (λ (n : ℕ). IsPossible s (Abort n b)) own possible))
  idle (EndMove y b) own possible = absurd ((moves b).ends (subst (λ (n : ℕ). IsPossible s (EndMove n b)) own possible))
  idle e own possible = absurd own

  pub no_mover_event : HasEvent s (actors.Mover x) → ⊥
  no_mover_event h = h.1.wanted (idle h.0 h.1.its_own h.1.possible)
