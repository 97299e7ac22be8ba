-- A call that acts.
use Rattle.std.proofs.Common.{◌≡◌, ℕ, zero, suc, ◌≤◌, true, [], List, Option, Some, None, Ok, refl, sym, ap, subst, ◌∙◌, arith, unwrap_or}
use Rattle.std.specs.Prelude.{◌≢◌, slice_get}
use Rattle.std.specs.Option.{option_map_or}
use Rattle.std.proofs.lemmas.Bool.Decides.{nat_tests}
use Rattle.vs_base.specs.declared.numbers.Mode.{Mode}
use Rattle.vs_base.specs.declared.numbers.Mode.TheVariants.{Ro, Rw}
use Rattle.vs_base.specs.Listed.{Listed}
use Rattle.vs_calls.specs.Progress.{is_running}
use Rattle.vs_history.specs.History.{write_count}
use Rattle.vs_record.specs.RowTable.{Places, rows_at, row_map_at}
use Rattle.vs_rows.specs.RowMap.{RowMap}
use Rattle.vs_rows.specs.declared.op.Op.{Op}
use Rattle.vs_script.specs.Calls.{Call}
use Rattle.vs_space.specs.declared.status.Status.{Status}
use Rattle.vs_space.specs.declared.status.Status.TheVariants.{Active, Pinned, Sending, Receiving, Sent, Garbage}
use Rattle.vs_machine.specs.State as machine
use Rattle.vs_machine.specs.Coherence.{IsServing}
use Rattle.vs_machine.specs.Inner.Calls.{HoldFits, ReadFits, is_held_at}
use Rattle.vs_machine.specs.Kinds.Calls.{act, after_act, place_of, place_by}
use Rattle.vs_state.specs.Guard.{verdict}
use Rattle.vs_state.specs.Plain.{plain}
use Rattle.vs_state.specs.declared.state.State.{State}
use Rattle.vs_state.specs.declared.tables.SetTables.{SetTables}
use Rattle.vs_rows.specs.Changes.{with_changes}
use Rattle.vs_rows.specs.Operations.{answers_to, rows_after}
use Rattle.vs_rows.specs.Said.{said_all}
use Rattle.vs_core.specs.declared.kinds.act.PreparedAct.{PreparedAct}
use Rattle.vs_core.specs.Acting.{stored, stored_at, no_rows, HasHistoryRoom, IsPrepared, IsActReady, IsStaged}
use Rattle.vs_core.specs.Keeps.{IsKnown}
use Rattle.vs_core.proofs.Frame.{put_here, put_twice}
use Rattle.vs_core.proofs.Stages.{running_holds}

-- ---- two writes of one bucket are one

pub twice : (s : machine.State) (b : ℕ) (first : machine.Bucket) (f : machine.Bucket → machine.Bucket) → machine.put_bucket (machine.put_bucket s b first) b (f ((machine.put_bucket s b first).bucket b)) ≡ machine.put_bucket s b (f first)
twice s b first f = ap (λ v. machine.put_bucket (machine.put_bucket s b first) b (f v)) (put_here s.bucket b first) ∙ (λ i. record s { bucket = put_twice s.bucket b first (f first) i })

-- ---- the rows that are stored

items_of : (places : Places) (b : ℕ) → (stored places b).items ≡ row_map_at places b
items_of places b = by (rows_at places b)
  where
    by : (o : Option (Listed (List ℕ × List ℕ))) → (unwrap_or o no_rows).items ≡ option_map_or (λ rows. rows.items) o []
    by None = refl
    by (Some rows) = refl

pub stored_is : (s : State) (x b : ℕ) → (stored_at s x b).items ≡ ((plain s).bucket b).rows x
stored_is s zero b = refl
stored_is s (suc k) b = by (slice_get s.sets.items k)
  where
    by : (o : Option SetTables) → (option_map_or (λ t. stored t.rows b) o no_rows).items ≡ option_map_or (λ t. row_map_at t.rows b) o []
    by None = refl
    by (Some t) = items_of t.rows b

-- ---- what is known of a call that runs

pub act_runs : (s : machine.State) (c : ℕ) → verdict (act s c) ≡ Ok tt → is_running (s.client c).present.stage ≡ true
act_runs s c h = grind (arith, h)

pub act_client : (s : machine.State) (c : ℕ) → verdict (act s c) ≡ Ok tt → machine.has_client s c ≡ true
act_client s c h = grind (arith, h)

pub act_is : (s : machine.State) (c x : ℕ) (k : Call) → verdict (act s c) ≡ Ok tt → machine.next_call (s.client c) ≡ Some k → (s.client c).present.set ≡ Some x → act s c ≡ Ok (after_act s c k x)
act_is s c x k h next set = grind (arith, h, next, set)

is_mode-other : (m : Mode) → m ≢ Ro → m ≡ Rw
is_mode-other Ro ne = absurd (ne refl)
is_mode-other Rw ne = refl

pub write_mode : (m : Mode) → m ≢ Ro → m ≡ Rw
write_mode = is_mode-other

pub held_entry : (b : machine.Bucket) (x : ℕ) (m : Mode) (p : ℕ) (e : Option Status) → b.entry x ≡ e → HoldFits b x m p → b.entry x ≢ None
held_entry b x m p None is h none = by m h
  where
    by : (m : Mode) → HoldFits b x m p → ⊥
    by Ro h = subst (λ e. ReadFits e (b.rows x) b.history (b.kept x) p) is h
    by Rw h = subst IsServing is h
held_entry b x m p (Some st) is h none = absurd (cc (sym is ∙ none))

module _ (s : machine.State) (known : IsKnown s) (c x : ℕ) (k : Call) (runs : is_running (s.client c).present.stage ≡ true) (next : machine.next_call (s.client c) ≡ Some k) (set : (s.client c).present.set ≡ Some x) where
  held : is_held_at (s.client c).present x ≡ true
  held =
      let h = running_holds (s.client c).present.stage runs in
      grind (arith, nat_tests, h, set)

  fits : HoldFits (s.bucket k.bucket) x k.mode (s.client c).present.writes
  fits = known.whole.inner.clients c k x next held

  pub known_set : machine.has_set s x ≡ true
  known_set =
      let within = known.whole.bounds k.bucket x (held_entry (s.bucket k.bucket) x k.mode (s.client c).present.writes ((s.bucket k.bucket).entry x) refl fits) in
      grind (arith, nat_tests, within.0, within.1)

  pub known_place : k.mode ≡ Ro → place_of (s.bucket k.bucket) x k.mode ≤ write_count (s.bucket k.bucket).history
  known_place ro = subst (λ m. place_of (s.bucket k.bucket) x m ≤ write_count (s.bucket k.bucket).history) (sym ro) (by ((s.bucket k.bucket).entry x) (subst (λ m. HoldFits (s.bucket k.bucket) x m (s.client c).present.writes) ro fits))
    where
      by : (e : Option Status) → ReadFits e ((s.bucket k.bucket).rows x) (s.bucket k.bucket).history ((s.bucket k.bucket).kept x) (s.client c).present.writes → place_by (s.bucket k.bucket) x e ≤ write_count (s.bucket k.bucket).history
      by None h = absurd h
      by (Some Active) h = omega arith
      by (Some Pinned) h = omega arith
      by (Some (Sending d)) h = omega arith
      by (Some (Receiving z)) h = absurd h
      by (Some (Sent d)) h = h.within
      by (Some Garbage) h = absurd h

-- ---- what was made ready

module _ (s : State) (c x : ℕ) (k : Call) (p : PreparedAct) (ready : IsActReady s c p) (next : machine.next_call ((plain s).client c) ≡ Some k) (set : ((plain s).client c).present.set ≡ Some x) where
  pub prepared : IsPrepared (stored_at s x k.bucket) k.ops p
  prepared = ready.prepared k x next set

  pub ready_answers : said_all p.answers.items ≡ answers_to (((plain s).bucket k.bucket).rows x) p.ops.items
  ready_answers = prepared.staged.answers ∙ ap (λ (rows : RowMap). answers_to rows k.ops) (stored_is s x k.bucket) ∙ ap (answers_to (((plain s).bucket k.bucket).rows x)) (sym prepared.ops_are)

  pub ready_said : said_all p.said.items ≡ answers_to (((plain s).bucket k.bucket).rows x) k.ops
  ready_said = prepared.said ∙ ap (λ (rows : RowMap). answers_to rows k.ops) (stored_is s x k.bucket)

  pub ready_changes : with_changes (((plain s).bucket k.bucket).rows x) p.changes.items ≡ rows_after (((plain s).bucket k.bucket).rows x) p.ops.items
  ready_changes = subst (λ (rows : RowMap). with_changes rows p.changes.items ≡ rows_after rows k.ops) (stored_is s x k.bucket) prepared.staged.changes ∙ ap (rows_after (((plain s).bucket k.bucket).rows x)) (sym prepared.ops_are)

-- ---- what is made ready

-- what was staged, with copies of the operations and of the answers
pub prepared_is : (rows : Listed (List ℕ × List ℕ)) (ops : List Op) (p : PreparedAct) → p.ops.items ≡ ops → said_all p.said.items ≡ said_all p.answers.items
    → IsStaged rows p.ops.items (record { changes = p.changes; answers = p.answers }) → IsPrepared rows ops p
prepared_is rows ops p same said staged =
    let st : IsStaged rows ops (record { changes = p.changes; answers = p.answers }) = subst (λ ops. IsStaged rows ops (record { changes = p.changes; answers = p.answers })) same staged in
    record { ops_are = same; staged = st; said = said ∙ st.answers }

pub act_ready : (s : State) (c x : ℕ) (k : Call) (p : PreparedAct) → machine.next_call ((plain s).client c) ≡ Some k → ((plain s).client c).present.set ≡ Some x
    → IsPrepared (stored_at s x k.bucket) k.ops p → HasHistoryRoom s k.bucket → IsActReady s c p
act_ready s c x k p next set prepared room = record {
  prepared = λ j y next' set'.
      let call : k ≡ j = cc (next, next') in
      let at : x ≡ y = cc (set, set') in
      subst (λ j. IsPrepared (stored_at s y j.bucket) j.ops p) call (subst (λ y. IsPrepared (stored_at s y k.bucket) k.ops p) at prepared);
  history = λ j next'. let call : k ≡ j = cc (next, next') in subst (λ j. HasHistoryRoom s j.bucket) call room;
}
