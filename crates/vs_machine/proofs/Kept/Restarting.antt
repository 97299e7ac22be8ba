-- A set is up again, with its pending change or without it.
use Rattle.std.proofs.Common.{◌≡◌, ℕ, ◌≤◌, Bool, true, false, refl, sym, ap, subst, ◌∙◌, List, Option, Some, None, Ok}
use Rattle.std.specs.Prelude.{◌≢◌, ◌&&◌, if◌then◌else◌}
use Rattle.std.proofs.lemmas.List.Elements.{All-nil}
use Rattle.vs_base.specs.declared.numbers.Mode.{Mode}
use Rattle.vs_base.specs.declared.numbers.Mode.TheVariants.{Ro, Rw}
use Rattle.vs_rows.specs.RowMap.{RowMap}
use Rattle.vs_space.specs.declared.status.Status.{Status}
use Rattle.vs_space.specs.declared.status.Status.TheVariants.{Active, Pinned, Sending, Receiving, Sent, Garbage}
use Rattle.vs_calls.specs.declared.stage.Stage.{Stage}
use Rattle.vs_calls.specs.declared.stage.Stage.TheVariants as stage
use Rattle.vs_calls.specs.Progress.{is_held}
use Rattle.vs_event.specs.declared.event.RestartBy.{RestartBy}
use Rattle.vs_event.specs.declared.event.RestartBy.TheVariants.{Line, Service}
use Rattle.vs_history.specs.History.{write_count}
use Rattle.vs_record.specs.Change.{Change, SetStatus, AddRows, Write, Wipe, Forget, bucket_of}
use Rattle.vs_recover.specs.declared.decision.Decision.TheVariants.{ToActive, ToGarbage}
use Rattle.vs_send.specs.declared.transfer.Phase.TheVariants.{Ready, Sealed, Waiting}
use Rattle.vs_send.specs.declared.transfer.Transfer.{Transfer}
use Rattle.vs_machine.specs.declared.outcome.CommandOutcome.TheVariants.{Done, WasUp}
use Rattle.vs_machine.specs.Tables.{put}
use Rattle.vs_machine.specs.State.{State, Bucket, Ask, sets_of, has_bucket, is_set, holds, references, answer, put_bucket, put_operator, with_entry}
use Rattle.vs_machine.specs.Coherence.{IsServing, names, handed_by}
use Rattle.vs_machine.specs.Kinds.Connections.{with_last, decided}
use Rattle.vs_machine.specs.Kinds.Stops.{restart, restarted, up_again, with_change}
use Rattle.vs_machine.specs.Whole.{Inner, OperatorFits}
use Rattle.vs_machine.specs.Inner.Buckets.{BucketFits}
use Rattle.vs_machine.specs.Inner.Down.{has_begun, IsUp, UpFits, StatusFits, RowsFit, FitsIn, PendingFits}
use Rattle.vs_machine.specs.Inner.Lines.{IsIn}
use Rattle.vs_machine.proofs.Counts.{counts_none}
use Rattle.vs_machine.proofs.Frame.{put_each, put_both, put_same, put_there}
use Rattle.vs_machine.proofs.Keeping.{client_kept, calls_kept_at, replies_kept_at, link_kept}
use Rattle.vs_machine.proofs.Owners.{active_owns, sending_owns, phase_of}
use Rattle.vs_machine.proofs.Possible.{both_are}
use Rattle.vs_machine.proofs.Can.Stops.{can_restart, can_restart_line}
use Rattle.vs_machine.proofs.Kept.Acting.{written, written_fits, written_holds, written_lines}
use Rattle.vs_machine.proofs.Kept.Calls.{operator_moves, answer_moves, one_set}
use Rattle.vs_machine.proofs.Kept.Collecting.{wiped_keeps, forgotten_keeps, sent_condemned}
use Rattle.vs_machine.proofs.Kept.Freezing.{cold, cold_fits, cold_reads, cold_lines, unwritten_kept}
use Rattle.vs_machine.proofs.Kept.Moving.{IsQuiet}
use Rattle.vs_machine.proofs.Kept.Pinning.{serving_keeps}
use Rattle.vs_machine.proofs.Kept.Recovering.{Recovers, back_fits, back_holds, back_lines, waste_fits, waste_holds, waste_lines}
use Rattle.vs_machine.proofs.Kept.Sealing.{ArePosted, over, over_fits, over_reads, over_writes, over_lines, posted_kept}
use Rattle.vs_machine.proofs.Kept.Stopping.{repend}
use Rattle.vs_machine.proofs.Kept.Taking.{paged, paged_fits, paged_holds, paged_calls, paged_replies, whole_fits, whole_holds, whole_calls, whole_replies}

-- ---- a set that is down has no transfer, no ask and no call

module _ (s : State) (x : ℕ) (u : UpFits s) (down : s.up x ≡ false) where
  pub no_transfer : (b : ℕ) → (s.bucket b).transfer x ≡ None
  no_transfer b = by ((s.bucket b).transfer x) refl
    where
      by : (o : Option Transfer) → (s.bucket b).transfer x ≡ o → o ≡ None
      by None e = refl
      by (Some t) e = absurd (cc (u.transfers b x t e, down))

  pub no_ask : (b : ℕ) → (s.bucket b).ask x ≡ None
  no_ask b = by ((s.bucket b).ask x) refl
    where
      by : (o : Option Ask) → (s.bucket b).ask x ≡ o → o ≡ None
      by None e = refl
      by (Some t) e = absurd (cc (u.asks b x t e, down))

  no_call : (m : Mode) (b c : ℕ) → holds m x b (s.client c) ≡ false
  no_call m b c = by (holds m x b (s.client c)) refl
    where
      held_began : (g : Stage) → is_held g ≡ true → has_begun g ≡ true
      held_began stage.Running h = refl
      held_began stage.Acted h = refl
      held_began stage.Idle h = absurd (cc h)
      held_began stage.Posted h = absurd (cc h)
      held_began stage.Ended h = refl
      held_began stage.Refused h = absurd (cc h)
      held_began stage.Lost h = absurd (cc h)

      set_is : (o : Option ℕ) → is_set o x ≡ true → o ≡ Some x
      set_is None h = absurd cc
      set_is (Some y) h = ap (λ z. Some z) (one_set (Some y) y x refl h)

      by : (t : Bool) → holds m x b (s.client c) ≡ t → t ≡ false
      by false e = refl
      by true e =
          let parts = both_are (is_held (s.client c).present.stage && is_set (s.client c).present.set x) _ e in
          let at = both_are (is_held (s.client c).present.stage) (is_set (s.client c).present.set x) parts.0 in
          absurd (cc (u.calls c x (held_began (s.client c).present.stage at.0) (set_is (s.client c).present.set at.1), down))

  pub unreferenced : (m : Mode) (b : ℕ) → references s m x b ≡ 0
  unreferenced m b = counts_none (λ c. holds m x b (s.client c)) s.clients (no_call m b)

-- ---- one bucket is another from then on

pub changed_keeps : (own : ℕ → ℕ) (s : State) (b : ℕ) (new : Bucket) → Inner own s → Recovers (sets_of s) (own b) (s.bucket b) new → Inner own (put_bucket s b new)
changed_keeps own s b new i k = record {
  buckets = put_each (λ r. BucketFits (sets_of s) (own r)) s.bucket b new k.fits i.buckets;
  clients = λ c. client_kept s.bucket b new (s.client c) k.holds (i.clients c);
  absent = i.absent;
  links = λ p q. link_kept s.bucket b new p q (s.link p q) k.lines (i.links p q);
  real = i.real;
  operators = i.operators;
}

-- an entry without an ask beside it, where there is none
without_ask : (own : ℕ → ℕ) (s : State) (b x : ℕ) (e : Option Status) → (s.bucket b).ask x ≡ None
    → Inner own (put_bucket s b (let old = s.bucket b in record old { entry = put old.entry x e; ask = put old.ask x None })) → Inner own (put_bucket s b (with_entry (s.bucket b) x e))
without_ask own s b x e none i =
    let old = s.bucket b in
    let same : put old.ask x None ≡ old.ask = ap (put old.ask x) (sym none) ∙ put_same old.ask x in
    subst (λ (g : ℕ → Option Ask). Inner own (put_bucket s b (record old { entry = put old.entry x e; ask = g }))) same i

abbrev pub changed : State → ℕ → Change → State
changed s x change = put_bucket s (bucket_of change) (with_change (s.bucket (bucket_of change)) x change)

module _ (own : ℕ → ℕ) (s : State) (x : ℕ) (i : Inner own s) (u : UpFits s) (posted : ArePosted s) (down : s.up x ≡ false) where
  quiet : (b : ℕ) → IsQuiet ((s.bucket b).transfer x)
  quiet b = subst IsQuiet (sym (no_transfer s x u down b)) tt

  frozen : (b d : ℕ) → (s.bucket b).entry x ≡ Some Active → (d ≢ x) × (1 ≤ d) × (d ≤ sets_of s) → Inner own (changed s x (SetStatus b (Sending d)))
  frozen b d at fits =
      let n = sets_of s in
      let old = s.bucket b in
      let is : own b ≡ x = sym (active_owns (own b) old.entry x (i.buckets b).placed at) in
      let within : (1 ≤ d) × (d ≤ n) = (fits.1, fits.2) in
      let f : BucketFits n x old = subst (λ o. BucketFits n o old) is (i.buckets b) in
      let none = no_transfer s x u down b in
      let v = old.transfer x in
      let ready : (t : Transfer) → v ≡ Some t → (t.dest ≡ d) × (t.phase ≡ Ready None) = λ t h. absurd (cc (h, none)) in
      let new : Bucket = cold n old x d f at fits.0 within v ready (quiet b) in
      let kept : Inner own (put_bucket s b new) = record {
        buckets = put_each (λ r. BucketFits n (own r)) s.bucket b new (subst (λ o. BucketFits n o new) (sym is) (cold_fits n old x d f at fits.0 within v ready (quiet b))) i.buckets;
        clients = unwritten_kept own s x b new i (unreferenced s x u down Rw b) (cold_reads n old x d f at fits.0 within v ready (quiet b))
            (λ y p ne h. subst IsServing (sym (put_there old.entry x _ y ne)) h);
        absent = i.absent;
        links = λ q r. link_kept s.bucket b new q r (s.link q r) (cold_lines n old x d f at fits.0 within v ready (quiet b)) (i.links q r);
        real = i.real;
        operators = i.operators;
      } in
      subst (λ (g : ℕ → Option Transfer). Inner own (put_bucket s b (record old { entry = put old.entry x (Some (Sending d)); transfer = g }))) (put_same old.transfer x) kept

  handed : (b d : ℕ) → (s.bucket b).entry x ≡ Some (Sending d) → (d ≢ x) → (s.bucket b).entry d ≡ Some (Receiving x) → (s.bucket b).rows d ≡ (s.bucket b).rows x → Inner (put own b d) (changed s x (SetStatus b (Sent d)))
  handed b d at apart there rows =
      let n = sets_of s in
      let old = s.bucket b in
      let is : own b ≡ x = sym (sending_owns (own b) old.entry x d (i.buckets b).placed at) in
      let f : BucketFits n x old = subst (λ o. BucketFits n o old) is (i.buckets b) in
      let named = (i.buckets b).named x d (ap names at) in
      let within : (1 ≤ d) × (d ≤ n) = (named.1, named.2) in
      let none = no_transfer s x u down b in
      let v = old.transfer x in
      let done : (t : Transfer) → v ≡ Some t → (t.dest ≡ d) × (t.phase ≡ Sealed) = λ t h. absurd (cc (h, none)) in
      let new : Bucket = over n old x d f at apart within there rows v done (quiet b) in
      let kept : Inner (put own b d) (put_bucket s b new) = record {
        buckets = put_both (λ r. BucketFits n) own s.bucket b d new (over_fits n old x d f at apart within there rows v done (quiet b)) i.buckets;
        clients = posted_kept own s b new i posted (over_reads n old x d f at apart within there rows v done (quiet b)) (over_writes n old x d f at apart within there rows v done (quiet b));
        absent = i.absent;
        links = λ q r. link_kept s.bucket b new q r (s.link q r) (over_lines n old x d f at apart within there rows v done (quiet b)) (i.links q r);
        real = put_each (λ q o. has_bucket s q ≡ true → 1 ≤ o) own b d (λ _. within.0) i.real;
        operators = i.operators;
      } in
      subst (λ (g : ℕ → Option Transfer). Inner (put own b d) (put_bucket s b (record old { entry = put old.entry x (Some (Sent d)); kept = put old.kept x (write_count old.history); transfer = g }))) (put_same old.transfer x) kept

  taken_back : (b d : ℕ) → (s.bucket b).entry x ≡ Some (Sending d) → (s.bucket b).entry d ≢ Some (Receiving x) → Inner own (changed s x (SetStatus b Active))
  taken_back b d at alone =
      let n = sets_of s in
      let old = s.bucket b in
      let is : own b ≡ x = sym (sending_owns (own b) old.entry x d (i.buckets b).placed at) in
      let f : BucketFits n x old = subst (λ o. BucketFits n o old) is (i.buckets b) in
      let free = no_transfer s x u down b in
      let new : Bucket = decided old x ToActive in
      without_ask own s b x (Some Active) (no_ask s x u down b) (changed_keeps own s b new i (record {
        fits = subst (λ o. BucketFits n o new) (sym is) (back_fits n old x d f at free alone);
        holds = back_holds n old x d f at free alone;
        lines = back_lines n old x d f at free alone;
      }))

  activated : (b y : ℕ) → (s.bucket b).entry x ≡ Some (Receiving y) → own b ≡ x → Inner own (changed s x (SetStatus b Active))
  activated b y at is =
      let n = sets_of s in
      let old = s.bucket b in
      let f : BucketFits n x old = subst (λ o. BucketFits n o old) is (i.buckets b) in
      let new : Bucket = with_last old x in
      without_ask own s b x (Some Active) (no_ask s x u down b) (changed_keeps own s b new i (record {
        fits = subst (λ o. BucketFits n o new) (sym is) (whole_fits n old y x f at);
        holds = whole_holds n old y x f at;
        lines = record { calls = whole_calls n old y x f at; replies = whole_replies n old y x f at };
      }))

  thrown : (b y : ℕ) → (s.bucket b).entry x ≡ Some (Receiving y) → (s.bucket b).entry y ≡ Some (Sending x) → (s.bucket b).transfer y ≡ None → Inner own (changed s x (SetStatus b Garbage))
  thrown b y at sends free =
      let n = sets_of s in
      let old = s.bucket b in
      let is : own b ≡ y = sym (sending_owns (own b) old.entry y x (i.buckets b).placed sends) in
      let f : BucketFits n y old = subst (λ o. BucketFits n o old) is (i.buckets b) in
      let new : Bucket = decided old x ToGarbage in
      without_ask own s b x (Some Garbage) (no_ask s x u down b) (changed_keeps own s b new i (record {
        fits = subst (λ o. BucketFits n o new) (sym is) (waste_fits n old x y f at sends free);
        holds = waste_holds n old x y f at sends free;
        lines = waste_lines n old x y f at sends free;
      }))

  status_keeps : (b : ℕ) (e : Option Status) (st : Status) → (s.bucket b).entry x ≡ e → StatusFits (sets_of s) (own b) (s.bucket b).entry (s.bucket b).transfer (s.bucket b).rows x e st
      → Inner (handed_by own (Some (SetStatus b st))) (changed s x (SetStatus b st))
  status_keeps b (Some Active) Pinned at fits = serving_keeps own s x b (Some Pinned) i (subst IsServing (sym at) tt) (no_transfer s x u down b) tt
  status_keeps b (Some Pinned) Active at fits = serving_keeps own s x b (Some Active) i (subst IsServing (sym at) tt) (no_transfer s x u down b) tt
  status_keeps b (Some Active) (Sending d) at fits = frozen b d at fits
  status_keeps b (Some (Sending d)) (Sent e) at fits =
      subst (λ q. Inner (put own b q) (changed s x (SetStatus b (Sent q)))) (sym fits.0) (handed b d at fits.1 fits.2 fits.3)
  status_keeps b (Some (Sending d)) Active at fits = taken_back b d at fits.1
  status_keeps b (Some (Receiving y)) Active at fits = activated b y at fits
  status_keeps b (Some (Receiving y)) Garbage at fits = thrown b y at fits.0 fits.1
  status_keeps b (Some (Sent d)) Garbage at fits = sent_condemned own s x b d i at (no_transfer s x u down b) (unreferenced s x u down Ro b)
  status_keeps b e st at fits = absurd fits

  added : (b z : ℕ) (page : RowMap) → RowsFit (sets_of s) (s.bucket b).entry (s.bucket b).transfer x z → Inner own (changed s x (AddRows b z page))
  added b z page r =
      let n = sets_of s in
      let old = s.bucket b in
      let is : own b ≡ z = sym (sending_owns (own b) old.entry z x (i.buckets b).placed r.sends) in
      let f : BucketFits n z old = subst (λ o. BucketFits n o old) is (i.buckets b) in
      let apart : x ≢ z = λ e. ((i.buckets b).named z x (ap names r.sends)).0 e in
      let new : Bucket = paged n old z x page f r.sends apart r.within r.free r.stuck in
      -- nothing waits for x, which is down
      let none : (p q g : ℕ) → IsUp s q → (t k : ℕ) (l : Option (List ℕ)) → IsIn old.transfer p q (Waiting g k l) → ⊥ =
      λ p q g up t k l h. no_wait b z p q g k l r up h in
      record {
        buckets = put_each (λ r. BucketFits n (own r)) s.bucket b new (subst (λ o. BucketFits n o new) (sym is) (paged_fits n old z x page f r.sends apart r.within r.free r.stuck)) i.buckets;
        clients = λ c. client_kept s.bucket b new (s.client c) (paged_holds n old z x page f r.sends apart r.within r.free r.stuck) (i.clients c);
        absent = i.absent;
        links = λ p q. let g = i.links p q in record {
          calls = calls_kept_at s.bucket b new (s.link p q).epoch p q (λ m. IsUp s p × IsUp s q) (s.link p q).calls (λ m up. paged_calls n old z x page f r.sends apart r.within r.free r.stuck (s.link p q).epoch p q m.sync m.message (λ l. none p q (s.link p q).epoch up.1 0 m.sync l)) (u.messages p q) g.calls;
          replies = replies_kept_at s.bucket b new (s.link p q).epoch p q (λ m. IsUp s p × IsUp s q) (s.link p q).replies (λ m up. paged_replies n old z x page f r.sends apart r.within r.free r.stuck (s.link p q).epoch p q m.sync m.reply (λ l. none p q (s.link p q).epoch up.1 0 m.sync l)) (u.replies p q) g.replies;
          distinct = g.distinct;
          below = g.below;
        };
        real = i.real;
        operators = i.operators;
      }
    where
      no_wait : (b z p q g k : ℕ) (l : Option (List ℕ)) → RowsFit (sets_of s) (s.bucket b).entry (s.bucket b).transfer x z → IsUp s q → IsIn (s.bucket b).transfer p q (Waiting g k l) → ⊥
      no_wait b z p q g k l r up h =
          let ph = phase_of (sets_of s) (own b) (s.bucket b) p q (Waiting g k l) (i.buckets b) h in
          let one : p ≡ z = sending_owns (own b) (s.bucket b).entry p q (i.buckets b).placed ph ∙ sym (sending_owns (own b) (s.bucket b).entry z x (i.buckets b).placed r.sends) in
          let to : Some (Sending q) ≡ Some (Sending x) = sym ph ∙ ap (s.bucket b).entry one ∙ r.sends in
          let same : q ≡ x = cc in
          absurd (cc (ap s.up same, up, down))

  pub changed_by : (change : Change) → FitsIn (sets_of s) (own (bucket_of change)) (s.bucket (bucket_of change)) x change → Inner (handed_by own (Some change)) (changed s x change)
  changed_by (SetStatus b st) fits = status_keeps b ((s.bucket b).entry x) st refl fits
  changed_by (AddRows b z page) fits = added b z page fits
  changed_by (Write id b ops) fits =
      let n = sets_of s in
      let old = s.bucket b in
      changed_keeps own s b (written n (own b) old x id ops (i.buckets b) fits) i (record { fits = written_fits n (own b) old x id ops (i.buckets b) fits; holds = written_holds n (own b) old x id ops (i.buckets b) fits; lines = written_lines n (own b) old x id ops (i.buckets b) fits })
  changed_by (Wipe b k) fits = wiped_keeps own s x b k i fits
  changed_by (Forget b) fits = forgotten_keeps own s x b i fits.0 fits.1

-- ---- the whole

-- who owns the buckets once set x is up again
abbrev pub owners_kept : (ℕ → ℕ) → Bool → Option Change → ℕ → ℕ
owners_kept own true pending = handed_by own pending
owners_kept own false pending = own

abbrev pub owners_restarted : (ℕ → ℕ) → State → ℕ → Bool → ℕ → ℕ
owners_restarted own s x kept = if s.up x then own else owners_kept own kept (s.pending x)

again_keeps : (own : ℕ → ℕ) (s : State) (x : ℕ) → Inner own s → Inner own (up_again s x)
again_keeps own s x i = repend own s (put s.up x true) (put s.pending x None) s.last_fault i

pub restarted_keeps : (own : ℕ → ℕ) (s : State) (x : ℕ) (kept : Bool) (pending : Option Change) → Inner own s → UpFits s → ArePosted s → PendingFits own s → s.up x ≡ false → s.pending x ≡ pending
    → Inner (owners_kept own kept pending) (restarted s x kept pending)
restarted_keeps own s x true (Some change) i u posted p down is =
    let after = changed s x change in
    repend (handed_by own (Some change)) after (put s.up x true) (put s.pending x None) s.last_fault (changed_by own s x i u posted down change (p x change is).1)
restarted_keeps own s x true None i u posted p down is = again_keeps own s x i
restarted_keeps own s x false (Some change) i u posted p down is = again_keeps own s x i
restarted_keeps own s x false None i u posted p down is = again_keeps own s x i

pub restart_keeps : (own : ℕ → ℕ) (s t : State) (x : ℕ) (kept : Bool) (by : RestartBy) → Inner own s → UpFits s → ArePosted s → PendingFits own s → restart s x kept by ≡ Ok t → Inner (owners_restarted own s x kept) t
restart_keeps own s t x kept Service i u posted p e =
    let can = can_restart s t x kept e in
    subst (λ a. Inner (if a then own else owners_kept own kept (s.pending x)) t) (sym can.x_down)
    (subst (Inner (owners_kept own kept (s.pending x))) can.gives (restarted_keeps own s x kept (s.pending x) i u posted p can.x_down refl))
restart_keeps own s t x kept (Line o) i u posted p e =
    let can = can_restart_line s t x o kept e in
    subst (Inner (owners_restarted own s x kept)) can.gives (by (s.up x) refl)
  where
    answered_fits : (k : Bool) (pending : Option Change) → OperatorFits (restarted s x k pending).config.bucket_count (sets_of (restarted s x k pending)) (answer (s.operator o) Done)
    answered_fits true (Some change) = record { lawful = (i.operators o).lawful; apart = All-nil _ }
    answered_fits true None = record { lawful = (i.operators o).lawful; apart = All-nil _ }
    answered_fits false (Some change) = record { lawful = (i.operators o).lawful; apart = All-nil _ }
    answered_fits false None = record { lawful = (i.operators o).lawful; apart = All-nil _ }

    by : (a : Bool) → s.up x ≡ a → Inner (if a then own else owners_kept own kept (s.pending x)) (if a then put_operator s o (answer (s.operator o) WasUp) else put_operator (restarted s x kept (s.pending x)) o (answer (s.operator o) Done))
    by true is = answer_moves own s o WasUp i
    by false is =
        let after = restarted s x kept (s.pending x) in
        let fits = restarted_keeps own s x kept (s.pending x) i u posted p is refl in
        operator_moves (owners_kept own kept (s.pending x)) after o (answer (s.operator o) Done) fits (answered_fits kept (s.pending x))
