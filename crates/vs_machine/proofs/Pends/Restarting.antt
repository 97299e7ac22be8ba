-- A set is up again: what is pending at others may still take effect.
use Rattle.std.proofs.Common.{◌≡◌, ℕ, inl, inr, Bool, true, false, refl, sym, ap, subst, ◌∙◌, drop, Option, Some, None, Ok}
use Rattle.std.specs.Prelude.{◌≢◌, if◌then◌else◌}
use Rattle.vs_rows.specs.RowMap.{RowMap}
use Rattle.vs_event.specs.declared.event.RestartBy.{RestartBy}
use Rattle.vs_event.specs.declared.event.RestartBy.TheVariants.{Line, Service}
use Rattle.vs_space.specs.declared.status.Status.{Status}
use Rattle.vs_space.specs.declared.status.Status.TheVariants.{Active, Pinned, Sending, Receiving, Sent, Garbage}
use Rattle.vs_record.specs.Change.{Change, SetStatus, AddRows, Write, Wipe, Forget, bucket_of}
use Rattle.vs_recover.specs.declared.decision.Decision.TheVariants.{ToActive, ToGarbage}
use Rattle.vs_machine.specs.declared.outcome.CommandOutcome.TheVariants.{Done, WasUp}
use Rattle.vs_machine.specs.Tables.{put}
use Rattle.vs_machine.specs.State.{State, Bucket, sets_of, answer, put_operator, put_rows, with_entry}
use Rattle.vs_machine.specs.Coherence.{handed_by, IsServing}
use Rattle.vs_machine.specs.Kinds.Stops.{restart, restarted, with_status, with_change}
use Rattle.vs_machine.specs.Whole.{Inner}
use Rattle.vs_machine.specs.Inner.Down.{UpFits, StatusFits, RowsFit, FitsIn, PendingFits, PairsFit}
use Rattle.vs_machine.proofs.Calm.{Calm, same_calm, froze_calm, handed_calm, last_calm, page_calm, pinned_calm, left_calm, decided_calm}
use Rattle.vs_machine.proofs.Can.Stops.{can_restart, can_restart_line}
use Rattle.vs_machine.proofs.Frame.{put_others, put_split, put_there}
use Rattle.vs_machine.proofs.Owners.{sending_owns}
use Rattle.vs_machine.proofs.Kept.Collecting.{IsLeft, IsSpent}
use Rattle.vs_machine.proofs.Kept.Restarting.{no_transfer, owners_kept, owners_restarted}
use Rattle.vs_machine.proofs.Kept.Taking.{IsOpenTo}
use Rattle.vs_machine.proofs.Pends.Fitting.{IsDown, IsPendingIn, Leaves, Knows, entry_left, rows_left, change_left}

abbrev Any : ℕ → Type 0
Any x = Unit {0}

abbrev Never : ℕ → Type 0
Never x = ⊥

module _ (own : ℕ → ℕ) (s : State) (i : Inner own s) (u : UpFits s) (p : PendingFits own s) (pairs : PairsFit s.pending) (x : ℕ) (down : IsDown s x) where
  -- at another set y that is down, this change of the same bucket is pending
  pub record Beside (b y : ℕ) (change : Change) : Type 0 where
    pub apart : y ≢ x
    pub y_down : IsDown s y
    pub pending : s.pending y ≡ Some change
    pub bucket : bucket_of change ≡ b
    pub fits : FitsIn (sets_of s) (own b) (s.bucket b) y change

  anything : (b y : ℕ) (change : Change) → Knows Any Any Any (s.bucket b).entry x y change
  anything b y change = record { back = λ _ _ _. tt; waste = λ _ _ _. tt; page = λ _ _ _. tt }

  -- where nothing special is asked, and the set that changes doesn't receive
  plain : (b y : ℕ) (change : Change) (new : Bucket) → Beside b y change → (let old = s.bucket b in Calm Any Any Any (own b) (own b) old.entry old.transfer new.entry new.transfer x) → (let old = s.bucket b in Leaves old.entry old.rows new.entry new.rows y)
      → FitsIn (sets_of s) (own b) new y change
  plain b y change new k c left =
      let old = s.bucket b in
      change_left Any Any Any (sets_of s) (own b) (own b) old.entry old.transfer old.rows new.entry new.transfer new.rows x y c k.apart left.kept (no_transfer s y u k.y_down b) change (anything b y change) (λ _ d _. left.copy d) k.fits

  serving_beside : (b y : ℕ) (e : Option Status) (change : Change) → IsServing ((s.bucket b).entry x) → IsServing e → Beside b y change → FitsIn (sets_of s) (own b) (with_entry (s.bucket b) x e) y change
  serving_beside b y e change at serves k =
      let old = s.bucket b in
      plain b y change (with_entry old x e) k (pinned_calm Any Any Any (own b) old x e at serves) (entry_left old.entry old.rows x e y (λ is. subst IsServing is at))

  left_beside : (b y : ℕ) (e : Option Status) (change : Change) → IsLeft ((s.bucket b).entry x) → IsSpent e → Beside b y change → FitsIn (sets_of s) (own b) (with_entry (s.bucket b) x e) y change
  left_beside b y e change left spent k =
      let old = s.bucket b in
      plain b y change (with_entry old x e) k (left_calm Any Any Any (own b) old x e left spent) (entry_left old.entry old.rows x e y (λ is. subst IsLeft is left))

  rows_beside : (b y : ℕ) (m : RowMap) (change : Change) → ((w : ℕ) → (s.bucket b).entry x ≢ Some (Receiving w)) → Beside b y change → FitsIn (sets_of s) (own b) (put_rows (s.bucket b) x m) y change
  rows_beside b y m change other k =
      let old = s.bucket b in
      plain b y change (put_rows old x m) k (same_calm Any Any Any (own b) old.entry old.transfer x) (rows_left old.entry old.rows x m y k.apart (other y))

  -- x hands the bucket over to d
  handed_beside : (b d y : ℕ) (change : Change) → s.pending x ≡ Some (SetStatus b (Sent d)) → (s.bucket b).entry x ≡ Some (Sending d) → Beside b y change → FitsIn (sets_of s) (put own b d b) (with_status (s.bucket b) x (Sent d)) y change
  handed_beside b d y change mine at k =
      let old = s.bucket b in
      let new = with_status old x (Sent d) in
      let T : ℕ → Type 0 = λ w. d ≡ w → ⊥ in
      let owns : x ≡ own b = sending_owns (own b) old.entry x d (i.buckets b).placed at in
      let left = entry_left old.entry old.rows x (Some (Sent d)) y (λ h. absurd (cc (h, at))) in
      change_left Any Never T (sets_of s) (own b) (put own b d b) old.entry old.transfer old.rows new.entry new.transfer new.rows x y
      (handed_calm Any Never T (own b) old x (put own b d b) d owns (λ w v free. v) (λ w t is. t is) at) k.apart left.kept (no_transfer s y u k.y_down b) change
      (record {
        back = λ _ _ _. tt;
        waste = λ c g to.
            let one : c ≡ b = ap bucket_of (sym g) ∙ k.bucket in
            let dest : d ≡ y = cc (at, to) in
            pairs.thrown y x b (k.pending ∙ ap Some (g ∙ ap (λ q. SetStatus q Garbage) one)) (mine ∙ ap (λ q. Some (SetStatus b (Sent q))) dest);
        page = λ c r g is.
            let one : c ≡ b = ap bucket_of (sym g) ∙ k.bucket in
            pairs.handed x y b r (mine ∙ ap (λ q. Some (SetStatus b (Sent q))) is) (k.pending ∙ ap Some (g ∙ ap (λ q. AddRows q x r) one));
      }) (λ _ e _. left.copy e) k.fits

  -- x takes the bucket back
  back_beside : (b d y : ℕ) (change : Change) → s.pending x ≡ Some (SetStatus b Active) → (s.bucket b).entry x ≡ Some (Sending d) → (s.bucket b).transfer x ≡ None → (s.bucket b).entry d ≢ Some (Receiving x) → Beside b y change
      → FitsIn (sets_of s) (own b) (with_status (s.bucket b) x Active) y change
  back_beside b d y change mine at free alone k =
      let old = s.bucket b in
      let new = with_status old x Active in
      let T : ℕ → Type 0 = λ w. d ≡ w → ⊥ in
      let left = entry_left old.entry old.rows x (Some Active) y (λ h. absurd (cc (h, at))) in
      change_left Any Any T (sets_of s) (own b) (own b) old.entry old.transfer old.rows new.entry new.transfer new.rows x y
      (decided_calm Any Any T (own b) old x d ToActive (inl (at, free, alone)) (λ w t _ is. t is)) k.apart left.kept (no_transfer s y u k.y_down b) change
      (record {
        back = λ _ _ _. tt;
        waste = λ _ _ _. tt;
        page = λ c r g is.
            let one : c ≡ b = ap bucket_of (sym g) ∙ k.bucket in
            pairs.taken x y b r mine (k.pending ∙ ap Some (g ∙ ap (λ q. AddRows q x r) one));
      }) (λ _ e _. left.copy e) k.fits

  -- x is the owner, and becomes active: nobody else is sending
  active_beside : (b z y : ℕ) (change : Change) → (s.bucket b).entry x ≡ Some (Receiving z) → own b ≡ x → Beside b y change → FitsIn (sets_of s) (own b) (with_status (s.bucket b) x Active) y change
  active_beside b z y change at owns k =
      let old = s.bucket b in
      plain b y change (with_status old x Active) k (last_calm Any Any Any (own b) old x z at)
      (record { kept = refl; copy = λ d to from same. absurd (k.apart (sending_owns (own b) old.entry y d (i.buckets b).placed to ∙ owns)) })

  -- x throws away what z is sending
  thrown_beside : (b z y : ℕ) (change : Change) → s.pending x ≡ Some (SetStatus b Garbage) → (s.bucket b).entry x ≡ Some (Receiving z) → (s.bucket b).entry z ≡ Some (Sending x) → (s.bucket b).transfer z ≡ None → Beside b y change
      → FitsIn (sets_of s) (own b) (with_status (s.bucket b) x Garbage) y change
  thrown_beside b z y change mine at sends free k =
      let old = s.bucket b in
      let new = with_status old x Garbage in
      change_left Any Any Any (sets_of s) (own b) (own b) old.entry old.transfer old.rows new.entry new.transfer new.rows x y
      (decided_calm Any Any Any (own b) old x z ToGarbage (at, sends, free) (λ w t is _. absurd cc)) k.apart refl (no_transfer s y u k.y_down b) change (anything b y change)
      (λ c d g to from same.
      let one : c ≡ b = ap bucket_of (sym g) ∙ k.bucket in
      let other : d ≢ x = λ is. pairs.thrown x y b mine (k.pending ∙ ap Some (g ∙ (λ j. SetStatus (one j) (Sent (is j))))) in
      (put_there old.entry x (Some Garbage) d other ∙ from, same)) k.fits

  -- x takes rows of z
  page_beside : (b z y : ℕ) (page : RowMap) (change : Change) → s.pending x ≡ Some (AddRows b z page) → RowsFit (sets_of s) (s.bucket b).entry (s.bucket b).transfer x z → Beside b y change → FitsIn (sets_of s) (own b) (with_change (s.bucket b) x (AddRows b z page)) y change
  page_beside b z y page change mine r k =
      let old = s.bucket b in
      let new = with_change old x (AddRows b z page) in
      let A : ℕ → Type 0 = λ w. z ≡ w → ⊥ in
      change_left A Any Any (sets_of s) (own b) (own b) old.entry old.transfer old.rows new.entry new.transfer new.rows x y
      (page_calm A Any Any (sets_of s) (own b) old z x (i.buckets b) r.sends r.free (λ t none. t refl)) k.apart (put_there old.rows x _ y k.apart) (no_transfer s y u k.y_down b) change
      (record {
        back = λ c g to is.
            let one : c ≡ b = ap bucket_of (sym g) ∙ k.bucket in
            pairs.taken y x b page (k.pending ∙ ap Some (g ∙ ap (λ q. SetStatus q Active) one)) (mine ∙ ap (λ q. Some (AddRows b q page)) is);
        waste = λ _ _ _. tt;
        page = λ _ _ _. tt;
      })
      (λ c d g to from same.
      let one : c ≡ b = ap bucket_of (sym g) ∙ k.bucket in
      let other : d ≢ x = λ is. from_other b z y page r.free (ap old.entry (sym is) ∙ from) mine (k.pending ∙ ap Some (g ∙ (λ j. SetStatus (one j) (Sent (is j))))) in
      (put_there old.entry x (Some (Receiving z)) d other ∙ from, put_there old.rows x _ d other ∙ same)) k.fits
    where
      from_other : (b z y : ℕ) (page : RowMap) → IsOpenTo z ((s.bucket b).entry x) → (s.bucket b).entry x ≡ Some (Receiving y) → s.pending x ≡ Some (AddRows b z page) → s.pending y ≡ Some (SetStatus b (Sent x)) → ⊥
      from_other b z y page (inl none) from mine theirs = absurd (cc (none, from))
      from_other b z y page (inr here) from mine theirs = let same : z ≡ y = cc (here, from) in pairs.handed y x b page theirs (mine ∙ ap (λ q. Some (AddRows b q page)) same)

  status_beside : (b y : ℕ) (e : Option Status) (st : Status) (change : Change) → (s.bucket b).entry x ≡ e → s.pending x ≡ Some (SetStatus b st) → (let old = s.bucket b in StatusFits (sets_of s) (own b) old.entry old.transfer old.rows x e st) → Beside b y change
      → FitsIn (sets_of s) (handed_by own (Some (SetStatus b st)) b) (with_status (s.bucket b) x st) y change
  status_beside b y (Some Active) Pinned change at mine f k = serving_beside b y (Some Pinned) change (subst IsServing (sym at) tt) tt k
  status_beside b y (Some Pinned) Active change at mine f k = serving_beside b y (Some Active) change (subst IsServing (sym at) tt) tt k
  status_beside b y (Some Active) (Sending d) change at mine f k =
      let old = s.bucket b in
      plain b y change (with_status old x (Sending d)) k (froze_calm Any Any Any (own b) old x d at) (entry_left old.entry old.rows x (Some (Sending d)) y (λ h. absurd (cc (h, at))))
  status_beside b y (Some (Sending d)) (Sent e) change at mine f k =
      subst (λ q. FitsIn (sets_of s) (put own b q b) (with_status (s.bucket b) x (Sent q)) y change) (sym f.0) (handed_beside b d y change (mine ∙ ap (λ q. Some (SetStatus b (Sent q))) f.0) at k)
  status_beside b y (Some (Sending d)) Active change at mine f k = back_beside b d y change mine at f.0 f.1 k
  status_beside b y (Some (Receiving z)) Active change at mine f k = active_beside b z y change at f k
  status_beside b y (Some (Receiving z)) Garbage change at mine f k = thrown_beside b z y change mine at f.0 f.1 k
  status_beside b y (Some (Sent d)) Garbage change at mine f k = left_beside b y (Some Garbage) change (subst IsLeft (sym at) tt) tt k
  status_beside b y e st change at mine f k = absurd f

  changed_beside : (w : Change) (y : ℕ) (change : Change) → s.pending x ≡ Some w → FitsIn (sets_of s) (own (bucket_of w)) (s.bucket (bucket_of w)) x w → Beside (bucket_of w) y change
      → FitsIn (sets_of s) (handed_by own (Some w) (bucket_of w)) (with_change (s.bucket (bucket_of w)) x w) y change
  changed_beside (SetStatus b st) y change mine f k = status_beside b y ((s.bucket b).entry x) st change refl mine f k
  changed_beside (AddRows b z page) y change mine f k = page_beside b z y page change mine f k
  changed_beside (Write id b ops) y change mine f k =
      let old = s.bucket b in
      plain b y change (with_change old x (Write id b ops)) k (same_calm Any Any Any (own b) old.entry old.transfer x) (rows_left old.entry old.rows x _ y k.apart (λ is. subst IsServing is f))
  changed_beside (Wipe b n) y change mine f k = rows_beside b y (drop n ((s.bucket b).rows x)) change (λ w is. absurd (cc (f, is))) k
  changed_beside (Forget b) y change mine f k = left_beside b y None change (subst IsLeft (sym f.0) tt) tt k

  same_after : (w : Change) (q : ℕ) → q ≢ bucket_of w → handed_by own (Some w) q ≡ own q
  same_after (SetStatus b (Sent d)) q ne = put_there own b d q ne
  same_after (SetStatus b Active) q ne = refl
  same_after (SetStatus b Pinned) q ne = refl
  same_after (SetStatus b (Sending d)) q ne = refl
  same_after (SetStatus b (Receiving d)) q ne = refl
  same_after (SetStatus b Garbage) q ne = refl
  same_after (AddRows b z page) q ne = refl
  same_after (Write id b ops) q ne = refl
  same_after (Wipe b n) q ne = refl
  same_after (Forget b) q ne = refl

  raised_down : (y : ℕ) → y ≢ x → IsDown s y → put s.up x true y ≡ false
  raised_down y ne h = put_there s.up x true y ne ∙ h

  again_pends : (next : ℕ → ℕ) (bs : ℕ → Bucket) → ((y : ℕ) (change : Change) → y ≢ x → s.pending y ≡ Some change → IsDown s y → FitsIn (sets_of s) (next (bucket_of change)) (bs (bucket_of change)) y change)
      → IsPendingIn (sets_of s) next (put s.up x true) (put s.pending x None) bs
  again_pends next bs fits y change h = elim (put_split s.pending x None y (Some change) h) [
    | inl e ↦ absurd (cc (e.1))
    | inr e ↦ let f = p y change e.1 in (raised_down y e.0 f.0, fits y change e.0 e.1 f.0)
  ]

  pub restarted_pends : (kept : Bool) (pending : Option Change) → s.pending x ≡ pending → PendingFits (owners_kept own kept pending) (restarted s x kept pending)
  restarted_pends true (Some w) is =
      let new : Bucket = with_change (s.bucket (bucket_of w)) x w in
      let after : ℕ → Bucket = put s.bucket (bucket_of w) new in
      again_pends (handed_by own (Some w)) after (λ y change ne theirs y_down.
      let f = p y change theirs in
      put_others (λ q (v : Bucket). bucket_of change ≡ q → FitsIn (sets_of s) (own q) (s.bucket q) y change → FitsIn (sets_of s) (handed_by own (Some w) q) v y change) s.bucket (bucket_of w) new
      (λ same g. changed_beside w y change is (p x w is).1 (record { apart = ne; y_down = y_down; pending = theirs; bucket = same; fits = g }))
      (λ q other same g. subst (λ o. FitsIn (sets_of s) o (s.bucket q) y change) (sym (same_after w q other)) g) (bucket_of change) refl f.1)
  restarted_pends true None is = again_pends own s.bucket (λ y change ne theirs y_down. (p y change theirs).1)
  restarted_pends false (Some w) is = again_pends own s.bucket (λ y change ne theirs y_down. (p y change theirs).1)
  restarted_pends false None is = again_pends own s.bucket (λ y change ne theirs y_down. (p y change theirs).1)

pub restart_pends : (own : ℕ → ℕ) (s t : State) (x : ℕ) (kept : Bool) (by : RestartBy) → Inner own s → UpFits s → PendingFits own s → PairsFit s.pending → restart s x kept by ≡ Ok t → PendingFits (owners_restarted own s x kept) t
restart_pends own s t x kept Service i u p pairs e =
    let can = can_restart s t x kept e in
    subst (λ q. PendingFits (if q then own else owners_kept own kept (s.pending x)) t) (sym can.x_down)
    (subst (PendingFits (owners_kept own kept (s.pending x))) can.gives (restarted_pends own s i u p pairs x can.x_down kept (s.pending x) refl))
restart_pends own s t x kept (Line o) i u p pairs e =
    let can = can_restart_line s t x o kept e in
    subst (PendingFits (owners_restarted own s x kept)) can.gives (by (s.up x) refl)
  where
    by : (q : Bool) → s.up x ≡ q → PendingFits (if q then own else owners_kept own kept (s.pending x)) (if q then put_operator s o (answer (s.operator o) WasUp) else put_operator (restarted s x kept (s.pending x)) o (answer (s.operator o) Done))
    by true is = p
    by false is = restarted_pends own s i u p pairs x is kept (s.pending x) refl
