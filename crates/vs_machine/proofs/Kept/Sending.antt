-- What a set does to send a bucket away, where the bucket's entries and rows stay: start, haul, notyet, chunk, last, abort, endmove.
use Rattle.std.proofs.Common.{◌-◌, zero, suc, [], ◌∷◌, ◌≡◌, ℕ, Ok, ◌+◌, Bool, true, false, refl, sym, subst, ◌∙◌, arith, List, length, Option, Some, None}
use Rattle.std.specs.Prelude.{◌≢◌, ◌==◌, ◌&&◌, not, nat_lt, if◌then◌else◌, All, slice_get, is_none}
use Rattle.std.proofs.lemmas.List.Sums.{sum_by-cons}
use Rattle.std.proofs.lemmas.List.Elements.{All-nil, All-cons, All-head, All-tail}
use Rattle.std.proofs.lemmas.Bool.{eqb-false, eqb-true}
use Rattle.std.proofs.lemmas.Bool.Decides.{nat_tests}
use Rattle.std.proofs.lemmas.Option.{slice_get_within, get_or_from_slice_get}
use Rattle.vs_space.specs.declared.status.Status.{Status}
use Rattle.vs_space.specs.declared.status.Status.TheVariants.{Active, Pinned, Sending, Receiving, Sent, Garbage}
use Rattle.vs_script.specs.declared.command.Command as declared_command
use Rattle.vs_script.specs.declared.command.Command.TheVariants as command
use Rattle.vs_balance.specs.declared.route.Route.{Route}
use Rattle.vs_link.specs.Connection.{Chunk, Last}
use Rattle.vs_send.specs.declared.transfer.By.{By}
use Rattle.vs_send.specs.declared.transfer.By.TheVariants.{Command, Haul}
use Rattle.vs_send.specs.declared.transfer.Phase.{Phase}
use Rattle.vs_send.specs.declared.transfer.Phase.TheVariants.{Draining, Ready, Waiting, Copied, Sealed, WaitingLast, Refused, Done}
use Rattle.vs_send.specs.declared.transfer.Transfer.{Transfer}
use Rattle.vs_machine.specs.declared.outcome.CommandFault.{CommandFault}
use Rattle.vs_machine.specs.declared.outcome.CommandFault.TheVariants as fault
use Rattle.vs_machine.specs.declared.outcome.CommandOutcome.{CommandOutcome}
use Rattle.vs_machine.specs.declared.outcome.CommandOutcome.TheVariants as outcome
use Rattle.vs_machine.specs.Tables.{or_else, is_to, least_to}
use Rattle.vs_machine.specs.State.{State, Bucket, Operator, sets_of, next_command, put_bucket, with_transfer}
use Rattle.vs_script.specs.Lawful.{IsLawfulCommand, IsWithin}
use Rattle.vs_machine.specs.Kinds.Faults.{send_fault, fault_if, if_down, unless_active}
use Rattle.vs_machine.specs.Kinds.Sender.{Move, move_of, in_phase, with_begun, start, after_start, not_yet, chunk, last, answered_by, moved_by, end_move, next_page, last_key}
use Rattle.vs_space.specs.Status.{is_active}
use Rattle.vs_machine.specs.Kinds.Rebalancing.{haul, after_haul, put_left, left_on, with_left, is_route, bucket_to_haul, is_free}
use Rattle.vs_machine.specs.Whole.{Inner}
use Rattle.vs_machine.specs.Inner.Phases.{PhaseFits}
use Rattle.vs_machine.specs.Inner.Copying.{CopyFits}
use Rattle.vs_machine.specs.Inner.Buckets.{BucketFits, TransferFits}
use Rattle.vs_machine.proofs.Frame.{put_here}
use Rattle.vs_machine.proofs.Possible.{none_is, both_are}
use Rattle.vs_machine.proofs.Can.Sender.{can_start, can_wait, can_chunk, can_last, can_end_move}
use Rattle.vs_machine.proofs.Can.Others.{can_haul}
use Rattle.vs_machine.proofs.Kept.Calls.{operator_moves, answer_moves}
use Rattle.vs_machine.proofs.Kept.Moving.{IsCalm, IsQuiet, move_keeps, sent_keeps}

-- ---- what is known of a bucket that is active

-- its transfer, if there is one, drains
pub active_quiet : (n o : ℕ) (b : Bucket) (x : ℕ) → BucketFits n o b → b.entry x ≡ Some Active → IsQuiet (b.transfer x)
active_quiet n o b x f at = by (b.transfer x) refl
  where
    calm : (d : ℕ) (p : Phase) → PhaseFits d (b.entry x) p → IsCalm p
    calm d (Draining t) h = tt
    calm d (Ready k) h = tt
    calm d (Waiting e t k) h = absurd (cc (h, at))
    calm d Copied h = tt
    calm d Sealed h = tt
    calm d (WaitingLast e t) h = absurd (cc (h, at))
    calm d (Refused r) h = tt
    calm d Done h = tt

    by : (v : Option Transfer) → b.transfer x ≡ v → IsQuiet v
    by None is = tt
    by (Some t) is = calm t.dest t.phase (f.transfers x t is).phase

-- what holds of each item holds of one that is there
pub each_of : {A : Type 0} (P : A → Type 0) (xs : List A) (n : ℕ) (x : A) → All P xs → slice_get xs n ≡ Some x → P x
each_of P xs n x h is = subst P (get_or_from_slice_get xs n x x is) (h n x (slice_get_within xs n x is))

-- a command to move a bucket names a set of the cluster
dest_within : (own : ℕ → ℕ) (s : State) (o : ℕ) (m : Move) → Inner own s → move_of (next_command (s.operator o)) ≡ Some m → IsWithin (sets_of s) m.to
dest_within own s o m i named = by (next_command (s.operator o)) refl named
  where
    by : (c : Option declared_command.Command) → next_command (s.operator o) ≡ c → move_of c ≡ Some m → IsWithin (sets_of s) m.to
    by (Some (command.Send b x d)) is h =
        let lawful = each_of (IsLawfulCommand s.config.bucket_count (sets_of s)) (s.operator o).script (length (s.operator o).answered) (command.Send b x d) (i.operators o).lawful is in
        let same : d ≡ m.to = cc in
        subst (IsWithin (sets_of s)) same lawful.2
    by None is h = absurd cc
    by (Some (command.Pin b x)) is h = absurd cc
    by (Some (command.Unpin b x)) is h = absurd cc
    by (Some (command.Close x y)) is h = absurd cc
    by (Some (command.Cut c k)) is h = absurd cc
    by (Some (command.Stop x)) is h = absurd cc
    by (Some (command.Restart x)) is h = absurd cc
    by (Some command.Balance) is h = absurd cc

-- ---- start and haul

pub or_none : {A : Type 0} (p q : Option A) → or_else p q ≡ None → (p ≡ None) × (q ≡ None)
or_none None q h = (refl, h)
or_none (Some x) q h = absurd cc

pub no_fault : (t : Bool) (f : CommandFault) → fault_if t f ≡ None → t ≡ false
no_fault true f h = absurd cc
no_fault false f h = refl

pub active_is : (e : Option Status) → unless_active e ≡ None → e ≡ Some Active
active_is (Some Active) h = refl
active_is None h = absurd cc
active_is (Some Pinned) h = absurd cc
active_is (Some (Sending d)) h = absurd cc
active_is (Some (Receiving x)) h = absurd cc
active_is (Some (Sent d)) h = absurd cc
active_is (Some Garbage) h = absurd cc

-- what is known where a bucket may be sent
pub record MaySend (s : State) (b x d : ℕ) : Type 0 where
  pub apart : d ≢ x
  pub x_up : s.up x ≡ true
  pub d_up : s.up d ≡ true
  pub active : (s.bucket b).entry x ≡ Some Active

pub may_send : (s : State) (b x d : ℕ) → send_fault s b x d ≡ None → MaySend s b x d
may_send s b x d h =
    let g1 = or_none (fault_if (x == d) fault.MoveToSelf) _ h in
    let g2 = or_none (if_down s x) _ g1.1 in
    let g3 = or_none (if_down s d) _ g2.1 in
    let g4 = or_none (unless_active ((s.bucket b).entry x)) _ g3.1 in
    record {
      apart = λ e. eqb-false x d (no_fault (x == d) fault.MoveToSelf g1.0) (sym e);
      x_up = back (s.up x) (no_fault _ _ g2.0);
      d_up = back (s.up d) (no_fault _ _ g3.0);
      active = active_is _ g4.0;
    }
  where
    back : (t : Bool) → not t ≡ false → t ≡ true
    back true e = refl
    back false e = absurd cc

-- a transfer of a bucket that is active begins
begun_keeps : (own : ℕ → ℕ) (s : State) (b x d : ℕ) (by : By) → Inner own s → d ≢ x → IsWithin (sets_of s) d → (s.bucket b).entry x ≡ Some Active → Inner own (put_bucket s b (with_begun (s.bucket b) x d by))
begun_keeps own s b x d by i apart within active =
    let t : Transfer = record { dest = d; by = by; phase = Draining 0 } in
    move_keeps own s x b (Some t) i (active_quiet (sets_of s) (own b) (s.bucket b) x (i.buckets b) active)
    (λ u e. let same : t ≡ u = cc in subst (TransferFits (sets_of s) (s.bucket b).entry (s.bucket b).rows x) same (record { apart = apart; within = within; phase = active; copy = tt }))

pub start_keeps : (own : ℕ → ℕ) (s t : State) (o : ℕ) → Inner own s → start s o ≡ Ok t → Inner own t
start_keeps own s t o i e =
    let p = can_start s t o e in
    subst (Inner own) p.gives (by_fault p.m (dest_within own s o p.m i p.named) (send_fault s p.m.bucket p.m.from p.m.to) refl)
  where
    by_fault : (m : Move) → IsWithin (sets_of s) m.to → (f : Option CommandFault) → send_fault s m.bucket m.from m.to ≡ f → Inner own (after_start s o m f)
    by_fault m within (Some f) is = answer_moves own s o (outcome.Refused f) i
    by_fault m within None is =
        let may = may_send s m.bucket m.from m.to is in
        let old = s.operator o in
        let new : Operator = record old { moving = true } in
        operator_moves own (put_bucket s m.bucket (with_begun (s.bucket m.bucket) m.from m.to (Command o))) o new (begun_keeps own s m.bucket m.from m.to (Command o) i may.apart within may.active) (record { lawful = (i.operators o).lawful; apart = (i.operators o).apart })

-- ---- haul

-- the least number that passes does pass
pub least_passes : (p : ℕ → Bool) (n k : ℕ) → least_to p n ≡ Some k → p k ≡ true
least_passes p zero k h = absurd cc
least_passes p (suc n) k h = by (least_passes p n k) (least_to p n) (p (suc n)) refl refl h
  where
    by : (least_to p n ≡ Some k → p k ≡ true) → (o : Option ℕ) (t : Bool) → least_to p n ≡ o → p (suc n) ≡ t → or_else o (if t then Some (suc n) else None) ≡ Some k → p k ≡ true
    by before (Some j) t is at h = before (is ∙ h)
    by before None true is at h = let same : suc n ≡ k = cc in subst (λ j. p j ≡ true) same at
    by before None false is at h = absurd cc

-- a bucket that is to be hauled is active, and both sets are up
pub record MayHaul (s : State) (x d b : ℕ) : Type 0 where
  pub x_up : s.up x ≡ true
  pub d_up : s.up d ≡ true
  pub active : (s.bucket b).entry x ≡ Some Active
  pub free : (s.bucket b).transfer x ≡ None

pub may_haul : (s : State) (x d b : ℕ) → bucket_to_haul s x d ≡ Some b → MayHaul s x d b
may_haul s x d b h = by (s.up x && s.up d) refl h
  where
    active_of : (e : Option Status) → is_active e ≡ true → e ≡ Some Active
    active_of e h = grind arith

    by : (t : Bool) → (s.up x && s.up d) ≡ t → (if t then least_to (is_free s x) s.config.bucket_count else None) ≡ Some b → MayHaul s x d b
    by true up h =
        let ups = both_are (s.up x) (s.up d) up in
        let free = both_are (is_active ((s.bucket b).entry x)) (is_none ((s.bucket b).transfer x)) (least_passes (is_free s x) s.config.bucket_count b h) in
        record { x_up = ups.0; d_up = ups.1; active = active_of _ free.0; free = none_is _ free.1 }
    by false up h = absurd cc

-- some left on a route says that there is one, and it leads to another set
apart_left : (routes : List Route) (x d : ℕ) → All (λ r. r.giver ≢ r.taker) routes → nat_lt 0 (left_on routes x d) ≡ true → d ≢ x
apart_left [] x d apart h = absurd cc
apart_left (r ∷ routes) x d apart h = by (apart_left routes x d (All-tail (λ q. q.giver ≢ q.taker) r routes apart)) (r.giver == x) (r.taker == d) refl refl (subst (λ k. nat_lt 0 k ≡ true) (sum_by-cons (λ q. if is_route x d q then q.number else 0) r routes) h)
  where
    by : (nat_lt 0 (left_on routes x d) ≡ true → d ≢ x) → (g t : Bool) → (r.giver == x) ≡ g → (r.taker == d) ≡ t → nat_lt 0 ((if g && t then r.number else 0) + left_on routes x d) ≡ true → d ≢ x
    by later true true eg et h = λ e. All-head (λ q. q.giver ≢ q.taker) r routes apart (eqb-true r.giver x eg ∙ sym e ∙ sym (eqb-true r.taker d et))
    by later true false eg et h = later (subst (λ k. nat_lt 0 k ≡ true) (omega arith) h)
    by later false t eg et h = later (subst (λ k. nat_lt 0 k ≡ true) (omega arith) h)

-- what is left on a route changes, and no route turns
with_left_apart : (routes : List Route) (x d n : ℕ) → All (λ r. r.giver ≢ r.taker) routes → All (λ r. r.giver ≢ r.taker) (with_left routes x d n)
with_left_apart [] x d n apart = All-nil _
with_left_apart (r ∷ routes) x d n apart =
    All-cons (λ q. q.giver ≢ q.taker) (if is_route x d r then record r { number = n } else r) (with_left routes x d n)
    (by (is_route x d r) (All-head (λ q. q.giver ≢ q.taker) r routes apart)) (with_left_apart routes x d n (All-tail (λ q. q.giver ≢ q.taker) r routes apart))
  where
    by : (t : Bool) → r.giver ≢ r.taker → (let q = if t then record r { number = n } else r in q.giver ≢ q.taker)
    by true ne = ne
    by false ne = ne

put_left_keeps : (own : ℕ → ℕ) (s : State) (o x d n : ℕ) → Inner own s → Inner own (put_left s o x d n)
put_left_keeps own s o x d n i =
    let old = s.operator o in
    operator_moves own s o (record old { routes = with_left old.routes x d n }) i
    (record { lawful = (i.operators o).lawful; apart = with_left_apart old.routes x d n (i.operators o).apart })

pub haul_keeps : (own : ℕ → ℕ) (s t : State) (o x d : ℕ) → Inner own s → haul s o x d ≡ Ok t → Inner own t
haul_keeps own s t o x d i e =
    let p = can_haul s t o x d e in
    let apart = apart_left (s.operator o).routes x d (i.operators o).apart p.left in
    subst (Inner own) p.gives (by_bucket apart (within_of (sets_of s) d p.to) (bucket_to_haul s x d) refl)
  where
    within_of : (n k : ℕ) → is_to n k ≡ true → IsWithin n k
    within_of n k h = (grind (arith, nat_tests, h), grind (arith, nat_tests, h))

    by_bucket : d ≢ x → IsWithin (sets_of s) d → (v : Option ℕ) → bucket_to_haul s x d ≡ v → Inner own (after_haul s o x d v)
    by_bucket apart within None is = put_left_keeps own s o x d 0 i
    by_bucket apart within (Some b) is =
        let may = may_haul s x d b is in
        let left = left_on (s.operator o).routes x d - 1 in
        begun_keeps own (put_left s o x d left) b x d (Haul o) (put_left_keeps own s o x d left i) apart within may.active

-- ---- notyet, abort, endmove

-- a phase to which a transfer goes on: nothing of it lies in a line before, and the phase fits
phase_keeps : (own : ℕ → ℕ) (s : State) (x b : ℕ) (u : Transfer) (p : Phase) → Inner own s → (s.bucket b).transfer x ≡ Some u → IsCalm u.phase
    → PhaseFits u.dest ((s.bucket b).entry x) p → CopyFits (s.bucket b).entry (s.bucket b).rows x u.dest p
    → Inner own (put_bucket s b (with_transfer (s.bucket b) x (Some (in_phase u p))))
phase_keeps own s x b u p i there calm ph cp =
    let fits = (i.buckets b).transfers x u there in
    let t : Transfer = in_phase u p in
    move_keeps own s x b (Some t) i (subst IsQuiet (sym there) calm)
    (λ v e. let same : t ≡ v = cc in subst (TransferFits (sets_of s) (s.bucket b).entry (s.bucket b).rows x) same (record { apart = fits.apart; within = fits.within; phase = ph; copy = cp }))

pub not_yet_keeps : (own : ℕ → ℕ) (s t : State) (x b : ℕ) → Inner own s → not_yet s x b ≡ Ok t → Inner own t
not_yet_keeps own s t x b i e =
    let p = can_wait s t x b e in
    let fits = (i.buckets b).transfers x p.u p.there in
    let active : (s.bucket b).entry x ≡ Some Active = subst (PhaseFits p.u.dest ((s.bucket b).entry x)) p.draining fits.phase in
    subst (Inner own) p.gives (phase_keeps own s x b p.u (Draining (p.turns + 1)) i p.there (subst IsCalm (sym p.draining) tt) active tt)

-- a transfer goes, and its command may be answered
gone_keeps : (own : ℕ → ℕ) (s : State) (x b : ℕ) → Inner own s → IsQuiet ((s.bucket b).transfer x) → Inner own (put_bucket s b (with_transfer (s.bucket b) x None))
gone_keeps own s x b i quiet = move_keeps own s x b None i quiet (λ t e. absurd cc)

pub answered_keeps : (own : ℕ → ℕ) (s : State) (by : By) (given : CommandOutcome) → Inner own s → Inner own (record s { operator = answered_by by s.operator given })
answered_keeps own s (Command o) given i = answer_moves own s o given i
answered_keeps own s (Haul o) given i = i

moved_keeps : (own : ℕ → ℕ) (s : State) (by : By) → Inner own s → Inner own (record s { operator = moved_by by s.operator })
moved_keeps own s (Command o) i = answer_moves own s o outcome.Moved i
moved_keeps own s (Haul o) i =
    let old = s.operator o in
    operator_moves own s o (record old { moved = old.moved + 1 }) i (record { lawful = (i.operators o).lawful; apart = (i.operators o).apart })

pub end_move_keeps : (own : ℕ → ℕ) (s t : State) (x b : ℕ) → Inner own s → end_move s x b ≡ Ok t → Inner own t
end_move_keeps own s t x b i e =
    let p = can_end_move s t x b e in
    let quiet : IsQuiet ((s.bucket b).transfer x) = subst IsQuiet (sym p.there) (subst IsCalm (sym p.done) tt) in
    subst (Inner own) p.gives (moved_keeps own (put_bucket s b (with_transfer (s.bucket b) x None)) p.u.by (gone_keeps own s x b i quiet))

-- ---- chunk and last

pub chunk_keeps : (own : ℕ → ℕ) (s t : State) (x b : ℕ) → Inner own s → chunk s x b ≡ Ok t → Inner own t
chunk_keeps own s t x b i e =
    let p = can_chunk s t x b e in
    let old = s.bucket b in
    let u = p.u in
    let fits = (i.buckets b).transfers x u p.there in
    let l = s.link x u.dest in
    let page = next_page (old.rows x) p.key in
    let phase : Phase = Waiting l.epoch l.next (last_key page) in
    let v : Transfer = in_phase u phase in
    let sends : old.entry x ≡ Some (Sending u.dest) = subst (PhaseFits u.dest (old.entry x)) p.ready fits.phase in
    let copy = subst (CopyFits old.entry old.rows x u.dest) p.ready fits.copy in
    subst (Inner own) p.gives (sent_keeps own s x b u.dest (Some v) (Chunk b page) i (subst IsQuiet (sym p.there) (subst IsCalm (sym p.ready) tt))
    (λ t e. let same : v ≡ t = cc in subst (TransferFits (sets_of s) old.entry old.rows x) same (record { apart = fits.apart; within = fits.within; phase = sends; copy = tt }))
    refl (record { it = v; there = put_here old.transfer x (Some v); to = refl; phase_is = refl }, record { from = p.key; taken = copy; page_is = refl }))

pub last_keeps : (own : ℕ → ℕ) (s t : State) (x b : ℕ) → Inner own s → last s x b ≡ Ok t → Inner own t
last_keeps own s t x b i e =
    let p = can_last s t x b e in
    let old = s.bucket b in
    let u = p.u in
    let fits = (i.buckets b).transfers x u p.there in
    let l = s.link x u.dest in
    let phase : Phase = WaitingLast l.epoch l.next in
    let v : Transfer = in_phase u phase in
    let sent : old.entry x ≡ Some (Sent u.dest) = subst (PhaseFits u.dest (old.entry x)) p.sealed fits.phase in
    subst (Inner own) p.gives (sent_keeps own s x b u.dest (Some v) (Last b) i (subst IsQuiet (sym p.there) (subst IsCalm (sym p.sealed) tt))
    (λ t e. let same : v ≡ t = cc in subst (TransferFits (sets_of s) old.entry old.rows x) same (record { apart = fits.apart; within = fits.within; phase = sent; copy = tt }))
    refl (record { it = v; there = put_here old.transfer x (Some v); to = refl; phase_is = refl }))
