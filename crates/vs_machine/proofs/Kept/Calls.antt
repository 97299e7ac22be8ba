-- The events of a client keep what holds inside: post, begin, end, take; and cut.
use Rattle.std.proofs.Common.{◌≡◌, ℕ, Ok, ◌+◌, Bool, true, false, refl, sym, subst, ◌∙◌, arith, Option, Some, None, [], ◌∷◌, ◌++◌, length}
use Rattle.std.specs.Prelude.{if◌then◌else◌, ◌&&◌, ◌||◌, ◌==◌, not}
use Rattle.std.proofs.lemmas.Bool.{eqb-true}
use Rattle.std.proofs.lemmas.List.Elements.{All-nil}
use Rattle.vs_base.specs.declared.numbers.Mode.{Mode}
use Rattle.vs_base.specs.declared.numbers.Mode.TheVariants.{Ro, Rw}
use Rattle.vs_space.specs.declared.status.Status.{Status}
use Rattle.vs_space.specs.declared.status.Status.TheVariants.{Active, Pinned, Sending, Receiving, Sent, Garbage}
use Rattle.vs_space.specs.declared.status.Cause.TheVariants.{Down}
use Rattle.vs_space.specs.declared.status.Verdict.{Verdict}
use Rattle.vs_space.specs.declared.status.Verdict.TheVariants.{Granted, Refused}
use Rattle.vs_space.specs.Verdict.{verdict_of}
use Rattle.vs_calls.specs.declared.stage.Stage.{Stage}
use Rattle.vs_calls.specs.declared.stage.Stage.TheVariants as stage
use Rattle.vs_calls.specs.Progress.{Progress, posted, begun, ended, cut, cut_at, lost, taken, outcome_of, is_held, is_idle}
use Rattle.vs_history.specs.History.{write_count}
use Rattle.vs_script.specs.Calls.{Call}
use Rattle.vs_machine.specs.State.{State, Bucket, Client, Operator, sets_of, has_client, next_call, is_set, is_draining, answer, put_client, put_operator, with_progress}
use Rattle.vs_machine.specs.Kinds.Calls.{post, begin, «end», take, cut_call, verdict_at, is_answered, is_reached}
use Rattle.vs_machine.specs.declared.outcome.CommandOutcome.{CommandOutcome}
use Rattle.vs_machine.specs.declared.outcome.CommandOutcome.TheVariants.{Late, Done}
use Rattle.vs_machine.specs.Coherence.{IsServing}
use Rattle.vs_machine.specs.Whole.{Inner, OperatorFits}
use Rattle.vs_machine.specs.Inner.Calls.{ReadFits, HoldFits, ClientFits}
use Rattle.vs_machine.proofs.Frame.{put_each}
use Rattle.vs_machine.proofs.Possible.{both_are}
use Rattle.vs_machine.proofs.Can.Calls.{can_post, can_begin, can_end, can_take, can_cut}

-- a client of the cluster moves on, and nothing else changes
pub client_moves : (own : ℕ → ℕ) (s : State) (c : ℕ) (new : Client) → Inner own s → has_client s c ≡ true → ClientFits s.bucket new → Inner own (put_client s c new)
client_moves own s c new i among fits = record {
  buckets = i.buckets;
  clients = put_each (λ q. ClientFits s.bucket) s.client c new fits i.clients;
  absent = put_each (λ q (u : Client). has_client s q ≡ false → is_idle u.present.stage ≡ true) s.client c new (λ out. absurd (cc (among, out))) i.absent;
  links = i.links;
  real = i.real;
  operators = i.operators;
}

-- an operator moves on, and nothing else changes
pub operator_moves : (own : ℕ → ℕ) (s : State) (o : ℕ) (new : Operator) → Inner own s → OperatorFits s.config.bucket_count (sets_of s) new → Inner own (put_operator s o new)
operator_moves own s o new i fits = record {
  buckets = i.buckets;
  clients = i.clients;
  absent = i.absent;
  links = i.links;
  real = i.real;
  operators = put_each (λ q. OperatorFits s.config.bucket_count (sets_of s)) s.operator o new fits i.operators;
}

-- a command is answered
pub answer_moves : (own : ℕ → ℕ) (s : State) (o : ℕ) (outcome : CommandOutcome) → Inner own s → Inner own (put_operator s o (answer (s.operator o) outcome))
answer_moves own s o outcome i = operator_moves own s o (answer (s.operator o) outcome) i (record { lawful = (i.operators o).lawful; apart = All-nil _ })

-- a call that holds nothing
pub unheld_fits : (bs : ℕ → Bucket) (c : Client) → is_held c.present.stage ≡ false → ClientFits bs c
unheld_fits bs c none k x called held = absurd (cc (none, (both_are (is_held c.present.stage) (is_set c.present.set x) held).0))

pub post_keeps : (own : ℕ → ℕ) (s t : State) (c x : ℕ) → Inner own s → post s c x ≡ Ok t → Inner own t
post_keeps own s t c x i e =
    let p = can_post s t c x e in
    let old = s.client c in
    let new : Client = with_progress old (posted old.present x (write_count (s.bucket p.k.bucket).history)) in
    subst (Inner own) p.gives (client_moves own s c new i p.client (unheld_fits s.bucket new refl))

-- ---- begin

-- what a set grants, it may hold
granted_fits : (b : Bucket) (x at : ℕ) (mode : Mode) (draining : Bool) → verdict_of (b.entry x) draining mode ≡ Granted → HoldFits b x mode at
granted_fits b x at Ro draining h = reads (b.entry x) h
  where
    reads : (e : Option Status) → verdict_of e draining Ro ≡ Granted → ReadFits e (b.rows x) b.history (b.kept x) at
    reads None h = absurd cc
    reads (Some Active) h = tt
    reads (Some Pinned) h = tt
    reads (Some (Sending d)) h = tt
    reads (Some (Receiving z)) h = absurd cc
    reads (Some (Sent d)) h = absurd cc
    reads (Some Garbage) h = absurd cc
granted_fits b x at Rw draining h = writes (b.entry x) draining h
  where
    writes : (e : Option Status) (w : Bool) → verdict_of e w Rw ≡ Granted → IsServing e
    writes None w h = absurd cc
    writes (Some Active) w h = tt
    writes (Some Pinned) w h = tt
    writes (Some (Sending d)) w h = absurd cc
    writes (Some (Receiving z)) w h = absurd cc
    writes (Some (Sent d)) w h = absurd cc
    writes (Some Garbage) w h = absurd cc

granted_at : (s : State) (x at : ℕ) (k : Call) → verdict_at s x k ≡ Granted → HoldFits (s.bucket k.bucket) x k.mode at
granted_at s x at k h = by_up (s.up x) h
  where
    by_up : (up : Bool) → (let b = s.bucket k.bucket in if up then verdict_of (b.entry x) (is_draining (b.transfer x)) k.mode else Refused Down) ≡ Granted → HoldFits (s.bucket k.bucket) x k.mode at
    by_up true h = granted_fits (s.bucket k.bucket) x at k.mode (is_draining ((s.bucket k.bucket).transfer x)) h
    by_up false h = absurd cc

-- the set of the last post is one
pub one_set : (o : Option ℕ) (x y : ℕ) → o ≡ Some x → is_set o y ≡ true → x ≡ y
one_set None x y e h = absurd cc
one_set (Some z) x y e h = let same : z ≡ x = cc in sym same ∙ eqb-true z y h

begun_fits : (s : State) (c x : ℕ) (k : Call) (v : Verdict) → next_call (s.client c) ≡ Some k → (s.client c).present.set ≡ Some x → verdict_at s x k ≡ v
    → ClientFits s.bucket (with_progress (s.client c) (begun (s.client c).present v))
begun_fits s c x k (Refused cause) called at is = unheld_fits s.bucket (with_progress (s.client c) (begun (s.client c).present (Refused cause))) refl
begun_fits s c x k Granted called at is = λ j y named held.
    let one : k ≡ j = cc (called, named) in
    let here : x ≡ y = one_set (s.client c).present.set x y at held in
    subst (λ (i : Call). HoldFits (s.bucket i.bucket) y i.mode (s.client c).present.writes) one
    (subst (λ z. HoldFits (s.bucket k.bucket) z k.mode (s.client c).present.writes) here (granted_at s x (s.client c).present.writes k is))

pub begin_keeps : (own : ℕ → ℕ) (s t : State) (c : ℕ) → Inner own s → begin s c ≡ Ok t → Inner own t
begin_keeps own s t c i e =
    let p = can_begin s t c e in
    subst (Inner own) p.gives (client_moves own s c (with_progress (s.client c) (begun (s.client c).present (verdict_at s p.x p.k))) i p.client (begun_fits s c p.x p.k (verdict_at s p.x p.k) p.called p.set refl))

-- ---- end, take, cut

pub end_keeps : (own : ℕ → ℕ) (s t : State) (c : ℕ) → Inner own s → «end» s c ≡ Ok t → Inner own t
end_keeps own s t c i e =
    let p = can_end s t c e in
    let new : Client = with_progress (s.client c) (ended (s.client c).present) in
    subst (Inner own) p.gives (client_moves own s c new i p.client (unheld_fits s.bucket new (free (s.client c).present)))
  where
    free : (q : Progress) → is_held (ended q).stage ≡ false
    free q = by_cut q.cut
      where
        by_cut : (u : Bool) → is_held (if u then lost q else record q { stage = stage.Ended }).stage ≡ false
        by_cut true = refl
        by_cut false = refl

pub take_keeps : (own : ℕ → ℕ) (s t : State) (c : ℕ) → Inner own s → take s c ≡ Ok t → Inner own t
take_keeps own s t c i e =
    let p = can_take s t c e in
    let old = s.client c in
    let new : Client = record old { answered = old.answered ++ outcome_of old.present ∷ []; present = taken old.present } in
    subst (Inner own) p.gives (client_moves own s c new i p.client (unheld_fits s.bucket new refl))

-- a call that is cut holds what it held, or nothing
cut_fits : (bs : ℕ → Bucket) (c : Client) → ClientFits bs c → ClientFits bs (with_progress c (cut c.present))
cut_fits bs c fits = by_stage c.present.stage refl
  where
    by_stage : (st : Stage) → c.present.stage ≡ st → ClientFits bs (with_progress c (cut_at st c.present))
    by_stage stage.Running is = fits
    by_stage stage.Acted is = fits
    by_stage stage.Idle is = unheld_fits bs (with_progress c (lost c.present)) refl
    by_stage stage.Posted is = unheld_fits bs (with_progress c (lost c.present)) refl
    by_stage stage.Refused is = unheld_fits bs (with_progress c (lost c.present)) refl
    by_stage stage.Ended is = unheld_fits bs (with_progress c (lost c.present)) refl
    by_stage stage.Lost is = unheld_fits bs (with_progress c (lost c.present)) refl

-- a client whose call was posted is one of the cluster
pub among : (own : ℕ → ℕ) (s : State) (c : ℕ) → Inner own s → is_idle (s.client c).present.stage ≡ false → has_client s c ≡ true
among own s c i busy = by_test (has_client s c) refl
  where
    by_test : (t : Bool) → has_client s c ≡ t → has_client s c ≡ true
    by_test true is = is
    by_test false is = absurd (cc (busy, i.absent c is))

abbrev cut_by : State → ℕ → ℕ → Bool → State
cut_by s o c late =
    let old = s.client c in
    if late then put_operator s o (answer (s.operator o) Late)
    else put_operator (put_client s c (with_progress old (cut old.present))) o (answer (s.operator o) Done)

cut_by_keeps : (own : ℕ → ℕ) (s : State) (o c n : ℕ) (late : Bool) → Inner own s → is_answered (s.client c) n ≡ late → is_reached (s.client c) n ≡ true → Inner own (cut_by s o c late)
cut_by_keeps own s o c n true i is reached = answer_moves own s o Late i
cut_by_keeps own s o c n false i is reached =
    let busy : is_idle (s.client c).present.stage ≡ false = busy_by (is_answered (s.client c) n) (n == length (s.client c).answered + 1) (is_idle (s.client c).present.stage) is reached in
    let new : Client = with_progress (s.client c) (cut (s.client c).present) in
    let moved : Inner own (put_client s c new) = client_moves own s c new i (among own s c i busy) (cut_fits s.bucket (s.client c) (i.clients c)) in
    answer_moves own (put_client s c new) o Done moved
  where
    busy_by : (late here idle : Bool) → late ≡ false → (late || (here && not idle)) ≡ true → idle ≡ false
    busy_by late here idle e h = grind (arith, e, h)

pub cut_keeps : (own : ℕ → ℕ) (s t : State) (o : ℕ) → Inner own s → cut_call s o ≡ Ok t → Inner own t
cut_keeps own s t o i e =
    let p = can_cut s t o e in
    subst (Inner own) p.gives (cut_by_keeps own s o p.c p.n (is_answered (s.client p.c) p.n) i refl p.reached)
