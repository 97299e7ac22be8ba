-- A posted call is there to be answered: kept by the events of calls.
use Rattle.std.proofs.Common.{◌≡◌, ℕ, ◌+◌, ◌<◌, arith, Bool, true, false, refl, subst, ◌∙◌, [], ◌∷◌, ◌++◌, length, Some, Ok}
use Rattle.std.specs.Prelude.{◌==◌, ◌||◌, if◌then◌else◌}
use Rattle.std.proofs.lemmas.List.{length_push}
use Rattle.std.proofs.lemmas.Option.{slice_get_within}
use Rattle.vs_calls.specs.declared.stage.Stage.{Stage}
use Rattle.vs_calls.specs.declared.stage.Stage.TheVariants as stage
use Rattle.vs_calls.specs.Progress.{Progress, begun, acted, ended, lost, cut, cut_at, taken, outcome_of, is_idle, is_refused, is_over}
use Rattle.vs_space.specs.declared.status.Verdict.{Verdict}
use Rattle.vs_space.specs.declared.status.Verdict.TheVariants as verdict
use Rattle.vs_machine.specs.declared.outcome.CommandOutcome.TheVariants.{Done, Late}
use Rattle.vs_machine.specs.State.{State, Client, sets_of, call_id, answer, put_client, put_operator, with_progress}
use Rattle.vs_machine.specs.Kinds.Calls.{post, begin, act, «end», take, cut_call, call_to_cut, is_answered, is_reached, verdict_at}
use Rattle.vs_machine.proofs.Can.Calls.{can_post, can_begin, can_act, can_end, can_take, can_cut}
use Rattle.vs_machine.proofs.Kept.Acting.{runs_busy}
use Rattle.vs_machine.proofs.Leaves.{acted_transfer}
use Rattle.vs_machine.proofs.Order.Calm.{reached_busy}
use Rattle.vs_machine.proofs.Order.Passing.{posted_busy, acted_busy}
use Rattle.vs_machine.proofs.Due.Frame.{still_fits, PresentFits, DueFits, client_fits, IsDue, due, answer_fits}

pub progress_fits : (n : ℕ) (c : Client) (p : Progress) → PresentFits n c → is_idle c.present.stage ≡ false → p.set ≡ c.present.set → PresentFits n (with_progress c p)
progress_fits n c p i busy same =
    let was = i.present busy in
    record { within = i.within; present = λ still. record { call = was.call; called = was.called; set = was.set; at = same ∙ was.at; known = was.known } }

begun_set : (p : Progress) (v : Verdict) → (begun p v).set ≡ p.set
begun_set p verdict.Granted = refl
begun_set p (verdict.Refused cause) = refl

ended_set : (p : Progress) → (ended p).set ≡ p.set
ended_set p = at p.cut
  where
    at : (t : Bool) → (if t then lost p else (record p { stage = stage.Ended })).set ≡ p.set
    at true = refl
    at false = refl

cut_set : (p : Progress) (st : Stage) → (cut_at st p).set ≡ p.set
cut_set p stage.Running = refl
cut_set p stage.Acted = refl
cut_set p stage.Idle = refl
cut_set p stage.Posted = refl
cut_set p stage.Ended = refl
cut_set p stage.Refused = refl
cut_set p stage.Lost = refl

over_busy : (st : Stage) → (is_refused st || is_over st) ≡ true → is_idle st ≡ false
over_busy st h = grind arith

pub post_due : (s t : State) (c x : ℕ) → DueFits s → post s c x ≡ Ok t → DueFits t
post_due s t c x i h =
    let p = can_post s t c x h in
    subst DueFits p.gives (client_fits s c _ i (record { within = (i.clients c).within; present = λ busy. record { call = p.k; called = p.called; set = x; at = refl; known = p.set } }))

pub begin_due : (s t : State) (c : ℕ) → DueFits s → begin s c ≡ Ok t → DueFits t
begin_due s t c i h =
    let p = can_begin s t c h in
    let old = s.client c in
    let v = verdict_at s p.x p.k in
    subst DueFits p.gives (client_fits s c _ i (progress_fits (sets_of s) old (begun old.present v) (i.clients c) (posted_busy old.present.stage p.posted) (begun_set old.present v)))

pub act_due : (s t : State) (c : ℕ) → DueFits s → act s c ≡ Ok t → DueFits t
act_due s t c i h =
    let p = can_act s t c h in
    let old = s.client c in
    subst DueFits p.gives (still_fits (put_client s c (with_progress old (acted old.present _ _))) p.k.bucket _ s.link
    (client_fits s c _ i (progress_fits (sets_of s) old _ (i.clients c) (runs_busy old.present.stage p.running) refl))
    (acted_transfer (s.bucket p.k.bucket) p.x (call_id c old) p.k.mode p.k.ops))

pub end_due : (s t : State) (c : ℕ) → DueFits s → «end» s c ≡ Ok t → DueFits t
end_due s t c i h =
    let p = can_end s t c h in
    let old = s.client c in
    subst DueFits p.gives (client_fits s c _ i (progress_fits (sets_of s) old (ended old.present) (i.clients c) (acted_busy old.present.stage p.acted) (ended_set old.present)))

pub take_due : (s t : State) (c : ℕ) → DueFits s → take s c ≡ Ok t → DueFits t
take_due s t c i h =
    let p = can_take s t c h in
    let old = s.client c in
    let was = (i.clients c).present (over_busy old.present.stage p.ready) in
    let lt : length old.answered < length old.script = slice_get_within old.script (length old.answered) was.call was.called in
    let one = length_push old.answered (outcome_of old.present) in
    subst DueFits p.gives (client_fits s c (record old { answered = old.answered ++ outcome_of old.present ∷ []; present = taken old.present }) i (record { within = omega (arith, lt, one); present = λ busy. absurd (cc (busy)) }))

pub cut_due : (s t : State) (o : ℕ) → DueFits s → cut_call s o ≡ Ok t → DueFits t
cut_due s t o i h = let p = can_cut s t o h in subst DueFits p.gives (at p.c p.n (is_answered (s.client p.c) p.n) refl p.reached (due call_to_cut (Some (p.c, p.n)) (s.operator o) (λ e. absurd cc) (λ b x d e. absurd cc) p.named))
  where
    at : (c n : ℕ) (late : Bool) → is_answered (s.client c) n ≡ late → is_reached (s.client c) n ≡ true → IsDue (s.operator o)
        → DueFits (let old = s.client c in if late then put_operator s o (answer (s.operator o) Late) else put_operator (put_client s c (with_progress old (cut old.present))) o (answer (s.operator o) Done))
    at c n true is reached d = answer_fits s o Late i d
    at c n false is reached d =
        let old = s.client c in
        let busy = reached_busy (is_answered old n) (n == length old.answered + 1) (is_idle old.present.stage) is reached in
        answer_fits (put_client s c (with_progress old (cut old.present))) o Done (client_fits s c _ i (progress_fits (sets_of s) old (cut old.present) (i.clients c) busy (cut_set old.present old.present.stage))) d
