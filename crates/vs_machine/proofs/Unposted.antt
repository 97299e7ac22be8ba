-- A call that wasn't posted yet is idle, and isn't cut.
use Rattle.std.proofs.Common.{◌≡◌, ℕ, ◌+◌, arith, Bool, true, false, refl, sym, ap, subst, ◌∙◌, List, [], ◌∷◌, Ok}
use Rattle.std.specs.Prelude.{◌&&◌, ◌||◌, ◌==◌, not, if◌then◌else◌, length}
use Rattle.vs_space.specs.declared.status.Verdict.{Verdict}
use Rattle.vs_space.specs.declared.status.Verdict.TheVariants as verdict
use Rattle.vs_calls.specs.declared.stage.Stage.{Stage}
use Rattle.vs_calls.specs.declared.stage.Stage.TheVariants as stage
use Rattle.vs_calls.specs.Progress.{Progress, begun, lost, cut_at, is_idle, is_posted, is_running, is_acted, is_at_set}
use Rattle.vs_event.specs.declared.event.Event.{Event}
use Rattle.vs_machine.specs.Opening.{opening}
use Rattle.vs_machine.specs.Runs.{IsReached}
use Rattle.vs_machine.specs.State.{State, Client}
use Rattle.vs_machine.specs.Step.{step, run}
use Rattle.vs_machine.specs.Kinds.Calls.{is_answered, is_reached}
use Rattle.vs_machine.proofs.Possible.{bind_ok, ok_is}
use Rattle.vs_machine.proofs.Turns.{Turn, stays, posts, begins, acts, ends, takes, cuts, falls, turn}

pub record Unposted (p : Progress) : Type 0 where
  pub idle : p.tries ≡ 0 → is_idle p.stage ≡ true
  pub uncut : is_idle p.stage ≡ true → p.cut ≡ false

pub idle_is : (st : Stage) → is_idle st ≡ true → st ≡ stage.Idle
idle_is st h = grind arith

pub posted_is : (st : Stage) → is_posted st ≡ true → st ≡ stage.Posted
posted_is st h = grind arith

pub running_is : (st : Stage) → is_running st ≡ true → st ≡ stage.Running
running_is st h = grind arith

pub acted_is : (st : Stage) → is_acted st ≡ true → st ≡ stage.Acted
acted_is st h = grind arith

-- a call that is at another stage was posted
busy : (p : Progress) (st : Stage) → p.stage ≡ st → is_idle st ≡ false → Unposted p → p.tries ≡ 0 → ⊥
busy p st is busy_there u none = absurd (cc (sym busy_there ∙ sym (ap is_idle is) ∙ u.idle none))

begun_unposted : (p : Progress) (v : Verdict) → p.stage ≡ stage.Posted → Unposted p → Unposted (begun p v)
begun_unposted p verdict.Granted is u = record { idle = λ none. absurd (busy p stage.Posted is refl u none); uncut = λ h. absurd cc }
begun_unposted p (verdict.Refused cause) is u = record { idle = λ none. absurd (busy p stage.Posted is refl u none); uncut = λ h. absurd cc }

ended_unposted : (p : Progress) (t : Bool) → p.stage ≡ stage.Acted → Unposted p → Unposted (if t then lost p else record p { stage = stage.Ended })
ended_unposted p true is u = record { idle = λ none. absurd (busy p stage.Acted is refl u none); uncut = λ h. absurd cc }
ended_unposted p false is u = record { idle = λ none. absurd (busy p stage.Acted is refl u none); uncut = λ h. absurd cc }

cut_unposted : (p : Progress) (st : Stage) → p.stage ≡ st → is_idle st ≡ false → Unposted p → Unposted (cut_at st p)
cut_unposted p stage.Idle is other u = absurd cc
cut_unposted p stage.Running is other u = record { idle = u.idle; uncut = λ h. absurd (cc (sym other ∙ sym (ap is_idle is) ∙ h)) }
cut_unposted p stage.Acted is other u = record { idle = u.idle; uncut = λ h. absurd (cc (sym other ∙ sym (ap is_idle is) ∙ h)) }
cut_unposted p stage.Posted is other u = record { idle = λ none. absurd (busy p stage.Posted is refl u none); uncut = λ h. absurd cc }
cut_unposted p stage.Ended is other u = record { idle = λ none. absurd (busy p stage.Ended is refl u none); uncut = λ h. absurd cc }
cut_unposted p stage.Refused is other u = record { idle = λ none. absurd (busy p stage.Refused is refl u none); uncut = λ h. absurd cc }
cut_unposted p stage.Lost is other u = record { idle = λ none. absurd (busy p stage.Lost is refl u none); uncut = λ h. absurd cc }

at_set_busy : (st : Stage) → is_at_set st ≡ true → is_idle st ≡ false
at_set_busy stage.Idle h = absurd cc
at_set_busy stage.Posted h = refl
at_set_busy stage.Running h = refl
at_set_busy stage.Acted h = refl
at_set_busy stage.Ended h = refl
at_set_busy stage.Refused h = refl
at_set_busy stage.Lost h = refl

-- a cut that isn't late names a call that was posted
reached_busy : (p q r : Bool) → (p || (q && not r)) ≡ true → p ≡ false → (q ≡ true) × (r ≡ false)
reached_busy true q r h late = absurd (cc late)
reached_busy false true false h late = (refl, refl)
reached_busy false true true h late = absurd (cc h)
reached_busy false false r h late = absurd (cc h)

pub cut_busy : (c : Client) (n : ℕ) → is_reached c n ≡ true → is_answered c n ≡ false → (n == length c.answered + 1) ≡ true × (is_idle c.present.stage ≡ false)
cut_busy c n reached present = reached_busy (is_answered c n) _ (is_idle c.present.stage) reached present

step_unposted : (s t : State) (c : ℕ) (e : Event) → Turn s t c e → Unposted (s.client c).present → Unposted (t.client c).present
step_unposted s t c e (stays other up same) u = subst (λ (v : Client). Unposted v.present) (sym same) u
step_unposted s t c e (posts x w k is called ready gives) u = subst (λ (v : Client). Unposted v.present) (sym gives) (record { idle = λ none. absurd (omega (arith, none)); uncut = λ h. absurd cc })
step_unposted s t c e (begins x k is called at ready gives) u = subst (λ (v : Client). Unposted v.present) (sym gives) (begun_unposted (s.client c).present _ (posted_is _ ready) u)
step_unposted s t c e (acts place answers is ready gives) u = subst (λ (v : Client). Unposted v.present) (sym gives)
    (record { idle = λ none. absurd (busy (s.client c).present stage.Running (running_is _ ready) refl u none); uncut = λ h. absurd cc })
step_unposted s t c e (ends is ready gives) u = subst (λ (v : Client). Unposted v.present) (sym gives) (ended_unposted (s.client c).present (s.client c).present.cut (acted_is _ ready) u)
step_unposted s t c e (takes is gives) u = subst (λ (v : Client). Unposted v.present) (sym gives) (record { idle = λ none. refl; uncut = λ h. refl })
step_unposted s t c e (cuts o n other is named reached present gives) u = subst (λ (v : Client). Unposted v.present) (sym gives)
    (cut_unposted (s.client c).present (s.client c).present.stage refl (cut_busy (s.client c) n reached present).1 u)
step_unposted s t c e (falls x other was down at set gives) u = subst (λ (v : Client). Unposted v.present) (sym gives)
    (record { idle = λ none. absurd (busy (s.client c).present (s.client c).present.stage refl (at_set_busy _ at) u none); uncut = λ h. absurd cc })

run_unposted : (s t : State) (es : List Event) (c : ℕ) → Unposted (s.client c).present → run s es ≡ Ok t → Unposted (t.client c).present
run_unposted s t [] c u h = subst (λ (v : State). Unposted (v.client c).present) (ok_is s t h) u
run_unposted s t (e ∷ es) c u h =
    let next = bind_ok (step s e) (λ v. run v es) t h in
    run_unposted next.0 t es c (step_unposted s next.0 c e (turn s c next.0 e next.1) u) next.2

pub unposted : (s : State) (c : ℕ) → IsReached s → Unposted (s.client c).present
unposted s c r = run_unposted (opening r.config r.scripts r.held) s r.events c (record { idle = λ none. refl; uncut = λ h. refl }) r.runs
