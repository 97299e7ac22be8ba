-- What an event that takes no answer makes of a client.
use Rattle.std.proofs.Common.{◌≡◌, ℕ, inl, inr, Bool, true, false, refl, ap, subst, arith, Option, Some, length}
use Rattle.std.specs.Prelude.{◌⊎◌, ◌&&◌, if◌then◌else◌, slice_get}
use Rattle.vs_space.specs.declared.status.Verdict.{Verdict}
use Rattle.vs_space.specs.declared.status.Verdict.TheVariants.{Granted, Refused}
use Rattle.vs_calls.specs.declared.stage.Stage.{Stage}
use Rattle.vs_calls.specs.declared.stage.Stage.TheVariants as stage
use Rattle.vs_calls.specs.Outcomes.{Outcome}
use Rattle.vs_calls.specs.Progress.{posted, begun, ended, cut, cut_at, lost, may_post, is_posted, is_running, is_acted, is_idle, is_at_set}
use Rattle.vs_history.specs.History.{write_count}
use Rattle.vs_script.specs.Calls.{Call}
use Rattle.vs_machine.specs.State.{State, Client, next_call, is_set, with_progress}
use Rattle.vs_machine.specs.Kinds.Stops.{lost_at}
use Rattle.vs_machine.specs.Inner.Answers.{HasAnswers}
use Rattle.vs_machine.specs.Inner.Once.{HasActed}

-- the present call stays; where it isn't idle it was posted when it was, or now
pub record Follows (s : State) (old new : Client) : Type 0 where
  pub script : new.script ≡ old.script
  pub answered : new.answered ≡ old.answered
  pub number : new.present.number ≡ old.present.number
  pub acted : HasActed old.present.stage → HasActed new.present.stage
  pub writes : (k : Call) → next_call old ≡ Some k → is_idle new.present.stage ≡ false
      → ((is_idle old.present.stage ≡ false) × (new.present.writes ≡ old.present.writes)) ⊎ (new.present.writes ≡ write_count (s.bucket k.bucket).history)

-- and it has no answers but those that it had
pub record Passes (s : State) (old new : Client) : Type 0 where
  pub follows : Follows s old new
  pub answers : HasAnswers new.present.stage → HasAnswers old.present.stage × (new.present.said ≡ old.present.said) × (new.present.writes ≡ old.present.writes)

-- a call of the script after is one before, and so is an answer
pub script_back : (s : State) (old new : Client) → Follows s old new → (n : ℕ) {o : Option Call} → slice_get new.script n ≡ o → slice_get old.script n ≡ o
script_back s old new f n {o} h = subst (λ ks. slice_get ks n ≡ o) f.script h

pub answer_back : (s : State) (old new : Client) → Follows s old new → (n : ℕ) {o : Option Outcome} → slice_get new.answered n ≡ o → slice_get old.answered n ≡ o
answer_back s old new f n {o} h = subst (λ os. slice_get os n ≡ o) f.answered h

pub called_back : (s : State) (old new : Client) → Follows s old new → {o : Option Call} → next_call new ≡ o → next_call old ≡ o
called_back s old new f {o} h = subst (λ ks. slice_get ks (length old.answered) ≡ o) f.script (subst (λ (os : _). slice_get new.script (length os) ≡ o) f.answered h)

-- ---- stages

may_unacted : (st : Stage) → may_post st ≡ true → HasActed st → ⊥
may_unacted stage.Idle e h = h
may_unacted stage.Refused e h = h
may_unacted stage.Posted e h = h
may_unacted stage.Running e h = h
may_unacted stage.Acted e h = absurd (cc e)
may_unacted stage.Ended e h = absurd (cc e)
may_unacted stage.Lost e h = absurd (cc e)

posted_unacted : (st : Stage) → is_posted st ≡ true → HasActed st → ⊥
posted_unacted stage.Idle e h = h
posted_unacted stage.Refused e h = h
posted_unacted stage.Posted e h = h
posted_unacted stage.Running e h = h
posted_unacted stage.Acted e h = absurd (cc e)
posted_unacted stage.Ended e h = absurd (cc e)
posted_unacted stage.Lost e h = absurd (cc e)

pub running_unacted : (st : Stage) → is_running st ≡ true → HasActed st → ⊥
running_unacted stage.Idle e h = h
running_unacted stage.Refused e h = h
running_unacted stage.Posted e h = h
running_unacted stage.Running e h = h
running_unacted stage.Acted e h = absurd (cc e)
running_unacted stage.Ended e h = absurd (cc e)
running_unacted stage.Lost e h = absurd (cc e)

acted_has : (st : Stage) → is_acted st ≡ true → HasAnswers st
acted_has stage.Acted e = tt
acted_has stage.Idle e = absurd (cc e)
acted_has stage.Refused e = absurd (cc e)
acted_has stage.Posted e = absurd (cc e)
acted_has stage.Running e = absurd (cc e)
acted_has stage.Ended e = absurd (cc e)
acted_has stage.Lost e = absurd (cc e)

pub posted_busy : (st : Stage) → is_posted st ≡ true → is_idle st ≡ false
posted_busy st h = grind arith

pub acted_busy : (st : Stage) → is_acted st ≡ true → is_idle st ≡ false
acted_busy st h = grind arith

pub at_set_busy : (st : Stage) → is_at_set st ≡ true → is_idle st ≡ false
at_set_busy st h = grind arith

-- ---- each step

pub same_passes : (s : State) (c : Client) → Passes s c c
same_passes s c = record {
  follows = record { script = refl; answered = refl; number = refl; acted = λ h. h; writes = λ k e busy. inl (busy, refl) };
  answers = λ h. (h, refl, refl);
}

pub posted_passes : (s : State) (c : Client) (x : ℕ) (k : Call) → next_call c ≡ Some k → may_post c.present.stage ≡ true → Passes s c (with_progress c (posted c.present x (write_count (s.bucket k.bucket).history)))
posted_passes s c x k called may = record {
  follows = record {
    script = refl;
    answered = refl;
    number = refl;
    acted = λ h. absurd (may_unacted c.present.stage may h);
    writes = λ j e busy. let one : k ≡ j = cc (called, e) in inr (ap (λ (u : Call). write_count (s.bucket u.bucket).history) one);
  };
  answers = λ h. absurd h;
}

pub lost_passes : (s : State) (c : Client) → is_idle c.present.stage ≡ false → Passes s c (with_progress c (lost c.present))
lost_passes s c busy = record {
  follows = record { script = refl; answered = refl; number = refl; acted = λ h. tt; writes = λ k e b. inl (busy, refl) };
  answers = λ h. absurd h;
}

pub begun_passes : (s : State) (c : Client) (v : Verdict) → is_posted c.present.stage ≡ true → Passes s c (with_progress c (begun c.present v))
begun_passes s c Granted at = record {
  follows = record { script = refl; answered = refl; number = refl; acted = λ h. absurd (posted_unacted c.present.stage at h); writes = λ k e b. inl (posted_busy c.present.stage at, refl) };
  answers = λ h. absurd h;
}
begun_passes s c (Refused cause) at = record {
  follows = record { script = refl; answered = refl; number = refl; acted = λ h. absurd (posted_unacted c.present.stage at h); writes = λ k e b. inl (posted_busy c.present.stage at, refl) };
  answers = λ h. absurd h;
}

pub ended_passes : (s : State) (c : Client) → is_acted c.present.stage ≡ true → Passes s c (with_progress c (ended c.present))
ended_passes s c at = by c.present.cut
  where
    by : (u : Bool) → Passes s c (with_progress c (if u then lost c.present else record c.present { stage = stage.Ended }))
    by true = lost_passes s c (acted_busy c.present.stage at)
    by false = record {
      follows = record { script = refl; answered = refl; number = refl; acted = λ h. tt; writes = λ k e b. inl (acted_busy c.present.stage at, refl) };
      answers = λ h. (acted_has c.present.stage at, refl, refl);
    }

pub cut_passes : (s : State) (c : Client) → is_idle c.present.stage ≡ false → Passes s c (with_progress c (cut c.present))
cut_passes s c busy = by c.present.stage
  where
    marked : Passes s c (with_progress c (record c.present { cut = true }))
    marked = record {
      follows = record { script = refl; answered = refl; number = refl; acted = λ h. h; writes = λ k e b. inl (b, refl) };
      answers = λ h. (h, refl, refl);
    }

    by : (st : Stage) → Passes s c (with_progress c (cut_at st c.present))
    by stage.Running = marked
    by stage.Acted = marked
    by stage.Idle = lost_passes s c busy
    by stage.Posted = lost_passes s c busy
    by stage.Refused = lost_passes s c busy
    by stage.Ended = lost_passes s c busy
    by stage.Lost = lost_passes s c busy

pub lost_at_passes : (s : State) (x : ℕ) (c : Client) → Passes s c (lost_at x c)
lost_at_passes s x c = by (is_at_set c.present.stage) (is_set c.present.set x) refl
  where
    by : (at here : Bool) → is_at_set c.present.stage ≡ at → Passes s c (if at && here then with_progress c (lost c.present) else c)
    by true true e = lost_passes s c (at_set_busy c.present.stage e)
    by true false e = same_passes s c
    by false here e = same_passes s c
