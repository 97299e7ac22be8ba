-- Stages at which a call holds a reference.
use Rattle.std.proofs.Common.{◌≡◌, Bool, true, false, refl, sym, ap}
use Rattle.std.specs.Prelude.{◌||◌, if◌then◌else◌}
use Rattle.vs_calls.specs.declared.stage.Stage.{Stage}
use Rattle.vs_calls.specs.declared.stage.Stage.TheVariants as stage
use Rattle.vs_calls.specs.Progress.{Progress, cut, cut_at, ended, lost, is_acted, is_posted, is_running, is_held, is_refused, is_over, may_post}

pub running_holds : (s : Stage) → is_running s ≡ true → is_held s ≡ true
running_holds stage.Running h = refl
running_holds stage.Idle h = absurd (cc h)
running_holds stage.Posted h = absurd (cc h)
running_holds stage.Acted h = absurd (cc h)
running_holds stage.Refused h = absurd (cc h)
running_holds stage.Ended h = absurd (cc h)
running_holds stage.Lost h = absurd (cc h)

pub posting_is_free : (s : Stage) → may_post s ≡ true → is_held s ≡ false
posting_is_free stage.Idle h = refl
posting_is_free stage.Refused h = refl
posting_is_free stage.Posted h = absurd (cc h)
posting_is_free stage.Running h = absurd (cc h)
posting_is_free stage.Acted h = absurd (cc h)
posting_is_free stage.Ended h = absurd (cc h)
posting_is_free stage.Lost h = absurd (cc h)

pub answering_is_free : (s : Stage) → (is_refused s || is_over s) ≡ true → is_held s ≡ false
answering_is_free stage.Refused h = refl
answering_is_free stage.Ended h = refl
answering_is_free stage.Lost h = refl
answering_is_free stage.Idle h = absurd (cc h)
answering_is_free stage.Posted h = absurd (cc h)
answering_is_free stage.Running h = absurd (cc h)
answering_is_free stage.Acted h = absurd (cc h)

pub acted_holds : (s : Stage) → is_acted s ≡ true → is_held s ≡ true
acted_holds stage.Acted h = refl
acted_holds stage.Idle h = absurd (cc h)
acted_holds stage.Posted h = absurd (cc h)
acted_holds stage.Running h = absurd (cc h)
acted_holds stage.Refused h = absurd (cc h)
acted_holds stage.Ended h = absurd (cc h)
acted_holds stage.Lost h = absurd (cc h)

-- a call that ended holds nothing
pub ended_is_free : (p : Progress) → is_held (ended p).stage ≡ false
ended_is_free p = by p.cut
  where
    by : (cut : Bool) → is_held (if cut then lost p else record p { stage = stage.Ended }).stage ≡ false
    by true = refl
    by false = refl

pub posted_is_free : (s : Stage) → is_posted s ≡ true → is_held s ≡ false
posted_is_free stage.Posted h = refl
posted_is_free stage.Idle h = absurd (cc h)
posted_is_free stage.Running h = absurd (cc h)
posted_is_free stage.Acted h = absurd (cc h)
posted_is_free stage.Refused h = absurd (cc h)
posted_is_free stage.Ended h = absurd (cc h)
posted_is_free stage.Lost h = absurd (cc h)

-- a call that is cut holds what it held
pub cut_holds : (p : Progress) → is_held (cut p).stage ≡ is_held p.stage
cut_holds p = by p.stage refl
  where
    by : (s : Stage) → p.stage ≡ s → is_held (cut_at s p).stage ≡ is_held p.stage
    by stage.Running is = refl
    by stage.Acted is = refl
    by stage.Idle is = sym (ap is_held is)
    by stage.Posted is = sym (ap is_held is)
    by stage.Refused is = sym (ap is_held is)
    by stage.Ended is = sym (ap is_held is)
    by stage.Lost is = sym (ap is_held is)

pub cut_set : (p : Progress) → (cut p).set ≡ p.set
cut_set p = by p.stage
  where
    by : (s : Stage) → (cut_at s p).set ≡ p.set
    by stage.Running = refl
    by stage.Acted = refl
    by stage.Idle = refl
    by stage.Posted = refl
    by stage.Refused = refl
    by stage.Ended = refl
    by stage.Lost = refl
