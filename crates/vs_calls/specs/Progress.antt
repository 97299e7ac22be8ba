-- The present call of a client, and what each step makes of it.
use Rattle.std.specs.Prelude.{ℕ, ◌+◌, Bool, true, false, if◌then◌else◌, List, Option, Some, None}
use Rattle.vs_rows.specs.Said.{Said}
use Rattle.vs_space.specs.declared.status.Cause.{Cause}
use Rattle.vs_space.specs.declared.status.Verdict.{Verdict}
use Rattle.vs_space.specs.declared.status.Verdict.TheVariants.{Granted, Refused}
use Rattle.vs_calls.specs.declared.stage.Stage.{Stage}
use Rattle.vs_calls.specs.declared.stage.Stage.TheVariants as stage
use Rattle.vs_calls.specs.Outcomes.{Outcome, Reply, Lost, Spent}

pub record Progress : Type 0 where
  -- the number of the call in its script, from 1
  pub number : ℕ
  pub stage : Stage
  -- how many times it was posted
  pub tries : ℕ
  -- whether it was cut while it ran
  pub cut : Bool
  -- the set of its last post, and the number of its bucket's writes then
  pub set : Option ℕ
  pub writes : ℕ
  -- why it was last refused
  pub cause : Option Cause
  -- its place and its answers, from the time when it acted until it is lost or taken
  pub said : Option (ℕ × List Said)

-- the call of this number, before its first post
abbrev pub fresh : ℕ → Progress
fresh n = record { number = n; stage = stage.Idle; tries = 0; cut = false; set = None; writes = 0; cause = None; said = None }

abbrev pub posted : Progress → ℕ → ℕ → Progress
posted p x writes = record p { stage = stage.Posted; tries = p.tries + 1; set = Some x; writes = writes }

abbrev pub begun : Progress → Verdict → Progress
begun p Granted = record p { stage = stage.Running }
begun p (Refused cause) = record p { stage = stage.Refused; cause = Some cause }

abbrev pub acted : Progress → ℕ → List Said → Progress
acted p place answers = record p { stage = stage.Acted; said = Some (place, answers) }

abbrev pub lost : Progress → Progress
lost p = record p { stage = stage.Lost; said = None }

abbrev pub ended : Progress → Progress
ended p = if p.cut then lost p else record p { stage = stage.Ended }

-- a call that runs is marked, since its reference is given back first; any other is lost at once
abbrev pub cut_at : Stage → Progress → Progress
cut_at stage.Running p = record p { cut = true }
cut_at stage.Acted p = record p { cut = true }
cut_at s p = lost p

abbrev pub cut : Progress → Progress
cut p = cut_at p.stage p

-- what the call is answered: its place and answers where it has them, else the last cause where it was refused
abbrev pub outcome_by : Stage → Option (ℕ × List Said) → Option Cause → Outcome
outcome_by stage.Ended (Some said) cause = Reply said.0 said.1
outcome_by stage.Refused said (Some cause) = Spent cause
outcome_by s said cause = Lost

abbrev pub outcome_of : Progress → Outcome
outcome_of p = outcome_by p.stage p.said p.cause

-- the next call, once this one is taken
abbrev pub taken : Progress → Progress
taken p = fresh (p.number + 1)

-- the stages at which a step may come
abbrev pub may_post : Stage → Bool
may_post stage.Idle = true
may_post stage.Refused = true
may_post s = false

abbrev pub is_posted : Stage → Bool
is_posted stage.Posted = true
is_posted s = false

abbrev pub is_running : Stage → Bool
is_running stage.Running = true
is_running s = false

abbrev pub is_acted : Stage → Bool
is_acted stage.Acted = true
is_acted s = false

abbrev pub is_refused : Stage → Bool
is_refused stage.Refused = true
is_refused s = false

abbrev pub is_idle : Stage → Bool
is_idle stage.Idle = true
is_idle s = false

-- the answer is ready: it ended, or was lost
abbrev pub is_over : Stage → Bool
is_over stage.Ended = true
is_over stage.Lost = true
is_over s = false

-- the call is at its set: posted, running, acted or ended
abbrev pub is_at_set : Stage → Bool
is_at_set stage.Posted = true
is_at_set stage.Running = true
is_at_set stage.Acted = true
is_at_set stage.Ended = true
is_at_set s = false

-- the call holds a reference
abbrev pub is_held : Stage → Bool
is_held stage.Running = true
is_held stage.Acted = true
is_held s = false
