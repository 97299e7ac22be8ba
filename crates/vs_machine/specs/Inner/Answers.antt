-- What calls were answered: where they stand, and in which order.
use Rattle.std.specs.Prelude.{◌≡◌, ℕ, ◌+◌, ◌≤◌, ◌<◌, false, List, length, Some, slice_get}
use Rattle.vs_base.specs.declared.numbers.Mode.{Mode}
use Rattle.vs_base.specs.declared.numbers.Mode.TheVariants.{Ro, Rw}
use Rattle.vs_rows.specs.Said.{Said}
use Rattle.vs_rows.specs.declared.op.Op.{Op}
use Rattle.vs_space.specs.declared.status.Cause.{Cause}
use Rattle.vs_calls.specs.declared.stage.Stage.{Stage}
use Rattle.vs_calls.specs.declared.stage.Stage.TheVariants.{Acted, Ended}
use Rattle.vs_calls.specs.Outcomes.{Reply, Spent}
use Rattle.vs_calls.specs.Progress.{is_idle}
use Rattle.vs_history.specs.History.{write_count}
use Rattle.vs_record.specs.Change.{Write}
use Rattle.vs_script.specs.Calls.{Call}
use Rattle.vs_machine.specs.State.{State, next_call, call_id}
use Rattle.vs_machine.specs.History.{AreAnswered, StandsWith, entries_of, KeepsCallerOrder}

-- the call has its answers and hasn't lost them
abbrev pub HasAnswers : Stage → Type 0
HasAnswers Acted = Unit {0}
HasAnswers Ended = Unit {0}
HasAnswers stage = ⊥

-- the place of a call of this mode, by the number of writes at its last post and now
abbrev pub PlaceFits : Mode → ℕ → ℕ → ℕ → Type 0
PlaceFits Ro posted now place = (posted ≤ place) × (place ≤ now)
PlaceFits Rw posted now place = (posted < place) × (place ≤ now)

-- a call that has its answers stands with them
pub record HasStood (s : State) (c : ℕ) (k : Call) : Type 0 where
  pub place : ℕ
  pub answers : List Said
  pub said : (s.client c).present.said ≡ Some (place, answers)
  pub stands : StandsWith (entries_of (s.bucket k.bucket).history k.mode) (call_id c (s.client c)) place answers
  pub placed : PlaceFits k.mode (s.client c).present.writes (write_count (s.bucket k.bucket).history) place

pub record AnswersFit (s : State) : Type 0 where
  pub numbered : (c : ℕ) → (s.client c).present.number ≡ length (s.client c).answered + 1
  pub present : (c : ℕ) (k : Call) → next_call (s.client c) ≡ Some k → HasAnswers (s.client c).present.stage → HasStood s c k
  pub answered : AreAnswered s
  -- a call answered Spent isn't pending
  pub spent : (c n x b : ℕ) (cause : Cause) (ops : List Op) → slice_get (s.client c).answered n ≡ Some (Spent cause)
      → s.pending x ≡ Some (Write (record { client = c; call = n + 1 }) b ops) → ⊥

-- ---- order

pub record OrderFits (s : State) : Type 0 where
  -- a call that was answered has a place that there is
  pub known : (c n p : ℕ) (k : Call) (said : List Said) → slice_get (s.client c).script n ≡ Some k → slice_get (s.client c).answered n ≡ Some (Reply p said)
      → p ≤ write_count (s.bucket k.bucket).history
  -- the present call was last posted after that
  pub posted : (c : ℕ) (k : Call) → next_call (s.client c) ≡ Some k → is_idle (s.client c).present.stage ≡ false
      → (s.client c).present.writes ≤ write_count (s.bucket k.bucket).history
  pub after : (c n p : ℕ) (j k : Call) (said : List Said) → slice_get (s.client c).script n ≡ Some j → slice_get (s.client c).answered n ≡ Some (Reply p said)
      → next_call (s.client c) ≡ Some k → j.bucket ≡ k.bucket → is_idle (s.client c).present.stage ≡ false → p ≤ (s.client c).present.writes
  pub kept : (c : ℕ) → KeepsCallerOrder (s.client c)
