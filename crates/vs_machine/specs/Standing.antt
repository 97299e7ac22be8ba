-- Where a present call stands in the histories, by its stage.
use Rattle.std.specs.Prelude.{◌≡◌, ℕ, ◌⊎◌, Some, slice_get}
use Rattle.vs_base.specs.declared.numbers.CallId.{CallId}
use Rattle.vs_calls.specs.declared.stage.Stage.{Stage}
use Rattle.vs_calls.specs.declared.stage.Stage.TheVariants as stage
use Rattle.vs_history.specs.History.{Entry}
use Rattle.vs_script.specs.Calls.{Call}
use Rattle.vs_machine.specs.State.{State, call_id}
use Rattle.vs_machine.specs.History.{StandsNowhere}
use Rattle.vs_machine.specs.Inner.Answers.{HasStood}
use Rattle.vs_machine.specs.Inner.Once.{all_entries}

-- the call stands in its bucket's history, once, and in no other
pub record StandsOnce (s : State) (id : CallId) (k : Call) : Type 0 where
  pub index : ℕ
  pub entry : Entry
  pub there : slice_get (all_entries (s.bucket k.bucket).history) index ≡ Some entry
  pub its : entry.id ≡ id
  pub alone : (b n : ℕ) (e : Entry) → slice_get (all_entries (s.bucket b).history) n ≡ Some e → e.id ≡ id → (b ≡ k.bucket) × (n ≡ index)

-- a call that acted stands once, with its place and its answers; one that was lost stands once, or nowhere; any other nowhere
abbrev pub StandsBy : State → ℕ → Call → Stage → Type 0
StandsBy s c k stage.Acted = HasStood s c k × StandsOnce s (call_id c (s.client c)) k
StandsBy s c k stage.Ended = HasStood s c k × StandsOnce s (call_id c (s.client c)) k
StandsBy s c k stage.Lost = StandsNowhere s (call_id c (s.client c)) ⊎ StandsOnce s (call_id c (s.client c)) k
StandsBy s c k other = StandsNowhere s (call_id c (s.client c))
