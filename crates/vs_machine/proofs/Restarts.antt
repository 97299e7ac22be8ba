-- Who owns the buckets once a set is up again.
use Rattle.std.proofs.Common.{◌≡◌, ℕ, Bool, true, false, refl, None}
use Rattle.std.specs.Prelude.{if◌then◌else◌}
use Rattle.vs_event.specs.declared.event.Event.TheVariants.{Restart}
use Rattle.vs_event.specs.declared.event.RestartBy.{RestartBy}
use Rattle.vs_machine.specs.State.{State}
use Rattle.vs_machine.specs.Coherence.{handed_by, owners}
use Rattle.vs_machine.proofs.Kept.Restarting.{owners_restarted}

pub owners_same : (own : ℕ → ℕ) (s : State) (x : ℕ) (kept : Bool) (by : RestartBy) → owners_restarted own s x kept ≡ owners own s (Restart x kept by)
owners_same own s x true by = at (s.up x)
  where
    at : (up : Bool) → (if up then own else handed_by own (s.pending x)) ≡ handed_by own (if up then None else s.pending x)
    at true = refl
    at false = refl
owners_same own s x false by = at (s.up x)
  where
    at : (up : Bool) → (if up then own else own) ≡ own
    at true = refl
    at false = refl
