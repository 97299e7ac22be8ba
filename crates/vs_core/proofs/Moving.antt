-- The transfer of a bucket is written, in the tables of its set.
use Rattle.std.proofs.Common.{◌≡◌, ℕ, true, false, Option, Some, None, refl, ap, ◌∙◌}
use Rattle.std.specs.Prelude.{IfSome}
use Rattle.std.specs.Option.{option_map}
use Rattle.vs_send.specs.Phases.{IsReady, waited}
use Rattle.vs_send.specs.declared.transfer.Phase.{Phase}
use Rattle.vs_send.specs.declared.transfer.Phase.TheVariants.{Draining, Ready, Waiting, Copied, Sealed, WaitingLast, Refused, Done}
use Rattle.vs_send.specs.declared.transfer.Transfer.{Transfer}
use Rattle.vs_space.specs.declared.status.Status.{Status}
use Rattle.vs_machine.specs.State as machine
use Rattle.vs_machine.specs.Tables.{put}
use Rattle.vs_machine.specs.Kinds.Rebalancing.{is_haul}
use Rattle.vs_machine.specs.Kinds.Sender.{in_phase}
use Rattle.vs_state.specs.declared.state.State.{State}
use Rattle.vs_state.specs.declared.tables.SetTables.{SetTables}
use Rattle.vs_state.specs.Plain.{plain, entry_in, transfer_in}
use Rattle.vs_core.specs.Cells.{Cell, cell, cell_at, with_cell, HasCell, SameRefs}
use Rattle.vs_core.specs.Keeps.{IsSound}
use Rattle.vs_core.proofs.Frame.{put_same}
use Rattle.vs_core.proofs.Follows.{sound_kept}
use Rattle.vs_core.proofs.Sets.{IsSlot, written, cell_here, cell_written, with_transfer_is}

-- ---- a transfer in another phase

-- it is a haul where it was one
pub same_haul : (m : Option Transfer) (phase : Transfer → Phase) → is_haul (option_map (λ t. in_phase t (phase t)) m) ≡ is_haul m
same_haul None phase = refl
same_haul (Some t) phase = refl

-- and it drains where it did
pub same_draining : (m : Option Transfer) (phase : Transfer → Phase) → IfSome m (λ t. machine.is_draining_in (phase t) ≡ machine.is_draining_in t.phase) → machine.is_draining (option_map (λ t. in_phase t (phase t)) m) ≡ machine.is_draining m
same_draining None phase same = refl
same_draining (Some t) phase same = same

pub if_some : {T : Type 0} (m : Option T) (P Q : T → Type 0) → ((t : T) → P t → Q t) → IfSome m P → IfSome m Q
if_some None P Q along h = tt
if_some (Some t) P Q along h = along t h

-- a transfer that is ready doesn't drain
pub ready_still : (p : Phase) → IsReady p → machine.is_draining_in p ≡ false
ready_still (Ready k) ready = refl
ready_still (Draining n) ready = absurd ready
ready_still (Waiting e n k) ready = absurd ready
ready_still Copied ready = absurd ready
ready_still Sealed ready = absurd ready
ready_still (WaitingLast e n) ready = absurd ready
ready_still (Refused f) ready = absurd ready
ready_still Done ready = absurd ready

-- and one that waits another turn drains before and after
pub waited_drains : (p : Phase) → machine.is_draining_in (waited p) ≡ machine.is_draining_in p
waited_drains (Draining n) = refl
waited_drains (Ready k) = refl
waited_drains (Waiting e n k) = refl
waited_drains Copied = refl
waited_drains Sealed = refl
waited_drains (WaitingLast e n) = refl
waited_drains (Refused f) = refl
waited_drains Done = refl

-- ---- cells in which several fields are written

with_frozen_is : (b : machine.Bucket) (x : ℕ) (e : Option Status) (m : Option Transfer) → with_cell b x (record (cell_at b x) { entry = e; transfer = m }) ≡ record b { entry = put b.entry x e; transfer = put b.transfer x m }
with_frozen_is b x e m = λ i. record b { entry = put b.entry x e; rows = put_same b.rows x i; kept = put_same b.kept x i; transfer = put b.transfer x m; ask = put_same b.ask x i }

with_sealed_is : (b : machine.Bucket) (x : ℕ) (e : Option Status) (n : ℕ) (m : Option Transfer) → with_cell b x (record (cell_at b x) { entry = e; kept = n; transfer = m }) ≡ record b { entry = put b.entry x e; kept = put b.kept x n; transfer = put b.transfer x m }
with_sealed_is b x e n m = λ i. record b { entry = put b.entry x e; rows = put_same b.rows x i; kept = put b.kept x n; transfer = put b.transfer x m; ask = put_same b.ask x i }

-- ---- the tables of a set

module _ (s : State) (x k : ℕ) (t u : SetTables) (o : IsSlot s x k t) (b : ℕ) where
  pub transfer_is : transfer_in t b ≡ ((plain s).bucket b).transfer x
  transfer_is = ap (λ (c : Cell). c.transfer) (cell_here s x k t u o b)

  pub transfer_written : (f : Option Transfer → Option Transfer) → HasCell t u b (record (cell t b) { transfer = f (transfer_in t b) })
      → plain (written s k u) ≡ machine.put_bucket (plain s) b (machine.with_transfer ((plain s).bucket b) x (f (((plain s).bucket b).transfer x)))
  transfer_written f h = cell_written s x k t u o b (λ v. record v { transfer = f v.transfer }) h ∙ ap (machine.put_bucket (plain s) b) (with_transfer_is ((plain s).bucket b) x (f (((plain s).bucket b).transfer x)))

  -- the transfer is in another phase, and drains where it did
  pub sound_phase : (phase : Transfer → Phase) → HasCell t u b (record (cell t b) { transfer = option_map (λ t. in_phase t (phase t)) (transfer_in t b) }) → SameRefs t u
      → IfSome (transfer_in t b) (λ t. machine.is_draining_in (phase t) ≡ machine.is_draining_in t.phase) → machine.has_bucket (plain s) b ≡ true → IsSound s → IsSound (written s k u)
  sound_phase phase h r same has i = sound_kept s x k t u o b (record (cell t b) { transfer = option_map (λ t. in_phase t (phase t)) (transfer_in t b) }) h i.agrees i r refl (same_draining (transfer_in t b) phase same) (same_haul (transfer_in t b) phase) has

  pub entry_is : entry_in t b ≡ ((plain s).bucket b).entry x
  entry_is = ap (λ (c : Cell). c.entry) (cell_here s x k t u o b)

  pub frozen_written : (e : Option Status) (f : Option Transfer → Option Transfer) → HasCell t u b (record (cell t b) { entry = e; transfer = f (transfer_in t b) })
      → plain (written s k u) ≡ machine.put_bucket (plain s) b (record ((plain s).bucket b) { entry = put ((plain s).bucket b).entry x e; transfer = put ((plain s).bucket b).transfer x (f (((plain s).bucket b).transfer x)) })
  frozen_written e f h = cell_written s x k t u o b (λ v. record v { entry = e; transfer = f v.transfer }) h ∙ ap (machine.put_bucket (plain s) b) (with_frozen_is ((plain s).bucket b) x e (f (((plain s).bucket b).transfer x)))

  pub sealed_written : (e : Option Status) (n : ℕ) (f : Option Transfer → Option Transfer) → HasCell t u b (record (cell t b) { entry = e; kept = n; transfer = f (transfer_in t b) })
      → plain (written s k u) ≡ machine.put_bucket (plain s) b (record ((plain s).bucket b) { entry = put ((plain s).bucket b).entry x e; kept = put ((plain s).bucket b).kept x n; transfer = put ((plain s).bucket b).transfer x (f (((plain s).bucket b).transfer x)) })
  sealed_written e n f h = cell_written s x k t u o b (λ v. record v { entry = e; kept = n; transfer = f v.transfer }) h ∙ ap (machine.put_bucket (plain s) b) (with_sealed_is ((plain s).bucket b) x e n (f (((plain s).bucket b).transfer x)))
