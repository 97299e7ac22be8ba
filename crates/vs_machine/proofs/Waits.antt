-- What a transfer waits for is under way, and was sent in an epoch that has begun: kept by every event.
use Rattle.std.proofs.Common.{◌≡◌, ℕ, Ok}
use Rattle.vs_event.specs.declared.event.Event.{Event}
use Rattle.vs_event.specs.declared.event.Event.TheVariants.{Post, Begin, Act, End, Take, Cut, Start, Haul, NotYet, Freeze, Chunk, Seal, Last, Abort, EndMove, Deliver, Hear, Close, Ask, Condemn, Wipe, Forget, Pin, Plan, Stop, Fault, Restart}
use Rattle.vs_link.specs.Connection.{Connection}
use Rattle.vs_send.specs.declared.transfer.Phase.{Phase}
use Rattle.vs_machine.specs.State.{State}
use Rattle.vs_machine.specs.Step.{step}
use Rattle.vs_machine.specs.Inner.Epochs.{EpochFits, WaitsBelow}
use Rattle.vs_machine.specs.Inner.Lines.{WaitsFit}
use Rattle.vs_machine.proofs.Linked.{AreLinked}
use Rattle.vs_machine.proofs.Waits.Staying.{Stable, Waits, Both, epochs_stable, both_stable}
use Rattle.vs_machine.proofs.Waits.Calls.{post_waits, begin_waits, act_waits, end_waits, take_waits, cut_waits}
use Rattle.vs_machine.proofs.Waits.Sender.{start_waits, haul_waits, not_yet_waits, freeze_waits, chunk_waits, seal_waits, last_waits, abort_waits, end_move_waits}
use Rattle.vs_machine.proofs.Waits.Connections.{deliver_waits, hear_waits, close_waits, ask_waits}
use Rattle.vs_machine.proofs.Waits.Others.{condemn_waits, wipe_waits, forget_waits, pin_waits, plan_waits, stop_waits, fault_waits, restart_waits}
pub mod Staying
pub mod Frame
pub mod Calls
pub mod Sender
pub mod Connections
pub mod Others

-- what is stable is kept by each event
step_stays : (P : Connection → ℕ → Phase → Type 0) (k : Stable P) (s t : State) (e : Event) → AreLinked s → Waits P s.bucket s.link → step s e ≡ Ok t → Waits P t.bucket t.link
step_stays P k s t (Post c x) l w e = post_waits P k s t c x w e
step_stays P k s t (Begin c) l w e = begin_waits P k s t c w e
step_stays P k s t (Act c) l w e = act_waits P k s t c w e
step_stays P k s t (End c) l w e = end_waits P k s t c w e
step_stays P k s t (Take c) l w e = take_waits P k s t c w e
step_stays P k s t (Cut o) l w e = cut_waits P k s t o w e
step_stays P k s t (Start o) l w e = start_waits P k s t o w e
step_stays P k s t (Haul o x d) l w e = haul_waits P k s t o x d w e
step_stays P k s t (NotYet x b) l w e = not_yet_waits P k s t x b w e
step_stays P k s t (Freeze x b) l w e = freeze_waits P k s t x b w e
step_stays P k s t (Chunk x b) l w e = chunk_waits P k s t x b w e
step_stays P k s t (Seal x b) l w e = seal_waits P k s t x b w e
step_stays P k s t (Last x b) l w e = last_waits P k s t x b w e
step_stays P k s t (Abort x b) l w e = abort_waits P k s t x b w e
step_stays P k s t (EndMove x b) l w e = end_move_waits P k s t x b w e
step_stays P k s t (Deliver x y) l w e = deliver_waits P k s t x y w e
step_stays P k s t (Hear x y) l w e = hear_waits P k s t x y w e
step_stays P k s t (Close o) l w e = close_waits P k s t o w e
step_stays P k s t (Ask x b) l w e = ask_waits P k s t x b w e
step_stays P k s t (Condemn x b) l w e = condemn_waits P k s t x b w e
step_stays P k s t (Wipe x b) l w e = wipe_waits P k s t x b w e
step_stays P k s t (Forget x b) l w e = forget_waits P k s t x b w e
step_stays P k s t (Pin o) l w e = pin_waits P k s t o w e
step_stays P k s t (Plan o) l w e = plan_waits P k s t o w e
step_stays P k s t (Stop o) l w e = stop_waits P k s t o l w e
step_stays P k s t (Fault x n r) l w e = fault_waits P k s t x n r l w e
step_stays P k s t (Restart x kept by) l w e = restart_waits P k s t x kept by w e

pub step_epochs : (s t : State) (e : Event) → AreLinked s → WaitsBelow s.bucket s.link → step s e ≡ Ok t → WaitsBelow t.bucket t.link
step_epochs s t e l below h = step_stays (λ l b p. EpochFits l p) epochs_stable s t e l below h

pub step_waits : (s t : State) (e : Event) → AreLinked s → WaitsFit s.bucket s.link → WaitsBelow s.bucket s.link → step s e ≡ Ok t → WaitsFit t.bucket t.link
step_waits s t e l waits below h = λ b x v at. (step_stays Both both_stable s t e l (λ d z m there. (waits d z m there, below d z m there)) h b x v at).0
