-- What is known where an event of a transfer's source is possible.
use Rattle.std.proofs.Common.{◌≡◌, ℕ, ◌+◌, true, false, arith, List, Option, Some, Ok}
use Rattle.std.specs.Prelude.{◌&&◌, ◌==◌, not, nat_lt}
use Rattle.std.proofs.lemmas.Bool.Decides.{nat_tests}
use Rattle.vs_base.specs.declared.numbers.Mode.TheVariants.{Rw}
use Rattle.vs_event.specs.declared.reason.Reason.TheVariants as reason
use Rattle.vs_send.specs.declared.abort.AbortCause.{AbortCause}
use Rattle.vs_send.specs.declared.transfer.Phase.{Phase}
use Rattle.vs_send.specs.declared.transfer.Phase.TheVariants.{Draining, Ready, Copied, Sealed, Done}
use Rattle.vs_send.specs.declared.transfer.Transfer.{Transfer}
use Rattle.vs_machine.specs.State.{State, has_set, has_bucket, has_operator, next_command, references}
use Rattle.vs_machine.specs.Kinds.Faults.{send_fault}
use Rattle.vs_machine.specs.Kinds.Sender.{Move, move_of, start, after_start, turns_of, not_yet, put_phase, freeze, after_freeze, sent_up_to, chunk, after_chunk, is_copied, seal, after_seal, is_sealed, last, after_last, cause_at, abort, after_abort, is_done, end_move, after_end_move}
use Rattle.vs_machine.proofs.Possible.{needs_ok, wants_ok, ok_is, both_are, not_is}

pub turns_are : (p : Phase) (n : ℕ) → turns_of p ≡ Some n → p ≡ Draining n
turns_are p n h = grind arith

ready_is : (p : Phase) (k : Option (List ℕ)) → sent_up_to p ≡ Some k → p ≡ Ready k
ready_is p k h = grind arith

copied_is : (p : Phase) → is_copied p ≡ true → p ≡ Copied
copied_is p h = grind arith

sealed_is : (p : Phase) → is_sealed p ≡ true → p ≡ Sealed
sealed_is p h = grind arith

done_is : (p : Phase) → is_done p ≡ true → p ≡ Done
done_is p h = grind arith

pub record CanStart (s : State) (o : ℕ) (t : State) : Type 0 where
  pub operator : has_operator s o ≡ true
  pub m : Move
  pub named : move_of (next_command (s.operator o)) ≡ Some m
  pub still : (s.operator o).moving ≡ false
  pub gives : after_start s o m (send_fault s m.bucket m.from m.to) ≡ t

pub can_start : (s t : State) (o : ℕ) → start s o ≡ Ok t → CanStart s o t
can_start s t o e =
    let g1 = needs_ok (has_operator s o) reason.Unknown _ t e in
    let g2 = wants_ok (move_of (next_command (s.operator o))) reason.NoCommand _ t g1.1 in
    let g3 = needs_ok (not (s.operator o).moving) reason.Stage _ t g2.2 in
    record { operator = g1.0; m = g2.0; named = g2.1; still = not_is _ g3.0; gives = ok_is _ t g3.1 }

pub record CanWait (s : State) (x b : ℕ) (t : State) : Type 0 where
  pub set : has_set s x ≡ true
  pub bucket : has_bucket s b ≡ true
  pub u : Transfer
  pub there : (s.bucket b).transfer x ≡ Some u
  pub turns : ℕ
  pub draining : u.phase ≡ Draining turns
  pub held : nat_lt 0 (references s Rw x b) ≡ true
  pub few : nat_lt turns 256 ≡ true
  pub gives : put_phase s x b u (Draining (turns + 1)) ≡ t

pub can_wait : (s t : State) (x b : ℕ) → not_yet s x b ≡ Ok t → CanWait s x b t
can_wait s t x b e =
    let g1 = needs_ok (has_set s x && has_bucket s b) reason.Unknown _ t e in
    let g2 = wants_ok ((s.bucket b).transfer x) reason.NoTransfer _ t g1.1 in
    let g3 = wants_ok (turns_of g2.0.phase) reason.Stage _ t g2.2 in
    let g4 = needs_ok (nat_lt 0 (references s Rw x b)) reason.Unreferenced _ t g3.2 in
    let g5 = needs_ok (nat_lt g3.0 256) reason.TurnsSpent _ t g4.1 in
    let known = both_are (has_set s x) (has_bucket s b) g1.0 in
    record { set = known.0; bucket = known.1; u = g2.0; there = g2.1; turns = g3.0; draining = turns_are g2.0.phase g3.0 g3.1; held = g4.0; few = g5.0; gives = ok_is _ t g5.1 }

pub record CanFreeze (s : State) (x b : ℕ) (t : State) : Type 0 where
  pub set : has_set s x ≡ true
  pub bucket : has_bucket s b ≡ true
  pub u : Transfer
  pub there : (s.bucket b).transfer x ≡ Some u
  pub turns : ℕ
  pub draining : u.phase ≡ Draining turns
  pub unheld : references s Rw x b ≡ 0
  pub gives : after_freeze s x b u ≡ t

pub can_freeze : (s t : State) (x b : ℕ) → freeze s x b ≡ Ok t → CanFreeze s x b t
can_freeze s t x b e =
    let g1 = needs_ok (has_set s x && has_bucket s b) reason.Unknown _ t e in
    let g2 = wants_ok ((s.bucket b).transfer x) reason.NoTransfer _ t g1.1 in
    let g3 = wants_ok (turns_of g2.0.phase) reason.Stage _ t g2.2 in
    let g4 = needs_ok (references s Rw x b == 0) (reason.Referenced (references s Rw x b)) _ t g3.2 in
    let known = both_are (has_set s x) (has_bucket s b) g1.0 in
    record { set = known.0; bucket = known.1; u = g2.0; there = g2.1; turns = g3.0; draining = turns_are g2.0.phase g3.0 g3.1; unheld = grind (arith, nat_tests, g4.0); gives = ok_is _ t g4.1 }

pub record CanChunk (s : State) (x b : ℕ) (t : State) : Type 0 where
  pub set : has_set s x ≡ true
  pub bucket : has_bucket s b ≡ true
  pub u : Transfer
  pub there : (s.bucket b).transfer x ≡ Some u
  pub key : Option (List ℕ)
  pub ready : u.phase ≡ Ready key
  pub dest_up : s.up u.dest ≡ true
  pub gives : after_chunk s x b u key ≡ t

pub can_chunk : (s t : State) (x b : ℕ) → chunk s x b ≡ Ok t → CanChunk s x b t
can_chunk s t x b e =
    let g1 = needs_ok (has_set s x && has_bucket s b) reason.Unknown _ t e in
    let g2 = wants_ok ((s.bucket b).transfer x) reason.NoTransfer _ t g1.1 in
    let g3 = wants_ok (sent_up_to g2.0.phase) reason.Stage _ t g2.2 in
    let g4 = needs_ok (s.up g2.0.dest) (reason.Down g2.0.dest) _ t g3.2 in
    let known = both_are (has_set s x) (has_bucket s b) g1.0 in
    record { set = known.0; bucket = known.1; u = g2.0; there = g2.1; key = g3.0; ready = ready_is g2.0.phase g3.0 g3.1; dest_up = g4.0; gives = ok_is _ t g4.1 }

pub record CanSeal (s : State) (x b : ℕ) (t : State) : Type 0 where
  pub set : has_set s x ≡ true
  pub bucket : has_bucket s b ≡ true
  pub u : Transfer
  pub there : (s.bucket b).transfer x ≡ Some u
  pub copied : u.phase ≡ Copied
  pub gives : after_seal s x b u ≡ t

pub can_seal : (s t : State) (x b : ℕ) → seal s x b ≡ Ok t → CanSeal s x b t
can_seal s t x b e =
    let g1 = needs_ok (has_set s x && has_bucket s b) reason.Unknown _ t e in
    let g2 = wants_ok ((s.bucket b).transfer x) reason.NoTransfer _ t g1.1 in
    let g3 = needs_ok (is_copied g2.0.phase) reason.Stage _ t g2.2 in
    let known = both_are (has_set s x) (has_bucket s b) g1.0 in
    record { set = known.0; bucket = known.1; u = g2.0; there = g2.1; copied = copied_is _ g3.0; gives = ok_is _ t g3.1 }

pub record CanLast (s : State) (x b : ℕ) (t : State) : Type 0 where
  pub set : has_set s x ≡ true
  pub bucket : has_bucket s b ≡ true
  pub u : Transfer
  pub there : (s.bucket b).transfer x ≡ Some u
  pub sealed : u.phase ≡ Sealed
  pub dest_up : s.up u.dest ≡ true
  pub gives : after_last s x b u ≡ t

pub can_last : (s t : State) (x b : ℕ) → last s x b ≡ Ok t → CanLast s x b t
can_last s t x b e =
    let g1 = needs_ok (has_set s x && has_bucket s b) reason.Unknown _ t e in
    let g2 = wants_ok ((s.bucket b).transfer x) reason.NoTransfer _ t g1.1 in
    let g3 = needs_ok (is_sealed g2.0.phase) reason.Stage _ t g2.2 in
    let g4 = needs_ok (s.up g2.0.dest) (reason.Down g2.0.dest) _ t g3.1 in
    let known = both_are (has_set s x) (has_bucket s b) g1.0 in
    record { set = known.0; bucket = known.1; u = g2.0; there = g2.1; sealed = sealed_is _ g3.0; dest_up = g4.0; gives = ok_is _ t g4.1 }

pub record CanAbort (s : State) (x b : ℕ) (t : State) : Type 0 where
  pub set : has_set s x ≡ true
  pub bucket : has_bucket s b ≡ true
  pub u : Transfer
  pub there : (s.bucket b).transfer x ≡ Some u
  pub cause : AbortCause
  pub caused : cause_at s x b u ≡ Some cause
  pub gives : after_abort s x b u cause ≡ t

pub can_abort : (s t : State) (x b : ℕ) → abort s x b ≡ Ok t → CanAbort s x b t
can_abort s t x b e =
    let g1 = needs_ok (has_set s x && has_bucket s b) reason.Unknown _ t e in
    let g2 = wants_ok ((s.bucket b).transfer x) reason.NoTransfer _ t g1.1 in
    let g3 = wants_ok (cause_at s x b g2.0) reason.Standing _ t g2.2 in
    let known = both_are (has_set s x) (has_bucket s b) g1.0 in
    record { set = known.0; bucket = known.1; u = g2.0; there = g2.1; cause = g3.0; caused = g3.1; gives = ok_is _ t g3.2 }

pub record CanEndMove (s : State) (x b : ℕ) (t : State) : Type 0 where
  pub set : has_set s x ≡ true
  pub bucket : has_bucket s b ≡ true
  pub u : Transfer
  pub there : (s.bucket b).transfer x ≡ Some u
  pub done : u.phase ≡ Done
  pub gives : after_end_move s x b u ≡ t

pub can_end_move : (s t : State) (x b : ℕ) → end_move s x b ≡ Ok t → CanEndMove s x b t
can_end_move s t x b e =
    let g1 = needs_ok (has_set s x && has_bucket s b) reason.Unknown _ t e in
    let g2 = wants_ok ((s.bucket b).transfer x) reason.NoTransfer _ t g1.1 in
    let g3 = needs_ok (is_done g2.0.phase) reason.Stage _ t g2.2 in
    let known = both_are (has_set s x) (has_bucket s b) g1.0 in
    record { set = known.0; bucket = known.1; u = g2.0; there = g2.1; done = done_is _ g3.0; gives = ok_is _ t g3.1 }
