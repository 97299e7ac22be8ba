-- What is known where an event of a call is possible.
use Rattle.std.proofs.Common.{◌≡◌, ℕ, true, Some, Ok}
use Rattle.std.specs.Prelude.{◌&&◌, ◌||◌, not, nat_lt, nat_le}
use Rattle.vs_event.specs.declared.reason.Reason.TheVariants as reason
use Rattle.vs_calls.specs.Progress.{may_post, is_posted, is_running, is_acted, is_refused, is_over}
use Rattle.vs_script.specs.Calls.{Call}
use Rattle.vs_machine.specs.State.{State, has_client, has_set, has_operator, next_call, next_command}
use Rattle.vs_machine.specs.Kinds.Calls.{post, after_post, begin, after_begin, act, after_act, «end», after_end, take, after_take, cut_call, call_to_cut, is_reached, after_cut}
use Rattle.vs_machine.proofs.Possible.{needs_ok, wants_ok, ok_is, both_are}

pub record CanPost (s : State) (c x : ℕ) (t : State) : Type 0 where
  pub client : has_client s c ≡ true
  pub set : has_set s x ≡ true
  pub k : Call
  pub called : next_call (s.client c) ≡ Some k
  pub ready : may_post (s.client c).present.stage ≡ true
  pub few : nat_lt (s.client c).present.tries 128 ≡ true
  pub gives : after_post s c x k ≡ t

pub can_post : (s t : State) (c x : ℕ) → post s c x ≡ Ok t → CanPost s c x t
can_post s t c x e =
    let p = (s.client c).present in
    let g1 = needs_ok (has_client s c && has_set s x) reason.Unknown _ t e in
    let g2 = wants_ok (next_call (s.client c)) reason.NoCommand _ t g1.1 in
    let g3 = needs_ok (may_post p.stage) reason.Stage _ t g2.2 in
    let g4 = needs_ok (nat_lt p.tries 128) reason.TriesSpent _ t g3.1 in
    let known = both_are (has_client s c) (has_set s x) g1.0 in
    record { client = known.0; set = known.1; k = g2.0; called = g2.1; ready = g3.0; few = g4.0; gives = ok_is _ t g4.1 }

pub record CanBegin (s : State) (c : ℕ) (t : State) : Type 0 where
  pub client : has_client s c ≡ true
  pub posted : is_posted (s.client c).present.stage ≡ true
  pub k : Call
  pub called : next_call (s.client c) ≡ Some k
  pub x : ℕ
  pub set : (s.client c).present.set ≡ Some x
  pub gives : after_begin s c k x ≡ t

pub can_begin : (s t : State) (c : ℕ) → begin s c ≡ Ok t → CanBegin s c t
can_begin s t c e =
    let p = (s.client c).present in
    let g1 = needs_ok (has_client s c) reason.Unknown _ t e in
    let g2 = needs_ok (is_posted p.stage) reason.Stage _ t g1.1 in
    let g3 = wants_ok (next_call (s.client c)) reason.Stage _ t g2.1 in
    let g4 = wants_ok p.set reason.Stage _ t g3.2 in
    record { client = g1.0; posted = g2.0; k = g3.0; called = g3.1; x = g4.0; set = g4.1; gives = ok_is _ t g4.2 }

pub record CanAct (s : State) (c : ℕ) (t : State) : Type 0 where
  pub client : has_client s c ≡ true
  pub running : is_running (s.client c).present.stage ≡ true
  pub k : Call
  pub called : next_call (s.client c) ≡ Some k
  pub x : ℕ
  pub set : (s.client c).present.set ≡ Some x
  pub gives : after_act s c k x ≡ t

pub can_act : (s t : State) (c : ℕ) → act s c ≡ Ok t → CanAct s c t
can_act s t c e =
    let p = (s.client c).present in
    let g1 = needs_ok (has_client s c) reason.Unknown _ t e in
    let g2 = needs_ok (is_running p.stage) reason.Stage _ t g1.1 in
    let g3 = wants_ok (next_call (s.client c)) reason.Stage _ t g2.1 in
    let g4 = wants_ok p.set reason.Stage _ t g3.2 in
    record { client = g1.0; running = g2.0; k = g3.0; called = g3.1; x = g4.0; set = g4.1; gives = ok_is _ t g4.2 }

pub record CanEnd (s : State) (c : ℕ) (t : State) : Type 0 where
  pub client : has_client s c ≡ true
  pub acted : is_acted (s.client c).present.stage ≡ true
  pub gives : after_end s c ≡ t

pub can_end : (s t : State) (c : ℕ) → «end» s c ≡ Ok t → CanEnd s c t
can_end s t c e =
    let g1 = needs_ok (has_client s c) reason.Unknown _ t e in
    let g2 = needs_ok (is_acted (s.client c).present.stage) reason.Stage _ t g1.1 in
    record { client = g1.0; acted = g2.0; gives = ok_is _ t g2.1 }

pub record CanTake (s : State) (c : ℕ) (t : State) : Type 0 where
  pub client : has_client s c ≡ true
  pub tried : (not (is_refused (s.client c).present.stage) || nat_le 128 (s.client c).present.tries) ≡ true
  pub ready : (is_refused (s.client c).present.stage || is_over (s.client c).present.stage) ≡ true
  pub gives : after_take s c ≡ t

pub can_take : (s t : State) (c : ℕ) → take s c ≡ Ok t → CanTake s c t
can_take s t c e =
    let p = (s.client c).present in
    let g1 = needs_ok (has_client s c) reason.Unknown _ t e in
    let g2 = needs_ok (not (is_refused p.stage) || nat_le 128 p.tries) reason.TriesLeft _ t g1.1 in
    let g3 = needs_ok (is_refused p.stage || is_over p.stage) reason.Stage _ t g2.1 in
    record { client = g1.0; tried = g2.0; ready = g3.0; gives = ok_is _ t g3.1 }

pub record CanCut (s : State) (o : ℕ) (t : State) : Type 0 where
  pub operator : has_operator s o ≡ true
  pub c : ℕ
  pub n : ℕ
  pub named : call_to_cut (next_command (s.operator o)) ≡ Some (c, n)
  pub reached : is_reached (s.client c) n ≡ true
  pub gives : after_cut s o c n ≡ t

pub can_cut : (s t : State) (o : ℕ) → cut_call s o ≡ Ok t → CanCut s o t
can_cut s t o e =
    let g1 = needs_ok (has_operator s o) reason.Unknown _ t e in
    let g2 = wants_ok (call_to_cut (next_command (s.operator o))) reason.NoCommand _ t g1.1 in
    let g3 = needs_ok (is_reached (s.client g2.0.0) g2.0.1) reason.NotReached _ t g2.2 in
    record { operator = g1.0; c = g2.0.0; n = g2.0.1; named = g2.1; reached = g3.0; gives = ok_is _ t g3.1 }
