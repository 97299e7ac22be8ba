-- What is known where an event of a connection, of recovery, of collection or of rebalancing is possible.
use Rattle.std.proofs.Common.{◌≡◌, ℕ, Bool, true, false, refl, arith, drop, length, Option, Some, None, Result, Ok, Err, List, [], ◌∷◌}
use Rattle.std.specs.Prelude.{◌&&◌, ◌==◌, not, nat_lt, is_some}
use Rattle.std.proofs.lemmas.Bool.Decides.{nat_tests}
use Rattle.vs_base.specs.declared.numbers.Mode.TheVariants.{Ro}
use Rattle.vs_rows.specs.RowMap.{RowMap}
use Rattle.vs_space.specs.declared.status.Status.{Status}
use Rattle.vs_space.specs.declared.status.Status.TheVariants.{Active, Pinned, Sending, Receiving, Sent, Garbage}
use Rattle.vs_event.specs.declared.reason.Reason.{Reason}
use Rattle.vs_event.specs.declared.reason.Reason.TheVariants as reason
use Rattle.vs_collect.specs.Collect.{condemned, wiped, forgotten}
use Rattle.vs_collect.specs.declared.unmet.Unmet.{Unmet}
use Rattle.vs_link.specs.Connection.{closed}
use Rattle.vs_link.specs.Connection as link
use Rattle.vs_link.specs.declared.message.Heard.{Heard}
use Rattle.vs_machine.specs.declared.outcome.CommandOutcome.TheVariants.{Done}
use Rattle.vs_machine.specs.Tables.{least_to}
use Rattle.vs_machine.specs.State.{State, sets_of, has_set, has_bucket, has_operator, next_command, references, put_bucket, put_link, put_operator, answer, with_entry, put_rows}
use Rattle.vs_machine.specs.Kinds.Connections.{first_call, first_reply, deliver, after_deliver, hear, after_hear, connection_to_close, close, asked_set, is_null}
use Rattle.vs_machine.specs.Kinds.Recovery.{may_ask, is_live, ask, after_ask}
use Rattle.vs_machine.specs.Check.{◌>>◌}
use Rattle.vs_machine.specs.Kinds.Collection.{allowed, condemn, wipe, forget}
use Rattle.vs_machine.specs.Kinds.Pinning.{Pinning, pinning_of, pinning_fault, pin, after_pin}
use Rattle.vs_machine.specs.Kinds.Rebalancing.{left_on, hauls_at, haul, after_haul, bucket_to_haul, is_balance, is_spent, hauls_of, plan, plan_round}
use Rattle.vs_machine.proofs.Possible.{needs_ok, wants_ok, ok_is, both_are, not_is}

pub record CanDeliver (s : State) (x y : ℕ) (t : State) : Type 0 where
  pub from : has_set s x ≡ true
  pub to : has_set s y ≡ true
  pub sent : link.Sent
  pub head : first_call s x y ≡ Some sent
  pub gives : after_deliver s x y sent sent.message ≡ t

pub can_deliver : (s t : State) (x y : ℕ) → deliver s x y ≡ Ok t → CanDeliver s x y t
can_deliver s t x y e =
    let g1 = needs_ok (has_set s x && has_set s y) reason.Unknown _ t e in
    let g2 = wants_ok (first_call s x y) reason.Empty _ t g1.1 in
    let known = both_are (has_set s x) (has_set s y) g1.0 in
    record { from = known.0; to = known.1; sent = g2.0; head = g2.1; gives = ok_is _ t g2.2 }

pub record CanHear (s : State) (x y : ℕ) (t : State) : Type 0 where
  pub to : has_set s x ≡ true
  pub from : has_set s y ≡ true
  pub heard : Heard
  pub head : first_reply s x y ≡ Some heard
  pub gives : after_hear s x y heard ≡ t

pub can_hear : (s t : State) (x y : ℕ) → hear s x y ≡ Ok t → CanHear s x y t
can_hear s t x y e =
    let g1 = needs_ok (has_set s x && has_set s y) reason.Unknown _ t e in
    let g2 = wants_ok (first_reply s x y) reason.Empty _ t g1.1 in
    let known = both_are (has_set s x) (has_set s y) g1.0 in
    record { to = known.0; from = known.1; heard = g2.0; head = g2.1; gives = ok_is _ t g2.2 }

pub record CanClose (s : State) (o : ℕ) (t : State) : Type 0 where
  pub operator : has_operator s o ≡ true
  pub x : ℕ
  pub y : ℕ
  pub named : connection_to_close (next_command (s.operator o)) ≡ Some (x, y)
  pub gives : put_operator (put_link s x y (closed (s.link x y))) o (answer (s.operator o) Done) ≡ t

pub can_close : (s t : State) (o : ℕ) → close s o ≡ Ok t → CanClose s o t
can_close s t o e =
    let g1 = needs_ok (has_operator s o) reason.Unknown _ t e in
    let g2 = wants_ok (connection_to_close (next_command (s.operator o))) reason.NoCommand _ t g1.1 in
    record { operator = g1.0; x = g2.0.0; y = g2.0.1; named = g2.1; gives = ok_is _ t g2.2 }

pub record CanAsk (s : State) (x b : ℕ) (t : State) : Type 0 where
  pub set : has_set s x ≡ true
  pub bucket : has_bucket s b ≡ true
  pub x_up : s.up x ≡ true
  pub y : ℕ
  pub named : asked_set ((s.bucket b).entry x) ≡ Some y
  pub may : may_ask ((s.bucket b).entry x) ((s.bucket b).transfer x) ≡ true
  pub y_up : s.up y ≡ true
  pub fresh : is_live ((s.bucket b).ask x) (s.link x y).epoch ≡ false
  pub gives : after_ask s x b y ≡ t

pub can_ask : (s t : State) (x b : ℕ) → ask s x b ≡ Ok t → CanAsk s x b t
can_ask s t x b e =
    let old = s.bucket b in
    let g1 = needs_ok (has_set s x && has_bucket s b) reason.Unknown _ t e in
    let g2 = needs_ok (s.up x) (reason.Down x) _ t g1.1 in
    let g3 = wants_ok (asked_set (old.entry x)) (reason.Unfit (old.entry x)) _ t g2.1 in
    let g4 = needs_ok (may_ask (old.entry x) (old.transfer x)) reason.Live _ t g3.2 in
    let g5 = needs_ok (s.up g3.0) (reason.Down g3.0) _ t g4.1 in
    let g6 = needs_ok (not (is_live (old.ask x) (s.link x g3.0).epoch)) reason.Live _ t g5.1 in
    let known = both_are (has_set s x) (has_bucket s b) g1.0 in
    record { set = known.0; bucket = known.1; x_up = g2.0; y = g3.0; named = g3.1; may = g4.0; y_up = g5.0; fresh = not_is _ g6.0; gives = ok_is _ t g6.1 }

-- ---- collection

allowed_ok : {A B : Type 0} (r : Result A Unmet) (rest : Result B Reason) (y : B) → (allowed r >> rest) ≡ Ok y → (x : A) × (r ≡ Ok x) × (rest ≡ Ok y)
allowed_ok (Ok x) rest y e = (x, refl, e)
allowed_ok (Err cause) rest y e = absurd cc

-- a bucket that may be given up was sent, has no transfer, and no read holds it
condemned_is : (e : Option Status) (live : Bool) (n : ℕ) (u : Unit {0}) → condemned e live n ≡ Ok u → (d : ℕ) × (e ≡ Some (Sent d)) × (live ≡ false) × (n ≡ 0)
condemned_is (Some (Sent d)) false n u h = (d, refl, refl, grind (arith, nat_tests, h))
condemned_is (Some (Sent d)) true n u h = absurd cc
condemned_is None live n u h = absurd cc
condemned_is (Some Active) live n u h = absurd cc
condemned_is (Some Pinned) live n u h = absurd cc
condemned_is (Some (Sending d)) live n u h = absurd cc
condemned_is (Some (Receiving x)) live n u h = absurd cc
condemned_is (Some Garbage) live n u h = absurd cc

-- one that may be wiped is garbage, and has rows
wiped_is : (e : Option Status) (rows : RowMap) (n : ℕ) → wiped e rows ≡ Ok n → (e ≡ Some Garbage) × (is_null rows ≡ false)
wiped_is (Some Garbage) (row ∷ rows) n h = (refl, refl)
wiped_is (Some Garbage) [] n h = absurd cc
wiped_is None rows n h = absurd cc
wiped_is (Some Active) rows n h = absurd cc
wiped_is (Some Pinned) rows n h = absurd cc
wiped_is (Some (Sending d)) rows n h = absurd cc
wiped_is (Some (Receiving x)) rows n h = absurd cc
wiped_is (Some (Sent d)) rows n h = absurd cc

-- one that may be forgotten is garbage, and has none
forgotten_is : (e : Option Status) (n : ℕ) (u : Unit {0}) → forgotten e n ≡ Ok u → (e ≡ Some Garbage) × (n ≡ 0)
forgotten_is (Some Garbage) n u h = (refl, grind (arith, nat_tests, h))
forgotten_is None n u h = absurd cc
forgotten_is (Some Active) n u h = absurd cc
forgotten_is (Some Pinned) n u h = absurd cc
forgotten_is (Some (Sending d)) n u h = absurd cc
forgotten_is (Some (Receiving x)) n u h = absurd cc
forgotten_is (Some (Sent d)) n u h = absurd cc

none_left : {A : Type 0} (xs : List A) → length xs ≡ 0 → is_null xs ≡ true
none_left [] h = refl
none_left (x ∷ xs) h = absurd (omega (arith, h))

some_not : {A : Type 0} (o : Option A) → is_some o ≡ false → o ≡ None
some_not None h = refl
some_not (Some x) h = absurd cc

pub record CanCondemn (s : State) (x b : ℕ) (t : State) : Type 0 where
  pub set : has_set s x ≡ true
  pub bucket : has_bucket s b ≡ true
  pub x_up : s.up x ≡ true
  pub d : ℕ
  pub sent : (s.bucket b).entry x ≡ Some (Sent d)
  pub free : (s.bucket b).transfer x ≡ None
  pub unheld : references s Ro x b ≡ 0
  pub gives : put_bucket s b (with_entry (s.bucket b) x (Some Garbage)) ≡ t

pub can_condemn : (s t : State) (x b : ℕ) → condemn s x b ≡ Ok t → CanCondemn s x b t
can_condemn s t x b e =
    let old = s.bucket b in
    let g1 = needs_ok (has_set s x && has_bucket s b) reason.Unknown _ t e in
    let g2 = needs_ok (s.up x) (reason.Down x) _ t g1.1 in
    let g3 = allowed_ok (condemned (old.entry x) (is_some (old.transfer x)) (references s Ro x b)) _ t g2.1 in
    let known = both_are (has_set s x) (has_bucket s b) g1.0 in
    let at = condemned_is (old.entry x) (is_some (old.transfer x)) (references s Ro x b) g3.0 g3.1 in
    record { set = known.0; bucket = known.1; x_up = g2.0; d = at.0; sent = at.1; free = some_not _ at.2; unheld = at.3; gives = ok_is _ t g3.2 }

pub record CanWipe (s : State) (x b : ℕ) (t : State) : Type 0 where
  pub set : has_set s x ≡ true
  pub bucket : has_bucket s b ≡ true
  pub x_up : s.up x ≡ true
  pub garbage : (s.bucket b).entry x ≡ Some Garbage
  pub some_rows : is_null ((s.bucket b).rows x) ≡ false
  pub gives : put_bucket s b (put_rows (s.bucket b) x (drop 1000 ((s.bucket b).rows x))) ≡ t

pub can_wipe : (s t : State) (x b : ℕ) → wipe s x b ≡ Ok t → CanWipe s x b t
can_wipe s t x b e =
    let old = s.bucket b in
    let g1 = needs_ok (has_set s x && has_bucket s b) reason.Unknown _ t e in
    let g2 = needs_ok (s.up x) (reason.Down x) _ t g1.1 in
    let g3 = allowed_ok (wiped (old.entry x) (old.rows x)) _ t g2.1 in
    let known = both_are (has_set s x) (has_bucket s b) g1.0 in
    let at = wiped_is (old.entry x) (old.rows x) g3.0 g3.1 in
    record { set = known.0; bucket = known.1; x_up = g2.0; garbage = at.0; some_rows = at.1; gives = ok_is _ t g3.2 }

pub record CanForget (s : State) (x b : ℕ) (t : State) : Type 0 where
  pub set : has_set s x ≡ true
  pub bucket : has_bucket s b ≡ true
  pub x_up : s.up x ≡ true
  pub garbage : (s.bucket b).entry x ≡ Some Garbage
  pub no_rows : is_null ((s.bucket b).rows x) ≡ true
  pub gives : put_bucket s b (with_entry (s.bucket b) x None) ≡ t

pub can_forget : (s t : State) (x b : ℕ) → forget s x b ≡ Ok t → CanForget s x b t
can_forget s t x b e =
    let old = s.bucket b in
    let g1 = needs_ok (has_set s x && has_bucket s b) reason.Unknown _ t e in
    let g2 = needs_ok (s.up x) (reason.Down x) _ t g1.1 in
    let g3 = allowed_ok (forgotten (old.entry x) (length (old.rows x))) _ t g2.1 in
    let known = both_are (has_set s x) (has_bucket s b) g1.0 in
    let at = forgotten_is (old.entry x) (length (old.rows x)) g3.0 g3.1 in
    record { set = known.0; bucket = known.1; x_up = g2.0; garbage = at.0; no_rows = none_left _ at.1; gives = ok_is _ t g3.2 }

-- ---- pins and rounds

pub record CanPin (s : State) (o : ℕ) (t : State) : Type 0 where
  pub operator : has_operator s o ≡ true
  pub p : Pinning
  pub named : pinning_of (next_command (s.operator o)) ≡ Some p
  pub gives : after_pin s o p (pinning_fault s p p.status) ≡ t

pub can_pin : (s t : State) (o : ℕ) → pin s o ≡ Ok t → CanPin s o t
can_pin s t o e =
    let g1 = needs_ok (has_operator s o) reason.Unknown _ t e in
    let g2 = wants_ok (pinning_of (next_command (s.operator o))) reason.NoCommand _ t g1.1 in
    record { operator = g1.0; p = g2.0; named = g2.1; gives = ok_is _ t g2.2 }

pub record CanHaul (s : State) (o x d : ℕ) (t : State) : Type 0 where
  pub operator : has_operator s o ≡ true
  pub from : has_set s x ≡ true
  pub to : has_set s d ≡ true
  pub left : nat_lt 0 (left_on (s.operator o).routes x d) ≡ true
  pub few : nat_lt (hauls_at s x) s.config.max_sending ≡ true
  pub gives : after_haul s o x d (bucket_to_haul s x d) ≡ t

pub can_haul : (s t : State) (o x d : ℕ) → haul s o x d ≡ Ok t → CanHaul s o x d t
can_haul s t o x d e =
    let g1 = needs_ok (has_operator s o && (has_set s x && has_set s d)) reason.Unknown _ t e in
    let g2 = needs_ok (nat_lt 0 (left_on (s.operator o).routes x d)) reason.NoRoute _ t g1.1 in
    let g3 = needs_ok (nat_lt (hauls_at s x) s.config.max_sending) reason.Live _ t g2.1 in
    let known = both_are (has_operator s o) (has_set s x && has_set s d) g1.0 in
    let sets = both_are (has_set s x) (has_set s d) known.1 in
    record { operator = known.0; from = sets.0; to = sets.1; left = g2.0; few = g3.0; gives = ok_is _ t g3.1 }

pub record CanPlan (s : State) (o : ℕ) (t : State) : Type 0 where
  pub operator : has_operator s o ≡ true
  pub balance : is_balance (next_command (s.operator o)) ≡ true
  pub spent : (is_spent (s.operator o).routes && (hauls_of s o == 0)) ≡ true
  pub gives : plan_round s o (least_to (λ x. not (s.up x)) (sets_of s)) ≡ Ok t

pub can_plan : (s t : State) (o : ℕ) → plan s o ≡ Ok t → CanPlan s o t
can_plan s t o e =
    let g1 = needs_ok (has_operator s o) reason.Unknown _ t e in
    let g2 = needs_ok (is_balance (next_command (s.operator o))) reason.NoCommand _ t g1.1 in
    let g3 = needs_ok (is_spent (s.operator o).routes && (hauls_of s o == 0)) reason.Stage _ t g2.1 in
    record { operator = g1.0; balance = g2.0; spent = g3.0; gives = g3.1 }
