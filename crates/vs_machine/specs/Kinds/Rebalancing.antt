-- Rebalancing: plan begins a round of a balance command, haul moves one bucket of it.
use Rattle.std.specs.Prelude.{ℕ, ◌+◌, ◌-◌, ◌==◌, ◌&&◌, ◌||◌, ◌^◌, not, nat_lt, min, Bool, true, false, if◌then◌else◌, List, map, Option, Some, None, is_none, Result, Ok}
use Rattle.std.specs.List.{sum_by, list_all}
use Rattle.vs_space.specs.declared.status.Status.{Status}
use Rattle.vs_space.specs.declared.status.Status.TheVariants.{Pinned, Sending, Receiving}
use Rattle.vs_space.specs.Status.{is_active}
use Rattle.vs_event.specs.declared.reason.Reason.{Reason}
use Rattle.vs_event.specs.declared.reason.Reason.TheVariants as reason
use Rattle.vs_script.specs.declared.command.Command as declared_command
use Rattle.vs_script.specs.declared.command.Command.TheVariants.{Balance}
use Rattle.vs_balance.specs.Ideal.{ideal_of}
use Rattle.vs_balance.specs.Routes.{routes_of}
use Rattle.vs_balance.specs.Disbalance.{is_disbalanced}
use Rattle.vs_balance.specs.declared.route.Route.{Route}
use Rattle.vs_balance.specs.declared.view.SetView.{SetView}
use Rattle.vs_send.specs.declared.transfer.By.{By}
use Rattle.vs_send.specs.declared.transfer.By.TheVariants.{Command, Haul}
use Rattle.vs_send.specs.declared.transfer.Transfer.{Transfer}
use Rattle.vs_machine.specs.declared.outcome.CommandFault.TheVariants.{Down}
use Rattle.vs_machine.specs.declared.outcome.CommandOutcome.TheVariants.{Balanced, Stuck, Refused}
use Rattle.vs_machine.specs.Check.{◌>>◌, needs, wants_none}
use Rattle.vs_machine.specs.Tables.{count_to, least_to, list_to}
use Rattle.vs_machine.specs.State.{State, Operator, sets_of, has_set, has_operator, next_command, answer, is_locked, weight_of, put_operator, put_bucket}
use Rattle.vs_machine.specs.Kinds.Sender.{with_begun}
use Rattle.vs_machine.specs.Kinds.Connections.{is_null}

-- ---- what the rebalancer sees

abbrev pub is_pinned : Option Status → Bool
is_pinned (Some Pinned) = true
is_pinned entry = false

abbrev pub is_moving : Option Status → Bool
is_moving (Some (Sending d)) = true
is_moving (Some (Receiving x)) = true
is_moving entry = false

-- a set's active and pinned buckets, the pinned ones, its weight, and whether it is locked
abbrev pub view_of : State → ℕ → SetView
view_of s x = record {
  count = count_to (λ b. is_active ((s.bucket b).entry x) || is_pinned ((s.bucket b).entry x)) s.config.bucket_count;
  pinned = count_to (λ b. is_pinned ((s.bucket b).entry x)) s.config.bucket_count;
  weight = weight_of s x;
  locked = is_locked s x;
}

abbrev pub views_of : State → List SetView
views_of s = list_to (view_of s) (sets_of s)

-- the hauls that are live at a set, and those of an operator
abbrev pub is_haul : Option Transfer → Bool
is_haul None = false
is_haul (Some t) = by_haul t.by
  where
    by_haul : By → Bool
    by_haul (Haul o) = true
    by_haul (Command o) = false

abbrev pub is_haul_of : ℕ → Option Transfer → Bool
is_haul_of o None = false
is_haul_of o (Some t) = by_haul_of t.by
  where
    by_haul_of : By → Bool
    by_haul_of (Haul p) = p == o
    by_haul_of (Command p) = false

abbrev pub hauls_at : State → ℕ → ℕ
hauls_at s x = count_to (λ b. is_haul ((s.bucket b).transfer x)) s.config.bucket_count

abbrev pub has_haul : State → ℕ → ℕ → Bool
has_haul s o b = nat_lt 0 (count_to (λ x. is_haul_of o ((s.bucket b).transfer x)) (sets_of s))

abbrev pub hauls_of : State → ℕ → ℕ
hauls_of s o = count_to (has_haul s o) s.config.bucket_count

-- ---- haul

abbrev pub is_route : ℕ → ℕ → Route → Bool
is_route x d r = (r.giver == x) && (r.taker == d)

-- how many are left on the route from set x to set d
abbrev pub left_on : List Route → ℕ → ℕ → ℕ
left_on routes x d = sum_by (λ r. if is_route x d r then r.number else 0) routes

-- the routes with that many left on it
abbrev pub with_left : List Route → ℕ → ℕ → ℕ → List Route
with_left routes x d n = map (λ r. if is_route x d r then record r { number = n } else r) routes

abbrev pub is_free : State → ℕ → ℕ → Bool
is_free s x b = is_active ((s.bucket b).entry x) && is_none ((s.bucket b).transfer x)

-- the bucket that is moved: the least that is active at set x without a transfer, where both sets are up
abbrev pub bucket_to_haul : State → ℕ → ℕ → Option ℕ
bucket_to_haul s x d = if s.up x && s.up d then least_to (is_free s x) s.config.bucket_count else None

abbrev pub put_left : State → ℕ → ℕ → ℕ → ℕ → State
put_left s o x d n = let old = s.operator o in put_operator s o (record old { routes = with_left old.routes x d n })

abbrev pub after_haul : State → ℕ → ℕ → ℕ → Option ℕ → State
after_haul s o x d None = put_left s o x d 0
after_haul s o x d (Some b) =
    put_bucket (put_left s o x d (left_on (s.operator o).routes x d - 1)) b (with_begun (s.bucket b) x d (Haul o))

abbrev pub haul : State → ℕ → ℕ → ℕ → Result State Reason
haul s o x d = do
  needs (has_operator s o && (has_set s x && has_set s d)) reason.Unknown
  needs (nat_lt 0 (left_on (s.operator o).routes x d)) reason.NoRoute
  needs (nat_lt (hauls_at s x) s.config.max_sending) reason.Live
  Ok (after_haul s o x d (bucket_to_haul s x d))

-- ---- plan

abbrev pub is_balance : Option declared_command.Command → Bool
is_balance (Some Balance) = true
is_balance command = false

abbrev pub is_spent : List Route → Bool
is_spent routes = list_all (λ r. r.number == 0) routes

-- the bucket is sending or receiving at some set
abbrev pub is_in_move : State → ℕ → Bool
is_in_move s b = nat_lt 0 (count_to (λ x. is_moving ((s.bucket b).entry x)) (sets_of s))

-- a further round with these routes; the number of rounds ends at 2^32 - 1
abbrev pub with_round : Operator → List Route → Operator
with_round o routes = record o { rounds = min (o.rounds + 1) (2 ^ 32 - 1); routes = routes; moved = 0 }

-- the counts are near the ideals; or the last round moved nothing, or nothing can be moved; or a round begins
abbrev pub planned : Operator → Bool → List Route → Operator
planned o balanced routes =
    if balanced then answer o (Balanced o.rounds)
    else if (nat_lt 0 o.rounds && (o.moved == 0)) || is_null routes then answer o (Stuck o.rounds)
    else with_round o routes

abbrev pub after_plan : State → ℕ → State
after_plan s o =
    let views = views_of s in
    let ideals = ideal_of views in
    put_operator s o (planned (s.operator o) (not (is_disbalanced views ideals s.config.threshold)) (routes_of views ideals s.config.max_receiving))

-- with a set down the command is refused, and with a bucket in a move it waits
abbrev pub plan_round : State → ℕ → Option ℕ → Result State Reason
plan_round s o (Some x) = Ok (put_operator s o (answer (s.operator o) (Refused (Down x))))
plan_round s o None = do
  wants_none (least_to (is_in_move s) s.config.bucket_count) reason.Moving
  Ok (after_plan s o)

abbrev pub plan : State → ℕ → Result State Reason
plan s o = do
  needs (has_operator s o) reason.Unknown
  needs (is_balance (next_command (s.operator o))) reason.NoCommand
  needs (is_spent (s.operator o).routes && (hauls_of s o == 0)) reason.Stage
  plan_round s o (least_to (λ x. not (s.up x)) (sets_of s))
