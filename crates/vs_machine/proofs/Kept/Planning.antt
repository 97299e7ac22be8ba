-- A round of rebalancing is planned.
use Rattle.std.proofs.Common.{◌≡◌, ℕ, Ok, Bool, true, false, sym, subst, List, [], ◌∷◌, Option, Some, None}
use Rattle.std.specs.Prelude.{◌≢◌, ◌==◌, ◌&&◌, ◌||◌, not, nat_lt, if◌then◌else◌, All}
use Rattle.std.proofs.lemmas.List.Elements.{All-nil, All-cons, All-head, All-tail, All-weaker}
use Rattle.vs_event.specs.declared.reason.Reason.TheVariants as reason
use Rattle.vs_balance.specs.declared.route.Route.{Route}
use Rattle.vs_balance.specs.Ideal.{ideal_of}
use Rattle.vs_balance.specs.Routes.{routes_of}
use Rattle.vs_balance.proofs.Fewest.{AreRoutes-routes_of}
use Rattle.vs_machine.specs.declared.outcome.CommandFault.TheVariants.{Down}
use Rattle.vs_machine.specs.declared.outcome.CommandOutcome.TheVariants.{Stuck, Refused}
use Rattle.vs_machine.specs.Tables.{least_to}
use Rattle.vs_machine.specs.State.{State, Operator, sets_of, answer}
use Rattle.vs_machine.specs.Kinds.Rebalancing.{plan, plan_round, planned, views_of, is_in_move, with_round}
use Rattle.vs_machine.specs.Kinds.Connections.{is_null}
use Rattle.vs_machine.specs.Whole.{Inner, OperatorFits}
use Rattle.vs_machine.proofs.Ideals.{as_many_ideals}
use Rattle.vs_machine.proofs.Possible.{ok_is, wants_none_ok}
use Rattle.vs_machine.proofs.Can.Others.{can_plan}
use Rattle.vs_machine.proofs.Kept.Calls.{operator_moves, answer_moves}

-- what holds of each two of a list holds of each with itself
pub with_itself : {A : Type 0} (R : A → A → Type 0) (xs : List A) → All (λ a. All (λ b. R a b) xs) xs → All (λ a. R a a) xs
with_itself R [] h = All-nil (λ a. R a a)
with_itself {A} R (x ∷ xs) h =
    let first : All (R x) (x ∷ xs) = All-head (λ a. All (R a) (x ∷ xs)) x xs h in
    let rest : All (λ a. All (R a) (x ∷ xs)) xs = All-tail (λ a. All (R a) (x ∷ xs)) x xs h in
    All-cons (λ a. R a a) x xs (All-head (R x) x xs first)
    (with_itself R xs (All-weaker (λ a. All (R a) (x ∷ xs)) (λ a. All (R a) xs) (λ a. All-tail (R a) x xs) xs rest))

-- no route of a plan leads from a set to itself
pub plan_apart : (s : State) → All (λ (r : Route). r.giver ≢ r.taker) (routes_of (views_of s) (ideal_of (views_of s)) s.config.max_receiving)
plan_apart s =
    let views = views_of s in
    let ideals = ideal_of views in
    with_itself (λ (a b : Route). a.giver ≢ b.taker) _ (AreRoutes-routes_of views ideals s.config.max_receiving (sym (as_many_ideals views))).one_way

planned_fits : (m n : ℕ) (o : Operator) (balanced : Bool) (routes : List Route) → OperatorFits m n o → All (λ (r : Route). r.giver ≢ r.taker) routes → OperatorFits m n (planned o balanced routes)
planned_fits m n o true routes f apart = record { lawful = f.lawful; apart = All-nil _ }
planned_fits m n o false routes f apart = by ((nat_lt 0 o.rounds && (o.moved == 0)) || is_null routes)
  where
    by : (t : Bool) → OperatorFits m n (if t then answer o (Stuck o.rounds) else with_round o routes)
    by true = record { lawful = f.lawful; apart = All-nil _ }
    by false = record { lawful = f.lawful; apart = apart }

pub plan_keeps : (own : ℕ → ℕ) (s t : State) (o : ℕ) → Inner own s → plan s o ≡ Ok t → Inner own t
plan_keeps own s t o i e = by (least_to (λ x. not (s.up x)) (sets_of s)) (can_plan s t o e).gives
  where
    by : (down : Option ℕ) → plan_round s o down ≡ Ok t → Inner own t
    by (Some x) h = subst (Inner own) (ok_is _ t h) (answer_moves own s o (Refused (Down x)) i)
    by None h =
        let g = wants_none_ok (least_to (is_in_move s) s.config.bucket_count) reason.Moving _ t h in
        subst (Inner own) (ok_is _ t g.1) (operator_moves own s o _ i (planned_fits s.config.bucket_count (sets_of s) (s.operator o) _ _ (i.operators o) (plan_apart s)))
