-- A round is planned, and moves one bucket: kept by the events of rounds.
use Rattle.std.proofs.Common.{inl, inr, ◌≡◌, ℕ, Bool, true, false, refl, sym, subst, List, [], ◌∷◌, Option, Some, None, Ok, arith}
use Rattle.std.specs.Prelude.{◌≢◌, ◌-◌, ◌==◌, ◌&&◌, ◌||◌, not, nat_lt, if◌then◌else◌}
use Rattle.std.proofs.lemmas.Bool.{eqb-true, eq-eqb}
use Rattle.std.proofs.lemmas.Bool.Decides.{nat_tests}
use Rattle.vs_balance.specs.declared.route.Route.{Route}
use Rattle.vs_event.specs.declared.reason.Reason.TheVariants as reason
use Rattle.vs_script.specs.declared.command.Command.{Command}
use Rattle.vs_script.specs.declared.command.Command.TheVariants as command
use Rattle.vs_send.specs.declared.transfer.By.{By}
use Rattle.vs_send.specs.declared.transfer.By.TheVariants as by
use Rattle.vs_send.specs.declared.transfer.Phase.{Phase}
use Rattle.vs_send.specs.declared.transfer.Phase.TheVariants.{Draining, Ready, Waiting, Copied, Sealed, WaitingLast, Refused, Done}
use Rattle.vs_send.specs.declared.transfer.Transfer.{Transfer}
use Rattle.vs_space.specs.declared.status.Status.{Status}
use Rattle.vs_machine.specs.declared.outcome.CommandOutcome.TheVariants.{Stuck}
use Rattle.vs_machine.specs.Inner.Phases.{PhaseFits}
use Rattle.vs_machine.specs.Kinds.Connections.{is_null}
use Rattle.vs_machine.specs.Kinds.Rebalancing.{is_haul_of, has_haul, hauls_of, left_on, with_left, haul, after_haul, bucket_to_haul, is_balance, is_spent, is_in_move, with_round, planned, plan, plan_round}
use Rattle.vs_machine.specs.Laws.{IsBegunBy, TransferRuns, WholeRuns}
use Rattle.vs_machine.specs.Runs.{IsReached}
use Rattle.vs_machine.specs.State.{State, Operator, sets_of, has_set, has_bucket, next_command, answer}
use Rattle.vs_machine.specs.Tables.{put, least_to}
use Rattle.vs_machine.proofs.Can.Others.{can_haul, can_plan}
use Rattle.vs_machine.proofs.Counts.{none_counted}
use Rattle.vs_machine.proofs.Frame.{put_here}
use Rattle.vs_machine.proofs.Possible.{ok_is, both_are, wants_none_ok}
use Rattle.vs_settle.proofs.Counted.{some_counted}
use Rattle.vs_settle.proofs.Rounds.Frame.{IsBalancing, RoutesFit, RoundsFit, Fits, transfer_fits, operator_fits}

-- ---- what is known of a transfer

-- who began it is there, and it stands at a set of the cluster, for a bucket of the cluster
pub record IsKnown (s : State) (b x : ℕ) (t : Transfer) : Type 0 where
  pub begun : IsBegunBy s.operators s.operator b x t.dest t.by
  pub set : has_set s x ≡ true
  pub bucket : has_bucket s b ≡ true

abbrev pub AreKnown : State → Type 0
AreKnown s = (b x : ℕ) (t : Transfer) → (s.bucket b).transfer x ≡ Some t → IsKnown s b x t

-- its set has an entry of the bucket
phase_there : (d : ℕ) (has : Option Status) (p : Phase) → PhaseFits d has p → has ≢ None
phase_there d has (Draining n) h = λ e. absurd (cc (h, e))
phase_there d has (Ready k) h = λ e. absurd (cc (h, e))
phase_there d has (Waiting n m k) h = λ e. absurd (cc (h, e))
phase_there d has Copied h = λ e. absurd (cc (h, e))
phase_there d has Sealed h = λ e. absurd (cc (h, e))
phase_there d has (WaitingLast n m) h = λ e. absurd (cc (h, e))
phase_there d has Done h = λ e. absurd (cc (h, e))
phase_there d has (Refused f) h = λ e. elim h [ inl g ↦ absurd (cc (g, e)) | inr g ↦ absurd (cc (g, e)) ]

pub are_known : WholeRuns → TransferRuns → (s : State) → IsReached s → AreKnown s
are_known whole begun s r b x t there =
    let w = (whole s r).1 in
    let entry = phase_there t.dest ((s.bucket b).entry x) t.phase ((w.inner.buckets b).transfers x t there).phase in
    let bounds = w.bounds b x entry in
    let first = bounds.0 in
    let last = bounds.1 in
    record { begun = begun s r b x t there; set = grind (arith, nat_tests, first, last); bucket = w.known b x entry }

-- ---- no haul of an operator is live

counts_haul : (o : ℕ) (t : Transfer) → t.by ≡ by.Haul o → is_haul_of o (Some t) ≡ true
counts_haul o t = at t.by
  where
    at : (w : By) → w ≡ by.Haul o → is_haul_of o (Some (record t { by = w })) ≡ true
    at (by.Haul q) e = let same : q ≡ o = cc (e) in eq-eqb q o same
    at (by.Command q) e = absurd (cc (e))

no_hauls : (s : State) (o : ℕ) → AreKnown s → hauls_of s o ≡ 0 → (b x : ℕ) (t : Transfer) → (s.bucket b).transfer x ≡ Some t → t.by ≡ by.Haul o → ⊥
no_hauls s o known none b x t there haul =
    let k = known b x t there in
    let here : is_haul_of o ((s.bucket b).transfer x) ≡ true = subst (λ v. is_haul_of o v ≡ true) (sym there) (counts_haul o t haul) in
    none_counted (has_haul s o) s.config.bucket_count none b k.bucket (some_counted (λ y. is_haul_of o ((s.bucket b).transfer y)) (sets_of s) x k.set here)

-- ---- haul

left_fits : (rs : List Route) (x d n : ℕ) (k : Option Command) → RoutesFit rs k → RoutesFit (with_left rs x d n) k
left_fits [] x d n k h = tt
left_fits (r ∷ rs) x d n k h = h

some_left : (rs : List Route) (x d : ℕ) (k : Option Command) → nat_lt 0 (left_on rs x d) ≡ true → RoutesFit rs k → k ≡ Some command.Balance
some_left [] x d k left h = absurd cc
some_left (r ∷ rs) x d k left h = h

-- an operator with that many left on one route
abbrev hauling : Operator → ℕ → ℕ → ℕ → Operator
hauling o x d n = record o { routes = with_left o.routes x d n }

pub haul_rounds : (s t : State) (o x d : ℕ) → Fits s → haul s o x d ≡ Ok t → Fits t
haul_rounds s t o x d i h =
    let p = can_haul s t o x d h in
    let old = s.operator o in
    subst Fits p.gives (at (some_left old.routes x d (next_command old) p.left (i.routes o)) (bucket_to_haul s x d))
  where
    left : (n : ℕ) → RoundsFit (put s.operator o (hauling (s.operator o) x d n)) s.bucket
    left n = operator_fits s.operator s.bucket o (hauling (s.operator o) x d n) i (left_fits (s.operator o).routes x d n (next_command (s.operator o)) (i.routes o)) (λ b y u there e g. g)

    at : IsBalancing (s.operator o) → (v : Option ℕ) → Fits (after_haul s o x d v)
    at balancing None = left 0
    at balancing (Some b) =
        let n = left_on (s.operator o).routes x d - 1 in
        let new = hauling (s.operator o) x d n in
        transfer_fits (put s.operator o new) s.bucket b x _ _ (left n) refl (subst IsBalancing (sym (put_here s.operator o new)) balancing)

-- ---- plan

balance_is : (k : Option Command) → is_balance k ≡ true → k ≡ Some command.Balance
balance_is k h = grind arith

routes_on : (rs : List Route) (k : Option Command) → k ≡ Some command.Balance → RoutesFit rs k
routes_on [] k h = tt
routes_on (r ∷ rs) k h = h

planned_fits : (o : Operator) (balanced : Bool) (routes : List Route) → IsBalancing o → (let new = planned o balanced routes in RoutesFit new.routes (next_command new))
planned_fits o true routes balancing = tt
planned_fits o false routes balancing = at ((nat_lt 0 o.rounds && (o.moved == 0)) || is_null routes)
  where
    at : (t : Bool) → (let new = if t then answer o (Stuck o.rounds) else with_round o routes in RoutesFit new.routes (next_command new))
    at true = tt
    at false = routes_on routes (next_command o) balancing

pub plan_rounds : (s t : State) (o : ℕ) → AreKnown s → Fits s → plan s o ≡ Ok t → Fits t
plan_rounds s t o known i h =
    let p = can_plan s t o h in
    let spent = both_are (is_spent (s.operator o).routes) (hauls_of s o == 0) p.spent in
    at (balance_is (next_command (s.operator o)) p.balance) (no_hauls s o known (eqb-true (hauls_of s o) 0 spent.1)) (least_to (λ x. not (s.up x)) (sets_of s)) p.gives
  where
    changed : ((b x : ℕ) (u : Transfer) → (s.bucket b).transfer x ≡ Some u → u.by ≡ by.Haul o → ⊥) → (new : Operator) → RoutesFit new.routes (next_command new) → RoundsFit (put s.operator o new) s.bucket
    changed none new routes = operator_fits s.operator s.bucket o new i routes (λ b x u there e g. absurd (none b x u there e))

    at : IsBalancing (s.operator o) → ((b x : ℕ) (u : Transfer) → (s.bucket b).transfer x ≡ Some u → u.by ≡ by.Haul o → ⊥) → (down : Option ℕ) → plan_round s o down ≡ Ok t → Fits t
    at balancing none (Some x) g = subst Fits (ok_is _ t g) (changed none (answer (s.operator o) _) tt)
    at balancing none None g =
        let k = wants_none_ok (least_to (is_in_move s) s.config.bucket_count) reason.Moving _ t g in
        subst Fits (ok_is _ t k.1) (changed none (planned (s.operator o) _ _) (planned_fits (s.operator o) _ _ balancing))
