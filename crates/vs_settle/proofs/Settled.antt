-- What the entries of a bucket may be, and where a cluster is settled.
use Rattle.std.proofs.Common.{inl, inr, ◌≡◌, ℕ, ◌+◌, ◌*◌, ◌<◌, ◌≤◌, ◌==◌, Bool, true, false, refl, sym, ap, subst, ◌∙◌, arith, Option, Some, None}
use Rattle.std.specs.Prelude.{◌≢◌, ◌⊎◌, if◌then◌else◌}
use Rattle.std.proofs.lemmas.Bool.{cases_eq}
use Rattle.vs_rows.specs.RowMap.{RowMap}
use Rattle.vs_space.specs.declared.status.Status.{Status}
use Rattle.vs_space.specs.declared.status.Status.TheVariants.{Active, Pinned, Sending, Receiving, Sent, Garbage}
use Rattle.vs_recover.specs.Decision.{decision_of}
use Rattle.vs_recover.specs.declared.decision.Decision.TheVariants.{Stay}
use Rattle.vs_machine.specs.Tables.{sum_to}
use Rattle.vs_machine.specs.State.{State, sets_of, has_bucket}
use Rattle.vs_machine.specs.Coherence.{IsServing, names}
use Rattle.vs_machine.specs.Kinds.Connections.{decision_by}
use Rattle.vs_machine.specs.Inner.Owner.{IsPlaced, Owns, Beside}
use Rattle.vs_machine.specs.Settling.{IsAtOne, IsSettled, cost_of, cost_at, cost_with, messages_in, messages_of, settle_bound, AreUp, IsSilent}
use Rattle.vs_machine.proofs.Owners.{sending_owns}
use Rattle.vs_machine.proofs.Reached.{reached_whole}
use Rattle.vs_settle.specs.Service.{IsResting}
use Rattle.vs_settle.specs.Tasks.{rank, IsUpTo}
use Rattle.vs_settle.specs.Weight.{load, load_at, loads, pages, price, price_at, prices, weight, due, due_at}
use Rattle.vs_settle.proofs.Sums.{over_le, sum_le, sum_ones, sum_scale}
use Rattle.vs_settle.proofs.Tables.{is_within}

-- ---- a set that asks decides

-- beside an owner that receives the bucket from y
owner_decides : (o y z : ℕ) (e : Option Status) → Beside o (Some (Receiving z)) y e → decision_of (Receiving z) e false ≢ Stay
owner_decides o y z None f h = absurd (cc h)
owner_decides o y z (Some Garbage) f h = absurd (cc h)
owner_decides o y z (Some (Sent d)) f h = absurd (cc h)
owner_decides o y z (Some (Receiving v)) f h = absurd (cc (f.1))
owner_decides o y z (Some Active) f h = f
owner_decides o y z (Some Pinned) f h = f
owner_decides o y z (Some (Sending d)) f h = f

receiver_with : (o : ℕ) (entry : ℕ → Option Status) (x y : ℕ) → IsPlaced o entry → entry x ≡ Some (Receiving y) → y ≢ x → decision_by (entry x) (entry y) false ≢ Stay
receiver_with o entry x y placed at apart = by (cases_eq x o)
  where
    by : (x ≡ o) ⊎ (x ≢ o) → decision_by (entry x) (entry y) false ≢ Stay
    by (inl is) =
        let owner : entry o ≡ Some (Receiving y) = ap entry (sym is) ∙ at in
        let beside : Beside o (Some (Receiving y)) y (entry y) = subst (λ e. Beside o e y (entry y)) owner (placed.beside y (λ e. apart (e ∙ sym is))) in
        subst (λ e. decision_by e (entry y) false ≢ Stay) (sym at) (owner_decides o y y (entry y) beside)
    by (inr ne) =
        let beside : Beside o (entry o) x (Some (Receiving y)) = subst (Beside o (entry o) x) at (placed.beside x ne) in
        let sends : entry y ≡ Some (Sending x) = ap entry beside.0 ∙ beside.1 in
        subst (λ e. decision_by e (entry y) false ≢ Stay) (sym at) (subst (λ e. decision_of (Receiving y) e false ≢ Stay) (sym sends) (λ h. absurd (cc h)))

sender_decides : (o y z : ℕ) (has e : Option Status) → Beside o has y e → rank e ≤ 2 → decision_of (Sending z) e false ≢ Stay
sender_decides o y z has None f low h = absurd (cc h)
sender_decides o y z has (Some Garbage) f low h = absurd (cc h)
sender_decides o y z has (Some (Sent d)) f low h = absurd (cc h)
sender_decides o y z has (Some (Receiving v)) f low h = absurd (omega (arith, low))
sender_decides o y z has (Some Active) f low h = f
sender_decides o y z has (Some Pinned) f low h = f
sender_decides o y z has (Some (Sending d)) f low h = f

sender_with : (o : ℕ) (entry : ℕ → Option Status) (x y : ℕ) → IsPlaced o entry → entry x ≡ Some (Sending y) → y ≢ x → rank (entry y) ≤ 2 → decision_by (entry x) (entry y) false ≢ Stay
sender_with o entry x y placed at apart low =
    let is : x ≡ o = sending_owns o entry x y placed at in
    subst (λ e. decision_by e (entry y) false ≢ Stay) (sym at) (sender_decides o y y (entry o) (entry y) (placed.beside y (λ e. apart (e ∙ sym is))) low)

pub receiver_settles : (s : State) (x b y : ℕ) → IsResting s → (s.bucket b).entry x ≡ Some (Receiving y) → decision_by ((s.bucket b).entry x) ((s.bucket b).entry y) false ≢ Stay
receiver_settles s x b y r at =
    let w = reached_whole s r.reached in
    let f = w.1.inner.buckets b in
    receiver_with (w.0 b) (s.bucket b).entry x y f.placed at (f.named x y (ap names at)).0

pub sender_settles : (s : State) (x b y : ℕ) → IsResting s → (s.bucket b).entry x ≡ Some (Sending y) → IsUpTo s b 2 → decision_by ((s.bucket b).entry x) ((s.bucket b).entry y) false ≢ Stay
sender_settles s x b y r at low =
    let w = reached_whole s r.reached in
    let f = w.1.inner.buckets b in
    sender_with (w.0 b) (s.bucket b).entry x y f.placed at (f.named x y (ap names at)).0 (low y)

-- an entry outside the cluster isn't there
pub rank_outside : (s : State) (b y : ℕ) → IsResting s → ((1 ≤ y) × (y ≤ sets_of s) → ⊥) → rank ((s.bucket b).entry y) ≡ 0
rank_outside s b y r out = by ((s.bucket b).entry y) ((reached_whole s r.reached).1.bounds b y)
  where
    by : (e : Option Status) → (e ≢ None → (1 ≤ y) × (y ≤ sets_of s)) → rank e ≡ 0
    by None h = refl
    by (Some st) h = absurd (out (h (λ e. absurd (cc e))))

-- ---- what is left

owner_serves : (o : ℕ) (e : Option Status) → Owns o e → 1 ≤ o → rank e < 1 → IsServing e
owner_serves o None f real low = absurd (omega (arith, f, real))
owner_serves o (Some Active) f real low = tt
owner_serves o (Some Pinned) f real low = tt
owner_serves o (Some (Sending d)) f real low = absurd (omega (arith, low))
owner_serves o (Some (Receiving x)) f real low = absurd (omega (arith, low))
owner_serves o (Some (Sent d)) f real low = absurd (omega (arith, low))
owner_serves o (Some Garbage) f real low = absurd (omega (arith, low))

other_gone : (o y : ℕ) (has e : Option Status) → Beside o has y e → rank e < 1 → e ≡ None
other_gone o y has None f low = refl
other_gone o y has (Some Active) f low = absurd f
other_gone o y has (Some Pinned) f low = absurd f
other_gone o y has (Some (Sending d)) f low = absurd f
other_gone o y has (Some (Receiving x)) f low = absurd (omega (arith, low))
other_gone o y has (Some (Sent d)) f low = absurd (omega (arith, low))
other_gone o y has (Some Garbage) f low = absurd (omega (arith, low))

pub is_settled : (s : State) → IsResting s → IsSilent s → ((b y : ℕ) → has_bucket s b ≡ true → rank ((s.bucket b).entry y) < 1) → IsSettled s
is_settled s r silent low = record {
  up = r.up;
  placed = λ b from to. placed b (is_within s.config.bucket_count b from to);
  no_transfer = r.quiet.no_transfer;
  no_open_call = r.quiet.idle;
  no_message = λ x y ne. (silent x y ne).calls;
  no_reply = λ x y ne. (silent x y ne).replies;
}
  where
    placed : (b : ℕ) → has_bucket s b ≡ true → IsAtOne (s.bucket b).entry
    placed b known =
        let w = reached_whole s r.reached in
        let f = w.1.inner.buckets b in
        record {
          at = w.0 b;
          serving = owner_serves (w.0 b) _ f.placed.owner (w.1.inner.real b known) (low b (w.0 b) known);
          only = λ y ne. other_gone (w.0 b) y _ _ (f.placed.beside y ne) (low b y known);
        }

-- ---- the weight is within the bound

price_within : (e : Option Status) (rows : RowMap) → price e rows ≤ cost_of e rows
unfolding pages
price_within None rows = omega arith
price_within (Some Active) rows = omega arith
price_within (Some Pinned) rows = omega arith
price_within (Some (Sending d)) rows = omega arith
price_within (Some (Receiving x)) rows = omega arith
price_within (Some (Sent d)) rows = omega arith
price_within (Some Garbage) rows = omega arith

load_within : (s : State) (x y : ℕ) → load_at s.link x y ≤ 2 * (if x == y then 0 else messages_in (s.link x y))
load_within s x y = by (x == y)
  where
    by : (t : Bool) → (if t then 0 else load (s.link x y)) ≤ 2 * (if t then 0 else messages_in (s.link x y))
    by true = omega arith
    by false = omega arith

-- where no set is down
pub weight_within : (s : State) → AreUp s → weight s ≤ due s
unfolding weight due
weight_within s up =
    let n = sets_of s in
    let m = s.config.bucket_count in
    let lines : loads s.link n ≤ 2 * messages_of s = sum_scale (λ x. sum_to (load_at s.link x) n) (λ x. sum_to (λ y. if x == y then 0 else messages_in (s.link x y)) n) 2 n (λ x. sum_scale (load_at s.link x) (λ y. if x == y then 0 else messages_in (s.link x y)) 2 n (load_within s x)) in
    let costs : prices s.bucket n m ≤ sum_to (λ x. sum_to (cost_at s x) m) n = over_le (price_at s.bucket) (cost_at s) n m (λ x b from to _ _. cost x b (up x from to)) in
    let starts : sum_to (λ x. sum_to (cost_at s x) m) n ≤ sum_to (due_at s) n = sum_le (λ x. sum_to (cost_at s x) m) (due_at s) n (λ x _ _. omega arith) in
    omega (arith, lines, costs, starts)
  where
    cost : (x b : ℕ) → s.up x ≡ true → price_at s.bucket x b ≤ cost_at s x b
    cost x b is = subst (λ (t : Bool). price_at s.bucket x b ≤ cost_with (if t then None else s.pending x) (s.bucket b) b x) (sym is) (price_within _ _)

pub due_within : (s : State) → due s ≤ settle_bound s
unfolding due
due_within s =
    let n = sets_of s in
    let m = s.config.bucket_count in
    let starts : sum_to (due_at s) n ≤ n + sum_to (λ x. sum_to (cost_at s x) m) n = sum_ones (due_at s) (λ x. sum_to (cost_at s x) m) n (λ x. one x (s.up x)) in
    omega (arith, starts)
  where
    one : (x : ℕ) (t : Bool) → (if t then 0 else 1) + sum_to (cost_at s x) s.config.bucket_count ≤ 1 + sum_to (cost_at s x) s.config.bucket_count
    one x true = omega arith
    one x false = omega arith
