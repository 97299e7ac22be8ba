-- The start of a set that is down takes one at least from what is due.
use Rattle.std.proofs.Common.{◌≡◌, ⊎_elim, ℕ, ◌+◌, ◌≤◌, ◌==◌, Bool, true, false, drop, Option, Some, None, refl, sym, ap, subst, ◌∙◌, arith, Ok}
use Rattle.std.specs.Prelude.{◌≢◌, max, if◌then◌else◌}
use Rattle.std.proofs.Math.Nat.{le-max_left, le-max_right}
use Rattle.std.proofs.lemmas.Bool.{cases_eq, eq-eqb}
use Rattle.vs_rows.specs.RowMap.{with_rows}
use Rattle.vs_rows.specs.Operations.{rows_after}
use Rattle.vs_space.specs.declared.status.Status.TheVariants.{Active, Pinned, Sending, Receiving, Sent, Garbage}
use Rattle.vs_event.specs.declared.event.RestartBy.TheVariants.{Service}
use Rattle.vs_record.specs.Change.{Change, SetStatus, AddRows, Write, Wipe, Forget, bucket_of}
use Rattle.vs_machine.specs.Kinds.Stops.{restart, restarted, up_again, kept_at, with_change}
use Rattle.vs_machine.specs.Settling.{cost_of, cost_in, cost_with, messages_of}
use Rattle.vs_machine.specs.State.{State, Bucket, sets_of}
use Rattle.vs_machine.specs.Tables.{put, sum_to}
use Rattle.vs_machine.proofs.Can.Stops.{can_restart}
use Rattle.vs_machine.proofs.Frame.{put_here, put_there}
use Rattle.vs_settle.specs.Weight.{due, due_at}
use Rattle.vs_settle.proofs.Sums.{sum_le, sum_less}
use Rattle.vs_settle.proofs.Tables.{within}

-- ---- what a set's entry costs depends on its entry and its rows alone

module _ (u v : Bucket) (y : ℕ) (entry : v.entry y ≡ u.entry y) (rows : v.rows y ≡ u.rows y) where
  changed_cost : (c : Change) → cost_in (with_change v y c) y ≡ cost_in (with_change u y c) y
  changed_cost (SetStatus b Active) = λ i. cost_of (if y == y then Some Active else entry i) (rows i)
  changed_cost (SetStatus b Pinned) = λ i. cost_of (if y == y then Some Pinned else entry i) (rows i)
  changed_cost (SetStatus b (Sending d)) = λ i. cost_of (if y == y then Some (Sending d) else entry i) (rows i)
  changed_cost (SetStatus b (Receiving d)) = λ i. cost_of (if y == y then Some (Receiving d) else entry i) (rows i)
  changed_cost (SetStatus b (Sent d)) = λ i. cost_of (if y == y then Some (Sent d) else entry i) (rows i)
  changed_cost (SetStatus b Garbage) = λ i. cost_of (if y == y then Some Garbage else entry i) (rows i)
  changed_cost (AddRows b z page) = λ i. cost_of (if y == y then Some (Receiving z) else entry i) (if y == y then with_rows (rows i) page else rows i)
  changed_cost (Write id b ops) = λ i. cost_of (entry i) (if y == y then rows_after (rows i) ops else rows i)
  changed_cost (Wipe b n) = λ i. cost_of (entry i) (if y == y then drop n (rows i) else rows i)
  changed_cost (Forget b) = λ i. cost_of (if y == y then None else entry i) (rows i)

  cost_same : (p : Option Change) (b : ℕ) → cost_with p v b y ≡ cost_with p u b y
  cost_same None b = λ i. cost_of (entry i) (rows i)
  cost_same (Some c) b = λ i. if bucket_of c == b then max (cost_of (entry i) (rows i)) (changed_cost c i) else cost_of (entry i) (rows i)

-- ---- a change at set x leaves the entries and the rows of the others

module _ (u : Bucket) (x y : ℕ) (ne : y ≢ x) where
  entry_there : (c : Change) → (with_change u x c).entry y ≡ u.entry y
  entry_there (SetStatus b Active) = put_there u.entry x _ y ne
  entry_there (SetStatus b Pinned) = put_there u.entry x _ y ne
  entry_there (SetStatus b (Sending d)) = put_there u.entry x _ y ne
  entry_there (SetStatus b (Receiving d)) = put_there u.entry x _ y ne
  entry_there (SetStatus b (Sent d)) = put_there u.entry x _ y ne
  entry_there (SetStatus b Garbage) = put_there u.entry x _ y ne
  entry_there (AddRows b z page) = put_there u.entry x _ y ne
  entry_there (Write id b ops) = refl
  entry_there (Wipe b n) = refl
  entry_there (Forget b) = put_there u.entry x _ y ne

  rows_there : (c : Change) → (with_change u x c).rows y ≡ u.rows y
  rows_there (SetStatus b Active) = refl
  rows_there (SetStatus b Pinned) = refl
  rows_there (SetStatus b (Sending d)) = refl
  rows_there (SetStatus b (Receiving d)) = refl
  rows_there (SetStatus b (Sent d)) = refl
  rows_there (SetStatus b Garbage) = refl
  rows_there (AddRows b z page) = put_there u.rows x _ y ne
  rows_there (Write id b ops) = put_there u.rows x _ y ne
  rows_there (Wipe b n) = put_there u.rows x _ y ne
  rows_there (Forget b) = refl

-- ---- what is due at a set

abbrev toll : Bool → Option Change → (ℕ → Bucket) → ℕ → ℕ → ℕ
toll up pending bs m y = (if up then 0 else 1) + sum_to (λ b. cost_with (if up then None else pending) (bs b) b y) m

-- a set at which nothing changes
toll_same : (up : Bool) (pending : Option Change) (bs cs : ℕ → Bucket) (m y : ℕ) → ((b : ℕ) → (cs b).entry y ≡ (bs b).entry y) → ((b : ℕ) → (cs b).rows y ≡ (bs b).rows y) → toll up pending cs m y ≤ toll up pending bs m y
toll_same up pending bs cs m y entry rows =
    let p = if up then None else pending in
    let costs : sum_to (λ b. cost_with p (cs b) b y) m ≤ sum_to (λ b. cost_with p (bs b) b y) m =
    sum_le (λ b. cost_with p (cs b) b y) (λ b. cost_with p (bs b) b y) m (λ b _ _. let same = cost_same (bs b) (cs b) y (entry b) (rows b) p b in omega (arith, same)) in
    omega (arith, costs)

-- the set that is started
toll_less : (pending : Option Change) (bs cs : ℕ → Bucket) (m x : ℕ) → ((b : ℕ) → cost_in (cs b) x ≤ cost_with pending (bs b) b x) → toll true None cs m x + 1 ≤ toll false pending bs m x
toll_less pending bs cs m x le =
    let costs : sum_to (λ b. cost_in (cs b) x) m ≤ sum_to (λ b. cost_with pending (bs b) b x) m = sum_le (λ b. cost_in (cs b) x) (λ b. cost_with pending (bs b) b x) m (λ b _ _. le b) in
    omega (arith, costs)

bare_cost : (pending : Option Change) (u : Bucket) (b x : ℕ) → cost_in u x ≤ cost_with pending u b x
bare_cost None u b x = omega arith
bare_cost (Some c) u b x = by (bucket_of c == b)
  where
    by : (t : Bool) → cost_in u x ≤ (if t then max (cost_in u x) (cost_in (with_change u x c) x) else cost_in u x)
    by true = le-max_left (cost_in u x) (cost_in (with_change u x c) x)
    by false = omega arith

kept_cost : (c : Change) (bs : ℕ → Bucket) (b x : ℕ) → cost_in (put bs (bucket_of c) (with_change (bs (bucket_of c)) x c) b) x ≤ cost_with (Some c) (bs b) b x
kept_cost c bs b x = ⊎_elim here away (cases_eq b (bucket_of c))
  where
    k : ℕ
    k = bucket_of c

    After : ℕ → Type 0
    After q = cost_in (put bs k (with_change (bs k) x c) q) x ≤ cost_with (Some c) (bs q) q x

    at : After k
    at =
        let made = put_here bs k (with_change (bs k) x c) in
        let test : (k == k) ≡ true = eq-eqb k k refl in
        let most : cost_in (with_change (bs k) x c) x ≤ max (cost_in (bs k) x) (cost_in (with_change (bs k) x c) x) = le-max_right (cost_in (bs k) x) (cost_in (with_change (bs k) x c) x) in
        subst (λ (u : Bucket). cost_in u x ≤ cost_with (Some c) (bs k) k x) (sym made)
        (subst (λ (t : Bool). cost_in (with_change (bs k) x c) x ≤ (if t then max (cost_in (bs k) x) (cost_in (with_change (bs k) x c) x) else cost_in (bs k) x)) (sym test) most)

    here : b ≡ k → After b
    here e = subst After (sym e) at

    away : (b ≡ k → ⊥) → After b
    away ne = subst (λ (u : Bucket). cost_in u x ≤ cost_with (Some c) (bs b) b x) (sym (put_there bs k (with_change (bs k) x c) b ne)) (bare_cost (Some c) (bs b) b x)

-- ---- a set is started again

module _ (s : State) (x : ℕ) (from : 1 ≤ x) (to : x ≤ sets_of s) (down : s.up x ≡ false) where
  started_less : (cs : ℕ → Bucket) → ((b : ℕ) → cost_in (cs b) x ≤ cost_with (s.pending x) (s.bucket b) b x)
      → ((b y : ℕ) → y ≢ x → (cs b).entry y ≡ (s.bucket b).entry y) → ((b y : ℕ) → y ≢ x → (cs b).rows y ≡ (s.bucket b).rows y)
      → sum_to (λ y. toll (put s.up x true y) (put s.pending x None y) cs s.config.bucket_count y) (sets_of s) + 1 ≤ sum_to (due_at s) (sets_of s)
  started_less cs cost entries rows = sum_less After (due_at s) (sets_of s) x from to less (λ y. ⊎_elim (here y) (away y) (cases_eq y x))
    where
      m : ℕ
      m = s.config.bucket_count

      After : ℕ → ℕ
      After y = toll (put s.up x true y) (put s.pending x None y) cs m y

      less : After x + 1 ≤ due_at s x
      less = subst (λ (t : Bool). toll t (put s.pending x None x) cs m x + 1 ≤ due_at s x) (sym (put_here s.up x true))
          (subst (λ (p : Option Change). toll true p cs m x + 1 ≤ due_at s x) (sym (put_here s.pending x None))
          (subst (λ (t : Bool). toll true None cs m x + 1 ≤ toll t (s.pending x) s.bucket m x) (sym down) (toll_less (s.pending x) s.bucket cs m x cost)))

      here : (y : ℕ) → y ≡ x → After y ≤ due_at s y
      here y e = subst (λ (z : ℕ). After z ≤ due_at s z) (sym e) (omega (arith, less))

      away : (y : ℕ) → (y ≡ x → ⊥) → After y ≤ due_at s y
      away y ne = subst (λ (t : Bool). toll t (put s.pending x None y) cs m y ≤ due_at s y) (sym (put_there s.up x true y ne))
          (subst (λ (p : Option Change). toll (s.up y) p cs m y ≤ due_at s y) (sym (put_there s.pending x None y ne))
          (toll_same (s.up y) (s.pending y) s.bucket cs m y (λ b. entries b y ne) (λ b. rows b y ne)))

  bare_less : due (up_again s x) + 1 ≤ due s
  unfolding due
  bare_less =
      let same : messages_of (up_again s x) ≡ messages_of s = refl in
      let less : sum_to (due_at (up_again s x)) (sets_of s) + 1 ≤ sum_to (due_at s) (sets_of s) = started_less s.bucket (λ b. bare_cost (s.pending x) (s.bucket b) b x) (λ b y ne. refl) (λ b y ne. refl) in
      omega (arith, less, same)

  module _ (c : Change) (pending : s.pending x ≡ Some c) where
    entries_kept : (b y : ℕ) → y ≢ x → (put s.bucket (bucket_of c) (with_change (s.bucket (bucket_of c)) x c) b).entry y ≡ (s.bucket b).entry y
    entries_kept b y ne = ⊎_elim here away (cases_eq b (bucket_of c))
      where
        here : b ≡ bucket_of c → (put s.bucket (bucket_of c) (with_change (s.bucket (bucket_of c)) x c) b).entry y ≡ (s.bucket b).entry y
        here e = subst (λ (q : ℕ). (put s.bucket (bucket_of c) (with_change (s.bucket (bucket_of c)) x c) q).entry y ≡ (s.bucket q).entry y) (sym e)
            (ap (λ (u : Bucket). u.entry y) (put_here s.bucket (bucket_of c) (with_change (s.bucket (bucket_of c)) x c)) ∙ entry_there (s.bucket (bucket_of c)) x y ne c)

        away : (b ≡ bucket_of c → ⊥) → (put s.bucket (bucket_of c) (with_change (s.bucket (bucket_of c)) x c) b).entry y ≡ (s.bucket b).entry y
        away apart = ap (λ (u : Bucket). u.entry y) (put_there s.bucket (bucket_of c) (with_change (s.bucket (bucket_of c)) x c) b apart)

    rows_kept : (b y : ℕ) → y ≢ x → (put s.bucket (bucket_of c) (with_change (s.bucket (bucket_of c)) x c) b).rows y ≡ (s.bucket b).rows y
    rows_kept b y ne = ⊎_elim here away (cases_eq b (bucket_of c))
      where
        here : b ≡ bucket_of c → (put s.bucket (bucket_of c) (with_change (s.bucket (bucket_of c)) x c) b).rows y ≡ (s.bucket b).rows y
        here e = subst (λ (q : ℕ). (put s.bucket (bucket_of c) (with_change (s.bucket (bucket_of c)) x c) q).rows y ≡ (s.bucket q).rows y) (sym e)
            (ap (λ (u : Bucket). u.rows y) (put_here s.bucket (bucket_of c) (with_change (s.bucket (bucket_of c)) x c)) ∙ rows_there (s.bucket (bucket_of c)) x y ne c)

        away : (b ≡ bucket_of c → ⊥) → (put s.bucket (bucket_of c) (with_change (s.bucket (bucket_of c)) x c) b).rows y ≡ (s.bucket b).rows y
        away apart = ap (λ (u : Bucket). u.rows y) (put_there s.bucket (bucket_of c) (with_change (s.bucket (bucket_of c)) x c) b apart)

    kept_less : due (kept_at s x c) + 1 ≤ due s
    unfolding due
    kept_less =
        let same : messages_of (kept_at s x c) ≡ messages_of s = refl in
        let less : sum_to (due_at (kept_at s x c)) (sets_of s) + 1 ≤ sum_to (due_at s) (sets_of s) =
        started_less (kept_at s x c).bucket (λ b. subst (λ (p : Option Change). cost_in ((kept_at s x c).bucket b) x ≤ cost_with p (s.bucket b) b x) (sym pending) (kept_cost c s.bucket b x)) entries_kept rows_kept in
        omega (arith, less, same)

  restarted_less : (kept : Bool) (p : Option Change) → s.pending x ≡ p → due (restarted s x kept p) + 1 ≤ due s
  restarted_less true (Some c) e = kept_less c e
  restarted_less true None e = bare_less
  restarted_less false p e = bare_less

pub restart_less : (s t : State) (x : ℕ) (kept : Bool) → restart s x kept Service ≡ Ok t → due t + 1 ≤ due s
restart_less s t x kept h =
    let can = can_restart s t x kept h in
    let r = within (sets_of s) x can.set in
    subst (λ (u : State). due u + 1 ≤ due s) can.gives (restarted_less s x r.0 r.1 can.x_down kept (s.pending x) refl)
