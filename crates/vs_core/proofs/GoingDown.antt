-- The parts of a state are written where a set goes down.
use Rattle.std.proofs.Common.{◌≡◌, ℕ, suc, ◌+◌, ◌<◌, ◌≤◌, ◌==◌, Bool, true, false, List, [], length, Some, None, get_or, refl, sym, ap, subst, ◌∙◌, arith}
use Rattle.std.specs.Prelude.{◌≢◌, ◌&&◌, not, slice_set, nat_le, if◌then◌else◌}
use Rattle.std.specs.Option.{option_map}
use Rattle.std.proofs.lemmas.Bool.{eqb-true, eqb-false}
use Rattle.std.proofs.lemmas.Bool.Decides.{nat_tests}
use Rattle.vs_link.specs.Connection.{unused}
use Rattle.vs_link.specs.Links.{Links, connection_of, is_set}
use Rattle.vs_record.specs.Change.{change}
use Rattle.vs_record.specs.declared.change.Change as code
use Rattle.vs_record.specs.RowTable.{row_map_at}
use Rattle.vs_refs.specs.Counts.{no_counts}
use Rattle.vs_refs.specs.Refs.{counts_of}
use Rattle.vs_machine.specs.State as machine
use Rattle.vs_machine.specs.Opening.{client_at, operator_at}
use Rattle.vs_machine.specs.Tables.{put}
use Rattle.vs_machine.specs.Kinds.Stops.{closed_at, lost_at, stopped_move, without_work}
use Rattle.vs_state.specs.declared.actors.OperatorTables.{OperatorTables}
use Rattle.vs_state.specs.declared.state.State.{State}
use Rattle.vs_state.specs.declared.tables.SetTables.{SetTables}
use Rattle.vs_state.specs.Agrees.{counts_at, hauls_in}
use Rattle.vs_state.specs.Plain.{plain, ask_in, bucket, client, entry_in, kept_in, link, operator, transfer_in}
use Rattle.vs_state.specs.Sized.{IsSized}
use Rattle.vs_state.specs.Tables.{numbered}
use Rattle.vs_core.specs.Cells.{Cell}
use Rattle.vs_core.specs.GoingDown.{IsCleared, ForgetsAt, moves_from, without_calls, without_lines, without_moves, without_tables}
use Rattle.vs_core.specs.Keeps.{IsSound}
use Rattle.vs_core.proofs.Frame.{put_same}
use Rattle.vs_core.proofs.Made.{AreMade, there}
use Rattle.vs_core.proofs.Numbered.{numbered_set}
use Rattle.vs_core.proofs.Operators.{IsOperator, operator_is, operator_written, with_operator}
use Rattle.vs_core.proofs.Agrees.{agrees_same}
use Rattle.vs_core.proofs.Sets.{IsSlot, written, at_set, bucket_same, same_at, sized_written}

-- ---- the tables of the set

module _ (s : State) (x k : ℕ) (t u : SetTables) (o : IsSlot s x k t) (d : IsCleared t u) where
  bucket_cleared : (q : ℕ) → bucket (written s k u) q ≡ without_work (suc k) (bucket s q)
  bucket_cleared q = λ i. record (bucket s q) {
    entry = same_at s k t u o.within o.is (λ t. entry_in t q) None (ap (λ (c : Cell). c.entry) (d.cells q)) i;
    rows = same_at s k t u o.within o.is (λ t. row_map_at t.rows q) [] (ap (λ (c : Cell). c.rows) (d.cells q)) i;
    kept = same_at s k t u o.within o.is (λ t. kept_in t q) 0 (ap (λ (c : Cell). c.kept) (d.cells q)) i;
    transfer = (at_set s k t u o.within o.is (λ t. transfer_in t q) None ∙ ap (put (bucket s q).transfer (suc k)) (ap (λ (c : Cell). c.transfer) (d.cells q))) i;
    ask = (at_set s k t u o.within o.is (λ t. ask_in t q) None ∙ ap (put (bucket s q).ask (suc k)) (ap (λ (c : Cell). c.ask) (d.cells q))) i;
  }

  pub plain_cleared : plain (written s k u) ≡ without_tables (plain s) x
  plain_cleared = subst (λ x. plain (written s k u) ≡ without_tables (plain s) x) o.at (λ i. record (plain s) {
    up = (at_set s k t u o.within o.is (λ t. t.is_up) true ∙ ap (put (plain s).up (suc k)) d.up) i;
    pending = same_at s k t u o.within o.is (λ t. option_map change t.pending) None (ap (λ p. option_map change p) d.pending) i;
    last_fault = same_at s k t u o.within o.is (λ t. t.last_fault) 0 d.last_fault i;
    bucket = λ q. bucket_cleared q i;
  })

  pub forgets_cleared : ForgetsAt s (written s k u) x
  forgets_cleared = subst (ForgetsAt s (written s k u)) o.at (record {
    counts = λ y q. ap (λ (f : ℕ → _). f y) (at_set s k t u o.within o.is (λ t. counts_of t.refs.items q) no_counts ∙ ap (put (λ y. counts_at s y q) (suc k)) (d.counts q));
    hauls = λ y. ap (λ (f : ℕ → _). f y) (at_set s k t u o.within o.is (λ t. t.hauls) 0 ∙ ap (put (hauls_in s) (suc k)) d.hauls);
  })

-- ---- all clients

pub plain_lost : (s t : State) (x : ℕ) → t ≡ record s { clients = t.clients } → length t.clients.items ≡ length s.clients.items
    → ((q : ℕ) → numbered client (client_at []) t.clients.items q ≡ lost_at x (numbered client (client_at []) s.clients.items q)) → plain t ≡ without_calls (plain s) x
plain_lost s t x rest count each = ap plain rest ∙ (λ i. record (plain s) { clients = count i; client = λ q. each q i })

pub sized_lost : (s t : State) → t ≡ record s { clients = t.clients } → length t.clients.items ≡ length s.clients.items → IsSized s → IsSized t
sized_lost s t rest count z = subst IsSized (sym rest) (record { sets = z.sets; links = z.links; buckets = z.buckets; histories = z.histories; clients = subst (λ n. n ≤ 64) (sym count) z.clients; operators = z.operators })

-- ---- all operators

-- only the room changed
pub plain_roomed : (s : State) (k : ℕ) (t u : OperatorTables) → k < length s.operators.items → t ≡ get_or s.operators.items k t → operator u ≡ operator t → plain (with_operator s k u) ≡ plain s
plain_roomed s k t u within is same =
    let o : IsOperator s (suc k) k t = record { at = refl; within = within; is = is } in
    operator_written s (suc k) k t u o
    ∙ ap (machine.put_operator (plain s) (suc k)) (same ∙ sym (operator_is s (suc k) k t u o))
    ∙ (λ i. record (plain s) { operator = put_same (plain s).operator (suc k) i })

-- an operator can be answered
abbrev pub HasRoom : OperatorTables → Type 0
HasRoom t = 1 ≤ t.outcomes.room

-- behind the number n the items are as they were
abbrev pub AreAhead : {A : Type 0} → List A → List A → ℕ → Type 0
AreAhead old new n = (q : ℕ) → n < q → numbered Some None new q ≡ numbered Some None old q

pub one_ahead : {A : Type 0} (old new : List A) (n : ℕ) (u : A) → n < length new → AreAhead old new n → AreAhead old (slice_set new n u) (n + 1)
one_ahead old new n u within before q above = ap (λ g. g q) (numbered_set Some None new n u within) ∙ by (q == suc n) refl
  where
    by : (e : Bool) → (q == suc n) ≡ e → (if e then Some u else numbered Some None new q) ≡ numbered Some None old q
    by true e = absurd (grind (arith, nat_tests, e, above))
    by false e = before q (omega (arith, above))

-- an operator that moves nothing from set x is as it was
abbrev pub AreIdleKept : ℕ → List OperatorTables → List OperatorTables → Type 0
AreIdleKept x old new = (q : ℕ) → moves_from x (numbered operator (operator_at []) old q) ≡ false → numbered Some None new q ≡ numbered Some None old q

pub idle_kept : (x : ℕ) (old new : List OperatorTables) (n : ℕ) (t u : OperatorTables) → n < length new → t ≡ get_or new n t
    → (moves_from x (operator t) ≡ false → u ≡ t) → AreMade operator (operator_at []) (stopped_move x) old new n → AreIdleKept x old new → AreIdleKept x old (slice_set new n u)
idle_kept x old new n t u within is idle made kept q still = ap (λ g. g q) (numbered_set Some None new n u within) ∙ by (q == suc n) refl
  where
    by : (e : Bool) → (q == suc n) ≡ e → (if e then Some u else numbered Some None new q) ≡ numbered Some None old q
    by true e =
        let at : q ≡ suc n = eqb-true q (suc n) e in
        let later : nat_le (suc n) n ≡ false = grind (arith, nat_tests) in
        let was : operator t ≡ numbered operator (operator_at []) old (suc n) =
        sym (there operator (operator_at []) new n t within is) ∙ made (suc n)
        ∙ ap (λ b. if b then stopped_move x (numbered operator (operator_at []) old (suc n)) else numbered operator (operator_at []) old (suc n)) later in
        let here : moves_from x (operator t) ≡ false = ap (moves_from x) (was ∙ ap (numbered operator (operator_at []) old) (sym at)) ∙ still in
        ap Some (idle here) ∙ sym (there Some None new n t within is) ∙ subst (λ q. numbered Some None new q ≡ numbered Some None old q) at (kept q still) ∙ ap (numbered Some None old) (sym at)
    by false e = kept q still

pub plain_stopped : (s t : State) (x : ℕ) → t ≡ record s { operators = t.operators } → length t.operators.items ≡ length s.operators.items
    → ((q : ℕ) → numbered operator (operator_at []) t.operators.items q ≡ stopped_move x (numbered operator (operator_at []) s.operators.items q)) → plain t ≡ without_moves (plain s) x
plain_stopped s t x rest count each = ap plain rest ∙ (λ i. record (plain s) { operators = count i; operator = λ q. each q i })

pub sized_stopped : (s t : State) → t ≡ record s { operators = t.operators } → length t.operators.items ≡ length s.operators.items → IsSized s → IsSized t
sized_stopped s t rest count z = subst IsSized (sym rest) (record { sets = z.sets; links = z.links; buckets = z.buckets; histories = z.histories; clients = z.clients; operators = subst (λ n. n ≤ 16) (sym count) z.operators })

-- ---- all connections

pub plain_closed : (s : State) (links : Links) (x n : ℕ) → machine.sets_of (plain s) ≡ n
    → ((p q : ℕ) → p ≢ q → connection_of links p q ≡ (if is_set n p && is_set n q then closed_at x p q (connection_of s.links p q) else unused))
    → plain (record s { links = links }) ≡ without_lines (plain s) x
plain_closed s links x n count each = λ i. record (plain s) { link = λ p q. at p q i }
  where
    apart : (p q : ℕ) → (p == q) ≡ false → p ≢ q
    apart p q ne = eqb-false p q ne

    by : (p q : ℕ) (e : Bool) → (p == q) ≡ e → (b : Bool) → (is_set n p && is_set n q) ≡ b
        → (if e then unused else connection_of links p q) ≡ (if b && not e then closed_at x p q (if e then unused else connection_of s.links p q) else unused)
    by p q true e true is = refl
    by p q true e false is = refl
    by p q false e true is = each p q (apart p q e) ∙ ap (λ b. if b then closed_at x p q (connection_of s.links p q) else unused) is
    by p q false e false is = each p q (apart p q e) ∙ ap (λ b. if b then closed_at x p q (connection_of s.links p q) else unused) is

    at : (p q : ℕ) → link (record s { links = links }) p q ≡ (if machine.is_link (plain s) p q then closed_at x p q ((plain s).link p q) else unused)
    at p q = by p q (p == q) refl (is_set n p && is_set n q) refl
        ∙ ap (λ (m : ℕ). if is_set m p && is_set m q && not (p == q) then closed_at x p q ((plain s).link p q) else unused) (sym count)

-- ---- the mark of a fault

-- the tables with the change and the number of the fault
abbrev pub mark : SetTables → ℕ → code.Change → SetTables
mark t n c = record t { pending = Some c; last_fault = n }

module _ (s : State) (x k : ℕ) (t : SetTables) (o : IsSlot s x k t) (n : ℕ) (c : code.Change) where
  -- it changes no other table
  same_marked : {B : Type 0} (f : SetTables → B) (d : B) → f (mark t n c) ≡ f t → numbered f d (written s k (mark t n c)).sets.items ≡ numbered f d s.sets.items
  same_marked f d same = same_at s k t (mark t n c) o.within o.is f d same

  pub plain_marked : plain (written s k (mark t n c)) ≡ record (plain s) { pending = put (plain s).pending x (Some (change c)); last_fault = put (plain s).last_fault x n }
  plain_marked = subst (λ x. plain (written s k (mark t n c)) ≡ record (plain s) { pending = put (plain s).pending x (Some (change c)); last_fault = put (plain s).last_fault x n }) o.at (λ i. record (plain s) {
    up = same_marked (λ t. t.is_up) true refl i;
    pending = at_set s k t (mark t n c) o.within o.is (λ t. option_map change t.pending) None i;
    last_fault = at_set s k t (mark t n c) o.within o.is (λ t. t.last_fault) 0 i;
    bucket = λ q. bucket_same s k t (mark t n c) o.within o.is q refl i;
  })

  pub sound_marked : IsSound s → IsSound (written s k (mark t n c))
  sound_marked i = record {
    sized = sized_written s k t (mark t n c) o.within o.is i.sized;
    agrees = agrees_same s (written s k (mark t n c)) (record {
      clients = refl;
      holds = λ m x q c. refl;
      up = same_marked (λ t. t.is_up) true refl;
      count = refl;
      entry = λ q. same_marked (λ t. entry_in t q) None refl;
      transfer = λ q. same_marked (λ t. transfer_in t q) None refl;
    }) (λ x q. ap (λ (f : ℕ → _). f x) (same_marked (λ t. counts_of t.refs.items q) no_counts refl))
        (λ x. ap (λ (f : ℕ → _). f x) (same_marked (λ t. t.hauls) 0 refl)) i.agrees;
  }
