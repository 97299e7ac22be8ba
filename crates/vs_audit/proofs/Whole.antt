-- The faults of a history, and of an account.
use Rattle.std.proofs.Common.{false, ◌≡◌, ◌≢◌, ℕ, zero, suc, ◌+◌, ◌<◌, ◌≤◌, ◌⊎◌, inl, inr, Option, Some, None, List, [], ◌∷◌, ◌++◌, arith, refl, sym, ◌∙◌, ap, subst, subst₂, ⊎_elim, length, slice_get, map, get_or, replicate, take}
use Rattle.std.proofs.lemmas.Option.{slice_get-map, slice_get_read, slice_get_within}
use Rattle.std.specs.Option.{option_map}
use Rattle.vs_audit.specs.Account.{Entry, History, Call, Account, history, call, account}
use Rattle.vs_audit.specs.declared.account.Account as code_account
use Rattle.vs_audit.specs.declared.account.CallLine as code_call
use Rattle.std.proofs.lemmas.List.{take-map, length-map}
use Rattle.vs_audit.specs.Legal.{IsAt, rows_at, HasAnswers, HistoryFault, CallFault, HasFault, IsLegalAccount, IsFirstFault}
use Rattle.vs_audit.specs.Doubles.{DoubleFault}
use Rattle.vs_audit.specs.Order.{OrderFault}
use Rattle.vs_audit.specs.Passes.{WriteFault, WritesFault, ReadFault, PlaceFault}
use Rattle.vs_audit.specs.Tally.{EntryFault, Tallied}
use Rattle.vs_audit.specs.Turn.{Adds, turn}
use Rattle.vs_audit.specs.declared.account.AuditHistory as code
use Rattle.vs_audit.specs.declared.fault.Illegal.{Illegal}
use Rattle.vs_audit.specs.declared.fault.Illegal.TheVariants.{DoubleCall, WrongPlace, WrongAnswers, NoEntry, WrongOrder}
use Rattle.vs_audit.specs.declared.least.Fault.{Fault}
use Rattle.vs_audit.specs.declared.tally.Found.TheVariants.{Nothing}
use Rattle.vs_audit.specs.declared.tally.Tally.{Tally}
use Rattle.vs_audit.proofs.Added.{added_as, added_then}
use Rattle.vs_audit.proofs.AtPlaces.{same_item, taken_more}

-- the passes over a history find its faults
pub made_history : (h : History) (a b c : Option Fault) → Adds (DoubleFault h) a b → Adds (PlaceFault h) b c → Adds (HistoryFault h) a c
made_history h a b c first second =
    added_as (λ l k. DoubleFault h l k ⊎ PlaceFault h l k) (HistoryFault h) a c to back
    (added_then (DoubleFault h) (PlaceFault h) a b c first second)
  where
    write_to : (l : ℕ) (k : Illegal) (n : ℕ) → WriteFault h n l k → HistoryFault h l k
    write_to l DoubleCall n w = absurd w
    write_to l WrongPlace n w = inl (n, w.0, w.1, w.2, w.3)
    write_to l WrongAnswers n w = inl (n, w.0, w.1, w.2, w.3)
    write_to l NoEntry n w = absurd w
    write_to l WrongOrder n w = absurd w

    read_to : (l : ℕ) (k : Illegal) (n : ℕ) → ReadFault h n l k → HistoryFault h l k
    read_to l DoubleCall n w = absurd w
    read_to l WrongPlace n w = inr (n, w.0, w.1, w.2, w.3)
    read_to l WrongAnswers n w = inr (n, w.0, w.1, w.2, w.3, w.4)
    read_to l NoEntry n w = absurd w
    read_to l WrongOrder n w = absurd w

    to : (l : ℕ) (k : Illegal) → DoubleFault h l k ⊎ PlaceFault h l k → HistoryFault h l k
    to l k w = ⊎_elim
        (λ (d : DoubleFault h l k). subst (HistoryFault h l) (sym d.0) (d.1, d.2, d.3, d.4, d.5))
        (λ (p : PlaceFault h l k). ⊎_elim
        (λ (t : WritesFault h 0 (length h.writes) l k). write_to l k t.0 t.3)
        (λ (t : (n : ℕ) × (n < length h.reads) × ReadFault h n l k). read_to l k t.0 t.2)
        p)
        w

    back : (l : ℕ) (k : Illegal) → HistoryFault h l k → DoubleFault h l k ⊎ PlaceFault h l k
    back l DoubleCall w = inl (refl, w.0, w.1, w.2, w.3, w.4)
    back l WrongPlace w = inr (⊎_elim
        (λ (t : (n : ℕ) × (x : Entry) × IsAt h.writes n x × (l ≡ x.line) × (x.place ≢ n + 1)). inl (t.0, omega arith, slice_get_within h.writes t.0 t.1 t.2, (t.1, t.2, t.3, t.4)))
        (λ (t : (n : ℕ) × (x : Entry) × IsAt h.reads n x × (l ≡ x.line) × (length h.writes < x.place)). inr (t.0, slice_get_within h.reads t.0 t.1 t.2, (t.1, t.2, t.3, t.4)))
        w)
    back l WrongAnswers w = inr (⊎_elim
        (λ (t : (n : ℕ) × (x : Entry) × IsAt h.writes n x × (l ≡ x.line) × (¬ HasAnswers (rows_at h n) x)). inl (t.0, omega arith, slice_get_within h.writes t.0 t.1 t.2, (t.1, t.2, t.3, t.4)))
        (λ (t : (n : ℕ) × (x : Entry) × IsAt h.reads n x × (l ≡ x.line) × (x.place ≤ length h.writes) × (¬ HasAnswers (rows_at h x.place) x)). inr (t.0, slice_get_within h.reads t.0 t.1 t.2, (t.1, t.2, t.3, t.4, t.5)))
        w)
    back l NoEntry w = absurd w
    back l WrongOrder w = absurd w

-- ---- all histories

-- the faults that the history of this number shows
abbrev pub ShownAt : List History → List Call → ℕ → ℕ → Illegal → Type 0
ShownAt hs calls n l k = (h : History) × (slice_get hs n ≡ Some h) × (HistoryFault h l k ⊎ OrderFault calls h l k)

pub shown_at : (hs : List History) (calls : List Call) (n : ℕ) (h : History) (a b : Option Fault) → slice_get hs n ≡ Some h
    → Adds (λ l k. HistoryFault h l k ⊎ OrderFault calls h l k) a b → Adds (ShownAt hs calls n) a b
shown_at hs calls n h a b at added =
    added_as (λ l k. HistoryFault h l k ⊎ OrderFault calls h l k) (ShownAt hs calls n) a b
    (λ l k w. (h, at, w))
    (λ l k w. subst (λ (x : History). HistoryFault x l k ⊎ OrderFault calls x l k) (same_item (slice_get hs n) w.0 h w.1 at) w.2)
    added

pub history_at : (items : List code.AuditHistory) (i : ℕ) (x : code.AuditHistory) → i < length items → x ≡ get_or items i x → slice_get (map history items) i ≡ Some (history x)
history_at items i x inside is = slice_get-map history items i ∙ ap (option_map history) (slice_get_read items (length items) i x refl inside is)

-- what the histories and the lines of calls show is all that is wrong
pub made_account : (a : Account) (m : ℕ) (x y z : Option Fault) → length a.histories ≤ m
    → Adds (λ l k. (n : ℕ) × (n < m) × ShownAt a.histories a.calls n l k) x y → Adds (λ l k. (n : ℕ) × EntryFault a n l k) y z → Adds (HasFault a) x z
made_account a m x y z all first second =
    added_as (λ l k. Shown l k ⊎ Lacks l k) (HasFault a) x z to back (added_then Shown Lacks x y z first second)
  where
    Shown : ℕ → Illegal → Type 0
    Shown l k = (n : ℕ) × (n < m) × ShownAt a.histories a.calls n l k

    Lacks : ℕ → Illegal → Type 0
    Lacks l k = (n : ℕ) × EntryFault a n l k

    order_to : (l : ℕ) (k : Illegal) (n : ℕ) (h : History) → slice_get a.histories n ≡ Some h → OrderFault a.calls h l k → HasFault a l k
    order_to l k n h at t = inr (t.1, t.2, t.3, t.4, subst (CallFault a t.2) (sym t.0) (n, h, at, t.5))

    lacks_to : (l : ℕ) (k : Illegal) → Lacks l k → HasFault a l k
    lacks_to l k (n, t) = inr (n, t.1, t.2, t.3, subst (CallFault a t.1) (sym t.0) t.4)

    to : (l : ℕ) (k : Illegal) → Shown l k ⊎ Lacks l k → HasFault a l k
    to l k w = ⊎_elim
        (λ (s : Shown l k). ⊎_elim
        (λ (t : HistoryFault s.2.0 l k). inl (s.0, s.2.0, s.2.1, t))
        (λ (t : OrderFault a.calls s.2.0 l k). order_to l k s.0 s.2.0 s.2.1 t)
        s.2.2)
        (λ (t : Lacks l k). lacks_to l k t)
        w

    call_back : (l : ℕ) (k : Illegal) (n : ℕ) (c : Call) → slice_get a.calls n ≡ Some c → l ≡ c.line → CallFault a c k → Shown l k ⊎ Lacks l k
    call_back l DoubleCall n c at line w = absurd w
    call_back l WrongPlace n c at line w = absurd w
    call_back l WrongAnswers n c at line w = absurd w
    call_back l NoEntry n c at line w = inr (n, (refl, c, at, line, w))
    call_back l WrongOrder n c at line w =
        let inside = slice_get_within a.histories w.0 w.1 w.2 in
        inl (w.0, omega arith, (w.1, w.2, inr (refl, n, c, at, line, w.3)))

    back : (l : ℕ) (k : Illegal) → HasFault a l k → Shown l k ⊎ Lacks l k
    back l k w = ⊎_elim
        (λ (t : (n : ℕ) × (h : History) × (slice_get a.histories n ≡ Some h) × HistoryFault h l k).
        let inside = slice_get_within a.histories t.0 t.1 t.2 in
        inl (t.0, omega arith, (t.1, t.2, inl t.3)))
        (λ (t : (n : ℕ) × (c : Call) × (slice_get a.calls n ≡ Some c) × (l ≡ c.line) × CallFault a c k). call_back l k t.0 t.1 t.2 t.3 t.4)
        w

-- ---- the answer

pub legal_from : (a : Account) → Adds (HasFault a) None None → IsLegalAccount a
legal_from a added = λ line kind wrong. let r = added.reached line kind wrong in let e : None ≡ Some r.0 = r.1 in cc

pub illegal_from : (a : Account) (f : Fault) (z : Option Fault) → z ≡ Some f → Adds (HasFault a) None z → IsFirstFault a f.line f.kind
illegal_from a f z is added = record {
  wrong = ⊎_elim (λ (e : None ≡ Some f). cc) (λ (w : HasFault a f.line f.kind). w) (added.from f is);
  first = λ l k wrong.
      let r = added.reached l k wrong in
      let same : r.0 ≡ f = same_item z r.0 f r.1 is in
      subst (λ (g : Fault). turn g.line g.kind ≤ turn l k) same r.2;
}

abbrev pub nothing : Tally
nothing = record { found = Nothing; writes = 0; read = false }

length_replicate : (n : ℕ) (t : Tally) → length (replicate n t) ≡ n
length_replicate zero t = refl
length_replicate (suc n) t = ap suc (length_replicate n t)

get_replicate : (n k : ℕ) (t : Tally) → k < n → slice_get (replicate n t) k ≡ Some t
get_replicate zero k t inside = absurd (omega arith)
get_replicate (suc n) zero t inside = refl
get_replicate (suc n) (suc k) t inside = get_replicate n k t (omega arith)

-- before all histories
pub tallied_none : (calls : List Call) (n : ℕ) → n ≡ length calls → Tallied calls [] (replicate n nothing)
tallied_none calls n is = record {
  len = length_replicate n nothing ∙ is;
  each = λ k c at.
      let inside = slice_get_within calls k c at in
      (nothing, get_replicate n k nothing (omega arith), record { found = refl; writes = refl; read = refl });
}

pub histories_more : (items : List code.AuditHistory) (i : ℕ) (x : code.AuditHistory) → i < length items → x ≡ get_or items i x → map history (take (i + 1) items) ≡ map history (take i items) ++ history x ∷ []
histories_more items i x inside is =
    sym (take-map history (i + 1) items) ∙ taken_more (map history items) i (history x) (history_at items i x inside is)
    ∙ ap (λ hs. hs ++ history x ∷ []) (take-map history i items)

-- all faults of an account, from those of its histories and of its lines of calls
pub account_faults : (a : code_account.Account) (hs : List code.AuditHistory) (cs : List code_call.CallLine) (m : ℕ) (y z : Option Fault)
    → hs ≡ a.histories.items → cs ≡ a.calls.items → length hs ≤ m
    → Adds (λ l k. (n : ℕ) × (n < m) × ShownAt (map history hs) (map call cs) n l k) None y → Adds (λ l k. (n : ℕ) × EntryFault (account a) n l k) y z
    → Adds (HasFault (account a)) None z
account_faults a hs cs m y z hs_is cs_is all first second =
    made_account (account a) m None y z
    (simp length-map (subst (λ (xs : List code.AuditHistory). length xs ≤ m) hs_is all))
    (subst₂ (λ (xs : List code.AuditHistory) (ys : List code_call.CallLine). Adds (λ l k. (n : ℕ) × (n < m) × ShownAt (map history xs) (map call ys) n l k) None y) hs_is cs_is first)
    second
