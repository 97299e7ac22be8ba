-- What the test for calls that were seen before finds.
use Rattle.std.proofs.Common.{◌≡◌, ℕ, zero, suc, ◌-◌, ◌^◌, ◌⊎◌, inl, inr, ⊎_elim, filter, min, count_by, add-zero, ◌+◌, ◌<◌, ◌==◌, ◌||◌, Bool, true, false, not, ◌≤◌, arith, Option, List, [], ◌∷◌, ◌++◌, refl, sym, ◌∙◌, ap, subst, length, take, get_or, slice_get, append_assoc}
use Rattle.std.proofs.lemmas.List.{take-map, append-nil, take-append-le}
use Rattle.std.proofs.lemmas.List.Folds.{list_any-append}
use Rattle.std.proofs.lemmas.Option.{slice_get_within}
use Rattle.std.specs.List.{list_any, flat_map}
use Rattle.vs_audit.specs.Account.{Entry, History, Call, entry, entries}
use Rattle.vs_audit.specs.Legal.{IsAt, IsDouble, number_of, is_same, entries_of, writes_call, reads_call}
use Rattle.vs_audit.specs.Doubles.{was_seen, SeenAt, SeenFault, DoubleFault, Starts, standing, with_entries}
use Rattle.vs_audit.specs.Tally.{Fits, with_entry, Tallied, FoundIs}
use Rattle.vs_audit.specs.declared.tally.Tally.{Tally}
use Rattle.std.proofs.lemmas.List.Concat.{flat_map-append}
use Rattle.vs_audit.proofs.Counted.{count_last}
use Rattle.vs_audit.specs.Turn.{Adds}
use Rattle.vs_audit.specs.declared.account.AuditEntry as code
use Rattle.vs_audit.specs.declared.fault.Illegal.{Illegal}
use Rattle.vs_audit.specs.declared.fault.Illegal.TheVariants.{DoubleCall}
use Rattle.vs_audit.specs.declared.least.Fault.{Fault}
use Rattle.vs_audit.proofs.Added.{added_as, added_then}
use Rattle.vs_audit.proofs.AtPlaces.{Noted, same_item, entry_at, taken_more}

pub entries_more : (items : List code.AuditEntry) (i : ℕ) (x : code.AuditEntry) → i < length items → x ≡ get_or items i x → entries (take (i + 1) items) ≡ entries (take i items) ++ entry x ∷ []
entries_more items i x inside is =
    sym (take-map entry (i + 1) items) ∙ taken_more (entries items) i (entry x) (entry_at items i x inside is)
    ∙ ap (λ es. es ++ entry x ∷ []) (take-map entry i items)

pub made_seen : (seen : ℕ → Bool) (es : List Entry) (n : ℕ) (e : Entry) (is_old : Bool) (a b : Option Fault)
    → IsAt es n e → is_old ≡ was_seen seen (take n es) (number_of e.id)
    → Adds (Noted is_old e.line DoubleCall) a b → Adds (SeenAt seen es n) a b
made_seen seen es n e is_old a b at old added =
    added_as (Noted is_old e.line DoubleCall) (SeenAt seen es n) a b to back added
  where
    to : (l : ℕ) (k : Illegal) → Noted is_old e.line DoubleCall l k → SeenAt seen es n l k
    to l k t = (t.2, e, at, t.1, sym old ∙ t.0)

    back : (l : ℕ) (k : Illegal) → SeenAt seen es n l k → Noted is_old e.line DoubleCall l k
    back l k (kind, v, at_v, line, was) =
        let same : v ≡ e = same_item (slice_get es n) v e at_v at in
        (old ∙ ap (λ (x : Entry). was_seen seen (take n es) (number_of x.id)) (sym same) ∙ was, line ∙ ap (λ (x : Entry). x.line) same, kind)

-- one entry more was seen
pub was_seen_more : (seen : ℕ → Bool) (items : List code.AuditEntry) (i : ℕ) (x : code.AuditEntry) (q : ℕ) → i < length items → x ≡ get_or items i x → was_seen seen (entries (take (i + 1) items)) q ≡ (was_seen seen (entries (take i items)) q || (number_of x.id == q))
was_seen_more seen items i x q inside is =
    ap (λ es. was_seen seen es q) (entries_more items i x inside is)
    ∙ ap (λ b. seen q || b) (list_any-append (λ o. number_of o.id == q) (entries (take i items)) (entry x ∷ []))
    ∙ regrouped (seen q) (list_any (λ o. number_of o.id == q) (entries (take i items))) (number_of x.id == q)
  where
    regrouped : (a b c : Bool) → (a || (b || (c || false))) ≡ ((a || b) || c)
    regrouped a b c = grind arith

-- all that was seen within a list
pub seen_all : (seen : ℕ → Bool) (es : List Entry) (m : ℕ) (a b : Option Fault) → length es ≤ m → Adds (λ l k. (n : ℕ) × (n < m) × SeenAt seen es n l k) a b → Adds (SeenFault seen es) a b
seen_all seen es m a b all added =
    added_as (λ l k. (n : ℕ) × (n < m) × SeenAt seen es n l k) (SeenFault seen es) a b
    (λ l k w. (w.0, w.2))
    (λ l k w. let h : w.0 < length es = slice_get_within es w.0 w.1.1 w.1.2 in (w.0, omega arith, w.1)) added

-- the next entry fits, and is added
pub counted_more : (is_read : Bool) (seen : ℕ → Bool) (es : List Entry) (e : Entry) (is_new : Bool) (h : History)
    → not is_new ≡ was_seen seen es (number_of e.id) → Starts is_read seen h
    → Fits (standing is_read is_new) e (with_entries is_read es h) × (with_entry (standing is_read is_new) e (with_entries is_read es h) ≡ with_entries is_read (es ++ e ∷ []) h)
counted_more true seen es e is_new h old starts = (tt, ap (λ rs. record h { reads = rs }) (append_assoc h.reads es (e ∷ [])))
counted_more false seen es e true h old starts =
    ((starts.0, stands false old), ap (λ ws. record h { writes = ws }) (append_assoc h.writes es (e ∷ [])))
  where
    stands : (b : Bool) → b ≡ was_seen seen es (number_of e.id) → list_any (λ (o : Entry). is_same o.id e.id) (h.writes ++ es) ≡ b
    stands b is = list_any-append (λ (o : Entry). is_same o.id e.id) h.writes es ∙ ap (λ t. t || list_any (λ (o : Entry). is_same o.id e.id) es) (sym (starts.1 (number_of e.id))) ∙ sym is
counted_more false seen es e false h old starts =
    ((starts.0, stands true old), ap (λ ws. record h { writes = ws }) (append_assoc h.writes es (e ∷ [])))
  where
    stands : (b : Bool) → b ≡ was_seen seen es (number_of e.id) → list_any (λ (o : Entry). is_same o.id e.id) (h.writes ++ es) ≡ b
    stands b is = list_any-append (λ (o : Entry). is_same o.id e.id) h.writes es ∙ ap (λ t. t || list_any (λ (o : Entry). is_same o.id e.id) es) (sym (starts.1 (number_of e.id))) ∙ sym is

pub with_nothing : (is_read : Bool) (h : History) → with_entries is_read [] h ≡ h
with_nothing true h = ap (λ rs. record h { reads = rs }) (append-nil h.reads)
with_nothing false h = ap (λ ws. record h { writes = ws }) (append-nil h.writes)

-- ---- a history

-- a history without entries
abbrev pub bare : History → History
bare h = record h { writes = []; reads = [] }

pub tallied_bare : (calls : List Call) (done : List History) (h : History) (tallies : List Tally) → Tallied calls done tallies → Tallied calls (done ++ bare h ∷ []) tallies
tallied_bare calls done h tallies old = record {
  len = old.len;
  each = λ n c at.
      let one = old.each n c at in
      let t = one.2 in (
        one.0,
        one.1,
        record {
          found = subst (λ es. FoundIs c.outcome es one.0.found) (sym (ap (filter (λ (o : Entry). is_same o.id c.id)) (flat_map-append entries_of done (bare h ∷ []) ∙ append-nil (flat_map entries_of done)))) t.found;
          writes = t.writes ∙ ap (λ n. min n (2 ^ 64 - 1)) (sym (count_last (writes_call c.id) done (bare h) ∙ add-zero (count_by (writes_call c.id) done)));
          read = t.read ∙ sym (list_any-append (reads_call c.id) done (bare h ∷ []) ∙ or_false (list_any (reads_call c.id) done));
        },
      );
}
  where
    or_false : (b : Bool) → (b || false) ≡ b
    or_false true = refl
    or_false false = refl

-- ---- two lists in a row

pub get_left : {X : Type 0} (xs ys : List X) (n : ℕ) → n < length xs → slice_get (xs ++ ys) n ≡ slice_get xs n
get_left [] ys n h = absurd (omega arith)
get_left (x ∷ xs) ys zero h = refl
get_left (x ∷ xs) ys (suc n) h = get_left xs ys n (omega arith)

pub get_right : {X : Type 0} (xs ys : List X) (n : ℕ) → slice_get (xs ++ ys) (length xs + n) ≡ slice_get ys n
get_right [] ys n = ap (slice_get ys) (let e : 0 + n ≡ n = omega arith in e)
get_right (x ∷ xs) ys n = ap (slice_get (x ∷ (xs ++ ys))) (let e : suc (length xs) + n ≡ suc (length xs + n) = omega arith in e) ∙ get_right xs ys n

take_right : {X : Type 0} (xs ys : List X) (n : ℕ) → take (length xs + n) (xs ++ ys) ≡ xs ++ take n ys
take_right [] ys n = ap (λ m. take m ys) (let e : 0 + n ≡ n = omega arith in e)
take_right (x ∷ xs) ys n = ap (λ m. take m (x ∷ (xs ++ ys))) (let e : suc (length xs) + n ≡ suc (length xs + n) = omega arith in e) ∙ ap (λ l. x ∷ l) (take_right xs ys n)

seen_left : (h : History) (none : ℕ → Bool) (n : ℕ) (e : Entry) → ((q : ℕ) → none q ≡ false) → n ≤ length h.writes
    → list_any (λ (o : Entry). is_same o.id e.id) (take n (entries_of h)) ≡ was_seen none (take n h.writes) (number_of e.id)
seen_left h none n e empty inside =
    ap (list_any (λ (o : Entry). is_same o.id e.id)) (take-append-le n h.writes h.reads inside)
    ∙ ap (λ b. b || list_any (λ (o : Entry). is_same o.id e.id) (take n h.writes)) (sym (empty (number_of e.id)))

seen_right : (h : History) (none seen : ℕ → Bool) (n : ℕ) (e : Entry) → ((q : ℕ) → none q ≡ false) → ((q : ℕ) → seen q ≡ was_seen none h.writes q)
    → list_any (λ (o : Entry). is_same o.id e.id) (take (length h.writes + n) (entries_of h)) ≡ was_seen seen (take n h.reads) (number_of e.id)
seen_right h none seen n e empty after =
    let p : Entry → Bool = λ o. is_same o.id e.id in
    ap (list_any p) (take_right h.writes h.reads n) ∙ list_any-append p h.writes (take n h.reads)
    ∙ ap (λ b. b || list_any p (take n h.reads)) (sym (after (number_of e.id) ∙ ap (λ b. b || list_any p h.writes) (empty (number_of e.id))))

side : (m n : ℕ) → (m < n) ⊎ ((d : ℕ) × (m ≡ n + d))
side m n = ⊎_elim (λ (h : m < n). inl h) (λ (h : n ≤ m). inr (m - n, omega arith)) (either m n)
  where
    either : (m n : ℕ) → (m < n) ⊎ (n ≤ m)
    either m n = grind arith

-- the faults of the writes, and then of the reads, are those of the history
pub made_doubles : (h : History) (none seen : ℕ → Bool) (a b c : Option Fault)
    → ((q : ℕ) → none q ≡ false) → ((q : ℕ) → seen q ≡ was_seen none h.writes q)
    → Adds (SeenFault none h.writes) a b → Adds (SeenFault seen h.reads) b c → Adds (DoubleFault h) a c
made_doubles h none seen a b c empty after first second =
    added_as (λ l k. SeenFault none h.writes l k ⊎ SeenFault seen h.reads l k) (DoubleFault h) a c to back
    (added_then (SeenFault none h.writes) (SeenFault seen h.reads) a b c first second)
  where
    to : (l : ℕ) (k : Illegal) → SeenFault none h.writes l k ⊎ SeenFault seen h.reads l k → DoubleFault h l k
    to l k w = ⊎_elim
        (λ (t : SeenFault none h.writes l k).
        let inside = slice_get_within h.writes t.0 t.1.1 t.1.2 in
        (t.1.0, t.0, t.1.1, get_left h.writes h.reads t.0 inside ∙ t.1.2, t.1.3, seen_left h none t.0 t.1.1 empty (omega arith) ∙ t.1.4))
        (λ (t : SeenFault seen h.reads l k).
        (t.1.0, length h.writes + t.0, t.1.1, get_right h.writes h.reads t.0 ∙ t.1.2, t.1.3, seen_right h none seen t.0 t.1.1 empty after ∙ t.1.4))
        w

    back : (l : ℕ) (k : Illegal) → DoubleFault h l k → SeenFault none h.writes l k ⊎ SeenFault seen h.reads l k
    back l k w = ⊎_elim
        (λ (inside : w.1 < length h.writes). inl (w.1, (w.0, w.2, sym (get_left h.writes h.reads w.1 inside) ∙ w.3, w.4, sym (seen_left h none w.1 w.2 empty (omega arith)) ∙ w.5)))
        (λ (past : (d : ℕ) × (w.1 ≡ length h.writes + d)).
        let at = subst (λ m. IsAt (entries_of h) m w.2) past.1 w.3 in
        let double = subst (λ m. IsDouble (entries_of h) m w.2) past.1 w.5 in
        inr (past.0, (w.0, w.2, sym (get_right h.writes h.reads past.0) ∙ at, w.4, sym (seen_right h none seen past.0 w.2 empty after) ∙ double)))
        (side w.1 (length h.writes))
