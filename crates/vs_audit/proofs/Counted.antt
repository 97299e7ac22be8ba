-- Tallies with one entry more.
use Rattle.std.proofs.Common.{◌≡◌, ◌≢◌, ℕ, zero, suc, ◌+◌, ◌-◌, ◌^◌, ◌<◌, ◌↔◌, ◌==◌, ◌||◌, Bool, true, false, IsTrue, Some, None, List, [], ◌∷◌, ◌++◌, arith, refl, sym, ◌∙◌, ap, subst, ⊎_elim, length, slice_get, filter, count_by, min, cond, append_assoc, eq-eqb}
use Rattle.std.specs.Prelude.{slice_set}
use Rattle.std.specs.List.{list_any, flat_map}
use Rattle.std.specs.BTreeMap.{BTreeMap, get}
use Rattle.std.specs.Ordering.{nat_cmp}
use Rattle.std.proofs.lemmas.Option.{slice_get_within}
use Rattle.std.proofs.lemmas.List.{append-nil, length-set}
use Rattle.std.proofs.lemmas.List.Concat.{flat_map-append}
use Rattle.std.proofs.lemmas.List.Elements.{filter-append}
use Rattle.std.proofs.lemmas.List.Folds.{list_any-append}
use Rattle.std.proofs.lemmas.List.Sums.{fold-append}
use Rattle.std.proofs.lemmas.Bool.{cases_eq}
use Rattle.vs_base.specs.declared.numbers.CallId.{CallId}
use Rattle.vs_audit.specs.Account.{Entry, History, Outcome, Call}
use Rattle.vs_audit.specs.Legal.{number_of, is_same, entries_of, entries_with, writes_call, reads_call}
use Rattle.vs_audit.specs.Tally.{IsIndex, Matches, FoundIs, IsTallyOf, Tallied, next_found, more_writes, is_read, counted, with_entry, Fits}
use Rattle.vs_audit.specs.declared.tally.Found.{Found}
use Rattle.vs_audit.specs.declared.tally.Found.TheVariants.{Nothing, Right, Wrong, Many}
use Rattle.vs_audit.specs.declared.tally.Standing.{Standing}
use Rattle.vs_audit.specs.declared.tally.Standing.TheVariants.{FirstWrite, LaterWrite, Read}
use Rattle.vs_audit.specs.declared.tally.Tally.{Tally}
use Rattle.vs_audit.proofs.AtPlaces.{same_item}

-- ---- lists with one item more

flat_last : {X A : Type 0} (f : X → List A) (xs : List X) (x : X) → flat_map f (xs ++ x ∷ []) ≡ flat_map f xs ++ f x
flat_last f xs x = flat_map-append f xs (x ∷ []) ∙ ap (λ ys. flat_map f xs ++ ys) (append-nil (f x))

pub count_last : {X : Type 0} (g : X → Bool) (xs : List X) (x : X) → count_by g (xs ++ x ∷ []) ≡ count_by g xs + cond (g x) 1 0
count_last g xs x = fold-append (λ n y. n + cond (g y) 1 0) 0 xs (x ∷ [])

any_last : {X : Type 0} (g : X → Bool) (xs : List X) (x : X) → list_any g (xs ++ x ∷ []) ≡ (list_any g xs || g x)
any_last g xs x = list_any-append g xs (x ∷ []) ∙ ap (λ b. list_any g xs || b) (or_false (g x))
  where
    or_false : (b : Bool) → (b || false) ≡ b
    or_false true = refl
    or_false false = refl

-- ---- a history with one entry more

entries_last : (s : Standing) (e : Entry) (h : History) → Fits s e h → entries_of (with_entry s e h) ≡ entries_of h ++ e ∷ []
entries_last FirstWrite e h fits = moved h.writes h.reads e fits.0
  where
    moved : (ws rs : List Entry) (x : Entry) → rs ≡ [] → (ws ++ x ∷ []) ++ rs ≡ (ws ++ rs) ++ x ∷ []
    moved ws rs x none = ap (λ r. (ws ++ x ∷ []) ++ r) none ∙ append-nil (ws ++ x ∷ []) ∙ ap (λ l. l ++ x ∷ []) (sym (ap (λ r. ws ++ r) none ∙ append-nil ws))
entries_last LaterWrite e h fits = moved h.writes h.reads e fits.0
  where
    moved : (ws rs : List Entry) (x : Entry) → rs ≡ [] → (ws ++ x ∷ []) ++ rs ≡ (ws ++ rs) ++ x ∷ []
    moved ws rs x none = ap (λ r. (ws ++ x ∷ []) ++ r) none ∙ append-nil (ws ++ x ∷ []) ∙ ap (λ l. l ++ x ∷ []) (sym (ap (λ r. ws ++ r) none ∙ append-nil ws))
entries_last Read e h fits = sym (append_assoc h.writes h.reads (e ∷ []))

with_more : (id : CallId) (done : List History) (h : History) (s : Standing) (e : Entry) → Fits s e h
    → entries_with id (done ++ with_entry s e h ∷ []) ≡ entries_with id (done ++ h ∷ []) ++ filter (λ o. is_same o.id id) (e ∷ [])
with_more id done h s e fits =
    let same : Entry → Bool = λ o. is_same o.id id in
    let old = flat_map entries_of done in
    ap (filter same) (flat_last entries_of done (with_entry s e h) ∙ ap (λ es. old ++ es) (entries_last s e h fits) ∙ sym (append_assoc old (entries_of h) (e ∷ [])))
    ∙ filter-append same (old ++ entries_of h) (e ∷ [])
    ∙ ap (λ es. filter same es ++ filter same (e ∷ [])) (sym (flat_last entries_of done h))

-- ---- what is found with one entry more

found_next : (o : Outcome) (es : List Entry) (e : Entry) (f : Found) (m : Bool) → (IsTrue m ↔ Matches o e) → FoundIs o es f → FoundIs o (es ++ e ∷ []) (next_found f m)
found_next o es e Nothing true says none = (e, ap (λ xs. xs ++ e ∷ []) none, says.0 refl)
found_next o es e Nothing false says none = (e, ap (λ xs. xs ++ e ∷ []) none, λ w. let wrong : false ≡ true = says.1 w in cc)
found_next o es e Right m says (x, one, right) = (x, e, [], ap (λ xs. xs ++ e ∷ []) one)
found_next o es e Wrong m says (x, one, wrong) = (x, e, [], ap (λ xs. xs ++ e ∷ []) one)
found_next o es e Many m says (x, y, rest, is) = (x, y, rest ++ e ∷ [], ap (λ xs. xs ++ e ∷ []) is)

-- ---- tests of the further history

writes_last : (id : CallId) (e : Entry) (h h' : History) → h'.writes ≡ h.writes ++ e ∷ [] → writes_call id h' ≡ (writes_call id h || is_same e.id id)
writes_last id e h h' is = ap (list_any (λ (w : Entry). is_same w.id id)) is ∙ any_last (λ (w : Entry). is_same w.id id) h.writes e

capped : (n m : ℕ) → m ≡ min n (2 ^ 64 - 1) → min (m + 1) (2 ^ 64 - 1) ≡ min (n + 1) (2 ^ 64 - 1)
capped n m is = omega arith

-- the writes of the call, where the entry is of it
writes_same : (id : CallId) (done : List History) (h : History) (s : Standing) (e : Entry) (m : ℕ)
    → number_of e.id ≡ number_of id → is_same e.id id ≡ true → Fits s e h
    → m ≡ min (count_by (writes_call id) (done ++ h ∷ [])) (2 ^ 64 - 1)
    → more_writes s m ≡ min (count_by (writes_call id) (done ++ with_entry s e h ∷ [])) (2 ^ 64 - 1)
writes_same id done h FirstWrite e m number same fits is =
    let h' = with_entry FirstWrite e h in
    let g = writes_call id in
    let before : g h ≡ false = ap (λ n. list_any (λ (w : Entry). number_of w.id == n) h.writes) (sym number) ∙ fits.1 in
    let after : g h' ≡ true = writes_last id e h h' refl ∙ ap (λ b. b || is_same e.id id) before ∙ same in
    let old = count_last g done h ∙ ap (λ b. count_by g done + cond b 1 0) before in
    let new = count_last g done h' ∙ ap (λ b. count_by g done + cond b 1 0) after in
    capped (count_by g (done ++ h ∷ [])) m is ∙ ap (λ n. min n (2 ^ 64 - 1)) (let step : count_by g (done ++ h ∷ []) + 1 ≡ count_by g (done ++ h' ∷ []) = omega arith in step)
writes_same id done h LaterWrite e m number same fits is =
    let h' = with_entry LaterWrite e h in
    let g = writes_call id in
    let before : g h ≡ true = ap (λ n. list_any (λ (w : Entry). number_of w.id == n) h.writes) (sym number) ∙ fits.1 in
    let after : g h' ≡ true = writes_last id e h h' refl ∙ ap (λ b. b || is_same e.id id) before in
    is ∙ ap (λ n. min n (2 ^ 64 - 1)) (count_last g done h ∙ ap (λ b. count_by g done + cond b 1 0) (before ∙ sym after) ∙ sym (count_last g done h'))
writes_same id done h Read e m number same fits is =
    let h' = with_entry Read e h in
    let g = writes_call id in
    is ∙ ap (λ n. min n (2 ^ 64 - 1)) (count_last g done h ∙ sym (count_last g done h'))

reads_same : (id : CallId) (done : List History) (h : History) (s : Standing) (e : Entry) (b : Bool)
    → is_same e.id id ≡ true → b ≡ list_any (reads_call id) (done ++ h ∷ [])
    → (b || is_read s) ≡ list_any (reads_call id) (done ++ with_entry s e h ∷ [])
reads_same id done h FirstWrite e b same is = or_false b ∙ is ∙ any_last (reads_call id) done h ∙ sym (any_last (reads_call id) done (with_entry FirstWrite e h))
  where
    or_false : (b : Bool) → (b || false) ≡ b
    or_false true = refl
    or_false false = refl
reads_same id done h LaterWrite e b same is = or_false b ∙ is ∙ any_last (reads_call id) done h ∙ sym (any_last (reads_call id) done (with_entry LaterWrite e h))
  where
    or_false : (b : Bool) → (b || false) ≡ b
    or_false true = refl
    or_false false = refl
reads_same id done h Read e b same is =
    let p : Entry → Bool = λ r. is_same r.id id in
    or_true b ∙ sym (any_last (reads_call id) done (with_entry Read e h) ∙ ap (λ t. list_any (reads_call id) done || t) (any_last p h.reads e ∙ ap (λ t. list_any p h.reads || t) same ∙ or_true (list_any p h.reads)) ∙ or_true (list_any (reads_call id) done))
  where
    or_true : (b : Bool) → (b || true) ≡ true
    or_true true = refl
    or_true false = refl

same_step : (c : Call) (done : List History) (h : History) (s : Standing) (e : Entry) (t : Tally) (m : Bool)
    → number_of e.id ≡ number_of c.id → Fits s e h → (IsTrue m ↔ Matches c.outcome e)
    → IsTallyOf c (done ++ h ∷ []) t → IsTallyOf c (done ++ with_entry s e h ∷ []) (counted s m t)
same_step c done h s e t m number fits says tally =
    let same : is_same e.id c.id ≡ true = eq-eqb (number_of e.id) (number_of c.id) number in
    let one : filter (λ (o : Entry). is_same o.id c.id) (e ∷ []) ≡ e ∷ [] = ap (λ b. cond b (e ∷ []) []) same in
    let es = entries_with c.id (done ++ h ∷ []) in
    record {
      found = subst (λ xs. FoundIs c.outcome xs (next_found t.found m)) (sym (with_more c.id done h s e fits ∙ ap (λ xs. es ++ xs) one)) (found_next c.outcome es e t.found m says tally.found);
      writes = writes_same c.id done h s e t.writes number same fits tally.writes;
      read = reads_same c.id done h s e t.read same tally.read;
    }

or_false' : (b : Bool) → (b || false) ≡ b
or_false' true = refl
or_false' false = refl

kept_by : (p : Entry → Bool) (es : List Entry) (e : Entry) → p e ≡ false → list_any p (es ++ e ∷ []) ≡ list_any p es
kept_by p es e other = any_last p es e ∙ ap (λ b. list_any p es || b) other ∙ or_false' (list_any p es)

writes_kept : (id : CallId) (e : Entry) (h : History) (s : Standing) → is_same e.id id ≡ false → writes_call id (with_entry s e h) ≡ writes_call id h
writes_kept id e h FirstWrite other = kept_by (λ (w : Entry). is_same w.id id) h.writes e other
writes_kept id e h LaterWrite other = kept_by (λ (w : Entry). is_same w.id id) h.writes e other
writes_kept id e h Read other = refl

reads_kept : (id : CallId) (e : Entry) (h : History) (s : Standing) → is_same e.id id ≡ false → reads_call id (with_entry s e h) ≡ reads_call id h
reads_kept id e h FirstWrite other = refl
reads_kept id e h LaterWrite other = refl
reads_kept id e h Read other = kept_by (λ (w : Entry). is_same w.id id) h.reads e other

-- an entry of another call
other_step : (c : Call) (done : List History) (h : History) (s : Standing) (e : Entry) (t : Tally)
    → is_same e.id c.id ≡ false → Fits s e h
    → IsTallyOf c (done ++ h ∷ []) t → IsTallyOf c (done ++ with_entry s e h ∷ []) t
other_step c done h s e t other fits tally =
    let none : filter (λ (o : Entry). is_same o.id c.id) (e ∷ []) ≡ [] = ap (λ b. cond b (e ∷ []) []) other in
    let es = entries_with c.id (done ++ h ∷ []) in
    record {
      found = subst (λ xs. FoundIs c.outcome xs t.found) (sym (with_more c.id done h s e fits ∙ ap (λ xs. es ++ xs) none ∙ append-nil es)) tally.found;
      writes = tally.writes ∙ ap (λ n. min n (2 ^ 64 - 1)) (count_last (writes_call c.id) done h ∙ ap (λ b. count_by (writes_call c.id) done + cond b 1 0) (sym (writes_kept c.id e h s other)) ∙ sym (count_last (writes_call c.id) done (with_entry s e h)));
      read = tally.read ∙ any_last (reads_call c.id) done h ∙ ap (λ b. list_any (reads_call c.id) done || b) (sym (reads_kept c.id e h s other)) ∙ sym (any_last (reads_call c.id) done (with_entry s e h));
    }

-- ---- the tallies of all calls

get_set_same : {X : Type 0} (xs : List X) (n : ℕ) (x : X) → n < length xs → slice_get (slice_set xs n x) n ≡ Some x
get_set_same [] n x h = absurd (omega arith)
get_set_same (y ∷ xs) zero x h = refl
get_set_same (y ∷ xs) (suc n) x h = get_set_same xs n x (omega arith)

get_set_other : {X : Type 0} (xs : List X) (n m : ℕ) (x : X) → m ≢ n → slice_get (slice_set xs n x) m ≡ slice_get xs m
get_set_other [] n m x h = refl
get_set_other (y ∷ xs) zero zero x h = absurd (h refl)
get_set_other (y ∷ xs) zero (suc m) x h = refl
get_set_other (y ∷ xs) (suc n) zero x h = refl
get_set_other (y ∷ xs) (suc n) (suc m) x h = get_set_other xs n m x (λ e. h (ap suc e))

is_other : (a b : CallId) → (number_of a ≢ number_of b) → is_same a b ≡ false
is_other a b apart = grind arith

pub tallied_next : (calls : List Call) (index : BTreeMap ℕ ℕ) (tallies : List Tally) (done : List History) (h : History) (s : Standing) (e : Entry) (n : ℕ) (c : Call) (t : Tally) (m : Bool)
    → IsIndex index calls → get nat_cmp index (number_of e.id) ≡ Some n → slice_get calls n ≡ Some c → slice_get tallies n ≡ Some t
    → Fits s e h → (IsTrue m ↔ Matches c.outcome e)
    → Tallied calls (done ++ h ∷ []) tallies → Tallied calls (done ++ with_entry s e h ∷ []) (slice_set tallies n (counted s m t))
tallied_next calls index tallies done h s e n c t m is_index there at_c at_t fits says old = record {
  len = simp length-set old.len;
  each = λ k d at. ⊎_elim
      (λ (same : k ≡ n).
      let call_is : c ≡ d = same_item (slice_get calls n) c d at_c (ap (slice_get calls) (sym same) ∙ at) in
      let one = old.each n c at_c in
      let t_is : one.0 ≡ t = same_item (slice_get tallies n) one.0 t one.1 at_t in
      let told = is_index.found (number_of e.id) n there in
      let c_is : told.0 ≡ c = same_item (slice_get calls n) told.0 c told.1 at_c in
      let number : number_of e.id ≡ number_of c.id = sym (sym (ap (λ (x : Call). number_of x.id) c_is) ∙ told.2) in
      let stepped = same_step c done h s e t m number fits says (subst (λ x. IsTallyOf c (done ++ h ∷ []) x) t_is one.2) in (
        counted s m t,
        ap (slice_get (slice_set tallies n (counted s m t))) same ∙ get_set_same tallies n (counted s m t) (slice_get_within tallies n t at_t),
        subst (λ x. IsTallyOf x (done ++ with_entry s e h ∷ []) (counted s m t)) call_is stepped,
      ))
      (λ (apart : k ≢ n).
      let one = old.each k d at in
      let other : is_same e.id d.id ≡ false = is_other e.id d.id (λ number. apart (same_item (get nat_cmp index (number_of e.id)) k n (ap (get nat_cmp index) number ∙ is_index.all k d at) there)) in
      (one.0, get_set_other tallies n k (counted s m t) apart ∙ one.1, other_step d done h s e one.0 other fits one.2))
      (cases_eq k n);
}

pub tallied_past : (calls : List Call) (index : BTreeMap ℕ ℕ) (tallies : List Tally) (done : List History) (h : History) (s : Standing) (e : Entry)
    → IsIndex index calls → get nat_cmp index (number_of e.id) ≡ None → Fits s e h
    → Tallied calls (done ++ h ∷ []) tallies → Tallied calls (done ++ with_entry s e h ∷ []) tallies
tallied_past calls index tallies done h s e is_index absent fits old = record {
  len = old.len;
  each = λ k d at.
      let one = old.each k d at in
      let other : is_same e.id d.id ≡ false = is_other e.id d.id (λ number. let both : None ≡ Some k = sym absent ∙ ap (get nat_cmp index) number ∙ is_index.all k d at in cc) in
      (one.0, one.1, other_step d done h s e one.0 other fits one.2);
}
