-- The entries of answered calls, found one by one.
use Rattle.std.proofs.Common.{◌≡◌, ℕ, zero, suc, ◌+◌, ◌<◌, ◌⊎◌, inl, inr, Bool, true, false, Option, Some, None, List, [], ◌∷◌, ◌++◌, arith, sym, ◌∙◌, ap, subst, subst₂, ⊎_elim, ◌*◌, ◌^◌, length, slice_get, Contains}
use Rattle.std.specs.BTreeMap.{BTreeMap, get}
use Rattle.std.specs.Ordering.{nat_cmp}
use Rattle.std.proofs.lemmas.Option.{slice_get_within}
use Rattle.vs_audit.specs.Account.{Entry, History, Call, outcome}
use Rattle.vs_audit.specs.declared.account.LineOutcome.{LineOutcome}
use Rattle.vs_audit.specs.declared.account.LineOutcome.TheVariants as code
use Rattle.vs_audit.specs.Legal.{number_of, IsReply, Answered, IsTooLow}
use Rattle.vs_audit.specs.Order.{AnsweredAmong, FindsAnswered, placed, ArePlaced, client_of, IsLow, LowFault, OrderFault}
use Rattle.vs_audit.specs.Turn.{Adds}
use Rattle.vs_audit.specs.declared.fault.Illegal.{Illegal}
use Rattle.vs_audit.specs.declared.least.Fault.{Fault}
use Rattle.std.specs.List.Sorted.{IsPermutation}
use Rattle.std.proofs.lemmas.List.Sorted.{Contains-permutation, IsPermutation-sym}
use Rattle.vs_audit.proofs.Added.{added_as}
use Rattle.vs_audit.specs.Tally.{IsIndex}
use Rattle.vs_audit.specs.declared.order.Placed.{Placed}
use Rattle.vs_audit.proofs.AtPlaces.{same_item, same_some}
use Rattle.vs_audit.proofs.Doubled.{get_left}
use Rattle.vs_audit.proofs.InOrder.{contains_at, at_contains, get_pushed}

-- an item of a list with one more at its end
at_pushed : {X : Type 0} (xs : List X) (y x : X) (n : ℕ) → slice_get (xs ++ y ∷ []) n ≡ Some x → (slice_get xs n ≡ Some x) ⊎ (x ≡ y)
at_pushed [] y x zero at = inr (sym (same_some y x at))
at_pushed [] y x (suc n) at = inl at
at_pushed (z ∷ xs) y x zero at = inl at
at_pushed (z ∷ xs) y x (suc n) at = at_pushed xs y x n at

contains_pushed : {X : Type 0} (xs : List X) (y x : X) → Contains (xs ++ y ∷ []) x → Contains xs x ⊎ (x ≡ y)
contains_pushed xs y x there = ⊎_elim (λ e. inl (contains_at xs there.0 x e)) (λ e. inr e) (at_pushed xs y x there.0 (at_contains (xs ++ y ∷ []) x there))

kept_pushed : {X : Type 0} (xs : List X) (y x : X) → Contains xs x → Contains (xs ++ y ∷ []) x
kept_pushed xs y x there = contains_at (xs ++ y ∷ []) there.0 x (get_left xs (y ∷ []) there.0 there.1 ∙ at_contains xs x there)

-- the answered entries of a list with one more
among_pushed : (calls : List Call) (es : List Entry) (e : Entry) (c : Call) (x : Entry) → AnsweredAmong calls (es ++ e ∷ []) c x
    → AnsweredAmong calls es c x ⊎ (x ≡ e)
among_pushed calls es e c x a = ⊎_elim
    (λ at. inl (record { line = a.line; reply = a.reply; stands = (a.stands.0, at); same = a.same }))
    (λ same. inr same)
    (at_pushed es e x a.stands.0 a.stands.1)

among_kept : (calls : List Call) (es : List Entry) (e : Entry) (c : Call) (x : Entry) → AnsweredAmong calls es c x → AnsweredAmong calls (es ++ e ∷ []) c x
among_kept calls es e c x a = record {
  line = a.line;
  reply = a.reply;
  stands = (a.stands.0, get_left es (e ∷ []) a.stands.0 (slice_get_within es a.stands.0 x a.stands.1) ∙ a.stands.1);
  same = a.same;
}

-- the call of the next entry was answered
pub finds_more : (calls : List Call) (index : BTreeMap ℕ ℕ) (w : Bool) (es : List Entry) (e : Entry) (old new : List Placed) (n : ℕ) (c : Call)
    → IsIndex index calls → get nat_cmp index (number_of e.id) ≡ Some n → slice_get calls n ≡ Some c → IsReply c.outcome
    → FindsAnswered calls w es old new → FindsAnswered calls w (es ++ e ∷ []) old (new ++ placed c w e ∷ [])
finds_more calls index w es e old new n c is_index there at reply before =
    let told = is_index.found (number_of e.id) n there in
    let same : told.0 ≡ c = same_item (slice_get calls n) told.0 c told.1 at in
    let number : number_of e.id ≡ number_of c.id = sym told.2 ∙ ap (λ (x : Call). number_of x.id) same in
    record {
      each = λ p found. ⊎_elim
          (λ (f : Contains new p). ⊎_elim
          (λ (o : Contains old p). inl o)
          (λ (t : (c : Call) × (x : Entry) × AnsweredAmong calls es c x × (p ≡ placed c w x)). inr (t.0, t.1, among_kept calls es e t.0 t.1 t.2, t.3))
          (before.each p f))
          (λ (is : p ≡ placed c w e). inr (c, e, record { line = (n, at); reply = reply; stands = (length es, get_pushed es e); same = number }, is))
          (contains_pushed new (placed c w e) p found);
      all = λ d x a. ⊎_elim
          (λ (b : AnsweredAmong calls es d x). kept_pushed new (placed c w e) (placed d w x) (before.all d x b))
          (λ (is : x ≡ e).
          let k = is_index.all a.line.0 d a.line.1 in
          let numbers : number_of e.id ≡ number_of d.id = ap (λ (y : Entry). number_of y.id) (sym is) ∙ a.same in
          let m : a.line.0 ≡ n = same_item (get nat_cmp index (number_of e.id)) a.line.0 n (ap (get nat_cmp index) numbers ∙ k) there in
          let call_is : d ≡ c = same_item (slice_get calls n) d c (ap (slice_get calls) (sym m) ∙ a.line.1) at in
          subst (λ (y : Placed). Contains (new ++ placed c w e ∷ []) y) (ap (λ (y : Call). placed y w e) (sym call_is) ∙ ap (λ (y : Entry). placed d w y) (sym is)) (contains_at (new ++ placed c w e ∷ []) (length new) (placed c w e) (get_pushed new (placed c w e))))
          (among_pushed calls es e d x a);
      kept = λ p f. kept_pushed new (placed c w e) p (before.kept p f);
    }

-- it wasn't
pub finds_same : (calls : List Call) (w : Bool) (es : List Entry) (e : Entry) (old new : List Placed)
    → ((n : ℕ) (c : Call) → slice_get calls n ≡ Some c → number_of e.id ≡ number_of c.id → ¬ IsReply c.outcome)
    → FindsAnswered calls w es old new → FindsAnswered calls w (es ++ e ∷ []) old new
finds_same calls w es e old new none before = record {
  each = λ p f. ⊎_elim
      (λ (o : Contains old p). inl o)
      (λ (t : (c : Call) × (x : Entry) × AnsweredAmong calls es c x × (p ≡ placed c w x)). inr (t.0, t.1, among_kept calls es e t.0 t.1 t.2, t.3))
      (before.each p f);
  all = λ d x a. ⊎_elim
      (λ (b : AnsweredAmong calls es d x). before.all d x b)
      (λ (is : x ≡ e). absurd (none a.line.0 d a.line.1 (ap (λ (y : Entry). number_of y.id) (sym is) ∙ a.same) a.reply))
      (among_pushed calls es e d x a);
  kept = before.kept;
}

pub finds_none : (calls : List Call) (w : Bool) (xs : List Placed) → FindsAnswered calls w [] xs xs
finds_none calls w xs = record {
  each = λ p f. inl f;
  all = λ c e a. let h = slice_get_within [] a.stands.0 e a.stands.1 in absurd (omega arith);
  kept = λ p f. f;
}

-- a call that isn't answered is that of no answered line
pub not_reply : (calls : List Call) (index : BTreeMap ℕ ℕ) (e : Entry) (n : ℕ) (c : Call) → IsIndex index calls → get nat_cmp index (number_of e.id) ≡ Some n
    → slice_get calls n ≡ Some c → (¬ IsReply c.outcome)
    → (m : ℕ) (d : Call) → slice_get calls m ≡ Some d → number_of e.id ≡ number_of d.id → ¬ IsReply d.outcome
not_reply calls index e n c is_index there at other m d at_d number reply =
    let same : m ≡ n = same_item (get nat_cmp index (number_of e.id)) m n (ap (get nat_cmp index) number ∙ is_index.all m d at_d) there in
    let call_is : d ≡ c = same_item (slice_get calls n) d c (ap (slice_get calls) (sym same) ∙ at_d) at in
    other (subst (λ (x : Call). IsReply x.outcome) call_is reply)

-- an entry without a line
pub no_line : (calls : List Call) (index : BTreeMap ℕ ℕ) (e : Entry) → IsIndex index calls → get nat_cmp index (number_of e.id) ≡ None
    → (m : ℕ) (d : Call) → slice_get calls m ≡ Some d → number_of e.id ≡ number_of d.id → ¬ IsReply d.outcome
no_line calls index e is_index absent m d at_d number reply =
    let both : None ≡ Some m = sym absent ∙ ap (get nat_cmp index) number ∙ is_index.all m d at_d in cc

-- ---- all entries of a history

pub all_placed : (calls : List Call) (h : History) (xs ys zs : List Placed) → FindsAnswered calls true h.writes [] xs → FindsAnswered calls false h.reads xs ys
    → IsPermutation ys zs → ArePlaced calls h zs
all_placed calls h xs ys zs writes reads moved = record {
  each = λ n p at.
      let there = Contains-permutation zs ys p (IsPermutation-sym ys zs moved) (contains_at zs n p at) in
      ⊎_elim
      (λ (o : Contains xs p). ⊎_elim
      (λ (z : Contains [] p). let k : z.0 < 0 = z.1 in absurd (omega arith))
      (λ (t : (c : Call) × (e : Entry) × AnsweredAmong calls h.writes c e × (p ≡ placed c true e)).
      (t.0, true, t.1, record { line = t.2.line; reply = t.2.reply; stands = t.2.stands; same = t.2.same }, t.3))
      (writes.each p o))
      (λ (t : (c : Call) × (e : Entry) × AnsweredAmong calls h.reads c e × (p ≡ placed c false e)).
      (t.0, false, t.1, record { line = t.2.line; reply = t.2.reply; stands = t.2.stands; same = t.2.same }, t.3))
      (reads.each p there);
  all = λ c w e a. Contains-permutation ys zs (placed c w e) moved (found c w e a);
}
  where
    found : (c : Call) (w : Bool) (e : Entry) → Answered calls h c w e → Contains ys (placed c w e)
    found c true e a = reads.kept (placed c true e) (writes.all c e (record { line = a.line; reply = a.reply; stands = a.stands; same = a.same }))
    found c false e a = reads.all c e (record { line = a.line; reply = a.reply; stands = a.stands; same = a.same })

client_is : (client call : ℕ) → call < 2 ^ 32 → client_of (client * 2 ^ 32 + call) ≡ client
client_is client call small = omega arith

low_to : (w : Bool) (x e : Entry) → IsLow w e.place x.place → IsTooLow x w e
low_to true x e low = low
low_to false x e low = low

low_from : (w : Bool) (x e : Entry) → IsTooLow x w e → IsLow w e.place x.place
low_from true x e low = low
low_from false x e low = low

pub made_order : (calls : List Call) (h : History) (ps : List Placed) (a b : Option Fault)
    → ((n : ℕ) (c : Call) → slice_get calls n ≡ Some c → c.id.call < 2 ^ 32) → ArePlaced calls h ps
    → Adds (LowFault ps) a b → Adds (OrderFault calls h) a b
made_order calls h ps a b small placed' added = added_as (LowFault ps) (OrderFault calls h) a b to back added
  where
    client_at : (n : ℕ) (c : Call) → slice_get calls n ≡ Some c → client_of (number_of c.id) ≡ c.id.client
    client_at n c at = client_is c.id.client c.id.call (small n c at)

    to : (l : ℕ) (k : Illegal) → LowFault ps l k → OrderFault calls h l k
    to l k (n, t) =
        let q = placed'.each n t.1 t.2 in
        let p = placed'.each t.4 t.5 t.6 in
        let c = q.0 in let d = p.0 in
        let q_number : t.1.number ≡ number_of c.id = ap (λ (x : Placed). x.number) q.4 in
        let p_number : t.5.number ≡ number_of d.id = ap (λ (x : Placed). x.number) p.4 in
        let lower : t.5.number < t.1.number = t.8 in
        let low : IsLow q.1 q.2.place p.2.place = subst₂ (λ (x y : Placed). IsLow x.is_write x.place y.place) q.4 p.4 t.9 in (
          t.0,
          q.3.line.0,
          c,
          q.3.line.1,
          t.3 ∙ ap (λ (x : Placed). x.line) q.4,
          record {
            earlier = d;
            before = p.2;
            is_write_before = p.1;
            after = q.2;
            is_write = q.1;
            first = p.3;
            second = q.3;
            order = (sym (client_at p.3.line.0 d p.3.line.1) ∙ ap client_of (sym p_number) ∙ t.7 ∙ ap client_of q_number ∙ client_at q.3.line.0 c q.3.line.1, omega arith);
            low = low_to q.1 p.2 q.2 low;
          },
        )

    back : (l : ℕ) (k : Illegal) → OrderFault calls h l k → LowFault ps l k
    back l k (kind, n, c, at, line, o) =
        let q = placed'.all c o.is_write o.after o.second in
        let p = placed'.all o.earlier o.is_write_before o.before o.first in (
          q.0,
          (
            kind,
            placed c o.is_write o.after,
            at_contains ps (placed c o.is_write o.after) q,
            line,
            p.0,
            placed o.earlier o.is_write_before o.before,
            at_contains ps (placed o.earlier o.is_write_before o.before) p,
            client_at o.first.line.0 o.earlier o.first.line.1 ∙ o.order.0 ∙ sym (client_at n c at),
            o.order.1,
            low_from o.is_write o.before o.after o.low,
          ),
        )

pub no_reply : (o : LineOutcome) → (o ≡ code.Lost) ⊎ ((o ≡ code.Spent) ⊎ (o ≡ code.Open)) → ¬ IsReply (outcome o)
no_reply (code.Reply place answers) told r = ⊎_elim (λ (e : code.Reply place answers ≡ code.Lost). cc) (λ (t : (code.Reply place answers ≡ code.Spent) ⊎ (code.Reply place answers ≡ code.Open)). ⊎_elim (λ (e : code.Reply place answers ≡ code.Spent). cc) (λ (e : code.Reply place answers ≡ code.Open). cc) t) told
no_reply code.Lost told r = r
no_reply code.Spent told r = r
no_reply code.Open told r = r
