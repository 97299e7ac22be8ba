-- The index of the lines of calls, and their entries tested.
use Rattle.std.proofs.Common.{◌≡◌, ◌≢◌, ℕ, ◌^◌, ◌+◌, ◌<◌, ◌≤◌, ◌↔◌, Bool, IsTrue, Option, Some, List, map, length, get_or, arith, refl, sym, ◌∙◌, ap, subst, ⊎_elim, slice_get}
use Rattle.std.specs.BTreeMap.{BTreeMap, get, Updates}
use Rattle.std.specs.Ordering.{nat_cmp}
use Rattle.std.specs.Option.{option_map}
use Rattle.std.proofs.lemmas.Grind.{common_steps}
use Rattle.std.proofs.lemmas.Bool.{cases_eq}
use Rattle.std.proofs.lemmas.Option.{slice_get-map, slice_get_read, slice_get_within}
use Rattle.vs_audit.specs.Account.{Call, Account, call}
use Rattle.vs_audit.specs.Legal.{number_of, IsRising, LacksEntry}
use Rattle.vs_audit.specs.Tally.{EntryFault}
use Rattle.vs_audit.specs.Turn.{Adds}
use Rattle.vs_audit.specs.declared.account.CallLine as code
use Rattle.vs_audit.specs.declared.fault.Illegal.{Illegal}
use Rattle.vs_audit.specs.declared.fault.Illegal.TheVariants.{NoEntry}
use Rattle.vs_audit.specs.declared.least.Fault.{Fault}
use Rattle.vs_audit.proofs.Added.{added_as, below_next}
use Rattle.vs_audit.proofs.AtPlaces.{Noted, same_item}

pub call_at : (items : List code.CallLine) (i : ℕ) (x : code.CallLine) → i < length items → x ≡ get_or items i x → slice_get (map call items) i ≡ Some (call x)
call_at items i x inside is = slice_get-map call items i ∙ ap (option_map call) (slice_get_read items (length items) i x refl inside is)

-- the first lines stand in the index
pub record Indexed (index : BTreeMap ℕ ℕ) (calls : List Call) (i : ℕ) : Type 0 where
  pub found : (q n : ℕ) → get nat_cmp index q ≡ Some n → (c : Call) × (n < i) × (slice_get calls n ≡ Some c) × (number_of c.id ≡ q)
  pub small : (n : ℕ) (c : Call) → n < i → slice_get calls n ≡ Some c → c.id.call < 2 ^ 32
  pub all : (n : ℕ) (c : Call) → n < i → slice_get calls n ≡ Some c → get nat_cmp index (number_of c.id) ≡ Some n

updated_same : (old new : BTreeMap ℕ ℕ) (key n : ℕ) → Updates nat_cmp old new key (Some n) → get nat_cmp new key ≡ Some n
updated_same old new key n h = grind (arith, common_steps, h.0 key)

updated_other : (old new : BTreeMap ℕ ℕ) (key n q : ℕ) → Updates nat_cmp old new key (Some n) → (q ≢ key) → get nat_cmp new q ≡ get nat_cmp old q
updated_other old new key n q h apart = grind (arith, common_steps, h.0 q)

pub indexed_more : (old new : BTreeMap ℕ ℕ) (calls : List Call) (i : ℕ) (c : Call) → IsRising calls → slice_get calls i ≡ Some c → c.id.call < 2 ^ 32
    → Updates nat_cmp old new (number_of c.id) (Some i) → Indexed old calls i → Indexed new calls (i + 1)
indexed_more old new calls i c rising at low updates before = record {
  small = λ n d inside at_d. ⊎_elim (λ (p : n < i). before.small n d p at_d) (λ (e : n ≡ i). subst (λ (x : Call). x.id.call < 2 ^ 32) (same_item (slice_get calls i) c d at (ap (slice_get calls) (sym e) ∙ at_d)) low) (below_next n i inside);
  found = λ q n there. ⊎_elim
      (λ (same : q ≡ number_of c.id).
      let n_is : i ≡ n = same_item (get nat_cmp new q) i n (ap (get nat_cmp new) same ∙ updated_same old new (number_of c.id) i updates) there in
      (c, omega arith, ap (slice_get calls) (sym n_is) ∙ at, sym same))
      (λ (apart : q ≢ number_of c.id).
      let told = before.found q n (sym (updated_other old new (number_of c.id) i q updates apart) ∙ there) in
      let p : n < i = told.1 in
      (told.0, omega arith, told.2, told.3))
      (cases_eq q (number_of c.id));
  all = λ n d inside at_d. ⊎_elim
      (λ (p : n < i).
      let lower : number_of d.id < number_of c.id = rising n i d c p at_d at in
      let apart : number_of d.id ≢ number_of c.id = λ e. absurd (omega arith) in
      updated_other old new (number_of c.id) i (number_of d.id) updates apart ∙ before.all n d p at_d)
      (λ (e : n ≡ i).
      let same : d ≡ c = same_item (slice_get calls i) d c (ap (slice_get calls) (sym e) ∙ at_d) at in
      ap (λ (x : Call). get nat_cmp new (number_of x.id)) same ∙ updated_same old new (number_of c.id) i updates ∙ ap (λ m. Some m) (sym e))
      (below_next n i inside);
}

pub made_entry : (a : Account) (n : ℕ) (c : Call) (lacks : Bool) (x y : Option Fault) → slice_get a.calls n ≡ Some c → (IsTrue lacks ↔ LacksEntry a c.id c.outcome)
    → Adds (Noted lacks c.line NoEntry) x y → Adds (EntryFault a n) x y
made_entry a n c lacks x y at says added =
    added_as (Noted lacks c.line NoEntry) (EntryFault a n) x y to back added
  where
    to : (l : ℕ) (k : Illegal) → Noted lacks c.line NoEntry l k → EntryFault a n l k
    to l k t = (t.2, c, at, t.1, says.0 t.0)

    back : (l : ℕ) (k : Illegal) → EntryFault a n l k → Noted lacks c.line NoEntry l k
    back l k (kind, d, at_d, line, wrong) =
        let same : d ≡ c = same_item (slice_get a.calls n) d c at_d at in
        (says.1 (subst (λ (e : Call). LacksEntry a e.id e.outcome) same wrong), line ∙ ap (λ (e : Call). e.line) same, kind)

pub entries_all : (a : Account) (m : ℕ) (x y : Option Fault) → length a.calls ≤ m → Adds (λ l k. (n : ℕ) × (n < m) × EntryFault a n l k) x y → Adds (λ l k. (n : ℕ) × EntryFault a n l k) x y
entries_all a m x y all added =
    added_as (λ l k. (n : ℕ) × (n < m) × EntryFault a n l k) (λ l k. (n : ℕ) × EntryFault a n l k) x y
    (λ l k w. (w.0, w.2))
    (λ l k w. let h : w.0 < length a.calls = slice_get_within a.calls w.0 w.1.1 w.1.2 in (w.0, omega arith, w.1)) added
