-- Tables of a set that stand for the same.
use Rattle.std.proofs.Common.{◌≡◌, ℕ, zero, suc, true, Option, Some, None, refl, sym, ap, subst, ◌∙◌, arith}
use Rattle.std.specs.Prelude.{slice_get}
use Rattle.std.specs.Option.{option_map, option_map_or}
use Rattle.std.proofs.lemmas.Bool.Decides.{nat_tests}
use Rattle.std.proofs.lemmas.Option.{slice_get_within}
use Rattle.vs_record.specs.Change.{change}
use Rattle.vs_record.specs.RowTable.{row_map_at}
use Rattle.vs_refs.specs.Counts.{no_counts}
use Rattle.vs_refs.specs.Refs.{counts_of}
use Rattle.vs_machine.specs.State as machine
use Rattle.vs_machine.specs.Kinds.Rebalancing.{hauls_at}
use Rattle.vs_state.specs.declared.state.State.{State}
use Rattle.vs_state.specs.declared.tables.SetTables.{SetTables}
use Rattle.vs_state.specs.Agrees.{agreed, counts_at, hauls_in}
use Rattle.vs_state.specs.Plain.{plain}
use Rattle.vs_state.specs.Sized.{IsSized}
use Rattle.vs_state.specs.Tables.{numbered}
use Rattle.vs_core.specs.Cells.{cell, SameRefs}
use Rattle.vs_core.specs.Keeps.{IsSound}
use Rattle.vs_core.proofs.Frame.{put_here}
use Rattle.vs_core.proofs.Sets.{IsSlot, written, has_tables, at_set, same_at, bucket_same, sized_written}

-- a state that stands for the same, with the same counts, is as sound
pub sound_plain : (s t : State) → plain t ≡ plain s → ((x b : ℕ) → counts_at t x b ≡ counts_at s x b) → ((x : ℕ) → hauls_in t x ≡ hauls_in s x) → IsSized t → IsSound s → IsSound t
sound_plain s t same counts hauls sized i = record {
  sized = sized;
  agrees = record {
    counts = λ x b. counts x b ∙ i.agrees.counts x b ∙ ap (λ m. agreed m x b) (sym same);
    hauls = λ x. hauls x ∙ i.agrees.hauls x ∙ ap (λ m. hauls_at m x) (sym same);
  };
}

-- what stands at a number is a set of the cluster
pub set_known : (s : State) → IsSized s → (x : ℕ) (t : SetTables) → numbered Some None s.sets.items x ≡ Some t → machine.has_set (plain s) x ≡ true
set_known s z zero t there = absurd (cc there)
set_known s z (suc k) t there = by (slice_get s.sets.items k) refl there
  where
    by : (o : Option SetTables) → slice_get s.sets.items k ≡ o → option_map_or Some o None ≡ Some t → machine.has_set (plain s) (suc k) ≡ true
    by None is h = absurd (cc h)
    by (Some u) is h =
        let within = slice_get_within s.sets.items k u is in
        grind (arith, nat_tests, within, z.sets)

-- both tables stand for the same
pub record SameShown (t u : SetTables) : Type 0 where
  pub cells : (b : ℕ) → cell u b ≡ cell t b
  pub up : u.is_up ≡ t.is_up
  pub pending : u.pending ≡ t.pending
  pub last_fault : u.last_fault ≡ t.last_fault

module _ (s : State) (x k : ℕ) (t u : SetTables) (o : IsSlot s x k t) where
  -- what stands at the number of the set before, and after
  pub set_there : numbered Some None s.sets.items x ≡ Some t
  set_there = subst (λ x. numbered Some None s.sets.items x ≡ Some t) o.at (has_tables s k t u o.within o.is Some None)

  pub now_there : {B : Type 0} (f : SetTables → B) (d : B) → numbered f d (written s k u).sets.items x ≡ f u
  now_there f d = subst (λ x. numbered f d (written s k u).sets.items x ≡ f u) o.at (ap (λ g. g (suc k)) (at_set s k t u o.within o.is f d) ∙ put_here (numbered f d s.sets.items) (suc k) (f u))

  pub written_there : (P : SetTables → Type 0) → P u → (v : SetTables) → numbered Some None (written s k u).sets.items x ≡ Some v → P v
  written_there P p v h = let now = now_there Some None in subst P (cc (now, h)) p

  pub plain_shown : SameShown t u → plain (written s k u) ≡ plain s
  plain_shown same = λ i. record (plain s) {
    up = same_at s k t u o.within o.is (λ t. t.is_up) true same.up i;
    pending = same_at s k t u o.within o.is (λ t. option_map change t.pending) None (ap (λ p. option_map change p) same.pending) i;
    last_fault = same_at s k t u o.within o.is (λ t. t.last_fault) 0 same.last_fault i;
    bucket = λ q. bucket_same s k t u o.within o.is q (same.cells q) i;
  }

  pub sound_shown : SameShown t u → SameRefs t u → IsSound s → IsSound (written s k u)
  sound_shown same r i = sound_plain s (written s k u) (plain_shown same)
      (λ y b. ap (λ (f : ℕ → _). f y) (same_at s k t u o.within o.is (λ t. counts_of t.refs.items b) no_counts (ap (λ refs. counts_of refs.items b) r.refs)))
      (λ y. ap (λ (f : ℕ → _). f y) (same_at s k t u o.within o.is (λ t. t.hauls) 0 r.hauls)) (sized_written s k t u o.within o.is i.sized) i

-- the rows of the tables were written, and are what they were
pub rows_shown : (t u : SetTables) → u ≡ record t { rows = u.rows } → ((q : ℕ) → row_map_at u.rows q ≡ row_map_at t.rows q) → SameShown t u
rows_shown t u rest same = record {
  cells = λ b. ap (λ (w : SetTables). cell w b) rest ∙ (λ i. record (cell t b) { rows = same b i });
  up = ap (λ (w : SetTables). w.is_up) rest;
  pending = ap (λ (w : SetTables). w.pending) rest;
  last_fault = ap (λ (w : SetTables). w.last_fault) rest;
}
