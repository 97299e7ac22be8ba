-- The references still agree where they follow the transfer of a bucket at one set.
use Rattle.std.proofs.Common.{◌≡◌, ℕ, zero, suc, ◌+◌, ◌<◌, ◌≤◌, ◌==◌, Bool, true, false, None, refl, sym, ap, subst, ◌∙◌, arith}
use Rattle.std.specs.Prelude.{if◌then◌else◌, ◌&&◌}
use Rattle.std.proofs.lemmas.Bool.Decides.{nat_tests}
use Rattle.std.proofs.lemmas.Bool.{eqb-true, eqb-false}
use Rattle.vs_refs.specs.declared.counts.Counts.{Counts}
use Rattle.vs_refs.specs.Counts.{no_counts}
use Rattle.vs_refs.specs.Refs.{counts_of}
use Rattle.vs_machine.specs.State as machine
use Rattle.vs_machine.specs.Tables.{put, is_to, count_to}
use Rattle.vs_machine.specs.Kinds.Collection.{is_garbage}
use Rattle.vs_machine.specs.Kinds.Rebalancing.{is_haul, hauls_at}
use Rattle.vs_state.specs.declared.state.State.{State}
use Rattle.vs_state.specs.declared.tables.SetTables.{SetTables}
use Rattle.vs_state.specs.Agrees.{Agrees, agreed, counts_at, hauls_in}
use Rattle.vs_state.specs.Plain.{plain, entry_in, transfer_in}
use Rattle.vs_state.specs.Tables.{numbered}
use Rattle.std.specs.Option.{option_map, option_map_or}
use Rattle.vs_record.specs.Change.{change}
use Rattle.std.proofs.lemmas.Option.{slice_get-get_or}
use Rattle.vs_core.specs.Cells.{Cell, cell, HasCell, SameRefs, SameTables, FollowTransfer, FollowEntry}
use Rattle.vs_core.specs.Keeps.{IsSound}
use Rattle.vs_core.proofs.Frame.{is_put}
use Rattle.vs_core.proofs.Sets.{IsSlot, written, at_set, same_at, bucket_same, sized_written}

-- ---- counts with one test changed

count_beyond : (p : ℕ → Bool) (b n : ℕ) (v : Bool) → n < b → count_to (put p b v) n ≡ count_to p n
count_beyond p b zero v above = refl
count_beyond p b (suc n) v above =
    let before : count_to (put p b v) n ≡ count_to p n = count_beyond p b n v (omega arith) in
    grind (arith, nat_tests, before, above)

pub count_put : (p : ℕ → Bool) (b n : ℕ) (v : Bool) → is_to n b ≡ true → count_to (put p b v) n + (if p b then 1 else 0) ≡ count_to p n + (if v then 1 else 0)
count_put p b zero v has = absurd (grind (arith, nat_tests, has))
count_put p b (suc n) v has = by (suc n == b) refl (count_put p b n v)
  where
    by : (e : Bool) → (suc n == b) ≡ e → (is_to n b ≡ true → count_to (put p b v) n + (if p b then 1 else 0) ≡ count_to p n + (if v then 1 else 0))
        → count_to (put p b v) (suc n) + (if p b then 1 else 0) ≡ count_to p (suc n) + (if v then 1 else 0)
    by true e before =
        let same : suc n ≡ b = eqb-true (suc n) b e in
        let rest : count_to (put p b v) n ≡ count_to p n = count_beyond p b n v (omega arith) in
        grind (arith, nat_tests, rest, same)
    by false e before =
        let rest : count_to (put p b v) n + (if p b then 1 else 0) ≡ count_to p n + (if v then 1 else 0) = before (grind (arith, nat_tests, has, e)) in
        grind (arith, nat_tests, rest, e)

sums : (u t c d p q : ℕ) → u + p ≡ t + q → t ≡ c → d + p ≡ c + q → u ≡ d
sums u t c d p q first second third = omega arith

below : (h c d p : ℕ) → h ≡ c → d + p ≡ c + 0 → p ≤ h
below h c d p first second = omega arith

-- ---- a set whose tables were written

module _ (s : State) (x k : ℕ) (t u : SetTables) (o : IsSlot s x k t) where
  -- the set has these tables
  has_tables : {B : Type 0} (f : SetTables → B) (d : B) → numbered f d s.sets.items (suc k) ≡ f t
  has_tables f d = ap (λ i. option_map_or f i d) (slice_get-get_or s.sets.items k t o.within) ∙ ap f (sym o.is)

  agreed_written : (y q : ℕ) → agreed (plain (written s k u)) y q
      ≡ (if y == suc k then record (agreed (plain s) y q) { ro_lock = u.is_up && is_garbage (entry_in u q); rw_lock = machine.is_draining (transfer_in u q) } else agreed (plain s) y q)
  agreed_written y q = (λ i. record (agreed (plain s) y q) {
    ro_lock = at_set s k t u o.within o.is (λ t. t.is_up) true i y && is_garbage (at_set s k t u o.within o.is (λ t. entry_in t q) None i y);
    rw_lock = machine.is_draining (at_set s k t u o.within o.is (λ t. transfer_in t q) None i y);
  }) ∙ by (y == suc k)
    where
      by : (e : Bool) → record (agreed (plain s) y q) {
        ro_lock = (if e then u.is_up else (plain s).up y) && is_garbage (if e then entry_in u q else ((plain s).bucket q).entry y);
        rw_lock = machine.is_draining (if e then transfer_in u q else ((plain s).bucket q).transfer y);
      } ≡ (if e then record (agreed (plain s) y q) { ro_lock = u.is_up && is_garbage (entry_in u q); rw_lock = machine.is_draining (transfer_in u q) } else agreed (plain s) y q)
      by true = refl
      by false = refl

  -- the references agree, where each has the locks that the entry and the transfer ask for, and all hauls are counted
  pub agrees_tables : ((q : ℕ) → counts_of u.refs.items q ≡ record (counts_of t.refs.items q) { ro_lock = u.is_up && is_garbage (entry_in u q); rw_lock = machine.is_draining (transfer_in u q) })
      → u.hauls ≡ count_to (λ q. is_haul (transfer_in u q)) s.config.bucket_count → Agrees s → Agrees (written s k u)
  agrees_tables locks hauls a = record {
    counts = λ y q. ap (λ (f : ℕ → Counts). f y) (at_set s k t u o.within o.is (λ t. counts_of t.refs.items q) no_counts) ∙ counts_by y q (y == suc k) refl ∙ sym (agreed_written y q);
    hauls = λ y. ap (λ (f : ℕ → ℕ). f y) (at_set s k t u o.within o.is (λ t. t.hauls) 0) ∙ hauls_by y (y == suc k) refl
        ∙ sym (λ i. count_to (λ q. is_haul (at_set s k t u o.within o.is (λ t. transfer_in t q) None i y)) s.config.bucket_count);
  }
    where
      counts_by : (y q : ℕ) (e : Bool) → (y == suc k) ≡ e → (if e then counts_of u.refs.items q else counts_at s y q)
          ≡ (if e then record (agreed (plain s) y q) { ro_lock = u.is_up && is_garbage (entry_in u q); rw_lock = machine.is_draining (transfer_in u q) } else agreed (plain s) y q)
      counts_by y q true e = subst (λ j. counts_of u.refs.items q ≡ record (agreed (plain s) j q) { ro_lock = u.is_up && is_garbage (entry_in u q); rw_lock = machine.is_draining (transfer_in u q) }) (sym (eqb-true y (suc k) e))
          (locks q ∙ ap (λ (c : Counts). record c { ro_lock = u.is_up && is_garbage (entry_in u q); rw_lock = machine.is_draining (transfer_in u q) }) (sym (has_tables (λ t. counts_of t.refs.items q) no_counts) ∙ a.counts (suc k) q))
      counts_by y q false e = a.counts y q

      hauls_by : (y : ℕ) (e : Bool) → (y == suc k) ≡ e → (if e then u.hauls else hauls_in s y) ≡ count_to (λ q. is_haul (if e then transfer_in u q else ((plain s).bucket q).transfer y)) s.config.bucket_count
      hauls_by y true e = hauls
      hauls_by y false e = a.hauls y

  -- what the tables had agreed
  pub had_locks : Agrees s → (q : ℕ) → counts_of t.refs.items q ≡ record (counts_of t.refs.items q) { ro_lock = t.is_up && is_garbage (entry_in t q); rw_lock = machine.is_draining (transfer_in t q) }
  had_locks a q =
      let same : counts_of t.refs.items q ≡ record (agreed (plain s) (suc k) q) { ro_lock = t.is_up && is_garbage (entry_in t q); rw_lock = machine.is_draining (transfer_in t q) } =
      sym (has_tables (λ t. counts_of t.refs.items q) no_counts) ∙ a.counts (suc k) q ∙ (λ i. record (agreed (plain s) (suc k) q) {
        ro_lock = has_tables (λ t. t.is_up) true i && is_garbage (has_tables (λ t. entry_in t q) None i);
        rw_lock = machine.is_draining (has_tables (λ t. transfer_in t q) None i);
      }) in
      same ∙ sym (ap (λ (c : Counts). record c { ro_lock = t.is_up && is_garbage (entry_in t q); rw_lock = machine.is_draining (transfer_in t q) }) same)

  pub had_hauls : Agrees s → t.hauls ≡ count_to (λ q. is_haul (transfer_in t q)) s.config.bucket_count
  had_hauls a = sym (has_tables (λ t. t.hauls) 0) ∙ a.hauls (suc k) ∙ (λ i. count_to (λ q. is_haul (has_tables (λ t. transfer_in t q) None i)) s.config.bucket_count)

  -- a haul is one of those that are counted
  pub haul_counted : (b : ℕ) → Agrees s → machine.has_bucket (plain s) b ≡ true → (if is_haul (transfer_in t b) then 1 else 0) ≤ t.hauls
  haul_counted b a has =
      let counted : count_to (put (λ q. is_haul (transfer_in t q)) b false) s.config.bucket_count + (if is_haul (transfer_in t b) then 1 else 0) ≡ count_to (λ q. is_haul (transfer_in t q)) s.config.bucket_count + 0 =
      count_put (λ q. is_haul (transfer_in t q)) b s.config.bucket_count false has in
      let hauls : t.hauls ≡ count_to (λ q. is_haul (transfer_in t q)) s.config.bucket_count = had_hauls a in
      below t.hauls (count_to (λ q. is_haul (transfer_in t q)) s.config.bucket_count) (count_to (put (λ q. is_haul (transfer_in t q)) b false) s.config.bucket_count) (if is_haul (transfer_in t b) then 1 else 0) hauls counted

  module _ (b : ℕ) (v : Cell) (h : HasCell t u b v) (a : Agrees s) where
    -- references that stay as they are follow a transfer that drains and is a haul as before
    pub same_follow : SameRefs t u → machine.is_draining v.transfer ≡ machine.is_draining (transfer_in t b) → is_haul v.transfer ≡ is_haul (transfer_in t b) → FollowTransfer t u b
    same_follow r draining haul = record {
      locks = λ q. ap (λ refs. counts_of refs.items q) r.refs ∙ by q (q == b) refl;
      hauls = ap (λ n. n + (if is_haul (transfer_in t b) then 1 else 0)) r.hauls ∙ ap (λ e. t.hauls + (if e then 1 else 0)) (sym haul ∙ ap (λ (c : Cell). is_haul c.transfer) (sym h.here));
    }
      where
        by : (q : ℕ) (e : Bool) → (q == b) ≡ e → counts_of t.refs.items q ≡ (if e then record (counts_of t.refs.items q) { rw_lock = machine.is_draining (transfer_in u q) } else counts_of t.refs.items q)
        by q true e = subst (λ j. counts_of t.refs.items j ≡ record (counts_of t.refs.items j) { rw_lock = machine.is_draining (transfer_in u j) }) (sym (eqb-true q b e))
            (λ i. record (counts_of t.refs.items b) { rw_lock = ((ap (λ (c : Counts). c.rw_lock) (had_locks a b)) ∙ sym draining ∙ ap (λ (c : Cell). machine.is_draining c.transfer) (sym h.here)) i })
        by q false e = refl

    pub agrees_follow : FollowTransfer t u b → is_garbage v.entry ≡ is_garbage (entry_in t b) → machine.has_bucket (plain s) b ≡ true → Agrees (written s k u)
    agrees_follow f garbage has = agrees_tables (λ q. f.locks q ∙ locks q (q == b) refl) hauls a
      where
        locks : (q : ℕ) (e : Bool) → (q == b) ≡ e → (if e then record (counts_of t.refs.items q) { rw_lock = machine.is_draining (transfer_in u q) } else counts_of t.refs.items q)
            ≡ record (counts_of t.refs.items q) { ro_lock = u.is_up && is_garbage (entry_in u q); rw_lock = machine.is_draining (transfer_in u q) }
        locks q true e = λ i. record (counts_of t.refs.items q) {
          ro_lock = (ap (λ (c : Counts). c.ro_lock) (had_locks a q) ∙ ap (λ e. e && is_garbage (entry_in t q)) (sym h.up)
              ∙ subst (λ j. (u.is_up && is_garbage (entry_in t j)) ≡ (u.is_up && is_garbage (entry_in u j))) (sym (eqb-true q b e)) (ap (λ e. u.is_up && e) (sym garbage ∙ ap (λ (c : Cell). is_garbage c.entry) (sym h.here)))) i;
          rw_lock = machine.is_draining (transfer_in u q);
        }
        locks q false e =
            let there : cell u q ≡ cell t q = h.others q (eqb-false q b e) in
            had_locks a q ∙ (λ i. record (counts_of t.refs.items q) { ro_lock = sym h.up i && is_garbage (sym there i).entry; rw_lock = machine.is_draining (sym there i).transfer })

        hauls : u.hauls ≡ count_to (λ q. is_haul (transfer_in u q)) s.config.bucket_count
        hauls =
            let changed : (λ q. is_haul (transfer_in u q)) ≡ put (λ q. is_haul (transfer_in t q)) b (is_haul (transfer_in u b)) =
            is_put (λ q. is_haul (transfer_in t q)) (λ q. is_haul (transfer_in u q)) b (λ q ne. ap (λ (c : Cell). is_haul c.transfer) (h.others q ne)) in
            let counted : count_to (put (λ q. is_haul (transfer_in t q)) b (is_haul (transfer_in u b))) s.config.bucket_count + (if is_haul (transfer_in t b) then 1 else 0)
            ≡ count_to (λ q. is_haul (transfer_in t q)) s.config.bucket_count + (if is_haul (transfer_in u b) then 1 else 0) =
            count_put (λ q. is_haul (transfer_in t q)) b s.config.bucket_count (is_haul (transfer_in u b)) has in
            let before : t.hauls ≡ count_to (λ q. is_haul (transfer_in t q)) s.config.bucket_count = had_hauls a in
            sums u.hauls t.hauls (count_to (λ q. is_haul (transfer_in t q)) s.config.bucket_count) (count_to (put (λ q. is_haul (transfer_in t q)) b (is_haul (transfer_in u b))) s.config.bucket_count)
            (if is_haul (transfer_in t b) then 1 else 0) (if is_haul (transfer_in u b) then 1 else 0) f.hauls before counted
            ∙ ap (λ p. count_to p s.config.bucket_count) (sym changed)

    pub sound_follow : IsSound s → FollowTransfer t u b → is_garbage v.entry ≡ is_garbage (entry_in t b) → machine.has_bucket (plain s) b ≡ true → IsSound (written s k u)
    sound_follow i f garbage has = record { sized = sized_written s k t u o.within o.is i.sized; agrees = agrees_follow f garbage has }

    pub sound_kept : IsSound s → SameRefs t u → is_garbage v.entry ≡ is_garbage (entry_in t b) → machine.is_draining v.transfer ≡ machine.is_draining (transfer_in t b)
        → is_haul v.transfer ≡ is_haul (transfer_in t b) → machine.has_bucket (plain s) b ≡ true → IsSound (written s k u)
    sound_kept i r garbage draining haul has = sound_follow i (same_follow r draining haul) garbage has

    -- references that follow the entry, where the set is up
    pub sound_entry : IsSound s → FollowEntry t u b → t.is_up ≡ true → v.transfer ≡ transfer_in t b → IsSound (written s k u)
    sound_entry i f up transfer = record { sized = sized_written s k t u o.within o.is i.sized; agrees = agrees_tables (λ q. f.locks q ∙ locks q (q == b) refl) hauls a }
      where
        transfers : (q : ℕ) → transfer_in u q ≡ transfer_in t q
        transfers q = by (q == b) refl
          where
            by : (e : Bool) → (q == b) ≡ e → transfer_in u q ≡ transfer_in t q
            by true e = subst (λ j. transfer_in u j ≡ transfer_in t j) (sym (eqb-true q b e)) (ap (λ (c : Cell). c.transfer) h.here ∙ transfer)
            by false e = ap (λ (c : Cell). c.transfer) (h.others q (eqb-false q b e))

        locks : (q : ℕ) (e : Bool) → (q == b) ≡ e → (if e then record (counts_of t.refs.items q) { ro_lock = is_garbage (entry_in u q) } else counts_of t.refs.items q)
            ≡ record (counts_of t.refs.items q) { ro_lock = u.is_up && is_garbage (entry_in u q); rw_lock = machine.is_draining (transfer_in u q) }
        locks q true e = λ i. record (counts_of t.refs.items q) {
          ro_lock = sym (h.up ∙ up) i && is_garbage (entry_in u q);
          rw_lock = (ap (λ (c : Counts). c.rw_lock) (had_locks a q) ∙ ap machine.is_draining (sym (transfers q))) i;
        }
        locks q false e =
            let there : cell u q ≡ cell t q = h.others q (eqb-false q b e) in
            had_locks a q ∙ (λ i. record (counts_of t.refs.items q) { ro_lock = sym h.up i && is_garbage (sym there i).entry; rw_lock = machine.is_draining (sym there i).transfer })

        hauls : u.hauls ≡ count_to (λ q. is_haul (transfer_in u q)) s.config.bucket_count
        hauls = f.hauls ∙ had_hauls a ∙ (λ i. count_to (λ q. is_haul (sym (transfers q) i)) s.config.bucket_count)

  -- ---- tables that have what they had

  module _ (h : SameTables t u) where
    pub plain_same : plain (written s k u) ≡ plain s
    plain_same = λ i. record (plain s) {
      up = same_at s k t u o.within o.is (λ t. t.is_up) true h.up i;
      pending = same_at s k t u o.within o.is (λ t. option_map change t.pending) None (ap (λ p. option_map change p) h.pending) i;
      last_fault = same_at s k t u o.within o.is (λ t. t.last_fault) 0 h.last_fault i;
      bucket = λ q. bucket_same s k t u o.within o.is q (h.cells q) i;
    }

    pub sound_same : IsSound s → IsSound (written s k u)
    sound_same i = record {
      sized = sized_written s k t u o.within o.is i.sized;
      agrees = record {
        counts = λ y q. ap (λ (f : ℕ → Counts). f y) (same_at s k t u o.within o.is (λ t. counts_of t.refs.items q) no_counts (h.counts q)) ∙ i.agrees.counts y q ∙ ap (λ m. agreed m y q) (sym plain_same);
        hauls = λ y. ap (λ (f : ℕ → ℕ). f y) (same_at s k t u o.within o.is (λ t. t.hauls) 0 h.hauls) ∙ i.agrees.hauls y ∙ ap (λ m. hauls_at m y) (sym plain_same);
      };
    }
