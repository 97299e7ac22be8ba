-- The entries of histories and what calls were answered are spelled so that they are read again.
use Rattle.std.proofs.Common.{◌≡◌, ℕ, zero, suc, ◌+◌, ◌*◌, ◌<◌, ◌≤◌, ◌^◌, ◌-◌, inl, inr, Bool, true, false, List, [], ◌∷◌, ◌++◌, length, take, Option, Some, None, refl, sym, subst, arith, lit≤, All}
use Rattle.std.specs.Prelude.{slice_get, unwrap_or, if◌then◌else◌, ◌&&◌, codes}
use Rattle.std.specs.List.{AllByRecursion}
use Rattle.std.proofs.lemmas.List.Elements.{recursion_from_All}
use Rattle.std.proofs.lemmas.Option.{slice_get_cases, slice_get_within}
use Rattle.vs_base.specs.declared.numbers.Mode.{Mode}
use Rattle.vs_base.specs.declared.numbers.Mode.TheVariants.{Ro, Rw}
use Rattle.vs_calls.specs.Outcomes.{Outcome, Reply, Lost, Spent}
use Rattle.vs_history.specs.History.{Entry, replay, rows_at}
use Rattle.vs_rows.specs.Operations.{answers_to, rows_after}
use Rattle.vs_rows.specs.RowMap.{RowMap, IsRising}
use Rattle.vs_script.specs.Calls.{Call}
use Rattle.vs_script.specs.Scripts.{script_of}
use Rattle.vs_space.specs.declared.status.Cause.{Cause}
use Rattle.vs_space.specs.declared.status.Cause.TheVariants as cause
use Rattle.vs_space.specs.declared.status.Status.{Status}
use Rattle.vs_space.specs.declared.status.Status.TheVariants.{Active, Pinned, Sending, Receiving, Sent, Garbage}
use Rattle.vs_space.specs.declared.status.Verdict.TheVariants as verdict
use Rattle.vs_space.specs.Verdict.{verdict_of}
use Rattle.vs_machine.specs.Kinds.Calls.{verdict_at}
use Rattle.vs_machine.specs.Kinds.Connections.{is_null}
use Rattle.vs_machine.specs.Report.{lines, history_entry}
use Rattle.vs_machine.specs.Runs.{IsReached}
use Rattle.vs_machine.specs.State.{State, sets_of, is_draining}
use Rattle.vs_machine.proofs.Causes.Calls.{caused_calls}
use Rattle.vs_machine.proofs.Inputs.{input_runs, few_runs}
use Rattle.vs_machine.proofs.Kept.Sending.{each_of}
use Rattle.vs_machine.proofs.Reached.{legal_runs}
use Rattle.vs_machine.proofs.Rising.{rising_after}
use Rattle.vs_legal.proofs.Words.Entries.{AreNamed}
use Rattle.vs_legal.specs.Laws.{IsSpellable}
use Rattle.vs_legal.specs.Named.{IsNamedOp, IsNamedRow}
use Rattle.vs_legal.proofs.Words.Operations.{IsNamedAnswer}
use Rattle.vs_legal.proofs.Words.Statuses.{NamesSetIn, CauseNamesSet}
use Rattle.vs_legal.proofs.Audited.{EntryAt, entry_called, script_call, lawful, stood, in_writes, in_reads, told_by}
use Rattle.vs_legal.proofs.Calls.{in_either}
use Rattle.vs_legal.proofs.Before.{before, before_sets, entry_named}
use Rattle.vs_legal.proofs.Long.{lines_long, rows_long, entry_long, history_long, report_long}
use Rattle.vs_legal.proofs.NamedRows.{AreFew, rows_few, answers_named, take_each}
use Rattle.vs_legal.proofs.ReadBuckets.{IsSpelled}
use Rattle.vs_legal.proofs.ReadCalls.{IsReadableOutcome}
use Rattle.vs_legal.proofs.ReadHistories.{IsReadable}
use Rattle.vs_legal.proofs.Unchanged.{base_rises}

-- ---- lists

pub all_by_index : {A : Type 0} (P : A → Type 0) (xs : List A) → ((n : ℕ) (x : A) → slice_get xs n ≡ Some x → P x) → AllByRecursion P xs
all_by_index P [] each = tt
all_by_index P (x ∷ xs) each = (each 0 x refl, all_by_index P xs (λ n y at. each (suc n) y at))

are_named : {A : Type 0} (P : A → Type 0) (xs : List A) → 1 ≤ length xs → length xs ≤ 16 → AllByRecursion P xs → AreNamed P xs
are_named P [] some few each = absurd (omega arith)
are_named P (x ∷ xs) some few each = (each.0, omega arith, each.1)

first_entry : (ws rs : List Entry) → (is_null ws && is_null rs) ≡ false → (e : Entry) × (slice_get (ws ++ rs) 0 ≡ Some e)
first_entry [] [] told = absurd cc
first_entry [] (r ∷ rs) told = (r, refl)
first_entry (w ∷ ws) rs told = (w, refl)

script_within : (scripts : List (List Call)) (c n : ℕ) (k : Call) → slice_get (script_of scripts c) n ≡ Some k → (1 ≤ c) × (c ≤ length scripts)
script_within scripts zero zero k at = let no : ⊥ = cc at in absurd no
script_within scripts zero (suc n) k at = let no : ⊥ = cc at in absurd no
script_within scripts (suc c) n k at =
    elim (slice_get_cases scripts c).1 [
      | inl g ↦ let within = g.1 in (omega arith, omega (arith, within))
      | inr g ↦ absurd (empty n (subst (λ (o : Option (List Call)). slice_get (unwrap_or o []) n ≡ Some k) g.1 at))
    ]
  where
    empty : (n : ℕ) → slice_get {X = Call} [] n ≡ Some k → ⊥
    empty zero is = cc is
    empty (suc n) is = cc is

-- ---- rows at a place

abbrev IsNamedWrite : Entry → Type 0
IsNamedWrite w = AllByRecursion IsNamedOp w.ops × (length w.ops ≤ 16)

record AreGood (rows : RowMap) (most : ℕ) : Type 0 where
  pub few : AreFew rows most
  pub rises : IsRising rows

replayed : (ws : List Entry) (m : RowMap) → AllByRecursion IsNamedRow m → IsRising m → AllByRecursion IsNamedWrite ws → AreGood (replay m ws) (length m + 16 * length ws)
replayed [] m named rises are = record { few = record { named = named; few = omega arith }; rises = rises }
replayed (w ∷ ws) m named rises are =
    let one = rows_few m w.ops named are.0.0 in
    let rest = replayed ws (rows_after m w.ops) one.named (rising_after m w.ops rises) are.1 in
    let first = one.few in
    let ops = are.0.1 in
    let few = rest.few.few in
    record { few = record { named = rest.few.named; few = omega (arith, first, ops, few) }; rises = rest.rises }

take_short : {A : Type 0} (n : ℕ) (xs : List A) → (length (take n xs) ≤ n) × (length (take n xs) ≤ length xs)
take_short zero xs = (omega arith, omega arith)
take_short (suc n) [] = (omega arith, omega arith)
take_short (suc n) (x ∷ xs) = let rest = take_short n xs in let a = rest.0 in let b = rest.1 in (omega (arith, a), omega (arith, b))

-- ---- a verdict

refused_named : (sets : ℕ) (entry : Option Status) (locked : Bool) (mode : Mode) (c : Cause) → NamesSetIn sets entry → verdict_of entry locked mode ≡ verdict.Refused c → CauseNamesSet sets c
refused_named sets (Some Active) locked Ro c names h = let no : ⊥ = cc h in absurd no
refused_named sets (Some Active) false Rw c names h = let no : ⊥ = cc h in absurd no
refused_named sets (Some Active) true Rw c names h = let is : cause.BucketIsLocked ≡ c = cc h in subst (CauseNamesSet sets) is tt
refused_named sets (Some Pinned) locked Ro c names h = let no : ⊥ = cc h in absurd no
refused_named sets (Some Pinned) false Rw c names h = let no : ⊥ = cc h in absurd no
refused_named sets (Some Pinned) true Rw c names h = let is : cause.BucketIsLocked ≡ c = cc h in subst (CauseNamesSet sets) is tt
refused_named sets (Some (Sending d)) locked Ro c names h = let no : ⊥ = cc h in absurd no
refused_named sets (Some (Sending d)) locked Rw c names h = let is : cause.TransferInProgress d ≡ c = cc h in subst (CauseNamesSet sets) is names
refused_named sets (Some (Receiving x)) locked mode c names h = let is : cause.TransferInProgress x ≡ c = cc h in subst (CauseNamesSet sets) is names
refused_named sets (Some (Sent d)) locked mode c names h = let is : cause.WrongBucket (Some d) ≡ c = cc h in subst (CauseNamesSet sets) is names
refused_named sets (Some Garbage) locked mode c names h = let is : cause.WrongBucket None ≡ c = cc h in subst (CauseNamesSet sets) is tt
refused_named sets None locked mode c names h = let is : cause.WrongBucket None ≡ c = cc h in subst (CauseNamesSet sets) is tt

at_named : (s : State) → IsReached s → (x : ℕ) (k : Call) (c : Cause) → verdict_at s x k ≡ verdict.Refused c → CauseNamesSet (sets_of s) c
at_named s r x k c h = by_up (s.up x) h
  where
    by_up : (up : Bool) → (if up then verdict_of ((s.bucket k.bucket).entry x) (is_draining ((s.bucket k.bucket).transfer x)) k.mode else verdict.Refused cause.Down) ≡ verdict.Refused c → CauseNamesSet (sets_of s) c
    by_up true h = refused_named (sets_of s) ((s.bucket k.bucket).entry x) (is_draining ((s.bucket k.bucket).transfer x)) k.mode c (entry_named s r k.bucket x) h
    by_up false h = let is : cause.Down ≡ c = cc h in subst (CauseNamesSet (sets_of s)) is tt

module _ (s : State) (r : IsReached s) (good : IsSpellable s) where
  -- ---- the rows at the beginning, where there is an entry

  bucket_within : (b n : ℕ) (e : Entry) → EntryAt s b n e → (1 ≤ b) × (b ≤ s.config.bucket_count)
  bucket_within b n e at =
      let call = entry_called s r b n e at in
      (lawful s r e.id.client (e.id.call - 1) (record { mode = call.0; bucket = b; ops = e.ops }) call.1.1).bucket

  base_named : (b n : ℕ) (e : Entry) → EntryAt s b n e → AllByRecursion IsNamedRow (s.bucket b).history.base
  base_named b n e at =
      let h = (s.bucket b).history in
      let within = bucket_within b n e at in
      recursion_from_All IsNamedRow h.base (good.rows b within.0 within.1 (told_by h.writes h.reads n e at))

  -- ---- the operations of an entry

  ops_named : (b n : ℕ) (e : Entry) → EntryAt s b n e → IsNamedWrite e
  ops_named b n e at =
      let call = entry_called s r b n e at in
      let k : Call = record { mode = call.0; bucket = b; ops = e.ops } in
      let count = (lawful s r e.id.client (e.id.call - 1) k call.1.1).count in
      (recursion_from_All IsNamedOp e.ops (each_of (λ (k : Call). All IsNamedOp k.ops) (s.client e.id.client).script (e.id.call - 1) k (good.calls e.id.client) call.1.1), count.1)

  some_ops : (b n : ℕ) (e : Entry) → EntryAt s b n e → 1 ≤ length e.ops
  some_ops b n e at =
      let call = entry_called s r b n e at in
      (lawful s r e.id.client (e.id.call - 1) (record { mode = call.0; bucket = b; ops = e.ops }) call.1.1).count.0

  -- ---- the numbers of rows, writes and reads, whose lines the report has

  entries_long : (b : ℕ) (kind : List ℕ) (es : List Entry) → 4 ≤ length kind → ((n : ℕ) (e : Entry) → slice_get es n ≡ Some e → 1 ≤ length e.ops) → 16 * length es ≤ length (lines (history_entry kind) es)
  entries_long b kind es long some = lines_long (history_entry kind) es (all_by_index (λ e. 15 ≤ length (history_entry kind e)) es (λ n e at. entry_long kind e long (some n e at)))

  history_few : (b n : ℕ) (e : Entry) → EntryAt s b n e → length (s.bucket b).history.base + 16 * (length (s.bucket b).history.writes + length (s.bucket b).history.reads) < 2 ^ 64
  history_few b n e at =
      let h = (s.bucket b).history in
      let within = bucket_within b n e at in
      let rows = rows_long h.base in
      let writes = entries_long b (codes "write") h.writes (lit≤ tt) (λ k w there. some_ops b k w (in_writes h.writes h.reads k w there)) in
      let reads = entries_long b (codes "read") h.reads (lit≤ tt) (λ k w there. some_ops b (length h.writes + k) w (in_reads h.writes h.reads k w there)) in
      let whole = history_long b h (told_by h.writes h.reads n e at) in
      let there = report_long s b within.0 within.1 in
      let short = good.short in
      omega (arith, rows, writes, reads, whole, there, short)

  writes_named : (b : ℕ) → AllByRecursion IsNamedWrite (s.bucket b).history.writes
  writes_named b =
      let h = (s.bucket b).history in
      all_by_index IsNamedWrite h.writes (λ n e at. ops_named b n e (in_writes h.writes h.reads n e at))

  rows_good : (b n p : ℕ) (e : Entry) → EntryAt s b n e → AreGood (rows_at (s.bucket b).history p) (length (s.bucket b).history.base + 16 * length (take p (s.bucket b).history.writes))
  rows_good b n p e at =
      let h = (s.bucket b).history in
      replayed (take p h.writes) h.base (base_named b n e at) (base_rises s r b) (take_each IsNamedWrite p h.writes (writes_named b))

  -- ---- an entry

  client_within : (b n : ℕ) (e : Entry) → EntryAt s b n e → (1 ≤ e.id.client) × (e.id.client ≤ 64)
  client_within b n e at =
      let call = entry_called s r b n e at in
      let inputs = input_runs s r in
      let k : Call = record { mode = call.0; bucket = b; ops = e.ops } in
      let within = script_within inputs.scripts.clients e.id.client (e.id.call - 1) k (subst (λ (ks : List Call). slice_get ks (e.id.call - 1) ≡ Some k) (inputs.client e.id.client) call.1.1) in
      let few = (few_runs s r).clients in
      let same = inputs.clients in
      let low = within.0 in
      let high = within.1 in
      (low, omega (arith, high, same, few))

  call_within : (b n : ℕ) (e : Entry) → EntryAt s b n e → (1 ≤ e.id.call) × (e.id.call < 2 ^ 32)
  call_within b n e at =
      let call = entry_called s r b n e at in
      let within = slice_get_within (s.client e.id.client).script (e.id.call - 1) _ call.1.1 in
      let few = (few_runs s r).calls e.id.client in
      let first = call.1.0 in
      (first, omega (arith, within, few, first))

  -- an entry with a place and the answers of the rows at one
  readable : (b n p : ℕ) (e : Entry) → EntryAt s b n e → e.place < 2 ^ 64 → e.answers ≡ answers_to (rows_at (s.bucket b).history p) e.ops
      → length (s.bucket b).history.base + 16 * length (take p (s.bucket b).history.writes) + 16 < 2 ^ 64 → IsReadable e
  readable b n p e at small same room =
      let client = client_within b n e at in
      let call = call_within b n e at in
      let ops = ops_named b n e at in
      let some = some_ops b n e at in
      let few = ops.1 in
      let rows = rows_good b n p e at in
      let most = rows.few.few in
      let given = answers_named (rows_at (s.bucket b).history p) e.ops rows.few.named rows.rises (omega (arith, most, few, room)) ops.0 in
      let many = given.1 in
      record {
        place = small;
        client = client.0;
        client_few = client.1;
        call = call.0;
        call_few = call.1;
        ops = are_named IsNamedOp e.ops some few ops.0;
        answers = subst (AreNamed IsNamedAnswer) (sym same) (are_named IsNamedAnswer (answers_to (rows_at (s.bucket b).history p) e.ops) (omega (arith, many, some)) (omega (arith, many, few)) given.0);
      }

  write_readable : (b n : ℕ) (e : Entry) → slice_get (s.bucket b).history.writes n ≡ Some e → IsReadable e
  write_readable b n e at =
      let h = (s.bucket b).history in
      let legal = legal_runs s r b in
      let within = slice_get_within h.writes n e at in
      let placed = legal.writes_placed n e at in
      let few = history_few b n e (in_writes h.writes h.reads n e at) in
      let short = (take_short n h.writes).0 in
      readable b n n e (in_writes h.writes h.reads n e at) (omega (arith, within, placed, few)) (legal.writes_answered n e at) (omega (arith, within, few, short))

  read_readable : (b n : ℕ) (e : Entry) → slice_get (s.bucket b).history.reads n ≡ Some e → IsReadable e
  read_readable b n e at =
      let h = (s.bucket b).history in
      let legal = legal_runs s r b in
      let within = slice_get_within h.reads n e at in
      let placed = legal.reads_placed n e at in
      let few = history_few b (length h.writes + n) e (in_reads h.writes h.reads n e at) in
      let short = (take_short e.place h.writes).1 in
      readable b (length h.writes + n) e.place e (in_reads h.writes h.reads n e at) (omega (arith, placed, within, few)) (legal.reads_answered n e at) (omega (arith, within, few, short))

  entry_readable : (b n : ℕ) (e : Entry) → EntryAt s b n e → IsReadable e
  entry_readable b n e at =
      let h = (s.bucket b).history in
      elim (in_either h.writes h.reads n e at) [ inl there ↦ write_readable b there.0 e there.1 | inr there ↦ read_readable b there.0 e there.1 ]

  -- ---- a history

  pub history_spelled : (b : ℕ) → IsSpelled (s.bucket b).history
  history_spelled b =
      let h = (s.bucket b).history in
      record {
        base = λ told. (
            let first = first_entry h.writes h.reads told in
            record { named = base_named b 0 first.0 first.1; rising = base_rises s r b });
        writes = all_by_index IsReadable h.writes (write_readable b);
        reads = all_by_index IsReadable h.reads (read_readable b);
        counted = λ told. (
            let first = first_entry h.writes h.reads told in
            let few = history_few b 0 first.0 first.1 in
            record { base = omega (arith, few); writes = omega (arith, few); reads = omega (arith, few) });
      }

  -- ---- an answer

  pub outcome_readable : (c n : ℕ) (o : Outcome) → slice_get (s.client c).answered n ≡ Some o → IsReadableOutcome (sets_of s) o
  outcome_readable c n (Reply place answers) at =
      let k = script_call s r c n (Reply place answers) at in
      let there = stood s r c n k.0 place answers k.1 at in
      let entry = entry_readable k.0.bucket there.m there.entry there.at in
      (subst (λ p. p < 2 ^ 64) there.place_is entry.place, subst (AreNamed IsNamedAnswer) there.answers_are entry.answers)
  outcome_readable c n Lost at = tt
  outcome_readable c n (Spent why) at =
      let w = caused_calls r.config r.scripts r.held r.events s r.runs c n (Spent why) at in
      let last = w.why.last_time in
      let i = w.why.times.index 127 in
      subst (λ n. CauseNamesSet n why) (before_sets s r i last.before last.it.reached) (at_named last.before (before s r i last.before last.it.reached) last.set last.call why last.refused)
