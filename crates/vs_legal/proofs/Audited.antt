-- The account of each state that a run reaches is legal.
use Rattle.std.proofs.Common.{◌≡◌, ◌<◌, ◌≤◌, ℕ, zero, suc, ◌+◌, ◌*◌, ◌^◌, Bool, true, false, not, List, [], ◌∷◌, ◌++◌, length, Some, refl, sym, ap, ◌∙◌, subst, arith, inl, inr, All, get_or}
use Rattle.std.specs.Prelude.{slice_get, ◌==◌, ◌&&◌, filter, ◌-◌}
use Rattle.std.specs.List.{flat_map}
use Rattle.std.proofs.lemmas.Bool.{cases_lt, false_from_ne_true}
use Rattle.std.proofs.lemmas.Bool.Decides.{nat_tests}
use Rattle.std.proofs.lemmas.List.Elements.{filter-append}
use Rattle.std.proofs.lemmas.Option.{slice_get_cases, slice_get_within}
use Rattle.vs_base.specs.declared.numbers.CallId.{CallId}
use Rattle.vs_base.specs.declared.numbers.Mode.{Mode}
use Rattle.vs_base.specs.declared.numbers.Mode.TheVariants.{Ro, Rw}
use Rattle.vs_rows.specs.Said.{Said}
use Rattle.vs_calls.specs.Outcomes as answered
use Rattle.vs_history.specs.History as history
use Rattle.vs_script.specs.Calls as scripts
use Rattle.vs_script.specs.Lawful.{IsLawfulCall}
use Rattle.vs_machine.specs.History as machine
use Rattle.vs_machine.specs.Inner.Once.{all_entries}
use Rattle.vs_machine.specs.Kinds.Connections.{is_null}
use Rattle.vs_machine.specs.Report.{numbers_to}
use Rattle.vs_machine.specs.Runs.{IsReached}
use Rattle.vs_machine.specs.State.{State}
use Rattle.vs_machine.proofs.Due.Steps.{within_runs}
use Rattle.vs_machine.proofs.Inputs.{input_runs, few_runs}
use Rattle.vs_machine.proofs.Kept.Sending.{each_of}
use Rattle.vs_machine.proofs.Opens.{each_script}
use Rattle.vs_machine.proofs.Reached.{reached_whole, legal_runs, answered_runs, ordered_runs}
use Rattle.vs_machine.proofs.Single.{single_runs, all_called, at_place, IsCalled}
use Rattle.vs_audit.proofs.SameCalls.{same_call}
use Rattle.vs_audit.specs.Account.{Entry, History, Outcome, Call}
use Rattle.vs_audit.specs.Legal as audit
use Rattle.vs_audit.specs.Legal.{number_of, is_same, IsLegalAccount, IsReply, Answered}
use Rattle.vs_audit.specs.declared.fault.Illegal.{Illegal}
use Rattle.vs_audit.specs.declared.fault.Illegal.TheVariants.{DoubleCall, WrongPlace, WrongAnswers, NoEntry, WrongOrder}
use Rattle.vs_legal.specs.Account as account
use Rattle.vs_legal.specs.Account.{account_of, entries_from, history_at, lines_of, is_told, histories_from, line_after, first_history_line, told_buckets, id_of, outcome_of}
use Rattle.vs_legal.specs.Laws.{AccountsAreLegal}
use Rattle.vs_legal.proofs.Histories.{IsOf, entry_is_of, right_places, right_answers}
use Rattle.vs_legal.proofs.Entries.{both_are_of, both_there, any_at, filter_none, filter_one}
use Rattle.vs_legal.proofs.Calls.{IsCallOf, IsAnswered, IsOpen, line_is, call_is}
use Rattle.vs_legal.proofs.ReadLines.{from}
use Rattle.vs_legal.proofs.Numbered.{numbers_are}

same_number : (m n : ℕ) → (m == n) ≡ true → m ≡ n
same_number m n h = grind (arith, nat_tests)

is_number : (m n : ℕ) → m ≡ n → (m == n) ≡ true
is_number m n h = grind (arith, nat_tests)

contains_at : {A : Type 0} (xs : List A) (k : ℕ) (x : A) → k < length xs → get_or xs k x ≡ x → slice_get xs k ≡ Some x
contains_at [] k x within is = absurd (omega arith)
contains_at (y ∷ xs) zero x within is = ap Some is
contains_at (y ∷ xs) (suc k) x within is = contains_at xs k x (omega arith) is

pub in_writes : {A : Type 0} (ws rs : List A) (n : ℕ) (x : A) → slice_get ws n ≡ Some x → slice_get (ws ++ rs) n ≡ Some x
in_writes [] rs zero x at = let no : ⊥ = cc at in absurd no
in_writes [] rs (suc n) x at = let no : ⊥ = cc at in absurd no
in_writes (w ∷ ws) rs zero x at = at
in_writes (w ∷ ws) rs (suc n) x at = in_writes ws rs n x at

pub in_reads : {A : Type 0} (ws rs : List A) (n : ℕ) (x : A) → slice_get rs n ≡ Some x → slice_get (ws ++ rs) (length ws + n) ≡ Some x
in_reads [] rs n x at = let e : n ≡ 0 + n = omega arith in subst (λ k. slice_get rs k ≡ Some x) e at
in_reads (w ∷ ws) rs n x at =
    let e : suc (length ws + n) ≡ suc (length ws) + n = omega arith in
    subst (λ k. slice_get (w ∷ (ws ++ rs)) k ≡ Some x) e (in_reads ws rs n x at)

pub told_by : (ws rs : List history.Entry) (n : ℕ) (x : history.Entry) → slice_get (ws ++ rs) n ≡ Some x → not (is_null ws && is_null rs) ≡ true
told_by [] [] zero x at = let no : ⊥ = cc at in absurd no
told_by [] [] (suc n) x at = let no : ⊥ = cc at in absurd no
told_by [] (r ∷ rs) n x at = refl
told_by (w ∷ ws) rs n x at = refl

same_some : {A : Type 0} (x y : A) → Some x ≡ Some y → x ≡ y
same_some x y h = cc

-- the entry of this number in the history of a bucket
abbrev pub EntryAt : State → ℕ → ℕ → history.Entry → Type 0
EntryAt s b n e = slice_get (all_entries (s.bucket b).history) n ≡ Some e

abbrev audited : State → ℕ → ℕ → History
audited s line b = history_at line b (s.bucket b).history

abbrev mode_of : Bool → Mode
mode_of true = Rw
mode_of false = Ro

-- an entry is that of a client's call, which was answered with its place
record Placed (s : State) (b : ℕ) (w : Bool) (e : Entry) (id : CallId) (c : ℕ) : Type 0 where
  pub n : ℕ
  pub place : ℕ
  pub answers : List Said
  pub call : scripts.Call
  pub id_is : id ≡ id_of c (n + 1)
  pub scripted : slice_get (s.client c).script n ≡ Some call
  pub answered : slice_get (s.client c).answered n ≡ Some (answered.Reply place answers)
  pub bucket : call.bucket ≡ b
  pub mode : call.mode ≡ mode_of w
  pub placed : e.place ≡ place

-- a call stands in the history of its bucket with its place and its answers
pub record Stands (s : State) (b : ℕ) (id : CallId) (place : ℕ) (answers : List Said) : Type 0 where
  pub m : ℕ
  pub entry : history.Entry
  pub at : EntryAt s b m entry
  pub id_is : entry.id ≡ id
  pub place_is : entry.place ≡ place
  pub answers_are : entry.answers ≡ answers

-- a call was answered with a reply
record Replied (s : State) (k : Call) : Type 0 where
  pub c : ℕ
  pub n : ℕ
  pub place : ℕ
  pub answers : List Said
  pub id_is : k.id ≡ id_of c (n + 1)
  pub answered : slice_get (s.client c).answered n ≡ Some (answered.Reply place answers)

-- an entry of an account stands so in the cluster
record Found (s : State) (b : ℕ) (w : Bool) (e : Entry) : Type 0 where
  pub m : ℕ
  pub entry : history.Entry
  pub at : EntryAt s b m entry
  pub is : IsOf e entry
  pub called : machine.IsCallOf (machine.scripts_of s) b (mode_of w) entry

module _ (s : State) (r : IsReached s) where
  -- ---- calls

  pub entry_called : (b n : ℕ) (e : history.Entry) → EntryAt s b n e → IsCalled (machine.scripts_of s) b e
  entry_called b n e at =
      at_place (IsCalled (machine.scripts_of s) b) (all_entries (s.bucket b).history) n e at
      (all_called s.client b (s.bucket b).history ((reached_whole s r).1.once.entries b))

  entry_small : (b n : ℕ) (e : history.Entry) → EntryAt s b n e → e.id.call < 2 ^ 32
  entry_small b n e at =
      let call = entry_called b n e at in
      let within = slice_get_within (s.client e.id.client).script (e.id.call - 1) _ call.1.1 in
      let few = (few_runs s r).calls e.id.client in
      omega arith

  same_entry : (b d m n : ℕ) (e f : history.Entry) → EntryAt s b m e → EntryAt s d n f → number_of e.id ≡ number_of f.id → (b ≡ d) × (m ≡ n)
  same_entry b d m n e f at there same = single_runs s r b d m n e f at there (same_call e.id f.id (entry_small b m e at) (entry_small d n f there) same)

  -- ---- histories

  no_double : (l line b : ℕ) → audit.HistoryFault (audited s line b) l DoubleCall → ⊥
  no_double l line b (n, e, at, is, double) =
      let h = (s.bucket b).history in
      let w = line + 1 + length h.base in
      let first = any_at (λ (o : Entry). is_same o.id e.id) (audit.entries_of (audited s line b)) n double in
      let later = both_are_of w (w + length h.writes) h.writes h.reads n e at in
      let before = both_are_of w (w + length h.writes) h.writes h.reads first.0 first.1 first.3 in
      let numbers : number_of before.0.id ≡ number_of later.0.id =
      sym (ap number_of before.2.id) ∙ same_number (number_of first.1.id) (number_of e.id) first.4 ∙ ap number_of later.2.id in
      let same = same_entry b b first.0 n before.0 later.0 before.1 later.1 numbers in
      let below : first.0 < n = first.2 in
      let equal : first.0 ≡ n = same.1 in
      omega (arith, below, equal)

  right_history : (l line b : ℕ) (kind : Illegal) → audit.HistoryFault (audited s line b) l kind → ⊥
  right_history l line b DoubleCall f = no_double l line b f
  right_history l line b WrongPlace f = right_places (machine.scripts_of s) line b (s.bucket b).history (legal_runs s r b) l f
  right_history l line b WrongAnswers f = right_answers (machine.scripts_of s) line b (s.bucket b).history (legal_runs s r b) l f
  right_history l line b NoEntry f = f
  right_history l line b WrongOrder f = f

  history_is : (bs : List ℕ) (line n : ℕ) (h : History) → slice_get (histories_from s line bs) n ≡ Some h → (b : ℕ) × (l : ℕ) × (audited s l b ≡ h)
  history_is [] line zero h at = let no : ⊥ = cc at in absurd no
  history_is [] line (suc n) h at = let no : ⊥ = cc at in absurd no
  history_is (b ∷ bs) line zero h at = (b, line, same_some (audited s line b) h at)
  history_is (b ∷ bs) line (suc n) h at = history_is bs (line + lines_of (s.bucket b).history) n h at

  -- ---- entries of a call

  -- no entry of the bucket is of the call
  abbrev IsApart : CallId → ℕ → Type 0
  IsApart id b = (n : ℕ) (e : history.Entry) → EntryAt s b n e → number_of e.id ≡ number_of id → ⊥

  none_there : (id : CallId) (line b : ℕ) → IsApart id b → filter (λ (e : Entry). is_same e.id id) (audit.entries_of (audited s line b)) ≡ []
  none_there id line b apart =
      let h = (s.bucket b).history in
      let w = line + 1 + length h.base in
      filter_none (λ (e : Entry). is_same e.id id) (audit.entries_of (audited s line b)) (λ n e at.
      let there = both_are_of w (w + length h.writes) h.writes h.reads n e at in
      false_from_ne_true (is_same e.id id) (λ same. apart n there.0 there.1 (sym (ap number_of there.2.id) ∙ same_number (number_of e.id) (number_of id) same)))

  one_there : (id : CallId) (line b n : ℕ) (e : history.Entry) → EntryAt s b n e → number_of e.id ≡ number_of id
      → (f : Entry) × (filter (λ (e : Entry). is_same e.id id) (audit.entries_of (audited s line b)) ≡ f ∷ []) × IsOf f e
  one_there id line b n e at same =
      let h = (s.bucket b).history in
      let w = line + 1 + length h.base in
      let f = both_there w (w + length h.writes) h.writes h.reads n e at in (
        f.0,
        filter_one (λ (e : Entry). is_same e.id id) (audit.entries_of (audited s line b)) n f.0 f.1
            (is_number (number_of f.0.id) (number_of id) (ap number_of f.2.id ∙ same))
            (λ m g there passes.
            let other = both_are_of w (w + length h.writes) h.writes h.reads m g there in
            (same_entry b b m n other.0 e other.1 at (sym (ap number_of other.2.id) ∙ same_number (number_of g.id) (number_of id) passes ∙ sym same)).1),
        f.2,
      )

  abbrev told_among : List ℕ → List ℕ
  told_among bs = filter (λ b. is_told (s.bucket b).history) bs

  -- a call stands in none of these histories
  nowhere : (id : CallId) (m k line : ℕ) → ((b : ℕ) → k ≤ b → b < k + m → IsApart id b) → audit.entries_with id (histories_from s line (told_among (from k m))) ≡ []
  nowhere id zero k line apart = refl
  nowhere id (suc m) k line apart =
      by_told (λ l. nowhere id m (k + 1) l (λ b low high. apart b (omega arith) (omega arith))) (is_told (s.bucket k).history) refl
    where
      by_told : ((l : ℕ) → audit.entries_with id (histories_from s l (told_among (from (k + 1) m))) ≡ []) → (t : Bool) → is_told (s.bucket k).history ≡ t
          → audit.entries_with id (histories_from s line (told_among (from k (suc m)))) ≡ []
      by_told rest false is = rw is (rest line)
      by_told rest true is =
          rw (
            is,
            filter-append (λ (e : Entry). is_same e.id id) (audit.entries_of (audited s line k)) (flat_map audit.entries_of (histories_from s (line + lines_of (s.bucket k).history) (told_among (from (k + 1) m)))),
            none_there id line k (apart k (omega arith) (omega arith)),
          )
          (rest (line + lines_of (s.bucket k).history))

  -- or once
  once : (id : CallId) (d n : ℕ) (e : history.Entry) → EntryAt s d n e → number_of e.id ≡ number_of id → (m k line : ℕ) → k ≤ d → d < k + m
      → (f : Entry) × (audit.entries_with id (histories_from s line (told_among (from k m))) ≡ f ∷ []) × IsOf f e
  once id d n e at same zero k line low high = absurd (omega arith)
  once id d n e at same (suc m) k line low high =
      by_told (λ l below. once id d n e at same m (k + 1) l (omega (arith, below)) (omega arith)) (is_told (s.bucket k).history) refl
    where
      others_apart : (b : ℕ) → (b ≡ d → ⊥) → IsApart id b
      others_apart b other q f there equal = other (same_entry b d q n f e there at (equal ∙ sym same)).0

      split : is_told (s.bucket k).history ≡ true → audit.entries_with id (histories_from s line (told_among (from k (suc m))))
          ≡ filter (λ (e : Entry). is_same e.id id) (audit.entries_of (audited s line k)) ++ audit.entries_with id (histories_from s (line + lines_of (s.bucket k).history) (told_among (from (k + 1) m)))
      split is = rw is (filter-append (λ (e : Entry). is_same e.id id) (audit.entries_of (audited s line k)) (flat_map audit.entries_of (histories_from s (line + lines_of (s.bucket k).history) (told_among (from (k + 1) m)))))

      here : (k ≡ d) → is_told (s.bucket k).history ≡ true → (f : Entry) × (audit.entries_with id (histories_from s line (told_among (from k (suc m)))) ≡ f ∷ []) × IsOf f e
      here equal is =
          let one = one_there id line k n e (subst (λ b. EntryAt s b n e) (sym equal) at) same in
          let none = nowhere id m (k + 1) (line + lines_of (s.bucket k).history) (λ b l h. others_apart b (λ no. omega arith)) in
          (one.0, split is ∙ rw (one.1, none) refl, one.2)

      by_told : ((l : ℕ) → k < d → (f : Entry) × (audit.entries_with id (histories_from s l (told_among (from (k + 1) m))) ≡ f ∷ []) × IsOf f e) → (t : Bool) → is_told (s.bucket k).history ≡ t
          → (f : Entry) × (audit.entries_with id (histories_from s line (told_among (from k (suc m)))) ≡ f ∷ []) × IsOf f e
      by_told rest true is = elim (cases_lt k d) [
        | inl below ↦
            let later = rest (line + lines_of (s.bucket k).history) below in
            let none = none_there id line k (others_apart k (λ equal. omega arith)) in
            (later.0, split is ∙ rw (none, later.1) refl, later.2)
        | inr above ↦ (let equal : k ≡ d = omega arith in here equal is)
      ]
      by_told rest false is = elim (cases_lt k d) [
        | inl below ↦ (let later = rest line below in (later.0, rw is later.1, later.2))
        | inr above ↦
            (let equal : k ≡ d = omega arith in
            let told : is_told (s.bucket k).history ≡ true = told_by (s.bucket k).history.writes (s.bucket k).history.reads n e (subst (λ b. EntryAt s b n e) (sym equal) at) in
            let no : ⊥ = cc (told, is) in
            absurd no)
      ]

  -- ---- answered calls

  pub script_call : (c n : ℕ) (o : answered.Outcome) → slice_get (s.client c).answered n ≡ Some o → (k : scripts.Call) × (slice_get (s.client c).script n ≡ Some k)
  script_call c n o at =
      let within = slice_get_within (s.client c).answered n o at in
      let some = (within_runs s r).clients c in
      elim (slice_get_cases (s.client c).script n).1 [ inl g ↦ (g.0, g.2) | inr g ↦ absurd (omega arith) ]

  pub lawful : (c n : ℕ) (k : scripts.Call) → slice_get (s.client c).script n ≡ Some k → IsLawfulCall s.config.bucket_count k
  lawful c n k at =
      let h = input_runs s r in
      let P : scripts.Call → Type 0 = IsLawfulCall s.config.bucket_count in
      each_of P (s.client c).script n k (subst (All P) (sym (h.client c)) (each_script P h.scripts.clients c h.lawful.calls)) at

  answered_small : (c n : ℕ) (o : answered.Outcome) → slice_get (s.client c).answered n ≡ Some o → n + 1 < 2 ^ 32
  answered_small c n o at =
      let within = slice_get_within (s.client c).answered n o at in
      let some = (within_runs s r).clients c in
      let few = (few_runs s r).calls c in
      omega arith

  by_mode : (b : ℕ) (mode : Mode) (id : CallId) (place : ℕ) (answers : List Said) → machine.StandsWith (machine.entries_of (s.bucket b).history mode) id place answers → Stands s b id place answers
  by_mode b Rw id place answers (e, there, same, placed, given) =
      let h = (s.bucket b).history in
      record { m = there.0; entry = e; at = in_writes h.writes h.reads there.0 e (contains_at h.writes there.0 e there.1 there.2); id_is = same; place_is = placed; answers_are = given }
  by_mode b Ro id place answers (e, there, same, placed, given) =
      let h = (s.bucket b).history in
      record { m = length h.writes + there.0; entry = e; at = in_reads h.writes h.reads there.0 e (contains_at h.reads there.0 e there.1 there.2); id_is = same; place_is = placed; answers_are = given }

  pub stood : (c n : ℕ) (k : scripts.Call) (place : ℕ) (answers : List Said) → slice_get (s.client c).script n ≡ Some k → slice_get (s.client c).answered n ≡ Some (answered.Reply place answers)
      → Stands s k.bucket (id_of c (n + 1)) place answers
  stood c n k place answers at given = by_mode k.bucket k.mode (id_of c (n + 1)) place answers (answered_runs s r c n k (answered.Reply place answers) at given)

  in_account : (id : CallId) → audit.entries_with id (account_of s).histories ≡ audit.entries_with id (histories_from s (first_history_line s) (told_among (from 1 s.config.bucket_count)))
  in_account id = ap (λ (bs : List ℕ). audit.entries_with id (histories_from s (first_history_line s) (told_among bs))) (numbers_are s.config.bucket_count)

  has_entry : (c n : ℕ) (o : answered.Outcome) → slice_get (s.client c).answered n ≡ Some o → audit.LacksEntry (account_of s) (id_of c (n + 1)) (outcome_of o) → ⊥
  has_entry c n (answered.Reply place answers) at lacks =
      let k = script_call c n (answered.Reply place answers) at in
      let there = stood c n k.0 place answers k.1 at in
      let bucket = (lawful c n k.0 k.1).bucket in
      let low : 1 ≤ k.0.bucket = bucket.0 in
      let high : k.0.bucket ≤ s.config.bucket_count = bucket.1 in
      let one = once (id_of c (n + 1)) k.0.bucket there.m there.entry there.at (ap number_of there.id_is) s.config.bucket_count 1 (first_history_line s) low (omega arith) in
      lacks (inl (one.0, in_account (id_of c (n + 1)) ∙ one.1, one.2.place ∙ there.place_is, one.2.answers ∙ there.answers_are))
  has_entry c n answered.Lost at lacks = lacks
  has_entry c n (answered.Spent cause) at lacks =
      let k = script_call c n (answered.Spent cause) at in
      let none = answered_runs s r c n k.0 (answered.Spent cause) k.1 at in
      let apart : (b : ℕ) → IsApart (id_of c (n + 1)) b = λ b m e there same.
      at_place (λ (e : history.Entry). e.id ≡ id_of c (n + 1) → ⊥) (all_entries (s.bucket b).history) m e there (none b)
      (same_call e.id (id_of c (n + 1)) (entry_small b m e there) (answered_small c n (answered.Spent cause) at) same) in
      lacks (in_account (id_of c (n + 1)) ∙ nowhere (id_of c (n + 1)) s.config.bucket_count 1 (first_history_line s) (λ b _ _. apart b))

  -- ---- order

  replied_by : (k : Call) (c : ℕ) (x : CallId × Outcome) → IsCallOf (s.client c) c x → k.id ≡ x.0 → k.outcome ≡ x.1 → IsReply k.outcome → Replied s k
  replied_by k c x (IsAnswered n (answered.Reply place answers) at id out) same is reply = record { c = c; n = n; place = place; answers = answers; id_is = same ∙ id; answered = at }
  replied_by k c x (IsAnswered n answered.Lost at id out) same is reply = absurd (subst IsReply (is ∙ out) reply)
  replied_by k c x (IsAnswered n (answered.Spent cause) at id out) same is reply = absurd (subst IsReply (is ∙ out) reply)
  replied_by k c x (IsOpen is_open) same is reply = absurd (subst IsReply (is ∙ is_open) reply)

  found : (line b : ℕ) (w : Bool) (e : Entry) → audit.StandsIn (audited s line b) w e → Found s b w e
  found line b true e (n, at) =
      let h = (s.bucket b).history in
      let there = entry_is_of (line + 1 + length h.base) h.writes n e at in
      record {
        m = n;
        entry = there.0;
        at = in_writes h.writes h.reads n there.0 there.1;
        is = there.2;
        called = each_of (machine.IsCallOf (machine.scripts_of s) b Rw) h.writes n there.0 (legal_runs s r b).writes_called there.1;
      }
  found line b false e (n, at) =
      let h = (s.bucket b).history in
      let there = entry_is_of (line + 1 + length h.base + length h.writes) h.reads n e at in
      record {
        m = length h.writes + n;
        entry = there.0;
        at = in_reads h.writes h.reads n there.0 there.1;
        is = there.2;
        called = each_of (machine.IsCallOf (machine.scripts_of s) b Ro) h.reads n there.0 (legal_runs s r b).reads_called there.1;
      }

  same_place : (b m n : ℕ) (e f : history.Entry) → EntryAt s b m e → EntryAt s b n f → m ≡ n → e ≡ f
  same_place b m n e f at there same = same_some e f (sym at ∙ ap (λ (k : ℕ). slice_get (all_entries (s.bucket b).history) k) same ∙ there)

  placed_by : (line b : ℕ) (w : Bool) (e : Entry) (k : Call) → Found s b w e → number_of e.id ≡ number_of k.id → (p : Replied s k) → Placed s b w e k.id p.c
  placed_by line b w e k f number p =
      let k' = script_call p.c p.n (answered.Reply p.place p.answers) p.answered in
      let call = k'.0 in
      let there = stood p.c p.n call p.place p.answers k'.1 p.answered in
      let numbers : number_of f.entry.id ≡ number_of there.entry.id =
      sym (ap number_of f.is.id) ∙ number ∙ ap number_of p.id_is ∙ sym (ap number_of there.id_is) in
      let same = same_entry b call.bucket f.m there.m f.entry there.entry f.at there.at numbers in
      let entry : f.entry ≡ there.entry = same_place call.bucket f.m there.m f.entry there.entry (subst (λ d. EntryAt s d f.m f.entry) same.0 f.at) there.at same.1 in
      let id : f.entry.id ≡ id_of p.c (p.n + 1) = ap (λ (h : history.Entry). h.id) entry ∙ there.id_is in
      let index : p.n + 1 - 1 ≡ p.n = omega arith in
      let scripted : slice_get (s.client p.c).script p.n ≡ Some (record { mode = mode_of w; bucket = b; ops = f.entry.ops }) =
      sym (ap (λ (n : ℕ). slice_get (s.client p.c).script n) index) ∙ sym (ap (λ (id : CallId). slice_get (s.client id.client).script (id.call - 1)) id) ∙ f.called.1 in
      let calls : call ≡ record { mode = mode_of w; bucket = b; ops = f.entry.ops } = same_some call (record { mode = mode_of w; bucket = b; ops = f.entry.ops }) (sym k'.1 ∙ scripted) in
      record {
        n = p.n;
        place = p.place;
        answers = p.answers;
        call = call;
        id_is = p.id_is;
        scripted = k'.1;
        answered = p.answered;
        bucket = sym same.0;
        mode = ap (λ (k : scripts.Call). k.mode) calls;
        placed = f.is.place ∙ ap (λ (h : history.Entry). h.place) entry ∙ there.place_is;
      }

  keeps_order : (b c : ℕ) (v w : Bool) (d e : Entry) (i j : CallId) → Placed s b v d i c → Placed s b w e j c → number_of i < number_of j → audit.IsTooLow d w e → ⊥
  keeps_order b c v w d e i j first second earlier low =
      let before : number_of i ≡ c * 2 ^ 32 + (first.n + 1) = ap number_of first.id_is in
      let after : number_of j ≡ c * 2 ^ 32 + (second.n + 1) = ap number_of second.id_is in
      let rises : first.n < second.n = omega arith in
      let order = ordered_runs s r c first.n second.n first.place second.place first.call second.call first.answers second.answers rises
      first.scripted second.scripted (first.bucket ∙ sym second.bucket) first.answered second.answered in
      by_kind w low (subst (λ (m : Mode). machine.IsPlacedAfter first.place m second.place) second.mode order)
    where
      by_kind : (w : Bool) → audit.IsTooLow d w e → machine.IsPlacedAfter first.place (mode_of w) second.place → ⊥
      by_kind true low order = let p = first.placed in let q = second.placed in omega (arith, low, order, p, q)
      by_kind false low order = let p = first.placed in let q = second.placed in omega (arith, low, order, p, q)

  -- ---- the whole account

  line_call : (n : ℕ) (k : Call) → slice_get (account_of s).calls n ≡ Some k → (c : ℕ) × (x : CallId × Outcome) × IsCallOf (s.client c) c x × (k.id ≡ x.0) × (k.outcome ≡ x.1)
  line_call n k at =
      let line = line_is (line_after s (first_history_line s) (told_buckets s)) (flat_map (λ c. account.calls_of c (s.client c)) (numbers_to s.clients)) n k at in
      let call = call_is s.client (numbers_to s.clients) line.1 line.0 line.2 in
      (call.0, line.0, call.1, line.3, line.4)

  answered_by : (line b : ℕ) (k : Call) (w : Bool) (e : Entry) → Answered (account_of s).calls (audited s line b) k w e → (c : ℕ) × Placed s b w e k.id c
  answered_by line b k w e a =
      let x = line_call a.line.0 k a.line.1 in
      let p = replied_by k x.0 x.1 x.2 x.3 x.4 a.reply in
      (p.c, placed_by line b w e k (found line b w e a.stands) a.same p)

  in_order : (line b : ℕ) (k : Call) → audit.IsOutOfOrder (account_of s).calls (audited s line b) k → ⊥
  in_order line b k o =
      let first = answered_by line b o.earlier o.is_write_before o.before o.first in
      let second = answered_by line b k o.is_write o.after o.second in
      let same : first.0 ≡ second.0 =
      sym (ap (λ (i : CallId). i.client) first.1.id_is) ∙ o.order.0 ∙ ap (λ (i : CallId). i.client) second.1.id_is in
      keeps_order b second.0 o.is_write_before o.is_write o.before o.after o.earlier.id k.id
      (subst (λ c. Placed s b o.is_write_before o.before o.earlier.id c) same first.1) second.1 o.order.1 o.low

  lacks_none : (k : Call) (c : ℕ) (x : CallId × Outcome) → IsCallOf (s.client c) c x → k.id ≡ x.0 → k.outcome ≡ x.1 → audit.LacksEntry (account_of s) k.id k.outcome → ⊥
  lacks_none k c x (IsAnswered n o at id out) same is lacks =
      has_entry c n o at (subst (λ (i : CallId). audit.LacksEntry (account_of s) i (outcome_of o)) (same ∙ id) (subst (λ (q : Outcome). audit.LacksEntry (account_of s) k.id q) (is ∙ out) lacks))
  lacks_none k c x (IsOpen is_open) same is lacks = subst (λ (q : Outcome). audit.LacksEntry (account_of s) k.id q) (is ∙ is_open) lacks

  right_call : (n : ℕ) (k : Call) (kind : Illegal) → slice_get (account_of s).calls n ≡ Some k → audit.CallFault (account_of s) k kind → ⊥
  right_call n k DoubleCall at f = f
  right_call n k WrongPlace at f = f
  right_call n k WrongAnswers at f = f
  right_call n k NoEntry at f = let x = line_call n k at in lacks_none k x.0 x.1 x.2 x.3 x.4 f
  right_call n k WrongOrder at (m, h, there, out) =
      let b = history_is (told_buckets s) (first_history_line s) m h there in
      in_order b.1 b.0 k (subst (λ (h : History). audit.IsOutOfOrder (account_of s).calls h k) (sym b.2) out)

  legal : IsLegalAccount (account_of s)
  legal line kind (inl (n, h, at, f)) =
      let b = history_is (told_buckets s) (first_history_line s) n h at in
      right_history line b.1 b.0 kind (subst (λ (h : History). audit.HistoryFault h line kind) (sym b.2) f)
  legal line kind (inr (n, k, at, is, f)) = right_call n k kind at f

-- the account of each state that a run reaches is legal
pub accounts_are_legal : AccountsAreLegal
accounts_are_legal s r = legal s r
