-- What is at rest in a cluster that is settled.
use Rattle.std.proofs.Common.{inl, inr, ◌≡◌, ℕ, zero, suc, ◌+◌, ◌<◌, ◌≤◌, Bool, true, false, cond, refl, sym, ap, subst, ◌∙◌, arith, List, [], ◌∷◌, length, Option, Some, None}
use Rattle.std.specs.Prelude.{◌≢◌, ◌⊎◌, ◌==◌, ◌&&◌, if◌then◌else◌, slice_index_or}
use Rattle.std.specs.Option.{option_map_or}
use Rattle.std.specs.Ordering.{nat_cmp, is_eq}
use Rattle.std.proofs.lemmas.Bool.{cases_eq, eqb-false, ne_eqb}
use Rattle.std.proofs.lemmas.Bool.Decides.{nat_tests}
use Rattle.std.proofs.lemmas.Option.{slice_get_past}
use Rattle.vs_table.specs.Entries.{value_of}
use Rattle.vs_space.specs.declared.status.Status.{Status}
use Rattle.vs_space.specs.declared.status.Status.TheVariants.{Active, Pinned, Sending, Receiving, Sent, Garbage}
use Rattle.vs_space.specs.declared.status.StatusKind.{StatusKind}
use Rattle.vs_space.specs.declared.status.StatusKind.TheVariants as kind
use Rattle.vs_calls.specs.declared.stage.Stage.TheVariants.{Idle}
use Rattle.vs_link.specs.Connection.{Connection, unused, first}
use Rattle.vs_link.specs.Links.{is_set, line_of, no_line, place_of}
use Rattle.vs_send.specs.declared.transfer.Transfer.{Transfer}
use Rattle.vs_machine.specs.Coherence.{IsServing}
use Rattle.vs_machine.specs.Inner.Buckets.{BucketFits}
use Rattle.vs_machine.specs.Inner.Owner.{Owns, Beside}
use Rattle.vs_machine.specs.Settling.{AreUp, HasNoMessage, IsAtOne, IsEmpty, IsSettled, IsSilent}
use Rattle.vs_machine.specs.State as machine
use Rattle.vs_machine.specs.State.{sets_of, has_set, has_bucket, is_link}
use Rattle.vs_machine.specs.Tables.{is_to}
use Rattle.vs_machine.specs.Whole.{Whole}
use Rattle.vs_machine.proofs.Counts.{counts_none, none_counted}
use Rattle.vs_machine.proofs.Possible.{both_are}
use Rattle.vs_state.specs.declared.state.State.{State}
use Rattle.vs_state.specs.declared.tables.SetTables.{SetTables}
use Rattle.vs_machine.specs.Opening.{client_at}
use Rattle.vs_state.specs.Plain.{plain, client, transfer_in}
use Rattle.vs_state.specs.Statuses.{has_kind, number_at}
use Rattle.vs_state.specs.Tables.{numbered}
use Rattle.vs_survey.specs.Readers.{AreIdle, IsAtRest, AreAtRest, ArePlaced, HasNoTransfer, IsSilentFrom}
use Rattle.vs_core.proofs.Numbered.{numbered_of}

-- ---- entries

-- there is no entry, or the set takes reads and writes
abbrev IsCalm : Option Status → Type 0
IsCalm None = Unit {0}
IsCalm (Some Active) = Unit {0}
IsCalm (Some Pinned) = Unit {0}
IsCalm entry = ⊥

-- no set has a bucket of this kind in a settled cluster
abbrev IsRestless : StatusKind → Type 0
IsRestless kind.Active = ⊥
IsRestless kind.Pinned = ⊥
IsRestless k = Unit {0}

calm_has : (k : StatusKind) (e : Option Status) → IsRestless k → IsCalm e → has_kind k e ≡ false
calm_has k None restless calm = refl
calm_has kind.Active (Some Active) restless calm = absurd restless
calm_has kind.Pinned (Some Active) restless calm = absurd restless
calm_has kind.Sending (Some Active) restless calm = refl
calm_has kind.Receiving (Some Active) restless calm = refl
calm_has kind.Sent (Some Active) restless calm = refl
calm_has kind.Garbage (Some Active) restless calm = refl
calm_has kind.Active (Some Pinned) restless calm = absurd restless
calm_has kind.Pinned (Some Pinned) restless calm = absurd restless
calm_has kind.Sending (Some Pinned) restless calm = refl
calm_has kind.Receiving (Some Pinned) restless calm = refl
calm_has kind.Sent (Some Pinned) restless calm = refl
calm_has kind.Garbage (Some Pinned) restless calm = refl
calm_has k (Some (Sending d)) restless calm = absurd calm
calm_has k (Some (Receiving x)) restless calm = absurd calm
calm_has k (Some (Sent d)) restless calm = absurd calm
calm_has k (Some Garbage) restless calm = absurd calm

is_calm : (e : Option Status) → ((k : StatusKind) → IsRestless k → has_kind k e ≡ true → ⊥) → IsCalm e
is_calm None none = tt
is_calm (Some Active) none = tt
is_calm (Some Pinned) none = tt
is_calm (Some (Sending d)) none = none kind.Sending tt refl
is_calm (Some (Receiving x)) none = none kind.Receiving tt refl
is_calm (Some (Sent d)) none = none kind.Sent tt refl
is_calm (Some Garbage) none = none kind.Garbage tt refl

none_calm : (e : Option Status) → e ≡ None → IsCalm e
none_calm e is = subst IsCalm (sym is) tt

serving_calm : (e : Option Status) → IsServing e → IsCalm e
serving_calm None h = absurd h
serving_calm (Some Active) h = tt
serving_calm (Some Pinned) h = tt
serving_calm (Some (Sending d)) h = absurd h
serving_calm (Some (Receiving x)) h = absurd h
serving_calm (Some (Sent d)) h = absurd h
serving_calm (Some Garbage) h = absurd h

at_one_calm : (entry : ℕ → Option Status) → IsAtOne entry → (x : ℕ) → IsCalm (entry x)
at_one_calm entry h x = by (cases_eq x h.at)
  where
    by : (x ≡ h.at) ⊎ (x ≢ h.at) → IsCalm (entry x)
    by (inl is) = subst (λ y. IsCalm (entry y)) (sym is) (serving_calm (entry h.at) h.serving)
    by (inr ne) = none_calm (entry x) (h.only x ne)

-- the owner of a bucket takes reads and writes, and no other set has an entry
owner_serves : (o : ℕ) (e : Option Status) → Owns o e → 1 ≤ o → IsCalm e → IsServing e
owner_serves o None f real calm = absurd (omega (arith, f, real))
owner_serves o (Some Active) f real calm = tt
owner_serves o (Some Pinned) f real calm = tt
owner_serves o (Some (Sending d)) f real calm = absurd calm
owner_serves o (Some (Receiving x)) f real calm = absurd calm
owner_serves o (Some (Sent d)) f real calm = absurd calm
owner_serves o (Some Garbage) f real calm = absurd calm

other_gone : (o y : ℕ) (has e : Option Status) → Beside o has y e → IsCalm e → e ≡ None
other_gone o y has None f calm = refl
other_gone o y has (Some Active) f calm = absurd f
other_gone o y has (Some Pinned) f calm = absurd f
other_gone o y has (Some (Sending d)) f calm = absurd f
other_gone o y has (Some (Receiving x)) f calm = absurd calm
other_gone o y has (Some (Sent d)) f calm = absurd calm
other_gone o y has (Some Garbage) f calm = absurd calm

number_of : (s : machine.State) (x : ℕ) → IsAtRest s x → (k : StatusKind) → IsRestless k → number_at s x k ≡ 0
number_of s x h kind.Active restless = absurd restless
number_of s x h kind.Pinned restless = absurd restless
number_of s x h kind.Sending restless = h.sending
number_of s x h kind.Receiving restless = h.receiving
number_of s x h kind.Sent restless = h.sent
number_of s x h kind.Garbage restless = h.garbage

within : (n k : ℕ) → 1 ≤ k → k ≤ n → is_to n k ≡ true
within n k from to = grind (arith, nat_tests)

module _ (own : ℕ → ℕ) (s : machine.State) (w : Whole own s) where
  pub placed : AreAtRest s → ArePlaced s
  placed rests b from to = record {
    at = own b;
    serving = owner_serves (own b) _ f.placed.owner (w.inner.real b here) (calm (own b));
    only = λ y ne. other_gone (own b) y _ _ (f.placed.beside y ne) (calm y);
  }
    where
      f : BucketFits (sets_of s) (own b) (s.bucket b)
      f = w.inner.buckets b

      here : has_bucket s b ≡ true
      here = within s.config.bucket_count b from to

      at_set : (y : ℕ) → 1 ≤ y → y ≤ sets_of s → IsCalm ((s.bucket b).entry y)
      at_set y first last = is_calm _ (λ k restless has. none_counted (λ b. has_kind k ((s.bucket b).entry y)) s.config.bucket_count (number_of s y (rests y first last) k restless) b here has)

      outside : (y : ℕ) (e : Option Status) → (s.bucket b).entry y ≡ e → IsCalm ((s.bucket b).entry y)
      outside y None is = none_calm _ is
      outside y (Some st) is = let to = w.bounds b y (λ e. absurd (cc (e, is))) in at_set y to.0 to.1

      calm : (y : ℕ) → IsCalm ((s.bucket b).entry y)
      calm y = outside y ((s.bucket b).entry y) refl

  pub at_rest : ArePlaced s → AreAtRest s
  at_rest ones x from to = record {
    sending = number kind.Sending tt;
    receiving = number kind.Receiving tt;
    sent = number kind.Sent tt;
    garbage = number kind.Garbage tt;
  }
    where
      known : (b : ℕ) → has_bucket s b ≡ true → IsCalm ((s.bucket b).entry x)
      known b here = at_one_calm (s.bucket b).entry (ones b (grind (arith, nat_tests, here)) (grind (arith, nat_tests, here))) x

      calm : (b : ℕ) (e : Option Status) → (s.bucket b).entry x ≡ e → IsCalm ((s.bucket b).entry x)
      calm b None is = none_calm _ is
      calm b (Some st) is = known b (w.known b x (λ e. absurd (cc (e, is))))

      number : (k : StatusKind) → IsRestless k → number_at s x k ≡ 0
      number k restless = counts_none (λ b. has_kind k ((s.bucket b).entry x)) s.config.bucket_count (λ b. calm_has k ((s.bucket b).entry x) restless (calm b ((s.bucket b).entry x) refl))

-- ---- the whole

pub settled_by : (s : machine.State) → AreUp s → ArePlaced s → ((b x : ℕ) → (s.bucket b).transfer x ≡ None) → AreIdle s → IsSilent s → IsSettled s
settled_by s up placed moves idle silent = record {
  up = up;
  placed = placed;
  no_transfer = moves;
  no_open_call = idle;
  no_message = λ x y ne. (silent x y ne).calls;
  no_reply = λ x y ne. (silent x y ne).replies;
}

-- ---- transfers

itself : (k : ℕ) → is_eq (nat_cmp k k) ≡ true
itself k = grind (arith, nat_tests)

none_kept : (es : List (ℕ × Transfer)) → ((b : ℕ) → value_of nat_cmp es b ≡ None) → es ≡ []
none_kept [] none = refl
none_kept (e ∷ es) none =
    let here : value_of nat_cmp (e ∷ es) e.0 ≡ Some e.1 = ap (λ (t : Bool). cond t (Some e.1) (value_of nat_cmp es e.0)) (itself e.0) in
    absurd (cc (here, none e.0))

module _ (s : State) where
  transfer_at : (x : ℕ) (t : SetTables) → numbered Some None s.sets.items x ≡ Some t → (b : ℕ) → ((plain s).bucket b).transfer x ≡ transfer_in t b
  transfer_at x t is b = numbered_of (λ t. transfer_in t b) None s.sets.items x t is

  pub no_transfer : (x : ℕ) (t : SetTables) → Some t ≡ numbered Some None s.sets.items x → t.transfers.items ≡ [] → HasNoTransfer (plain s) x
  no_transfer x t is none b = transfer_at x t (sym is) b ∙ ap (λ es. value_of nat_cmp es b) none

  pub kept_none : (x : ℕ) (t : SetTables) → Some t ≡ numbered Some None s.sets.items x → HasNoTransfer (plain s) x → t.transfers.items ≡ []
  kept_none x t is none = none_kept t.transfers.items (λ b. sym (transfer_at x t (sym is) b) ∙ none b)

  -- what holds of the sets holds of every number
  pub transfers_everywhere : length s.sets.items ≡ length s.config.sets.items → ((x : ℕ) → 1 ≤ x → x ≤ sets_of (plain s) → HasNoTransfer (plain s) x)
      → (b x : ℕ) → ((plain s).bucket b).transfer x ≡ None
  transfers_everywhere sized each b zero = refl
  transfers_everywhere sized each b (suc k) = elim (le_or k) [ inl l ↦ each (suc k) (omega arith) (omega (arith, l)) b | inr past ↦ ap (λ o. option_map_or (λ t. transfer_in t b) o None) (slice_get_past s.sets.items k (omega (arith, past, sized))) ]
    where
      le_or : (k : ℕ) → (k < length s.config.sets.items) ⊎ (length s.config.sets.items ≤ k)
      le_or k = grind arith

  -- ---- calls

  pub idle_everywhere : ((c : ℕ) → 1 ≤ c → c ≤ length s.clients.items → ((plain s).client c).present.stage ≡ Idle) → (c : ℕ) → ((plain s).client c).present.stage ≡ Idle
  idle_everywhere each zero = refl
  idle_everywhere each (suc k) = elim (le_or k) [ inl l ↦ each (suc k) (omega arith) (omega (arith, l)) | inr past ↦ beyond k past ]
    where
      le_or : (k : ℕ) → (k < length s.clients.items) ⊎ (length s.clients.items ≤ k)
      le_or k = grind arith

      beyond : (k : ℕ) → length s.clients.items ≤ k → ((plain s).client (suc k)).present.stage ≡ Idle
      beyond k past = ap (λ o. (option_map_or client o (client_at [])).present.stage) (slice_get_past s.clients.items k past)

  -- ---- connections

  none_first : {A : Type 0} (t : Bool) (xs : List A) → t ≡ false → (if t then None else first xs) ≡ None → xs ≡ []
  none_first true xs e h = absurd cc
  none_first false [] e h = refl
  none_first false (x ∷ xs) e h = absurd cc

  first_none : {A : Type 0} (t : Bool) (xs : List A) → (t ≡ false → xs ≡ []) → (if t then None else first xs) ≡ None
  first_none true xs h = refl
  first_none false xs h = ap first (h refl)

  -- there is no connection but between two sets of the cluster
  outside_unused : s.links.sets ≡ length s.config.sets.items → (x y : ℕ) → (x == y) ≡ false → (is_to (length s.config.sets.items) x && is_to (length s.config.sets.items) y) ≡ false
      → (plain s).link x y ≡ unused
  outside_unused sized x y apart out =
      let test : (is_set s.links.sets x && is_set s.links.sets y) ≡ false = subst (λ k. (is_set k x && is_set k y) ≡ false) (sym sized) out in
      ap (λ (t : Bool). if t then unused else (line_of s.links x y).connection) apart
      ∙ ap (λ (t : Bool). (if t then slice_index_or s.links.lines (place_of x y) no_line else no_line).connection) test

  pub silent_everywhere : s.links.sets ≡ length s.config.sets.items → ((x : ℕ) → 1 ≤ x → x ≤ sets_of (plain s) → IsSilentFrom (plain s) x)
      → IsSilent (plain s)
  silent_everywhere sized each x y ne = by (is_to n x && is_to n y) refl
    where
      n : ℕ
      n = length s.config.sets.items

      apart : (x == y) ≡ false
      apart = ne_eqb x y ne

      both : (is_to n x && is_to n y) ≡ true → HasNoMessage (plain s) x y
      both h =
          let p = both_are (is_to n x) (is_to n y) h in
          each x (grind (arith, nat_tests, p.0)) (grind (arith, nat_tests, p.0)) y (grind (arith, nat_tests, p.1)) (grind (arith, nat_tests, p.1))

      by : (t : Bool) → (is_to n x && is_to n y) ≡ t → IsEmpty ((plain s).link x y)
      by true h = record { calls = none_first (x == y) _ apart (both h).calls; replies = none_first (x == y) _ apart (both h).replies }
      by false h = subst IsEmpty (sym (outside_unused sized x y apart h)) (record { calls = refl; replies = refl })

  pub silent_from : IsSilent (plain s) → (x : ℕ) → IsSilentFrom (plain s) x
  silent_from h x y from to = record {
    calls = first_none (x == y) _ (λ e. (h x y (eqb-false x y e)).calls);
    replies = first_none (x == y) _ (λ e. (h x y (eqb-false x y e)).replies);
  }

-- ---- loops

last_or : (k n : ℕ) → k ≤ suc n → (k ≡ suc n) ⊎ (k ≤ n)
last_or k n h = grind arith

-- one number further holds
pub one_further : (P : ℕ → Type 0) (i x : ℕ) → x ≡ i + 1 → P x → ((k : ℕ) → 1 ≤ k → k ≤ i → P k) → (k : ℕ) → 1 ≤ k → k ≤ i + 1 → P k
one_further P i x at here before k from to = by (last_or k i (omega arith))
  where
    by : (k ≡ suc i) ⊎ (k ≤ i) → P k
    by (inl same) = let e : x ≡ k = omega arith in subst P e here
    by (inr below) = before k from below
