-- What a change of one bucket leaves to the changes that are pending.
use Rattle.std.proofs.Common.{◌≡◌, ℕ, inl, inr, Bool, false, refl, sym, ap, subst, ◌∙◌, Option, Some, None}
use Rattle.std.specs.Prelude.{◌≢◌}
use Rattle.std.proofs.lemmas.Bool.{cases_eq}
use Rattle.vs_rows.specs.RowMap.{RowMap}
use Rattle.vs_space.specs.declared.status.Status.{Status}
use Rattle.vs_space.specs.declared.status.Status.TheVariants.{Active, Pinned, Sending, Receiving, Sent, Garbage}
use Rattle.vs_record.specs.Change.{Change, SetStatus, AddRows, Write, Wipe, Forget, bucket_of}
use Rattle.vs_send.specs.declared.transfer.Transfer.{Transfer}
use Rattle.vs_machine.specs.Tables.{put}
use Rattle.vs_machine.specs.State.{State, Bucket, sets_of}
use Rattle.vs_machine.specs.Coherence.{IsServing}
use Rattle.vs_machine.specs.Inner.Down.{IsUp, UpFits, IsStuck, StatusFits, RowsFit, ChangeFits, FitsIn, PendingFits}
use Rattle.vs_machine.proofs.Calm.{Calm}
use Rattle.vs_machine.proofs.Frame.{put_others, put_there}
use Rattle.vs_machine.proofs.Kept.Restarting.{no_transfer}
use Rattle.vs_machine.proofs.Kept.Taking.{IsOpenTo}

-- the rows of x stay, and so does its copy at a set that has received all of them
pub record Leaves (has : ℕ → Option Status) (rows : ℕ → RowMap) (later : ℕ → Option Status) (more : ℕ → RowMap) (x : ℕ) : Type 0 where
  pub kept : more x ≡ rows x
  pub copy : (d : ℕ) → has x ≡ Some (Sending d) → has d ≡ Some (Receiving x) → rows d ≡ rows x → (later d ≡ Some (Receiving x)) × (more d ≡ rows x)

pub all_left : (has : ℕ → Option Status) (rows : ℕ → RowMap) (x : ℕ) → Leaves has rows has rows x
all_left has rows x = record { kept = refl; copy = λ d to from same. (from, same) }

-- the entry or the rows of another set change, which isn't receiving from x
pub others_left : (has : ℕ → Option Status) (rows : ℕ → RowMap) (z : ℕ) (e : Option Status) (m : RowMap) (x : ℕ) → x ≢ z → has z ≢ Some (Receiving x) → Leaves has rows (put has z e) (put rows z m) x
others_left has rows z e m x ne other = record {
  kept = put_there rows z m x ne;
  copy = λ d to from same. let apart : d ≢ z = λ g. other (ap has (sym g) ∙ from) in (put_there has z e d apart ∙ from, put_there rows z m d apart ∙ same);
}

pub entry_left : (has : ℕ → Option Status) (rows : ℕ → RowMap) (z : ℕ) (e : Option Status) (x : ℕ) → has z ≢ Some (Receiving x) → Leaves has rows (put has z e) rows x
entry_left has rows z e x other = record {
  kept = refl;
  copy = λ d to from same. let apart : d ≢ z = λ g. other (ap has (sym g) ∙ from) in (put_there has z e d apart ∙ from, same);
}

pub rows_left : (has : ℕ → Option Status) (rows : ℕ → RowMap) (z : ℕ) (m : RowMap) (x : ℕ) → x ≢ z → has z ≢ Some (Receiving x) → Leaves has rows has (put rows z m) x
rows_left has rows z m x ne other = record {
  kept = put_there rows z m x ne;
  copy = λ d to from same. let apart : d ≢ z = λ g. other (ap has (sym g) ∙ from) in (from, put_there rows z m d apart ∙ same);
}

-- what is known of x, where its pending change asks for it
pub record Knows (A S T : ℕ → Type 0) (has : ℕ → Option Status) (z x : ℕ) (change : Change) : Type 0 where
  pub back : (b : ℕ) → change ≡ SetStatus b Active → has x ≡ Some (Sending z) → A x
  pub waste : (b : ℕ) → change ≡ SetStatus b Garbage → has z ≡ Some (Sending x) → S x
  pub page : (b : ℕ) (r : RowMap) → change ≡ AddRows b z r → T x

-- a change at set z leaves what is pending at another set x
module _ (A S T : ℕ → Type 0) (n o p : ℕ) (has : ℕ → Option Status) (moves : ℕ → Option Transfer) (rows : ℕ → RowMap) (later : ℕ → Option Status) (next : ℕ → Option Transfer) (more : ℕ → RowMap) (z x : ℕ)
    (c : Calm A S T o p has moves later next z) (ne : x ≢ z) (kept : more x ≡ rows x) (none : moves x ≡ None) where
  -- the copy at a set to which the bucket is to be handed stays
  abbrev pub KeepsCopy : Change → Type 0
  KeepsCopy change = (b d : ℕ) → change ≡ SetStatus b (Sent d) → has x ≡ Some (Sending d) → has d ≡ Some (Receiving x) → rows d ≡ rows x → (later d ≡ Some (Receiving x)) × (more d ≡ rows x)

  status_left : (b : ℕ) (e : Option Status) (st : Status) → has x ≡ e → Knows A S T has z x (SetStatus b st) → KeepsCopy (SetStatus b st) → StatusFits n o has moves rows x e st → StatusFits n p later next more x e st
  status_left b (Some Active) Pinned is known copy f = tt
  status_left b (Some Pinned) Active is known copy f = tt
  status_left b (Some Active) (Sending d) is known copy f = f
  status_left b (Some (Sending d)) (Sent e) is known copy f = let sent : SetStatus b (Sent e) ≡ SetStatus b (Sent d) = ap (λ q. SetStatus b (Sent q)) f.0 in let g = copy b d sent is f.2 f.3 in (f.0, f.1, g.0, g.1 ∙ sym kept)
  status_left b (Some (Sending d)) Active is known copy f = (
    c.transfers x ne ∙ f.0,
    elim (cases_eq d z) [
      | inl e ↦
          let to : has x ≡ Some (Sending z) = is ∙ ap (λ q. Some (Sending q)) e in
          subst (λ q. later q ≢ Some (Receiving x)) (sym e) (c.away x (known.back b refl to) to none (subst (λ q. has q ≢ Some (Receiving x)) e f.1))
      | inr other ↦ subst (λ u. u ≢ Some (Receiving x)) (sym (c.entries d other)) f.1
    ],
  )
  status_left b (Some (Receiving y)) Active is known copy f = c.owner x y ne is f
  status_left b (Some (Receiving y)) Garbage is known copy f = elim (cases_eq y z) [
    | inl e ↦
        let to : has z ≡ Some (Sending x) = subst (λ q. has q ≡ Some (Sending x)) e f.0 in
        subst (λ q. (later q ≡ Some (Sending x)) × (next q ≡ None)) (sym e) (c.still x (known.waste b refl to) (is ∙ ap (λ q. Some (Receiving q)) e) to (subst (λ q. moves q ≡ None) e f.1))
    | inr other ↦ (c.entries y other ∙ f.0, c.transfers y other ∙ f.1)
  ]
  status_left b (Some (Sent d)) Garbage is known copy f = tt
  status_left b e st is known copy f = absurd f

  rows_taken : (b y : ℕ) (r : RowMap) → Knows A S T has z x (AddRows b y r) → RowsFit n has moves x y → RowsFit n later next x y
  rows_taken b y r known f =
      let both : (later y ≡ Some (Sending x)) × IsStuck (next y) = elim (cases_eq y z) [
        | inl e ↦ subst (λ q. (later q ≡ Some (Sending x)) × IsStuck (next q)) (sym e)
            (c.stuck x (known.page b r (ap (λ q. AddRows b q r) e)) (subst (λ q. IsOpenTo q (has x)) e f.free) (subst (λ q. has q ≡ Some (Sending x)) e f.sends) (subst (λ q. IsStuck (moves q)) e f.stuck))
        | inr other ↦ (c.entries y other ∙ f.sends, subst IsStuck (sym (c.transfers y other)) f.stuck)
      ] in
      record { within = f.within; free = subst (IsOpenTo y) (sym (c.entries x ne)) f.free; sends = both.0; stuck = both.1 }

  pub change_left : (change : Change) → Knows A S T has z x change → KeepsCopy change → ChangeFits n o has moves rows x change → ChangeFits n p later next more x change
  change_left (SetStatus b st) known copy f = subst (λ e. StatusFits n p later next more x e st) (sym (c.entries x ne)) (status_left b (has x) st refl known copy f)
  change_left (AddRows b y r) known copy f = rows_taken b y r known f
  change_left (Write id b ops) known copy f = subst IsServing (sym (c.entries x ne)) f
  change_left (Wipe b k) known copy f = c.entries x ne ∙ f
  change_left (Forget b) known copy f = (c.entries x ne ∙ f.0, kept ∙ f.1)

-- ---- a set that is up changes, and those with pending changes are down

abbrev pub IsDown : State → ℕ → Type 0
IsDown s x = s.up x ≡ false

pub apart_up : (s : State) (y x : ℕ) → IsUp s y → IsDown s x → y ≢ x
apart_up s y x up down e = absurd (cc (ap s.up e, up, down))

-- in a cluster of n sets, with these pending changes, which stand at sets that are down
abbrev pub IsPendingIn : ℕ → (ℕ → ℕ) → (ℕ → Bool) → (ℕ → Option Change) → (ℕ → Bucket) → Type 0
IsPendingIn n own up pending bs = (x : ℕ) (change : Change) → pending x ≡ Some change → (up x ≡ false) × FitsIn n (own (bucket_of change)) (bs (bucket_of change)) x change

bucket_left : (n : ℕ) (s : State) (own next : ℕ → ℕ) (b : ℕ) (new : Bucket) → ((q : ℕ) → q ≢ b → next q ≡ own q) → IsPendingIn n own s.up s.pending s.bucket
    → ((x : ℕ) (change : Change) → s.pending x ≡ Some change → IsDown s x → bucket_of change ≡ b → FitsIn n (own b) (s.bucket b) x change → FitsIn n (next b) new x change) → IsPendingIn n next s.up s.pending (put s.bucket b new)
bucket_left n s own next b new same p leaves x change h =
    let f = p x change h in
    (f.0, put_others (λ q (u : Bucket). bucket_of change ≡ q → FitsIn n (own q) (s.bucket q) x change → FitsIn n (next q) u x change) s.bucket b new (leaves x change h f.0) (λ q ne is g. subst (λ o. FitsIn n o (s.bucket q) x change) (sym (same q ne)) g) (bucket_of change) refl f.1)

abbrev pub CalmAt : State → ℕ → ℕ → Bucket → Bucket → ℕ → Type 0
CalmAt s o p old new z = Calm (IsDown s) (IsDown s) (IsDown s) o p old.entry old.transfer new.entry new.transfer z

abbrev pub LeavesAll : State → Bucket → Bucket → Type 0
LeavesAll s old new = (x : ℕ) → IsDown s x → Leaves old.entry old.rows new.entry new.rows x

pub leaves_calm : (own next : ℕ → ℕ) (s : State) (b : ℕ) (new : Bucket) (z : ℕ) → UpFits s → PendingFits own s → ((q : ℕ) → q ≢ b → next q ≡ own q) → IsUp s z
    → CalmAt s (own b) (next b) (s.bucket b) new z → LeavesAll s (s.bucket b) new → IsPendingIn (sets_of s) next s.up s.pending (put s.bucket b new)
leaves_calm own next s b new z u p same up c left = bucket_left (sets_of s) s own next b new same p (λ x change h down is f.
    let old = s.bucket b in
    change_left (IsDown s) (IsDown s) (IsDown s) (sets_of s) (own b) (next b) old.entry old.transfer old.rows new.entry new.transfer new.rows z x c (λ e. apart_up s z x up down (sym e)) (left x down).kept (no_transfer s x u down b) change
    (record { back = λ _ _ _. down; waste = λ _ _ _. down; page = λ _ _ _. down }) (λ _ d _. (left x down).copy d) f)
