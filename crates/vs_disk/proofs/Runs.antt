-- How a run of calls goes on, and what a torn write leaves as it was.
use Rattle.std.proofs.Common.{◌≡◌, inl, inr, ⊎_elim, ℕ, ◌+◌, ◌≤◌, ◌<◌, List, length, take, drop, get_or, IsTrue, sym, ◌∙◌, subst, arith, length-drop}
use Rattle.std.proofs.lemmas.List.{ext_get_or, length-take, get_or-take, get_or-drop}
use Rattle.vs_disk.specs.Told.{Told, Leaves, IsSynced}
use Rattle.vs_disk.specs.Model.{Torn, Keeps, Elapses, Rests, IsLawful, LeavesOnly, LeavesThrough}

-- before the first call
pub started : (old : Told) (P : List ℕ → Type 0) → ((c : List ℕ) → old.left_since old.moment c → P c) → LeavesOnly old old P
started old P here = record { later = omega arith; each = here; before = λ t c le left. inl left }

-- one call more, after which a crash leaves what has P
pub goes_on : (old mid new : Told) (P : List ℕ → Type 0) → LeavesOnly old mid P → Elapses mid new → ((c : List ℕ) → new.may_leave c → P c) → LeavesOnly old new P
goes_on old mid new P so_far time here = record {
  later = omega (arith, so_far.later, time.later);
  each = λ c left. ⊎_elim (so_far.each c) (here c) (time.nothing_else old.moment c so_far.later left);
  before = λ t c le left. ⊎_elim (so_far.before t c le) (λ now. inr (here c now)) (time.nothing_else t c (omega (arith, le, so_far.later)) left);
}

-- one run after another
pub joined : (old mid new : Told) (P : List ℕ → Type 0) → LeavesOnly old mid P → LeavesOnly mid new P → LeavesOnly old new P
joined old mid new P first second = record {
  later = omega (arith, first.later, second.later);
  each = λ c left. ⊎_elim (first.each c) (λ p. p) (second.before old.moment c first.later left);
  before = λ t c le left. ⊎_elim (first.before t c le) inr (second.before t c (omega (arith, le, first.later)) left);
}

-- a weaker fact
pub weakened : (old new : Told) (P Q : List ℕ → Type 0) → ((c : List ℕ) → P c → Q c) → LeavesOnly old new P → LeavesOnly old new Q
weakened old new P Q so run = record {
  later = run.later;
  each = λ c left. so c (run.each c left);
  before = λ t c le left. ⊎_elim inl (λ p. inr (so c p)) (run.before t c le left);
}

-- the same, where it is honest
pub joined_through : (old mid new : Told) (P : List ℕ → Type 0) → Keeps old mid → LeavesThrough old mid P → LeavesThrough mid new P → LeavesThrough old new P
joined_through old mid new P keeps first second honest = joined old mid new P (first honest) (second (keeps.honest ∙ honest))

pub weakened_through : (old new : Told) (P Q : List ℕ → Type 0) → ((c : List ℕ) → P c → Q c) → LeavesThrough old new P → LeavesThrough old new Q
weakened_through old new P Q so run honest = weakened old new P Q so (run honest)

-- a call that writes nothing, where what a read gives is on the disk
pub rests_synced : (old new : Told) → IsLawful old → IsSynced old → Rests old new → Keeps old new → IsSynced new
rests_synced old new laws synced rests keeps still c left =
    let honest : IsTrue old.is_honest = sym keeps.honest ∙ still in
    synced honest c (rests.crash honest c left) ∙ sym (rests.reads (laws.reads_too honest))

pub rests_run : (old new : Told) (P : List ℕ → Type 0) → IsLawful old → IsSynced old → Rests old new → P old.reads_as → LeavesThrough old new P
rests_run old new P laws synced rests now honest =
    let here : (c : List ℕ) → old.may_leave c → P c = λ c left. subst P (sym (synced honest c left)) now in
    goes_on old old new P (started old P (λ c left. here c (laws.only_now honest c left))) (rests.time honest) (λ c left. here c (rests.crash honest c left))

-- what a crash now may leave is what one at the last of these moments leaves
pub leaves_now : (old new : Told) (P : List ℕ → Type 0) → IsLawful new → Keeps old new → LeavesThrough old new P → Leaves new P
leaves_now old new P laws keeps run still c left =
    let all = run (sym keeps.honest ∙ still) in
    all.each c (laws.counts_now still old.moment c all.later left)

-- a shorter range tears no more
pub torn_more : (at m n : ℕ) (old c : List ℕ) → m ≤ n → Torn at m old c → Torn at n old c
torn_more at m n old c le torn = record {
  no_shorter = torn.no_shorter;
  no_longer = omega (arith, torn.no_longer);
  outside = λ i within away. torn.outside i within (⊎_elim inl (λ behind. inr (omega (arith, behind))) away);
}

-- the bytes in front of the range
pub torn_front : (at n : ℕ) (old c : List ℕ) → at ≤ length old → Torn at n old c → take at c ≡ take at old
torn_front at n old c within torn = ext_get_or 0 (take at c) (take at old) sizes same
  where
    sizes : length (take at c) ≡ length (take at old)
    sizes = omega (arith, length-take at c, length-take at old, torn.no_shorter)

    same : (i : ℕ) → i < length (take at c) → get_or (take at c) i 0 ≡ get_or (take at old) i 0
    same i below =
        let low : i < at = omega (arith, length-take at c) in
        get_or-take at c i 0 low ∙ torn.outside i (omega (arith, low, within)) (inl low) ∙ sym (get_or-take at old i 0 low)

-- the bytes behind it, where the range ends within
pub torn_back : (at n : ℕ) (old c : List ℕ) → at + n ≤ length old → Torn at n old c → drop (at + n) c ≡ drop (at + n) old
torn_back at n old c within torn = ext_get_or 0 (drop (at + n) c) (drop (at + n) old) sizes same
  where
    sizes : length (drop (at + n) c) ≡ length (drop (at + n) old)
    sizes = omega (arith, length-drop (at + n) c, length-drop (at + n) old, torn.no_shorter, torn.no_longer, within)

    same : (i : ℕ) → i < length (drop (at + n) c) → get_or (drop (at + n) c) i 0 ≡ get_or (drop (at + n) old) i 0
    same i below =
        let low : at + n + i < length old = omega (arith, length-drop (at + n) c, torn.no_shorter, torn.no_longer, within) in
        get_or-drop (at + n) c i 0 ∙ torn.outside (at + n + i) low (inr (omega arith)) ∙ sym (get_or-drop (at + n) old i 0)
