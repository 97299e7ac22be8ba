-- One entry is settled after another, and one bucket after another.
use Rattle.std.proofs.Common.{inl, inr, ◌≡◌, ℕ, ◌+◌, ◌≤◌, ◌<◌, true, false, refl, sym, ap, subst, ◌∙◌, arith, length, Bool}
use Rattle.std.specs.Prelude.{◌≢◌, ◌⊎◌}
use Rattle.std.proofs.lemmas.Bool.{cases_eq}
use Rattle.vs_config.specs.Configuration.{Configuration}
use Rattle.vs_machine.specs.State.{Bucket, sets_of, has_bucket}
use Rattle.vs_machine.specs.Tables.{is_to}
use Rattle.vs_machine.specs.Settling.{IsSilent}
use Rattle.vs_world.specs.Played.{Played, state_of}
use Rattle.vs_settle.specs.Service.{Follows, IsPaid, IsResting}
use Rattle.vs_settle.specs.Tasks.{AreDone, IsDone, IsNextEntry, IsUpTo, level, rank}
use Rattle.vs_settle.specs.declared.entries.Task.{Task}
use Rattle.vs_settle.specs.declared.entries.Task.TheVariants.{Receivers, Senders, Leavings}
use Rattle.vs_settle.specs.Weight.{weight}
use Rattle.vs_settle.proofs.Following.{follows_none, follows_then}
use Rattle.vs_settle.proofs.Lines.{set_stays, bucket_stays}
use Rattle.vs_settle.proofs.Settled.{rank_outside}
use Rattle.vs_settle.proofs.Tables.{within, is_within}

last_or : (k n : ℕ) → k ≤ n + 1 → (k ≡ n + 1) ⊎ (k ≤ n)
last_or k n h = grind arith

-- ---- the entries of bucket b at the first i sets

pub record Sweeping (p : Played) (m : ℕ) (q : Played) (n : ℕ) (b k i : ℕ) : Type 0 where
  pub follows : Follows p m q n
  pub paid : IsPaid p m q n
  pub silent : IsSilent (state_of q)
  pub swept : (y : ℕ) → 1 ≤ y → y ≤ i → rank (((state_of q).bucket b).entry y) < k
  pub ranks : IsUpTo (state_of q) b k
  pub buckets : (c : ℕ) → c ≢ b → (state_of q).bucket c ≡ (state_of p).bucket c

pub sweeping_starts : (p : Played) (m b k : ℕ) → IsResting (state_of p) → IsSilent (state_of p) → IsUpTo (state_of p) b k → Sweeping p m p m b k 0
sweeping_starts p m b k r silent ranks = record { follows = follows_none p m r; paid = omega arith; silent = silent; swept = λ y from to. absurd (omega arith); ranks = ranks; buckets = λ c ne. refl }

pub sweeping_next : (p q : Played) (m n b k i : ℕ) → Sweeping p m q n b k i → has_bucket (state_of p) b ≡ true → i + 1 ≤ sets_of (state_of p) → IsNextEntry (state_of q) (i + 1) b k
sweeping_next p q m n b k i e known lt = record {
  rests = e.follows.rests;
  silent = e.silent;
  set = set_stays p q m n (i + 1) e.follows (is_within (sets_of (state_of p)) (i + 1) (omega arith) lt);
  bucket = bucket_stays p q m n b e.follows known;
  ranks = e.ranks;
}

pub sweeping_goes_on : (p q r : Played) (m n l b k i : ℕ) → Sweeping p m q n b k i → Follows q n r l → IsDone q n r l (i + 1) b k → Sweeping p m r l b k (i + 1)
sweeping_goes_on p q r m n l b k i e f d =
    let paid : n + weight (state_of q) ≤ m + weight (state_of p) = e.paid in
    let more : l + weight (state_of r) ≤ n + weight (state_of q) = d.paid in
    record {
      follows = follows_then p q r m n l e.follows f;
      paid = omega (arith, paid, more);
      silent = d.silent;
      swept = λ y from to. by y from (last_or y i to);
      ranks = λ y. at_most y (cases_eq y (i + 1));
      buckets = λ c ne. d.buckets c ne ∙ e.buckets c ne;
    }
  where
    here : (y : ℕ) → y ≡ i + 1 → rank (((state_of r).bucket b).entry y) < k
    here y is = subst (λ z. rank (((state_of r).bucket b).entry z) < k) (sym is) d.rank_is

    by : (y : ℕ) → 1 ≤ y → (y ≡ i + 1) ⊎ (y ≤ i) → rank (((state_of r).bucket b).entry y) < k
    by y from (inl is) = here y is
    by y from (inr below) = subst (λ u. rank u < k) (sym (d.sets y (λ is. absurd (omega (arith, is, below))))) (e.swept y from below)

    at_most : (y : ℕ) → (y ≡ i + 1) ⊎ (y ≢ i + 1) → rank (((state_of r).bucket b).entry y) ≤ k
    at_most y (inl is) = let low = here y is in omega (arith, low)
    at_most y (inr ne) = subst (λ u. rank u ≤ k) (sym (d.sets y ne)) (e.ranks y)

pub sweeping_ends : (p q : Played) (m n b k i : ℕ) → Sweeping p m q n b k i → 1 ≤ k → sets_of (state_of p) ≤ i → AreDone p m q n b k
sweeping_ends p q m n b k i e some all = record { paid = e.paid; silent = e.silent; ranks = λ y. by y (is_to (sets_of (state_of q)) y) refl; buckets = e.buckets }
  where
    by : (y : ℕ) (t : Bool) → is_to (sets_of (state_of q)) y ≡ t → rank (((state_of q).bucket b).entry y) < k
    by y true is =
        let y_in = within (sets_of (state_of q)) y is in
        let same : sets_of (state_of q) ≡ sets_of (state_of p) = ap (λ (c : Configuration). length c.sets) e.follows.carries.config in
        e.swept y y_in.0 (omega (arith, y_in.1, same, all))
    by y false is =
        let none : rank (((state_of q).bucket b).entry y) ≡ 0 = rank_outside (state_of q) b y e.follows.rests (λ h. absurd (cc (is_within (sets_of (state_of q)) y h.0 h.1, is))) in
        omega (arith, none, some)

-- ---- one task after another

pub done_both : (p q r : Played) (m n l b j k : ℕ) → AreDone p m q n b j → AreDone q n r l b k → AreDone p m r l b k
done_both p q r m n l b j k d e =
    let paid : n + weight (state_of q) ≤ m + weight (state_of p) = d.paid in
    let more : l + weight (state_of r) ≤ n + weight (state_of q) = e.paid in
    record { paid = omega (arith, paid, more); silent = e.silent; ranks = e.ranks; buckets = λ c ne. e.buckets c ne ∙ d.buckets c ne }

-- ---- the first i buckets

pub record Placing (p : Played) (m : ℕ) (q : Played) (n : ℕ) (i : ℕ) : Type 0 where
  pub follows : Follows p m q n
  pub paid : IsPaid p m q n
  pub silent : IsSilent (state_of q)
  pub placed : (b y : ℕ) → 1 ≤ b → b ≤ i → rank (((state_of q).bucket b).entry y) < 1

pub placing_starts : (p : Played) (m : ℕ) → IsResting (state_of p) → IsSilent (state_of p) → Placing p m p m 0
placing_starts p m r silent = record { follows = follows_none p m r; paid = omega arith; silent = silent; placed = λ b y from to. absurd (omega arith) }

pub placing_goes_on : (p q r : Played) (m n l i : ℕ) → Placing p m q n i → Follows q n r l → AreDone q n r l (i + 1) 1 → Placing p m r l (i + 1)
placing_goes_on p q r m n l i e f d =
    let paid : n + weight (state_of q) ≤ m + weight (state_of p) = e.paid in
    let more : l + weight (state_of r) ≤ n + weight (state_of q) = d.paid in
    record {
      follows = follows_then p q r m n l e.follows f;
      paid = omega (arith, paid, more);
      silent = d.silent;
      placed = λ b y from to. by b y from (last_or b i to);
    }
  where
    by : (b y : ℕ) → 1 ≤ b → (b ≡ i + 1) ⊎ (b ≤ i) → rank (((state_of r).bucket b).entry y) < 1
    by b y from (inl is) = subst (λ c. rank (((state_of r).bucket c).entry y) < 1) (sym is) (d.ranks y)
    by b y from (inr below) = subst (λ (u : Bucket). rank (u.entry y) < 1) (sym (d.buckets b (λ is. absurd (omega (arith, is, below))))) (e.placed b y from below)

pub placing_ends : (p q : Played) (m n i : ℕ) → Placing p m q n i → (state_of p).config.bucket_count ≤ i → (b y : ℕ) → has_bucket (state_of q) b ≡ true → rank (((state_of q).bucket b).entry y) < 1
placing_ends p q m n i e all b y known =
    let b_in = within (state_of q).config.bucket_count b known in
    let same : (state_of q).config.bucket_count ≡ (state_of p).config.bucket_count = ap (λ (c : Configuration). c.bucket_count) e.follows.carries.config in
    e.placed b y b_in.0 (omega (arith, b_in.1, same, all))

pub level_some : (t : Task) → 1 ≤ level t
level_some Receivers = omega arith
level_some Senders = omega arith
level_some Leavings = omega arith
