-- One connection is emptied after another.
use Rattle.std.proofs.Common.{inl, inr, ◌≡◌, ℕ, ◌+◌, ◌≤◌, ◌==◌, Bool, true, false, refl, sym, ap, subst, ◌∙◌, arith, List, [], ◌∷◌, length, None}
use Rattle.std.specs.Prelude.{◌⊎◌, ◌&&◌, not, if◌then◌else◌}
use Rattle.std.proofs.lemmas.Bool.{ne_eqb}
use Rattle.vs_config.specs.Configuration.{Configuration}
use Rattle.vs_link.specs.Connection.{Connection, first, unused}
use Rattle.vs_machine.specs.State.{State, sets_of, has_set, is_link}
use Rattle.vs_machine.specs.Tables.{is_to}
use Rattle.vs_machine.specs.Settling.{HasNoMessage, IsSilent, IsEmpty}
use Rattle.vs_machine.proofs.Possible.{both_are}
use Rattle.vs_world.specs.Played.{Played, state_of}
use Rattle.vs_settle.specs.Messages.{IsDrained, AreDrained}
use Rattle.vs_settle.specs.Service.{Follows, IsPaid, IsResting}
use Rattle.vs_settle.specs.Weight.{weight}
use Rattle.vs_settle.proofs.Following.{follows_none, follows_then}
use Rattle.vs_settle.proofs.Tables.{within}

none_stays : (s t : State) (x y : ℕ) → t.link x y ≡ s.link x y → HasNoMessage s x y → HasNoMessage t x y
none_stays s t x y same h = record {
  calls = ap (λ (l : Connection). if x == y then None else first l.calls) same ∙ h.calls;
  replies = ap (λ (l : Connection). if x == y then None else first l.replies) same ∙ h.replies;
}

last_or : (k n : ℕ) → k ≤ n + 1 → (k ≡ n + 1) ⊎ (k ≤ n)
last_or k n h = grind arith

-- ---- the connections from x to the first k sets

pub record Emptying (p : Played) (m : ℕ) (q : Played) (n : ℕ) (x k : ℕ) : Type 0 where
  pub follows : Follows p m q n
  pub paid : IsPaid p m q n
  pub none : (y : ℕ) → 1 ≤ y → y ≤ k → HasNoMessage (state_of q) x y
  pub others : (v w : ℕ) → (v ≡ x → ⊥) → (state_of q).link v w ≡ (state_of p).link v w

pub emptying_starts : (p : Played) (m x : ℕ) → IsResting (state_of p) → Emptying p m p m x 0
emptying_starts p m x r = record { follows = follows_none p m r; paid = omega arith; none = λ y from to. absurd (omega arith); others = λ v w ne. refl }

pub emptying_goes_on : (p q r : Played) (m n l x k : ℕ) → Emptying p m q n x k → Follows q n r l → IsDrained q n r l x (k + 1) → Emptying p m r l x (k + 1)
emptying_goes_on p q r m n l x k e f d =
    let paid : n + weight (state_of q) ≤ m + weight (state_of p) = e.paid in
    let more : l + weight (state_of r) ≤ n + weight (state_of q) = d.paid in
    record {
      follows = follows_then p q r m n l e.follows f;
      paid = omega (arith, paid, more);
      none = λ y from to. by y from (last_or y k to);
      others = λ v w ne. d.others v w (λ is _. ne is) ∙ e.others v w ne;
    }
  where
    by : (y : ℕ) → 1 ≤ y → (y ≡ k + 1) ⊎ (y ≤ k) → HasNoMessage (state_of r) x y
    by y from (inl is) = subst (λ z. HasNoMessage (state_of r) x z) (sym is) d.none
    by y from (inr below) = none_stays (state_of q) (state_of r) x y (d.others x y (λ _ is. absurd (omega (arith, is, below)))) (e.none y from below)

pub emptying_ends : (p q : Played) (m n x k : ℕ) → Emptying p m q n x k → sets_of (state_of p) ≤ k → AreDrained p m q n x
emptying_ends p q m n x k e all = record {
  paid = e.paid;
  none = λ y known.
      let y_in = within (sets_of (state_of q)) y known in
      let same : sets_of (state_of q) ≡ sets_of (state_of p) = ap (λ (c : Configuration). length c.sets) e.follows.carries.config in
      e.none y y_in.0 (omega (arith, y_in.1, same, all));
  others = e.others;
}

-- ---- the connections from the first k sets

pub record Quieting (p : Played) (m : ℕ) (q : Played) (n : ℕ) (k : ℕ) : Type 0 where
  pub follows : Follows p m q n
  pub paid : IsPaid p m q n
  pub none : (x y : ℕ) → 1 ≤ x → x ≤ k → has_set (state_of q) y ≡ true → HasNoMessage (state_of q) x y

pub quieting_starts : (p : Played) (m : ℕ) → IsResting (state_of p) → Quieting p m p m 0
quieting_starts p m r = record { follows = follows_none p m r; paid = omega arith; none = λ x y from to known. absurd (omega arith) }

pub quieting_goes_on : (p q r : Played) (m n l k : ℕ) → Quieting p m q n k → Follows q n r l → AreDrained q n r l (k + 1) → Quieting p m r l (k + 1)
quieting_goes_on p q r m n l k e f d =
    let paid : n + weight (state_of q) ≤ m + weight (state_of p) = e.paid in
    let more : l + weight (state_of r) ≤ n + weight (state_of q) = d.paid in
    record {
      follows = follows_then p q r m n l e.follows f;
      paid = omega (arith, paid, more);
      none = λ x y from to known. by x y from known (last_or x k to);
    }
  where
    by : (x y : ℕ) → 1 ≤ x → has_set (state_of r) y ≡ true → (x ≡ k + 1) ⊎ (x ≤ k) → HasNoMessage (state_of r) x y
    by x y from known (inl is) = subst (λ z. HasNoMessage (state_of r) z y) (sym is) (d.none y known)
    by x y from known (inr below) =
        let before : has_set (state_of q) y ≡ true = subst (λ (c : Configuration). is_to (length c.sets) y ≡ true) f.carries.config known in
        none_stays (state_of q) (state_of r) x y (d.others x y (λ is. absurd (omega (arith, is, below)))) (e.none x y from below before)

first_none : {A : Type 0} (t : Bool) (xs : List A) → t ≡ false → (if t then None else first xs) ≡ None → xs ≡ []
first_none true xs e h = absurd cc
first_none false [] e h = refl
first_none false (x ∷ xs) e h = absurd cc

-- nothing lies on any connection, since there are none but between two sets of the cluster
pub quieting_ends : (p q : Played) (m n k : ℕ) → Quieting p m q n k → sets_of (state_of p) ≤ k → ((x y : ℕ) → is_link (state_of q) x y ≡ false → (state_of q).link x y ≡ unused) → IsSilent (state_of q)
quieting_ends p q m n k e all out x y ne = by (is_link (state_of q) x y) refl
  where
    by : (t : Bool) → is_link (state_of q) x y ≡ t → IsEmpty ((state_of q).link x y)
    by false is = record {
      calls = ap (λ (l : Connection). l.calls) (out x y is);
      replies = ap (λ (l : Connection). l.replies) (out x y is);
    }
    by true is =
        let parts = both_are (has_set (state_of q) x && has_set (state_of q) y) (not (x == y)) is in
        let known = both_are (has_set (state_of q) x) (has_set (state_of q) y) parts.0 in
        let x_in = within (sets_of (state_of q)) x known.0 in
        let same : sets_of (state_of q) ≡ sets_of (state_of p) = ap (λ (c : Configuration). length c.sets) e.follows.carries.config in
        let none = e.none x y x_in.0 (omega (arith, x_in.1, same, all)) known.1 in
        record {
          calls = first_none (x == y) _ (ne_eqb x y ne) none.calls;
          replies = first_none (x == y) _ (ne_eqb x y ne) none.replies;
        }
