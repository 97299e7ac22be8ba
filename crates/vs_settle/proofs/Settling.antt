-- An entry is settled by some events.
use Rattle.std.proofs.Common.{inl, inr, ◌≡◌, ℕ, ◌+◌, ◌<◌, ◌≤◌, refl, sym, ap, subst, ◌∙◌, arith, length, Option, Some, None, Ok}
use Rattle.std.specs.Prelude.{◌≢◌, ◌⊎◌}
use Rattle.vs_rows.specs.RowMap.{RowMap}
use Rattle.vs_space.specs.declared.status.Status.{Status}
use Rattle.vs_space.specs.declared.status.Status.TheVariants.{Active, Pinned, Sending, Receiving, Sent, Garbage}
use Rattle.vs_machine.specs.State.{State}
use Rattle.vs_machine.specs.Kinds.Collection.{condemn, wipe, forget}
use Rattle.vs_machine.specs.Kinds.Connections.{asked_set, deliver, hear}
use Rattle.vs_machine.specs.Kinds.Recovery.{ask}
use Rattle.vs_machine.proofs.Possible.{ok_is}
use Rattle.vs_world.specs.Played.{Played, state_of}
use Rattle.vs_settle.specs.Service.{Follows, IsPaid}
use Rattle.vs_settle.specs.Tasks.{CanAsk, CanCollect, IsDone, IsNextEntry, rank}
use Rattle.vs_settle.specs.Weight.{pages, price, price_at, weight}
use Rattle.vs_settle.proofs.Collecting.{condemns, condemned_moves, condemned_entry, condemned_lighter, wipes, wiped_moves, wiped_entry, wiped_fewer, wiped_lighter, forgets, forgotten_moves, forgotten_entry, forgotten_lighter}
use Rattle.vs_settle.proofs.Following.{follows_none, follows_then}
use Rattle.vs_settle.proofs.Lines.{set_stays, bucket_stays}
use Rattle.vs_settle.proofs.Moves.{Moves, moves_weight}
use Rattle.vs_settle.proofs.Recovering.{posted, replied, settled, asks, delivers, hears, entry_settled, rows_kept, recovering_moves}

-- c events made the entry one of a rank below k
pub record Settles (s t : State) (x b k c : ℕ) : Type 0 where
  pub moves : Moves s t x b
  pub rank_is : rank ((t.bucket b).entry x) < k
  pub lighter : weight t + c ≤ weight s

pub done_by : (p q : Played) (m n x b k c : ℕ) → Settles (state_of p) (state_of q) x b k c → n ≡ m + c → IsDone p m q n x b k
done_by p q m n x b k c h ticks =
    let lighter = h.lighter in
    record {
      paid = omega (arith, lighter, ticks);
      silent = h.moves.silent;
      rank_is = h.rank_is;
      sets = h.moves.entries;
      buckets = h.moves.buckets;
    }

pub done_then : (p q r : Played) (m n l x b k j c : ℕ) → Settles (state_of p) (state_of q) x b k c → n ≡ m + c → IsDone q n r l x b j → IsDone p m r l x b j
done_then p q r m n l x b k j c h ticks d =
    let lighter = h.lighter in
    let paid : l + weight (state_of r) ≤ n + weight (state_of q) = d.paid in
    record {
      paid = omega (arith, lighter, ticks, paid);
      silent = d.silent;
      rank_is = d.rank_is;
      sets = λ y ne. d.sets y ne ∙ h.moves.entries y ne;
      buckets = λ q ne. d.buckets q ne ∙ h.moves.buckets q ne;
    }

pub done_more : (p q : Played) (m n x b j k : ℕ) → j ≤ k → IsDone p m q n x b j → IsDone p m q n x b k
done_more p q m n x b j k le d = let low = d.rank_is in record { paid = d.paid; silent = d.silent; rank_is = omega (arith, low, le); sets = d.sets; buckets = d.buckets }

-- ---- a set asked, and has decided

module _ (s : State) (x b y : ℕ) (can : CanAsk s x b y) where
  asked_price : (e : Option Status) (rows : RowMap) → asked_set e ≡ Some y → price e rows ≡ 5 + pages rows
  asked_price (Some (Sending d)) rows h = omega arith
  asked_price (Some (Receiving z)) rows h = omega arith
  asked_price None rows h = absurd (cc h)
  asked_price (Some Active) rows h = absurd (cc h)
  asked_price (Some Pinned) rows h = absurd (cc h)
  asked_price (Some (Sent d)) rows h = absurd (cc h)
  asked_price (Some Garbage) rows h = absurd (cc h)

  settled_price : (e : Option Status) (rows : RowMap) → (e ≡ Some Active) ⊎ (e ≡ Some Garbage) → (price e rows ≤ 1 + pages rows) × (rank e < 2)
  settled_price e rows (inl h) = (subst (λ u. price u rows ≤ 1 + pages rows) (sym h) (omega arith), subst (λ u. rank u < 2) (sym h) (omega arith))
  settled_price e rows (inr h) = (subst (λ u. price u rows ≤ 1 + pages rows) (sym h) (omega arith), subst (λ u. rank u < 2) (sym h) (omega arith))

  pub recovering_settles : Settles s (settled s x b y can) x b 2 3
  recovering_settles =
      let t = settled s x b y can in
      let rows = (s.bucket b).rows x in
      let moves = recovering_moves s x b y can in
      let moved : weight t + price_at s.bucket x b ≡ weight s + price_at t.bucket x b = moves_weight s t x b can.set can.bucket can.silent moves in
      let old : price_at s.bucket x b ≡ 5 + pages rows = asked_price _ rows can.named in
      let new = settled_price ((t.bucket b).entry x) ((t.bucket b).rows x) (entry_settled s x b y can).either in
      let kept : pages ((t.bucket b).rows x) ≡ pages rows = ap pages (rows_kept s x b y can x) in
      let below : price_at t.bucket x b ≤ 1 + pages ((t.bucket b).rows x) = new.0 in
      record { moves = moves; rank_is = new.1; lighter = omega (arith, moved, old, below, kept) }

  -- the events that were carried out are those
  pub after_ask_is : (t : State) → ask s x b ≡ Ok t → posted s x b y can ≡ t
  after_ask_is t h = ok_is _ t (sym (asks s x b y can) ∙ h)

  pub delivers_next : (t : State) → ask s x b ≡ Ok t → deliver t x y ≡ Ok (replied s x b y can)
  delivers_next t h = subst (λ u. deliver u x y ≡ Ok (replied s x b y can)) (after_ask_is t h) (delivers s x b y can)

  pub hears_next : (t u : State) → ask s x b ≡ Ok t → deliver t x y ≡ Ok u → hear u x y ≡ Ok (settled s x b y can)
  hears_next t u h g = subst (λ v. hear v x y ≡ Ok (settled s x b y can)) (ok_is _ u (sym (delivers_next t h) ∙ g)) (hears s x b y can)

  pub recovers : (t u v : State) → ask s x b ≡ Ok t → deliver t x y ≡ Ok u → hear u x y ≡ Ok v → Settles s v x b 2 3
  recovers t u v h g f = subst (λ w. Settles s w x b 2 3) (ok_is _ v (sym (hears_next t u h g) ∙ f)) recovering_settles

-- it costs at least so much
pub asking_costs : (s : State) (x b y : ℕ) → CanAsk s x b y → 3 ≤ weight s
asking_costs s x b y can = let lighter = (recovering_settles s x b y can).lighter in omega (arith, lighter)

-- ---- a bucket that was sent is given up

pub condemning_settles : (s t : State) (x b d : ℕ) → IsNextEntry s x b 1 → (s.bucket b).entry x ≡ Some (Sent d) → condemn s x b ≡ Ok t → Settles s t x b 2 1 × ((t.bucket b).entry x ≡ Some Garbage)
condemning_settles s t x b d can sent h =
    subst (λ u. Settles s u x b 2 1 × ((u.bucket b).entry x ≡ Some Garbage)) (ok_is _ t (sym (condemns s x b d can sent) ∙ h))
    (let lighter = condemned_lighter s x b d can sent in
    (record { moves = condemned_moves s x b d can sent; rank_is = subst (λ e. rank e < 2) (sym (condemned_entry s x b d can sent)) (omega arith); lighter = omega (arith, lighter) }, condemned_entry s x b d can sent))

pub condemning_costs : (s : State) (x b d : ℕ) → IsNextEntry s x b 1 → (s.bucket b).entry x ≡ Some (Sent d) → 1 ≤ weight s
condemning_costs s x b d can sent = let lighter = condemned_lighter s x b d can sent in omega (arith, lighter)

pub condemning_collects : (p q : Played) (m n x b : ℕ) → IsNextEntry (state_of p) x b 1 → Follows p m q n → Settles (state_of p) (state_of q) x b 2 1 → ((state_of q).bucket b).entry x ≡ Some Garbage → CanCollect (state_of q) x b
condemning_collects p q m n x b next f one at = record { rests = f.rests; silent = one.moves.silent; set = set_stays p q m n x f next.set; bucket = bucket_stays p q m n b f next.bucket; garbage = at }

-- ---- a bucket that is garbage is wiped, and forgotten

pub collecting_costs : (s : State) (x b : ℕ) → CanCollect s x b → 1 ≤ weight s
collecting_costs s x b can = let lighter = forgotten_lighter s x b can in omega (arith, lighter)

pub forgetting_settles : (s t : State) (x b : ℕ) → CanCollect s x b → length ((s.bucket b).rows x) ≤ 0 → forget s x b ≡ Ok t → Settles s t x b 1 1
forgetting_settles s t x b can none h =
    subst (λ u. Settles s u x b 1 1) (ok_is _ t (sym (forgets s x b can none) ∙ h))
    (record { moves = forgotten_moves s x b can; rank_is = subst (λ e. rank e < 1) (sym (forgotten_entry s x b can)) (omega arith); lighter = forgotten_lighter s x b can })

pub record Wiped (s t : State) (x b : ℕ) : Type 0 where
  pub moves : Moves s t x b
  pub garbage : (t.bucket b).entry x ≡ Some Garbage
  pub lighter : weight t + 1 ≡ weight s
  pub fewer : length ((t.bucket b).rows x) < length ((s.bucket b).rows x)

pub wiping_wipes : (s t : State) (x b : ℕ) → CanCollect s x b → 1 ≤ length ((s.bucket b).rows x) → wipe s x b ≡ Ok t → Wiped s t x b
wiping_wipes s t x b can some h =
    subst (λ u. Wiped s u x b) (ok_is _ t (sym (wipes s x b can some) ∙ h))
    (record { moves = wiped_moves s x b can; garbage = wiped_entry s x b can; lighter = wiped_lighter s x b can some; fewer = wiped_fewer s x b can some })

-- along the wipes so far
pub record Wiping (p : Played) (m : ℕ) (q : Played) (n : ℕ) (x b : ℕ) : Type 0 where
  pub follows : Follows p m q n
  pub paid : IsPaid p m q n
  pub can : CanCollect (state_of q) x b
  pub sets : (y : ℕ) → y ≢ x → ((state_of q).bucket b).entry y ≡ ((state_of p).bucket b).entry y
  pub buckets : (c : ℕ) → c ≢ b → (state_of q).bucket c ≡ (state_of p).bucket c

pub wiping_starts : (p : Played) (m x b : ℕ) → CanCollect (state_of p) x b → Wiping p m p m x b
wiping_starts p m x b can = record { follows = follows_none p m can.rests; paid = omega arith; can = can; sets = λ y ne. refl; buckets = λ c ne. refl }

pub wiping_goes_on : (p q r : Played) (m n k x b : ℕ) → Wiping p m q n x b → 1 ≤ length (((state_of q).bucket b).rows x) → wipe (state_of q) x b ≡ Ok (state_of r) → Follows q n r k → k ≡ n + 1 → Wiping p m r k x b
wiping_goes_on p q r m n k x b w some h f ticks =
    let one = wiping_wipes (state_of q) (state_of r) x b w.can some h in
    let lighter = one.lighter in
    let paid : n + weight (state_of q) ≤ m + weight (state_of p) = w.paid in
    record {
      follows = follows_then p q r m n k w.follows f;
      paid = omega (arith, lighter, paid, ticks);
      can = record { rests = f.rests; silent = one.moves.silent; set = set_stays q r n k x f w.can.set; bucket = bucket_stays q r n k b f w.can.bucket; garbage = one.garbage };
      sets = λ y ne. one.moves.entries y ne ∙ w.sets y ne;
      buckets = λ c ne. one.moves.buckets c ne ∙ w.buckets c ne;
    }

pub wiping_ends : (p q r : Played) (m n k x b : ℕ) → Wiping p m q n x b → length (((state_of q).bucket b).rows x) ≤ 0 → forget (state_of q) x b ≡ Ok (state_of r) → k ≡ n + 1 → IsDone p m r k x b 1
wiping_ends p q r m n k x b w none h ticks =
    let one = forgetting_settles (state_of q) (state_of r) x b w.can none h in
    let lighter = one.lighter in
    let paid : n + weight (state_of q) ≤ m + weight (state_of p) = w.paid in
    record {
      paid = omega (arith, lighter, paid, ticks);
      silent = one.moves.silent;
      rank_is = one.rank_is;
      sets = λ y ne. one.moves.entries y ne ∙ w.sets y ne;
      buckets = λ c ne. one.moves.buckets c ne ∙ w.buckets c ne;
    }
