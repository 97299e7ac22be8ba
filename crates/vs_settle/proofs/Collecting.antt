-- A bucket that was sent is given up, wiped and forgotten: each event is possible, and takes from what the entry costs.
use Rattle.std.proofs.Common.{◌≡◌, ℕ, ◌+◌, ◌-◌, ◌<◌, ◌≤◌, true, false, refl, ap, ◌∙◌, arith, List, [], ◌∷◌, length, drop, Option, Some, None, Ok}
use Rattle.std.specs.Int.{div_ceil}
use Rattle.std.proofs.lemmas.List.{length-drop}
use Rattle.vs_base.specs.declared.numbers.Mode.TheVariants.{Ro}
use Rattle.vs_rows.specs.RowMap.{RowMap}
use Rattle.vs_space.specs.declared.status.Status.TheVariants.{Sent, Garbage}
use Rattle.vs_machine.specs.State.{State, Bucket, sets_of, put_bucket, with_entry, put_rows}
use Rattle.vs_machine.specs.Kinds.Connections.{is_null}
use Rattle.vs_machine.specs.Kinds.Collection.{condemn, wipe, forget}
use Rattle.vs_machine.specs.Settling.{IsSilent}
use Rattle.vs_machine.proofs.Frame.{put_here, put_there}
use Rattle.vs_settle.specs.Tasks.{CanCollect, IsNextEntry}
use Rattle.vs_settle.specs.Weight.{pages, price, price_at, weight}
use Rattle.vs_settle.proofs.Moves.{Moves, moves_weight}
use Rattle.vs_settle.proofs.Possible.{condemn_is, wipe_is, forget_is}
use Rattle.vs_settle.proofs.Tables.{within}

-- 1,000 rows fewer, or all, are a page fewer
page_fewer : (n : ℕ) → 1 ≤ n → div_ceil (n - 1000) 1000 + 1 ≡ div_ceil n 1000
page_fewer n some = omega arith

pub wiped_pages : (rows : RowMap) → 1 ≤ length rows → pages (drop 1000 rows) + 1 ≡ pages rows
unfolding pages
wiped_pages rows some = ap (λ n. div_ceil n 1000 + 1) (length-drop 1000 rows) ∙ page_fewer (length rows) some

is_null_none : {A : Type 0} (xs : List A) → length xs ≤ 0 → is_null xs ≡ true
is_null_none [] h = refl
is_null_none (x ∷ xs) h = absurd (omega arith)

is_null_some : {A : Type 0} (xs : List A) → 1 ≤ length xs → is_null xs ≡ false
is_null_some [] h = absurd (omega arith)
is_null_some (x ∷ xs) h = refl

-- another entry, or other rows, of one bucket at one set
module _ (s : State) (x b : ℕ) (silent : IsSilent s) where
  entry_moves : (e : Option _) → Moves s (put_bucket s b (with_entry (s.bucket b) x e)) x b
  entry_moves e = record {
    config = refl;
    silent = λ p q ne. record { calls = (silent p q ne).calls; replies = (silent p q ne).replies };
    entries = λ y ne. ap (λ (u : Bucket). u.entry y) (put_here s.bucket b _) ∙ put_there (s.bucket b).entry x e y ne;
    rows = λ y ne. ap (λ (u : Bucket). u.rows y) (put_here s.bucket b _);
    buckets = λ c ne. put_there s.bucket b _ c ne;
  }

  rows_moves : (rows : RowMap) → Moves s (put_bucket s b (put_rows (s.bucket b) x rows)) x b
  rows_moves rows = record {
    config = refl;
    silent = λ p q ne. record { calls = (silent p q ne).calls; replies = (silent p q ne).replies };
    entries = λ y ne. ap (λ (u : Bucket). u.entry y) (put_here s.bucket b _);
    rows = λ y ne. ap (λ (u : Bucket). u.rows y) (put_here s.bucket b _) ∙ put_there (s.bucket b).rows x rows y ne;
    buckets = λ c ne. put_there s.bucket b _ c ne;
  }

-- ---- a bucket that was sent is given up

module _ (s : State) (x b d : ℕ) (can : IsNextEntry s x b 1) (sent : (s.bucket b).entry x ≡ Some (Sent d)) where
  abbrev pub condemned : State
  condemned = put_bucket s b (with_entry (s.bucket b) x (Some Garbage))

  pub condemns : condemn s x b ≡ Ok condemned
  condemns =
      let x_in = within (sets_of s) x can.set in
      condemn_is s x b can.set can.bucket (can.rests.up x x_in.0 x_in.1) d sent (can.rests.quiet.no_transfer b x) (can.rests.quiet.unreferenced Ro x b)

  pub condemned_moves : Moves s condemned x b
  condemned_moves = entry_moves s x b can.silent (Some Garbage)

  pub condemned_entry : (condemned.bucket b).entry x ≡ Some Garbage
  condemned_entry = ap (λ (u : Bucket). u.entry x) (put_here s.bucket b _) ∙ put_here (s.bucket b).entry x _

  pub condemned_lighter : weight condemned + 1 ≡ weight s
  condemned_lighter =
      let rows = (s.bucket b).rows x in
      let moved : weight condemned + price_at s.bucket x b ≡ weight s + price_at condemned.bucket x b = moves_weight s condemned x b can.set can.bucket can.silent condemned_moves in
      let old : price_at s.bucket x b ≡ 2 + pages rows = ap (λ e. price e rows) sent in
      let new : price_at condemned.bucket x b ≡ 1 + pages rows = λ i. price (condemned_entry i) (ap (λ (u : Bucket). u.rows x) (put_here s.bucket b (with_entry (s.bucket b) x (Some Garbage))) i) in
      omega (arith, moved, old, new)

-- ---- a bucket that is garbage is collected

module _ (s : State) (x b : ℕ) (can : CanCollect s x b) where
  abbrev pub wiped : State
  wiped = put_bucket s b (put_rows (s.bucket b) x (drop 1000 ((s.bucket b).rows x)))

  abbrev pub forgotten : State
  forgotten = put_bucket s b (with_entry (s.bucket b) x None)

  x_up : s.up x ≡ true
  x_up = let x_in = within (sets_of s) x can.set in can.rests.up x x_in.0 x_in.1

  pub wipes : 1 ≤ length ((s.bucket b).rows x) → wipe s x b ≡ Ok wiped
  wipes some = wipe_is s x b can.set can.bucket x_up can.garbage (is_null_some _ some)

  pub wiped_moves : Moves s wiped x b
  wiped_moves = rows_moves s x b can.silent _

  pub wiped_entry : (wiped.bucket b).entry x ≡ Some Garbage
  wiped_entry = ap (λ (u : Bucket). u.entry x) (put_here s.bucket b _) ∙ can.garbage

  pub wiped_rows : (wiped.bucket b).rows x ≡ drop 1000 ((s.bucket b).rows x)
  wiped_rows = ap (λ (u : Bucket). u.rows x) (put_here s.bucket b _) ∙ put_here (s.bucket b).rows x _

  pub wiped_fewer : 1 ≤ length ((s.bucket b).rows x) → length ((wiped.bucket b).rows x) < length ((s.bucket b).rows x)
  wiped_fewer some =
      let rows = (s.bucket b).rows x in
      let fewer : length ((wiped.bucket b).rows x) ≡ length rows - 1000 = ap length wiped_rows ∙ length-drop 1000 rows in
      omega (arith, fewer, some)

  pub wiped_lighter : 1 ≤ length ((s.bucket b).rows x) → weight wiped + 1 ≡ weight s
  wiped_lighter some =
      let rows = (s.bucket b).rows x in
      let moved : weight wiped + price_at s.bucket x b ≡ weight s + price_at wiped.bucket x b = moves_weight s wiped x b can.set can.bucket can.silent wiped_moves in
      let old : price_at s.bucket x b ≡ 1 + pages rows = ap (λ e. price e rows) can.garbage in
      let new : price_at wiped.bucket x b ≡ 1 + pages (drop 1000 rows) = λ i. price (wiped_entry i) (wiped_rows i) in
      let fewer : pages (drop 1000 rows) + 1 ≡ pages rows = wiped_pages rows some in
      omega (arith, moved, old, new, fewer)

  pub forgets : length ((s.bucket b).rows x) ≤ 0 → forget s x b ≡ Ok forgotten
  forgets none = forget_is s x b can.set can.bucket x_up can.garbage (is_null_none _ none)

  pub forgotten_moves : Moves s forgotten x b
  forgotten_moves = entry_moves s x b can.silent None

  pub forgotten_entry : (forgotten.bucket b).entry x ≡ None
  forgotten_entry = ap (λ (u : Bucket). u.entry x) (put_here s.bucket b _) ∙ put_here (s.bucket b).entry x _

  pub forgotten_lighter : weight forgotten + 1 ≤ weight s
  forgotten_lighter =
      let rows = (s.bucket b).rows x in
      let moved : weight forgotten + price_at s.bucket x b ≡ weight s + price_at forgotten.bucket x b = moves_weight s forgotten x b can.set can.bucket can.silent forgotten_moves in
      let old : price_at s.bucket x b ≡ 1 + pages rows = ap (λ e. price e rows) can.garbage in
      let new : price_at forgotten.bucket x b ≡ 0 = ap (λ e. price e ((forgotten.bucket b).rows x)) forgotten_entry in
      omega (arith, moved, old, new)
