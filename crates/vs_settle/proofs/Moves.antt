-- The entry of one bucket at one set changes, and nothing lies on the connections.
use Rattle.std.proofs.Common.{◌≡◌, ℕ, ◌+◌, ◌==◌, Bool, true, false, refl, sym, ap, subst, ◌∙◌, arith, length}
use Rattle.std.specs.Prelude.{◌≢◌, if◌then◌else◌}
use Rattle.std.proofs.lemmas.Bool.{eqb-false}
use Rattle.vs_config.specs.Configuration.{Configuration}
use Rattle.vs_machine.specs.State.{State, sets_of, has_set, has_bucket}
use Rattle.vs_machine.specs.Settling.{IsSilent}
use Rattle.vs_settle.specs.Weight.{load, load_at, loads, price_at, prices, weight}
use Rattle.vs_settle.proofs.Sums.{over_same}
use Rattle.vs_settle.proofs.Tables.{within}
use Rattle.vs_settle.proofs.Weights.{prices_move}

pub record Moves (s t : State) (x b : ℕ) : Type 0 where
  pub config : t.config ≡ s.config
  pub silent : IsSilent t
  pub entries : (y : ℕ) → y ≢ x → (t.bucket b).entry y ≡ (s.bucket b).entry y
  pub rows : (y : ℕ) → y ≢ x → (t.bucket b).rows y ≡ (s.bucket b).rows y
  pub buckets : (c : ℕ) → c ≢ b → t.bucket c ≡ s.bucket c

no_load : (s : State) → IsSilent s → (p q : ℕ) → load_at s.link p q ≡ 0
no_load s silent p q = by (p == q) refl
  where
    by : (t : Bool) → (p == q) ≡ t → ◌≡◌ {A = ℕ} (if t then 0 else load (s.link p q)) 0
    by true e = refl
    by false e =
        let empty = silent p q (eqb-false p q e) in
        let calls : length (s.link p q).calls ≡ 0 = ap length empty.calls in
        let replies : length (s.link p q).replies ≡ 0 = ap length empty.replies in
        omega (arith, calls, replies)

-- the weight changes by what the entry costs
pub moves_weight : (s t : State) (x b : ℕ) → has_set s x ≡ true → has_bucket s b ≡ true → IsSilent s → Moves s t x b → weight t + price_at s.bucket x b ≡ weight s + price_at t.bucket x b
unfolding weight
moves_weight s t x b set bucket silent moves =
    let n = sets_of s in
    let m = s.config.bucket_count in
    let a = within n x set in
    let c = within m b bucket in
    let lines : loads t.link n ≡ loads s.link n = over_same (load_at s.link) (load_at t.link) n n (λ p q. no_load t moves.silent p q ∙ sym (no_load s silent p q)) in
    let costs : prices t.bucket n m + price_at s.bucket x b ≡ prices s.bucket n m + price_at t.bucket x b = prices_move s.bucket t.bucket n m x b a.0 a.1 c.0 c.1 moves.entries moves.rows moves.buckets in
    subst (λ (f : Configuration). (loads t.link (length f.sets) + prices t.bucket (length f.sets) f.bucket_count) + price_at s.bucket x b ≡ (loads s.link n + prices s.bucket n m) + price_at t.bucket x b) (sym moves.config)
    (omega (arith, lines, costs))
