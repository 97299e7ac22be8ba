-- A round that moves a bucket.
use Rattle.std.proofs.Common.{◌≡◌, ℕ, zero, suc, ◌≤◌, Bool, true, false, Option, Some, None, Ok, refl, sym, ap, ◌∙◌, arith}
use Rattle.std.specs.Prelude.{◌&&◌, if◌then◌else◌}
use Rattle.std.proofs.lemmas.Bool.Decides.{nat_tests}
use Rattle.vs_machine.specs.State as machine
use Rattle.vs_machine.specs.Tables.{is_to, least_to, or_else}
use Rattle.vs_machine.specs.Kinds.Rebalancing.{is_free, bucket_to_haul, left_on, haul, after_haul}
use Rattle.vs_machine.proofs.Can.Others.{can_haul}
use Rattle.vs_state.specs.Guard.{verdict}
use Rattle.vs_core.proofs.Sender.{goes_on}

-- ---- the least number that passes

module _ (p : ℕ → Bool) where
  least_within : (n k : ℕ) → least_to p n ≡ Some k → is_to n k ≡ true
  least_within zero k h = absurd (cc h)
  least_within (suc n) k h = by (least_to p n) (p (suc n)) (least_within n k) refl h
    where
      by : (o : Option ℕ) (t : Bool) → (least_to p n ≡ Some k → is_to n k ≡ true) → least_to p n ≡ o → or_else o (if t then Some (suc n) else None) ≡ Some k → is_to (suc n) k ≡ true
      by (Some j) t before is h =
          let within : is_to n k ≡ true = before (is ∙ h) in
          grind (arith, nat_tests, within)
      by None true before is h =
          let same : suc n ≡ k = cc in
          grind (arith, nat_tests, same)
      by None false before is h = absurd (cc h)

-- a bucket that is to be hauled is one of the cluster
pub haul_bucket : (s : machine.State) (x d b : ℕ) → bucket_to_haul s x d ≡ Some b → machine.has_bucket s b ≡ true
haul_bucket s x d b h = by (s.up x && s.up d) h
  where
    by : (t : Bool) → (if t then least_to (is_free s x) s.config.bucket_count else None) ≡ Some b → machine.has_bucket s b ≡ true
    by true h = least_within (is_free s x) s.config.bucket_count b h
    by false h = absurd (cc h)

module _ (s : machine.State) (o x d : ℕ) (h : verdict (haul s o x d) ≡ Ok tt) where
  pub haul_is : haul s o x d ≡ Ok (after_haul s o x d (bucket_to_haul s x d))
  haul_is =
      let next = goes_on (haul s o x d) h in
      next.1 ∙ ap Ok (sym (can_haul s next.0 o x d next.1).gives)

  pub haul_left : 1 ≤ left_on (s.operator o).routes x d
  haul_left =
      let next = goes_on (haul s o x d) h in
      let left = (can_haul s next.0 o x d next.1).left in
      grind (arith, nat_tests, left)
