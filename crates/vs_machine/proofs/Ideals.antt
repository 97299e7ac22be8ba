-- As many ideals as sets.
use Rattle.std.proofs.Common.{◌≡◌, ℕ, zero, suc, Bool, true, false, refl, ◌∙◌, List, length, eqb, cond, arith}
use Rattle.std.specs.List.{zip, enumerate_from}
use Rattle.std.proofs.lemmas.List.{length-map}
use Rattle.std.proofs.lemmas.List.FromFn.{length-enumerate_from}
use Rattle.std.proofs.lemmas.Slice.Zip.{length-zip}
use Rattle.vs_balance.specs.declared.view.SetView.{SetView}
use Rattle.vs_balance.specs.declared.member.Member.{Member}
use Rattle.vs_balance.specs.Sharing.{number_at, numbers_of}
use Rattle.vs_balance.specs.Member.{weights_of, weight_of, shared_count, numbers, next, repeated, leave, ideal_in, ideals_in}
use Rattle.vs_balance.specs.Ideal.{counts_of, joined, settled, unlocked_weight, ideal_of}

as_many_numbers : (n : ℕ) (ms : List Member) → length (numbers_of n (weights_of ms)) ≡ length ms
unfolding numbers_of
as_many_numbers n ms =
    length-map (enumerate_from 0 (weights_of ms)) (λ (i, w). number_at n (weights_of ms) i w) ∙ length-enumerate_from 0 (weights_of ms) ∙ length-map ms weight_of

zipped : (ms : List Member) → length (zip ms (numbers ms)) ≡ length ms
zipped ms = grind (arith, length-zip ms (numbers ms), as_many_numbers (shared_count ms) ms)

as_many_next : (ms : List Member) → length (next ms) ≡ length ms
unfolding next
as_many_next ms = length-map (zip ms (numbers ms)) (λ (m, n). leave m n) ∙ zipped ms

as_many_left : (n : ℕ) (ms : List Member) → length (repeated n ms) ≡ length ms
as_many_left zero ms = refl
as_many_left (suc n) ms = as_many_left n (next ms) ∙ as_many_next ms

as_many_settled : (views : List SetView) → length (settled views) ≡ length views
unfolding settled
as_many_settled views = as_many_left (length views) (joined views) ∙ length-map views _

pub as_many_ideals : (views : List SetView) → length (ideal_of views) ≡ length views
unfolding ideal_of
as_many_ideals views = by (eqb (unlocked_weight views) 0)
  where
    last : length (ideals_in (settled views)) ≡ length views
    last = length-map (zip (settled views) (numbers (settled views))) (λ (m, n). ideal_in m n) ∙ zipped (settled views) ∙ as_many_settled views

    by : (t : Bool) → length (cond t (counts_of views) (ideals_in (settled views))) ≡ length views
    by true = length-map views _
    by false = last
