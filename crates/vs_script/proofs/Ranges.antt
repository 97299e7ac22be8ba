-- The numbers that were read are within their ranges.
use Rattle.std.proofs.Common.{◌≡◌, ℕ, nat_le, not, ◌&&◌, min, List, Ok, subst, arith}
use Rattle.std.proofs.lemmas.Bool.{and_parts, leb-true, not-false}
use Rattle.vs_script.specs.declared.fault.ScriptKind.{ScriptKind}
use Rattle.vs_script.specs.declared.fault.ScriptKind.TheVariants.{BadBucket, BadSet}
use Rattle.vs_script.specs.Lawful.{IsWithin}
use Rattle.vs_script.specs.Words.{◌>>◌, bad_if, number_at, number_to, bucket_at, set_at}
use Rattle.vs_script.proofs.Steps.{step, passed}

pub number_range : (most : ℕ) (kind : ScriptKind) (words : List (List ℕ)) (x : ℕ × List (List ℕ)) → number_to most kind words ≡ Ok x → IsWithin most x.0
number_range most kind words x e =
    let test = λ (k : ℕ). not (nat_le 1 k && nat_le k most) in
    let (number, _, tested) = step (number_at words) (λ number. bad_if (test number.0) kind >> Ok number) x e in
    let (u, passes, last) = step (bad_if (test number.0) kind) (λ _. Ok number) x tested in
    let within = not-false (nat_le 1 number.0 && nat_le number.0 most) (passed (test number.0) kind u passes) in
    let (least, greatest) = and_parts (nat_le 1 number.0) (nat_le number.0 most) within in
    let same : number ≡ x = cc in
    subst (λ (y : ℕ × List (List ℕ)). IsWithin most y.0) same (leb-true 1 number.0 least, leb-true number.0 most greatest)

pub bucket_range : (m : ℕ) (words : List (List ℕ)) (x : ℕ × List (List ℕ)) → bucket_at m words ≡ Ok x → IsWithin m x.0
bucket_range m words x e =
    let range = number_range (min m 30000) BadBucket words x e in
    (range.0, omega (arith, range.1))

pub set_range : (n : ℕ) (words : List (List ℕ)) (x : ℕ × List (List ℕ)) → set_at n words ≡ Ok x → IsWithin n x.0
set_range n words x e = number_range n BadSet words x e
