-- A table of buckets in which one is written.
use Rattle.std.proofs.Common.{◌≡◌, ℕ, ◌==◌, List, Option, if◌then◌else◌, ap, ◌∙◌, arith}
use Rattle.std.specs.Ordering.{nat_cmp, is_eq}
use Rattle.std.proofs.lemmas.Bool.Decides.{nat_tests}
use Rattle.vs_table.specs.Entries.{value_of, Updates}
use Rattle.vs_space.specs.Entries.{status_of, with_status}
use Rattle.vs_space.specs.declared.status.Status.{Status}
use Rattle.vs_space.proofs.Entries.{status_of-with_status}

same_test : (x y : ℕ) → is_eq (nat_cmp x y) ≡ (y == x)
same_test x y = grind (arith, nat_tests)

turned : (x y : ℕ) → (x == y) ≡ (y == x)
turned x y = grind (arith, nat_tests)

pub updated : {V : Type 0} (old new : List (ℕ × V)) (id : ℕ) (value : Option V) → Updates nat_cmp old new id value → (q : ℕ) → value_of nat_cmp new q ≡ (if q == id then value else value_of nat_cmp old q)
updated old new id value updates q = updates q ∙ ap (λ t. if t then value else value_of nat_cmp old q) (same_test id q)

pub status_changed : (es : List (ℕ × Status)) (id : ℕ) (new : Option Status) (q : ℕ) → status_of (with_status es id new) q ≡ (if q == id then new else status_of es q)
status_changed es id new q = status_of-with_status es id new q ∙ ap (λ t. if t then new else status_of es q) (turned id q)
