-- What an edit of the entries leaves of each bucket's ask.
use Rattle.std.proofs.Common.{◌≡◌, ℕ, List, Option, if◌then◌else◌, ◌==◌, ap, ◌∙◌, arith}
use Rattle.std.specs.Ordering.{nat_cmp, is_eq}
use Rattle.std.proofs.lemmas.Bool.Decides.{nat_tests}
use Rattle.vs_table.specs.Entries.{Updates}
use Rattle.vs_recover.specs.Asks.{ask_of, Sets}

-- the comparison of two numbers as a test
same_test : (x y : ℕ) → is_eq (nat_cmp x y) ≡ (x == y)
same_test x y = grind (arith, nat_tests)

pub sets_updated : (old new : List (ℕ × (ℕ × ℕ))) (id : ℕ) (ask : Option (ℕ × ℕ)) → Updates nat_cmp old new id ask → Sets old new id ask
sets_updated old new id ask updates b = updates b ∙ ap (λ t. if t then ask else ask_of old b) (same_test id b)
