use Rattle.std.proofs.Common.{ℕ, ◌==◌, ◌≡◌, None, ap, ◌∙◌, arith}
use Rattle.std.specs.Prelude.{if◌then◌else◌}
use Rattle.std.proofs.lemmas.Bool.Decides.{nat_tests}
use Rattle.vs_recover.specs.Asks.{ask_of}
use Rattle.vs_core.proofs.arrivals.end_ask.Goals as goal

turned : (x y : ℕ) → (x == y) ≡ (y == x)
turned x y = grind (arith, nat_tests)

pub returns : goal.returns
returns c = λ q. c.drop_ask.ensures.dropped q ∙ ap (λ t. if t then None else ask_of c.args.asks.now.items q) (turned c.args.bucket q)
