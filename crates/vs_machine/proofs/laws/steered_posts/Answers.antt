use Rattle.vs_machine.proofs.Driven.{driven_at_first, driven_by_others, driven_by_posts, listed_flags}
use Rattle.vs_machine.proofs.Faults.{fault_numbers}
use Rattle.vs_machine.proofs.Steering.{tested_posts, tested_asks, still_within}
use Rattle.vs_machine.proofs.laws.steered_posts.Goals as goal

pub returns : goal.returns
returns c = record { first = driven_at_first; others = driven_by_others; posts = driven_by_posts; flags = listed_flags; tested = tested_posts; asks = tested_asks; still = still_within; numbers = fault_numbers }
