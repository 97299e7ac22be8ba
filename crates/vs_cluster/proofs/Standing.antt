-- When a cluster stands still: nobody who is there moves it.
use Rattle.std.proofs.Common.{◌≡◌, ℕ, ◌≤◌, true, false}
use Rattle.std.specs.Prelude.{◌↔◌}
use Rattle.vs_machine.specs.Actors.{IsStill}
use Rattle.vs_machine.specs.Driven.{IsStillWithin, StillWithin}
use Rattle.vs_machine.specs.Runs.{IsReached}
use Rattle.vs_machine.specs.State.{State, sets_of}
use Rattle.vs_cluster.specs.Still.{NobodyActs}
use Rattle.vs_cluster.proofs.Numbers.{is_within, within}

nobody_within : (s : State) → NobodyActs s → IsStillWithin s
nobody_within s nobody = record {
  calls = λ c there. let at = within s.clients c there in nobody.calls c at.0 at.1;
  operators = λ o there. let at = within s.operators o there in nobody.operators o at.0 at.1;
  movers = λ x there. let at = within (sets_of s) x there in nobody.movers x at.0 at.1;
  services = λ x there. let at = within (sets_of s) x there in nobody.services x at.0 at.1;
}

none_there : (s : State) → IsStillWithin s → NobodyActs s
none_there s still = record {
  calls = λ c first last. still.calls c (is_within s.clients c first last);
  operators = λ o first last. still.operators o (is_within s.operators o first last);
  movers = λ x first last. still.movers x (is_within (sets_of s) x first last);
  services = λ x first last. still.services x (is_within (sets_of s) x first last);
}

pub still_exactly : (s : State) → StillWithin → IsReached s → NobodyActs s ↔ IsStill s
still_exactly s law reached = (λ nobody. (law s reached).0 (nobody_within s nobody), λ still. none_there s ((law s reached).1 still))
