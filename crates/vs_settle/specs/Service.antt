-- What the service may do, and what is known while it does it.
use Rattle.std.specs.Prelude.{◌≡◌, ℕ, ◌+◌, ◌≤◌, true, List, ◌++◌, length, All}
use Rattle.vs_event.specs.declared.event.Event.{Event}
use Rattle.vs_event.specs.declared.event.Event.TheVariants.{Deliver, Hear, Ask, Condemn, Wipe, Forget, Restart}
use Rattle.vs_event.specs.declared.event.RestartBy.TheVariants as by
use Rattle.vs_machine.specs.Kinds.Stops.{is_finished}
use Rattle.vs_machine.specs.Runs.{IsReached}
use Rattle.vs_machine.specs.Settling.{AreUp}
use Rattle.vs_machine.specs.State.{State}
use Rattle.vs_world.specs.Played.{Played, state_of}
use Rattle.vs_settle.specs.Quiet.{IsQuiet}
use Rattle.vs_settle.specs.Weight.{weight}

-- sets are started again, messages are taken and replies heard, sets ask, and what they don't have any more is collected
abbrev pub IsService : Event → Type 0
IsService (Deliver x y) = Unit {0}
IsService (Hear x y) = Unit {0}
IsService (Ask x b) = Unit {0}
IsService (Condemn x b) = Unit {0}
IsService (Wipe x b) = Unit {0}
IsService (Forget x b) = Unit {0}
IsService (Restart x kept by.Service) = Unit {0}
IsService e = ⊥

-- the later list begins with the earlier one, and the rest is the service's
pub record AddsServices (earlier later : List Event) : Type 0 where
  pub added : List Event
  pub events : later ≡ earlier ++ added
  pub services : All IsService added

-- a reached state in which all is answered
pub record IsCalm (s : State) : Type 0 where
  pub reached : IsReached s
  pub finished : is_finished s ≡ true
  pub quiet : IsQuiet s

-- a reached state in which all is answered and every set is up
pub record IsResting (s : State) : Type 0 where
  pub reached : IsReached s
  pub finished : is_finished s ≡ true
  pub up : AreUp s
  pub quiet : IsQuiet s

-- from p to q the service carried out events, one for each tick from m to n
pub record Carries (p : Played) (m : ℕ) (q : Played) (n : ℕ) : Type 0 where
  pub serves : AddsServices p.events q.events
  pub ticks : n ≡ m + length serves.added
  pub opening : q.opening ≡ p.opening
  pub config : (state_of q).config ≡ (state_of p).config

-- and the cluster is at rest
pub record Follows (p : Played) (m : ℕ) (q : Played) (n : ℕ) : Type 0 where
  pub carries : Carries p m q n
  pub rests : IsResting (state_of q)

-- the events took at least as much from the weight
abbrev pub IsPaid : Played → ℕ → Played → ℕ → Type 0
IsPaid p m q n = n + weight (state_of q) ≤ m + weight (state_of p)
