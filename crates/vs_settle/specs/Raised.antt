-- A set is started again.
use Rattle.std.specs.Prelude.{◌≡◌, ℕ, ◌+◌, ◌≤◌, true}
use Rattle.vs_disk.specs.Told.{Told}
use Rattle.vs_world.specs.Played.{state_of}
use Rattle.vs_world.specs.World.{World}
use Rattle.vs_settle.specs.Service.{Carries, IsCalm}
use Rattle.vs_settle.specs.Stopped.{KeepsFaults}
use Rattle.vs_settle.specs.Weight.{due}

-- set x is up, and so are those that were; the starts took at least as much from what is due
pub record IsRaised {D : Type 0} (told : D → Told) (old : World D) (m : ℕ) (new : World D) (n : ℕ) (x : ℕ) : Type 0 where
  pub carries : Carries old.played m new.played n
  pub faults : KeepsFaults told old new
  pub calm : IsCalm (state_of new.played)
  pub up : (state_of new.played).up x ≡ true
  pub others : (y : ℕ) → (state_of old.played).up y ≡ true → (state_of new.played).up y ≡ true
  pub paid : n + due (state_of new.played) ≤ m + due (state_of old.played)
