-- Whether a journal has room for the longest entry.
use Rattle.std.proofs.Common.{◌≡◌, ℕ, ◌-◌, ◌<◌, ◌^◌, min, true, Some, arith}
use Rattle.std.specs.Prelude.{nat_lt, IsTrue}
use Rattle.std.proofs.lemmas.Bool.Decides.{nat_tests}
use Rattle.vs_machine.specs.State.{has_set}
use Rattle.vs_world.specs.Played.{began, state_of}
use Rattle.vs_world.specs.World.{World, length_of}
use Rattle.vs_drive.specs.Ends.{longest_entry, EndsRun, IsDriveCause, IsNearlyFull}
use Rattle.vs_drive.specs.declared.driver.DriveFault.{DriveFault}
use Rattle.vs_drive.specs.declared.driver.DriveFault.TheVariants.{Full, NoMemory}

-- as the numbers that are compared tell it
less : (limit len a b : ℕ) → a ≡ limit - 1048581 → b ≡ min len (2 ^ 64 - 1) → nat_lt a b ≡ true → limit - 1048581 < len
less limit len a b is there below = grind (arith, nat_tests, below)

not_less : (limit len a b : ℕ) → limit < 2 ^ 64 → a ≡ limit - 1048581 → b ≡ min len (2 ^ 64 - 1) → limit - 1048581 < len → nat_lt a b ≡ true
not_less limit len a b fits is there h = grind (arith, nat_tests)

pub nearly_full : {D : Type 0} (w : World D) (x a b : ℕ) → has_set (state_of w.played) x ≡ true → (state_of w.played).up x ≡ true → (began w.played).limit < 2 ^ 64
    → a ≡ (began w.played).limit - longest_entry → b ≡ min (length_of w x) (2 ^ 64 - 1)
    → (IsTrue (nat_lt a b) → IsNearlyFull w x) × (IsNearlyFull w x → IsTrue (nat_lt a b))
nearly_full w x a b has up fits is there = (
  λ below. record { has = has; up = up; above = less (began w.played).limit (length_of w x) a b is there below },
  λ h. not_less (began w.played).limit (length_of w x) a b fits is there h.above,
)

-- why the cluster isn't driven to its end
pub cause_of : {D : Type 0} (old new : World D) (fault : DriveFault) → began new.played ≡ began old.played → EndsRun new (Some fault) → IsDriveCause old new fault
cause_of old new (Full x) same ends = (same, ends)
cause_of old new NoMemory same ends = tt
