-- The numbers of faults, and how often the disks failed.
use Rattle.std.specs.Prelude.{◌≡◌, ℕ, ◌+◌, ◌^◌, ◌<◌, ◌≤◌, true}
use Rattle.vs_disk.specs.Told.{Told}
use Rattle.vs_event.specs.declared.event.Event.{Event}
use Rattle.vs_event.specs.declared.event.Event.TheVariants.{Fault}
use Rattle.vs_machine.specs.State.{has_set}
use Rattle.vs_world.specs.Played.{began, state_of}
use Rattle.vs_world.specs.World.{World, OfDisk}

-- The number of the set's last fault is at most how often its disk failed since the beginning. A count that stands at its end
-- says nothing.
abbrev pub IsCounted : {D : Type 0} → (D → Told) → World D → ℕ → Type 0
IsCounted told w x = OfDisk w x (λ it. (told it).faults < 2 ^ 63 → (state_of w.played).last_fault x + (began w.played).faults x ≤ (told it).faults)

-- where that holds of a set before a call, it holds after it
abbrev pub KeepsCount : {D : Type 0} → (D → Told) → World D → World D → Type 0
KeepsCount told old new = (x : ℕ) → has_set (state_of old.played) x ≡ true → IsCounted told old x → IsCounted told new x

-- nobody made this fault up
abbrev pub IsNoFault : Event → Type 0
IsNoFault (Fault x n e) = ⊥
IsNoFault e = Unit {0}
