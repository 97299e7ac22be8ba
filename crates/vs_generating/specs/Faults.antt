-- The faults that disks in memory leave: want of memory.
use Rattle.std.specs.Prelude.{◌≡◌, ◌-◌, ◌^◌, ◌<◌}
use Rattle.vs_drive.specs.Ends.{IsNearlyFull}
use Rattle.vs_drive.specs.declared.driver.DriveFault.{DriveFault}
use Rattle.vs_drive.specs.declared.driver.DriveFault.TheVariants as drive
use Rattle.vs_settle.specs.declared.fault.SettleFault.{SettleFault}
use Rattle.vs_settle.specs.declared.fault.SettleFault.TheVariants as settle
use Rattle.vs_store.specs.declared.fault.StoreFault.TheVariants as store
use Rattle.vs_world.specs.Played.{began}
use Rattle.vs_world.specs.World.{World}
use Rattle.vs_world.specs.declared.fault.WorldFault.{WorldFault}
use Rattle.vs_world.specs.declared.fault.WorldFault.TheVariants as world

-- a journal that is too long has a length above the greatest number of 64 bits
abbrev pub IsOfMemory : WorldFault → Type 0
IsOfMemory (world.OfSet x (store.Full len)) = 2 ^ 64 - 1 < len
IsOfMemory (world.OfSet x fault) = ⊥
IsOfMemory (world.Incoherent bucket entries) = ⊥
IsOfMemory world.NoMemory = Unit {0}

-- a journal is nearly full in a cluster whose journals may have every length of 64 bits
abbrev pub IsOfDrivers : {D : Type 0} → World D → DriveFault → Type 0
IsOfDrivers w (drive.Full x) = ((began w.played).limit ≡ 2 ^ 64 - 1) × IsNearlyFull w x
IsOfDrivers w drive.NoMemory = Unit {0}

abbrev pub IsNoDiskFault : SettleFault → Type 0
IsNoDiskFault (settle.DiskFault x) = ⊥
IsNoDiskFault fault = Unit {0}
