-- Faults of a journal's bytes, as those of a store.
use Rattle.std.specs.Prelude.{◌≡◌, ⊤, ℕ, Result, Ok, Err}
use Rattle.vs_frame.specs.declared.fault.FrameFault.{FrameFault}
use Rattle.vs_frame.specs.declared.fault.FrameFault.TheVariants as frame
use Rattle.vs_store.specs.declared.fault.StoreFault.{StoreFault}
use Rattle.vs_store.specs.declared.fault.StoreFault.TheVariants.{Full, DiskFault, NotAJournal, OtherSet, OtherCount, NoMemory}

abbrev pub fault_of : FrameFault → StoreFault
fault_of frame.DiskFault = DiskFault
fault_of (frame.NotAJournal place) = NotAJournal place
fault_of frame.NoMemory = NoMemory

-- What a function returned, seen by view, is what reading gives, unless memory ran out. No other fault comes.
abbrev pub Fails : {Y : Type 0} → StoreFault → Result Y ℕ → Type 0
Fails NoMemory read = ⊤
Fails (NotAJournal place) read = read ≡ Err place
Fails fault read = ⊥

abbrev pub Gives : {X Y : Type 0} → (X → Y) → Result X StoreFault → Result Y ℕ → Type 0
Gives view (Ok x) read = read ≡ Ok (view x)
Gives view (Err e) read = Fails e read

-- one of those that tell what a file is, in place of a set's journal
abbrev pub IsRefusal : StoreFault → Type 0
IsRefusal (NotAJournal place) = ⊤
IsRefusal (OtherSet uuid) = ⊤
IsRefusal (OtherCount count) = ⊤
IsRefusal fault = ⊥

-- one of those of an append
abbrev pub IsOfAppend : StoreFault → Type 0
IsOfAppend (Full len) = ⊤
IsOfAppend DiskFault = ⊤
IsOfAppend NoMemory = ⊤
IsOfAppend fault = ⊥

-- one of those of a new journal
abbrev pub IsOfCreate : StoreFault → Type 0
IsOfCreate DiskFault = ⊤
IsOfCreate NoMemory = ⊤
IsOfCreate fault = ⊥

-- one of those of reading a journal
abbrev pub IsOfReading : StoreFault → Type 0
IsOfReading DiskFault = ⊤
IsOfReading (NotAJournal place) = ⊤
IsOfReading NoMemory = ⊤
IsOfReading fault = ⊥
