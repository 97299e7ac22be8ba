-- The references of one bucket, by the mode of the calls that hold them.
use Rattle.std.specs.Prelude.{ℕ, Bool, false}
use Rattle.vs_base.specs.declared.numbers.Mode.{Mode}
use Rattle.vs_base.specs.declared.numbers.Mode.TheVariants.{Ro, Rw}
use Rattle.vs_refs.specs.declared.counts.Counts.{Counts}

-- no references, and no locks
abbrev pub no_counts : Counts
no_counts = record { ro = 0; rw = 0; ro_lock = false; rw_lock = false }

-- how many calls of the mode are running
abbrev pub count_of : Counts → Mode → ℕ
count_of c Ro = c.ro
count_of c Rw = c.rw

-- whether no further call of the mode may begin
abbrev pub lock_of : Counts → Mode → Bool
lock_of c Ro = c.ro_lock
lock_of c Rw = c.rw_lock

abbrev pub with_count : Counts → Mode → ℕ → Counts
with_count c Ro n = record c { ro = n }
with_count c Rw n = record c { rw = n }

abbrev pub with_lock : Counts → Mode → Bool → Counts
with_lock c Ro lock = record c { ro_lock = lock }
with_lock c Rw lock = record c { rw_lock = lock }
