-- What a call that holds a reference finds at its set.
use Rattle.std.specs.Prelude.{◌≡◌, ℕ, ◌≤◌, ◌&&◌, Bool, true, false, Option, Some}
use Rattle.vs_base.specs.declared.numbers.Mode.{Mode}
use Rattle.vs_base.specs.declared.numbers.Mode.TheVariants.{Ro, Rw}
use Rattle.vs_rows.specs.RowMap.{RowMap}
use Rattle.vs_space.specs.declared.status.Status.{Status}
use Rattle.vs_space.specs.declared.status.Status.TheVariants.{Active, Pinned, Sending, Sent}
use Rattle.vs_calls.specs.Progress.{Progress, is_held, is_idle}
use Rattle.vs_history.specs.History.{History, rows_at, write_count}
use Rattle.vs_script.specs.Calls.{Call}
use Rattle.vs_machine.specs.State.{State, Bucket, Client, next_call, is_set, has_client}
use Rattle.vs_machine.specs.Coherence.{IsServing}

-- a set that has sent the bucket has the rows of the kept place, which isn't before the call's last post
pub record IsCopy (rows : RowMap) (h : History) (kept posted : ℕ) : Type 0 where
  pub rows_are : rows ≡ rows_at h kept
  pub fresh : posted ≤ kept
  pub within : kept ≤ write_count h

abbrev pub ReadFits : Option Status → RowMap → History → ℕ → ℕ → Type 0
ReadFits (Some Active) rows h kept posted = Unit {0}
ReadFits (Some Pinned) rows h kept posted = Unit {0}
ReadFits (Some (Sending d)) rows h kept posted = Unit {0}
ReadFits (Some (Sent d)) rows h kept posted = IsCopy rows h kept posted
ReadFits entry rows h kept posted = ⊥

-- what the holder of a reference of this mode finds at set x
abbrev pub HoldFits : Bucket → ℕ → Mode → ℕ → Type 0
HoldFits b x Ro posted = ReadFits (b.entry x) (b.rows x) b.history (b.kept x) posted
HoldFits b x Rw posted = IsServing (b.entry x)

-- a client's call holds a reference at set x
abbrev pub is_held_at : Progress → ℕ → Bool
is_held_at p x = is_held p.stage && is_set p.set x

abbrev pub ClientFits : (ℕ → Bucket) → Client → Type 0
ClientFits bs c = (k : Call) (x : ℕ) → next_call c ≡ Some k → is_held_at c.present x ≡ true → HoldFits (bs k.bucket) x k.mode c.present.writes

-- only clients of the cluster post
abbrev pub AreAbsent : State → Type 0
AreAbsent s = (c : ℕ) → has_client s c ≡ false → is_idle (s.client c).present.stage ≡ true
