-- What each set has in a wave, kept beside the flows.
use Rattle.std.specs.Prelude.{ℕ, ◌≡◌, ◌+◌, List, length, slice_index}
use Rattle.vs_waves.specs.declared.flow.Flow.{Flow}
use Rattle.vs_waves.specs.declared.wave_loads.WaveLoads.{WaveLoads}
use Rattle.vs_waves.specs.Flows.{near_now, far_now, one_at}

-- these are what the sets have by the flows
pub record AreLoads (loads : WaveLoads) (flows : List Flow) : Type 0 where
  pub near_count : length loads.near ≡ 33
  pub far_count : length loads.far ≡ 33
  pub near : (set : ℕ) → slice_index loads.near set ≡ near_now set flows
  pub far : (set : ℕ) → slice_index loads.far set ≡ far_now set flows

-- one more between these sets, and all else the same
pub record IsOneMore (near_set far_set : ℕ) (old new : WaveLoads) : Type 0 where
  pub near_count : length new.near ≡ length old.near
  pub far_count : length new.far ≡ length old.far
  pub near : (set : ℕ) → slice_index new.near set ≡ slice_index old.near set + one_at set near_set
  pub far : (set : ℕ) → slice_index new.far set ≡ slice_index old.far set + one_at set far_set
