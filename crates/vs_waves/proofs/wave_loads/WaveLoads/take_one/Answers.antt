use Rattle.std.proofs.Common.{sym}
use Rattle.std.proofs.lemmas.List.{length-set}
use Rattle.vs_waves.proofs.LoadTables.{one_taken_at}
use Rattle.vs_waves.proofs.wave_loads.WaveLoads.take_one.Goals as goal

pub returns : goal.returns
returns c = record {
  near_count = sym (length-set c.args.self.now.near c.args.near _);
  far_count = sym (length-set c.args.self.now.far c.args.far _);
  near = λ s. one_taken_at c.args.self.now.near c.args.near s c.requires.near c.requires.near_some;
  far = λ s. one_taken_at c.args.self.now.far c.args.far s c.requires.far c.requires.far_some;
}
