use Rattle.std.proofs.lemmas.List.{length-set}
use Rattle.vs_waves.proofs.LoadTables.{one_added_at}
use Rattle.vs_waves.proofs.wave_loads.WaveLoads.add_one.Goals as goal

pub returns : goal.returns
returns c = record {
  near_count = length-set c.args.self.now.near c.args.near _;
  far_count = length-set c.args.self.now.far c.args.far _;
  near = λ s. one_added_at c.args.self.now.near c.args.near s c.requires.near;
  far = λ s. one_added_at c.args.self.now.far c.args.far s c.requires.far;
}
