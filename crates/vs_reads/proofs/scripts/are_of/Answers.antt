use Rattle.vs_reads.proofs.Files.{modes_of, of_modes}
use Rattle.vs_reads.proofs.scripts.are_of.Goals as goal

pub returns : goal.returns
returns c = (λ is. modes_of c.args.mode c.args.given.now (c.have_mode.ensures.0 is), λ all. c.have_mode.ensures.1 (of_modes c.args.mode c.args.given.now all))
