use Rattle.std.proofs.Common.{rules}
use Rattle.vs_rows.proofs.Scanned.{read_upto}
use Rattle.vs_rows.proofs.scan.read_rows.Goals as goal

pub returns : goal.returns
returns c = read_upto c.args.n c.args.read.now.items c.args.rows.now c.min-count.result c.loop-key.read.items c.loop-key.key-index c.requires (search rules) (search rules) c.loop-key.invariant.read
