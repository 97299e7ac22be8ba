use Rattle.std.proofs.Common.{refl}
use Rattle.std.specs.Fmt.{digits}
use Rattle.vs_machine.specs.Worked.Moved.{Moved, Refused, ReadAcross, Held}
use Rattle.vs_machine.proofs.runs.moved_runs.Goals as goal

moved : Moved
unfolding digits
moved = refl

refused : Refused
refused = record { draining = refl; sending = refl; read = refl }

read_across : ReadAcross
unfolding digits
read_across = refl

held : Held
held = record { before = refl; after = refl; rows = refl }

pub returns : goal.returns
returns c = record { moved = moved; refused = refused; read_across = read_across; held = held }
