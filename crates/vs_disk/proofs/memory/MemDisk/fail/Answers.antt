use Rattle.std.proofs.Common.{is_ok, refl}
use Rattle.vs_disk.proofs.Moments.{rests_quiet}
use Rattle.vs_disk.proofs.memory.MemDisk.fail.Goals as goal

pub returns-clause-rests : goal.returns-clause-rests
returns-clause-rests c = rests_quiet c.args.self.now.first.items c.args.self.now.calls.items c.note-noted.new.calls.items (is_ok c.note-noted.result) _ _ _ _ _ _ _ _ c.note-noted.ensures refl
