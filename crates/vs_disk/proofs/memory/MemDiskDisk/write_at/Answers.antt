use Rattle.std.proofs.Common.{◌≡◌, ◌++◌, ◌∷◌, [], ◌≤◌, length, rules, arith, refl}
use Rattle.std.proofs.lemmas.Grind.{common_steps}
use Rattle.vs_disk.specs.declared.call.MemCall.TheVariants.{Write}
use Rattle.vs_disk.proofs.Moments.{tears_write, tears_more}
use Rattle.vs_disk.proofs.memory.MemDiskDisk.write_at.Goals as goal

pub returns-then-is_some-clause-tears : goal.returns-then-is_some-clause-tears
returns-then-is_some-clause-tears c =
    let grown : c.note.new.calls.items ≡ c.args.self.now.calls.items ++ Write c.args.at c.in-Ok.piece ∷ [] = search rules in
    let short : length c.in-Ok.piece.items ≤ length c.args.bytes.now = grind (arith, common_steps) in
    tears_more c.args.at _ _ _ _ short (tears_write c.args.self.now.first.items c.args.self.now.calls.items c.note.new.calls.items c.args.at c.in-Ok.piece _ _ _ _ _ _ _ _ _ grown refl)

pub returns-clause-tears : goal.returns-clause-tears
returns-clause-tears c =
    let grown : c.note.new.calls.items ≡ c.args.self.now.calls.items ++ Write c.args.at c.in-Ok.piece ∷ [] = search rules in
    let short : length c.in-Ok.piece.items ≤ length c.args.bytes.now = grind (arith, common_steps) in
    tears_more c.args.at _ _ _ _ short (tears_write c.args.self.now.first.items c.args.self.now.calls.items c.note.new.calls.items c.args.at c.in-Ok.piece _ _ _ _ _ _ _ _ _ grown refl)
