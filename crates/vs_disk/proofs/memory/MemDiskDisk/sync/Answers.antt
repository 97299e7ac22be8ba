use Rattle.std.proofs.Common.{◌≡◌, ◌++◌, ◌∷◌, [], refl, sym, ◌∙◌, rules}
use Rattle.vs_disk.specs.declared.call.MemCall.TheVariants.{Sync}
use Rattle.vs_disk.proofs.Moments.{synced_image, rests_sync}
use Rattle.vs_disk.proofs.memory.MemDiskDisk.sync.Goals as goal

pub returns-clause-durable : goal.returns-clause-durable
returns-clause-durable c h f image =
    let grown : c.note.new.calls.items ≡ c.args.self.now.calls.items ++ Sync ∷ [] = search rules in
    synced_image c.args.self.now.first.items c.args.self.now.calls.items c.note.new.calls.items grown f image ∙ sym c.args.self.now.played

pub returns-clause-rests : goal.returns-clause-rests
returns-clause-rests c =
    let grown : c.note.new.calls.items ≡ c.args.self.now.calls.items ++ Sync ∷ [] = search rules in
    rests_sync c.args.self.now.first.items c.args.self.now.calls.items c.note.new.calls.items grown _ _ _ _ _ _ _ _ refl
