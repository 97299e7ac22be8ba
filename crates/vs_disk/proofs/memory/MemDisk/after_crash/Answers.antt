use Rattle.std.proofs.Common.{◌≡◌, take, reverse, sym, subst, ◌∙◌, rules}
use Rattle.std.proofs.lemmas.Result.{IfOk-weaker}
use Rattle.vs_disk.specs.Images.{Images, picked}
use Rattle.vs_disk.specs.Memory.{left_after, bytes_of, IsFresh}
use Rattle.vs_disk.proofs.Picks.{picked_image}
use Rattle.vs_disk.proofs.memory.MemDisk.after_crash.Goals as goal

pub returns-clause-image : goal.returns-clause-image
returns-clause-image c =
    let first = c.args.self.now.first.items in
    let back = reverse (take c.args.calls c.args.self.now.calls.items) in
    let is : c.in_ok-image.image.items ≡ picked c.args.pick first back = search rules in
    IfOk-weaker c.new-2.result (IsFresh c.in_ok-image.image.items c.new.result.items) (λ disk. left_after c.args.self.now c.args.calls (bytes_of disk))
    (λ disk fresh. subst (Images first back) (sym (fresh.bytes ∙ is)) (picked_image c.args.pick first back)) c.new-2.ensures
