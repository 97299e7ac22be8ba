use Rattle.std.proofs.Common.{◌<◌, length, arith}
use Rattle.std.proofs.Math.ListN.{length-set}
use Rattle.std.proofs.lemmas.Grind.{common_steps}
use Rattle.vs_space.proofs.Marks.{within_renewed, told_renewed}
use Rattle.vs_space.proofs.search.Marks.renew.Goals as goal

pub returns-clause-marks : goal.returns-clause-marks
returns-clause-marks c =
    let marks = c.args.self.now in
    let inside : c.args.block < length marks.blocks.items = grind (arith, common_steps) in
    record {
      blocks = rw length-set c.requires.marks.blocks;
      groups = simp length-set c.requires.marks.groups;
      within =
          within_renewed marks.blocks.items marks.groups.items c.args.block _ c.has.result c.has_mark.result (omega arith) c.requires.marks.groups inside c.requires.marks.within
          (rw c.deref.ensures.value at c.has_mark.ensures);
    }

pub returns-clause-told : goal.returns-clause-told
returns-clause-told c =
    let marks = c.args.self.now in
    let inside : c.args.block < length marks.blocks.items = grind (arith, common_steps) in
    told_renewed c.args.class c.args.places.now marks.blocks.items c.args.block _ c.has.result (omega arith) c.requires.marks.blocks inside c.has.ensures
