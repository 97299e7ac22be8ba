use Rattle.std.proofs.Common.{◌≡◌, ◌+◌, ◌-◌, List, [], ◌∷◌, ◌++◌, ap, ◌∙◌, arith, rules}
use Rattle.std.proofs.lemmas.Grind.{common_steps}
use Rattle.vs_rows.specs.declared.op.Op.{Op}
use Rattle.vs_record.specs.Reading.{ops_from, ops_at}
use Rattle.vs_record.proofs.Loops.{ops_on}
use Rattle.vs_record.proofs.read.ops_at.Goals as goal

pub loop-preserved : goal.loop-preserved
loop-preserved c =
    let count = c.in-Some.count in
    let counter = c.loop.counter in
    let items : c.push.new.self.items ≡ c.loop.ops.items ++ c.in_ok-op.op ∷ [] = search rules in
    record {
      so_far =
          ap (λ (l : List Op). ops_from c.args.version (count - (counter + 1)) l c.in_ok-op.more.now) items
          ∙ ops_on c.args.version count counter c.loop.rest.now (omega arith) c.loop.ops.items (ops_at c.args.version c.args.bytes.now) c.loop.invariant.so_far c.in_ok-op.op c.in_ok-op.more.now c.in_ok-op.ensures;
      many = grind (arith, common_steps);
    }
