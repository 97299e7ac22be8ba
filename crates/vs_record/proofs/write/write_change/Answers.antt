use Rattle.std.proofs.Common.{Some, ap, refl, ◌∙◌, arith, rules}
use Rattle.vs_record.specs.Change.{change}
use Rattle.vs_record.specs.Body.{IsRecordable}
use Rattle.vs_record.specs.Reading.{change_of}
use Rattle.vs_record.proofs.Changes.{change_again, body_size}
use Rattle.vs_record.proofs.write.write_change.Goals as goal

pub returns-clause-again : goal.returns-clause-again
returns-clause-again c =
    let is : IsRecordable (Some c.args.seq) (change c.args.change.now) = search rules in
    ap (change_of 2) (search rules) ∙ change_again 2 (Some c.args.seq) (change c.args.change.now) refl is

pub returns-clause-some : goal.returns-clause-some
returns-clause-some c = (body_size c.put_change.new.out.items c.args.seq (change c.args.change.now) (search rules) (search rules)).some

pub returns-clause-most : goal.returns-clause-most
returns-clause-most c =
    let short = body_size c.put_change.new.out.items c.args.seq (change c.args.change.now) (search rules) (search rules) in
    omega (arith, short.limit)

pub returns-clause-limit : goal.returns-clause-limit
returns-clause-limit c = (body_size c.put_change.new.out.items c.args.seq (change c.args.change.now) (search rules) (search rules)).limit
