use Rattle.std.proofs.Common.{arith, subst}
use Rattle.vs_record.specs.Change.{entry_of}
use Rattle.vs_record.specs.Reading.{Gives}
use Rattle.vs_record.proofs.Found.{is_read, is_versioned, is_found, is_bad}
use Rattle.vs_record.proofs.read.read_change.Goals as goal

pub returns-clause-version : goal.returns-clause-version
returns-clause-version c = is_versioned c.args.version c.args.body.now c.requires (λ i. omega (arith, c.type_inv.body i)) c.change_of.result c.change_of.ensures

pub returns-clause-found : goal.returns-clause-found
returns-clause-found c = is_found c.args.version c.args.body.now c.requires (λ i. omega (arith, c.type_inv.body i)) c.change_of.result c.change_of.ensures

pub returns-clause-again : goal.returns-clause-again
returns-clause-again c number plain of is = subst (λ r. Gives entry_of c.change_of.result r) (is_read c.args.version c.args.body.now number plain of is) c.change_of.ensures

pub returns-clause-bad : goal.returns-clause-bad
returns-clause-bad c = is_bad c.args.version c.args.body.now c.change_of.result c.change_of.ensures
