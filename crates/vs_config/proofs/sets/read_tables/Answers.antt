use Rattle.std.proofs.Common.{◌<◌, arith, length, length-append}
use Rattle.vs_config.proofs.SetTables.{one_set, bad_set, all_sets}
use Rattle.vs_config.proofs.sets.read_tables.Goals as goal

pub returns-in-Err-clause-err : goal.returns-in-Err-clause-err
returns-in-Err-clause-err c _ =
    bad_set c.args.values.now c.loop-i.i c.index-values-i.result c.in-Err.fault c.loop-i.sets.items c.index-values-i.is (omega arith) c.in-Err.ensures c.loop-i.invariant.read

pub loop-i-preserved : goal.loop-i-preserved
loop-i-preserved c =
    let within : c.loop-i.i < length c.args.values.now = omega arith in
    rw c.push.ensures.items (record {
      read = one_set c.args.values.now c.loop-i.i c.index-values-i.result c.in-Ok.set c.loop-i.sets.items c.index-values-i.is within c.in-Ok.ensures c.loop-i.invariant.read;
      room = omega (arith, c.push.ensures.room);
      count = simp length-append (omega arith);
    })

pub returns-clause-ok : goal.returns-clause-ok
returns-clause-ok c = all_sets c.args.values.now c.loop-i.i c.loop-i.sets.items (omega arith) c.loop-i.invariant.read
