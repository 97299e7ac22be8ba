use Rattle.std.proofs.Common.{◌<◌, ◌^◌, arith}
use Rattle.vs_audit.proofs.Numbers.{number_read, number_refused}
use Rattle.vs_audit.proofs.words.Words.number.Goals as goal

pub returns-in-Some : goal.returns-in-Some
returns-in-Some c =
    let fits : c.args.most < 2 ^ 64 = omega (arith, c.ranges.most) in
    record {
      read = number_read c.args.least c.args.most c.args.self.now c.word.new.self c.in_ok-word.word.now c.in-Some.number fits c.in_ok-word.ensures c.in-Some.ensures.value;
      range = c.in-Some.ensures.value.0;
    }

pub returns-in-None : goal.returns-in-None
returns-in-None c = record {
  read = number_refused c.args.least c.args.most c.args.self.now c.word.new.self c.in_ok-word.word.now c.in_ok-word.ensures c.in-None.ensures.value;
  range = tt;
}
