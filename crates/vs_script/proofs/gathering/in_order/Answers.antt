use Rattle.std.proofs.Common.{◌≡◌, ◌++◌, ◌∷◌, [], rules}
use Rattle.vs_script.proofs.Gathered.{one_client, same_operators, one_operator, same_clients}
use Rattle.vs_script.proofs.gathering.in_order.Goals as goal

pub loop-one-preserved-in-Client : goal.loop-one-preserved-in-Client
loop-one-preserved-in-Client c =
    let pushed : c.push.new.self.items ≡ c.loop-one.clients.items ++ c.in-Client.calls ∷ [] = search rules in
    record {
      clients = one_client c.loop-one.yielded c.in-Some.one c.in-Client.calls c.loop-one.clients.items c.push.new.self.items c.loop-one.invariant.clients pushed c.in-Client.is;
      operators = same_operators c.loop-one.yielded c.in-Some.one c.in-Client.calls c.loop-one.operators.items c.loop-one.invariant.operators c.in-Client.is;
    }

pub loop-one-preserved : goal.loop-one-preserved
loop-one-preserved c =
    let pushed : c.push-in-Operator.new.self.items ≡ c.loop-one.operators.items ++ c.in-Operator.commands ∷ [] = search rules in
    record {
      clients = same_clients c.loop-one.yielded c.in-Some.one c.in-Operator.commands c.loop-one.clients.items c.loop-one.invariant.clients c.in-Operator.is;
      operators = one_operator c.loop-one.yielded c.in-Some.one c.in-Operator.commands c.loop-one.operators.items c.push-in-Operator.new.self.items c.loop-one.invariant.operators pushed c.in-Operator.is;
    }
