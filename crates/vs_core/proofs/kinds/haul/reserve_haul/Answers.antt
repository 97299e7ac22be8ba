use Rattle.std.proofs.Common.{◌≡◌, ◌≤◌, [], sym, ap, subst, ◌∙◌}
use Rattle.std.specs.Option.{option_copied}
use Rattle.vs_machine.specs.State as machine
use Rattle.vs_machine.specs.Opening.{operator_at}
use Rattle.vs_machine.specs.Kinds.Rebalancing.{bucket_to_haul, left_on}
use Rattle.vs_state.specs.Plain.{plain, operator}
use Rattle.vs_core.specs.Hauling.{left_after}
use Rattle.vs_core.proofs.Hauls.{haul_left}
use Rattle.vs_core.proofs.Numbered.{numbered_of}
use Rattle.vs_core.proofs.kinds.haul.reserve_haul.Goals as goal

pub routes_after-requires : goal.routes_after-requires
routes_after-requires c =
    let s = c.args.state.now in
    let tables : (plain s).operator c.args.operator ≡ operator c.in-Some.tables.now =
    numbered_of operator (operator_at []) s.operators.items c.args.operator c.in-Some.tables.now (sym c.operator.ensures ∙ ap option_copied c.in-Some.is) in
    subst (λ (t : machine.Operator). 1 ≤ left_on t.routes c.args.from c.args.to) tables (haul_left (plain s) c.args.operator c.args.from c.args.to c.requires.possible)

pub returns-clause-ready : goal.returns-clause-ready
returns-clause-ready c =
    let s = c.args.state.now in
    let x = c.args.from in
    let d = c.args.to in
    let b = c.bucket_to_haul-bucket.result in
    let tables : (plain s).operator c.args.operator ≡ operator c.in-Some.tables.now =
    numbered_of operator (operator_at []) s.operators.items c.args.operator c.in-Some.tables.now (sym c.operator.ensures ∙ ap option_copied c.in-Some.is) in
    record {
      bucket = c.bucket_to_haul-bucket.ensures ∙ ap (λ m. bucket_to_haul m x d) (sym c.reserve_begin.ensures.same);
      routes = c.in_ok-routes.ensures ∙ ap (λ (t : machine.Operator). left_after t.routes x d b) (sym tables) ∙ ap (λ (m : machine.State). left_after (m.operator c.args.operator).routes x d b) (sym c.reserve_begin.ensures.same);
      room = c.in_ok-reserve_begin.ensures.ready;
    }
