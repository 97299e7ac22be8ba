use Rattle.std.proofs.Common.{◌≡◌, List, Ok, Some, None, sym, ap, ◌∙◌, arith}
use Rattle.vs_balance.specs.declared.route.Route.{Route}
use Rattle.vs_send.specs.declared.transfer.By.TheVariants.{Haul}
use Rattle.vs_machine.specs.State as machine
use Rattle.vs_machine.specs.Kinds.Rebalancing.{after_haul, hauls_at}
use Rattle.vs_machine.specs.Kinds.Sender.{with_begun}
use Rattle.vs_machine.proofs.Kept.Sending.{may_haul}
use Rattle.vs_state.specs.Plain.{plain}
use Rattle.vs_state.specs.Tables.{numbered}
use Rattle.vs_core.specs.Hauling.{left_after}
use Rattle.vs_core.proofs.Hauls.{haul_bucket, haul_is}
use Rattle.vs_core.proofs.Starting.{few_hauls}
use Rattle.vs_core.proofs.kinds.haul.haul.Goals as goal

pub begin-requires-clause-bucket : goal.begin-requires-clause-bucket
begin-requires-clause-bucket c =
    ap (λ m. machine.has_bucket m c.in-Some.bucket) c.set_routes.ensures.routes
    ∙ haul_bucket (plain c.args.state.now) c.args.from c.args.to c.in-Some.bucket (sym c.requires.ready.bucket ∙ c.in-Some.is)

pub begin-requires-clause-room : goal.begin-requires-clause-room
begin-requires-clause-room c = λ t is. c.requires.ready.room t (ap (λ sets. numbered Some None sets.items c.args.from) (sym c.set_routes.ensures.sets) ∙ is)

pub begin-requires-clause-none : goal.begin-requires-clause-none
begin-requires-clause-none c =
    ap (λ (m : machine.State). (m.bucket c.in-Some.bucket).transfer c.args.from) c.set_routes.ensures.routes
    ∙ (may_haul (plain c.args.state.now) c.args.from c.args.to c.in-Some.bucket (sym c.requires.ready.bucket ∙ c.in-Some.is)).free

pub begin-requires-clause-hauls : goal.begin-requires-clause-hauls
begin-requires-clause-hauls c =
    let few = few_hauls (plain c.args.state.now) c.requires.known c.args.from in
    let same : hauls_at (plain c.set_routes.new.state) c.args.from ≡ hauls_at (plain c.args.state.now) c.args.from = ap (λ m. hauls_at m c.args.from) c.set_routes.ensures.routes in
    omega (arith, few, same)

pub returns-in-Some-clause-step : goal.returns-in-Some-clause-step
returns-in-Some-clause-step c =
    let s = plain c.args.state.now in
    let o = c.args.operator in
    let x = c.args.from in
    let d = c.args.to in
    let b = c.in-Some.bucket in
    let old = s.operator o in
    let routed : List Route → machine.State = λ routes. machine.put_operator s o (record old { routes = routes }) in
    haul_is s o x d c.requires.possible
    ∙ ap (λ m. Ok (after_haul s o x d m)) (sym c.requires.ready.bucket ∙ c.in-Some.is)
    ∙ ap Ok (sym (
    c.begin.ensures.begun
    ∙ ap (λ (m : machine.State). machine.put_bucket m b (with_begun (m.bucket b) x d (Haul o))) c.set_routes.ensures.routes
    ∙ ap (λ routes. machine.put_bucket (routed routes) b (with_begun (s.bucket b) x d (Haul o))) (c.requires.ready.routes ∙ ap (left_after old.routes x d) c.in-Some.is)
    ))

pub returns-in_default-clause-step : goal.returns-in_default-clause-step
returns-in_default-clause-step c =
    let s = plain c.args.state.now in
    let o = c.args.operator in
    let x = c.args.from in
    let d = c.args.to in
    let old = s.operator o in
    let routed : List Route → machine.State = λ routes. machine.put_operator s o (record old { routes = routes }) in
    haul_is s o x d c.requires.possible
    ∙ ap (λ m. Ok (after_haul s o x d m)) (sym c.requires.ready.bucket ∙ c.in_default.is)
    ∙ ap Ok (sym (
    c.set_routes.ensures.routes
    ∙ ap routed (c.requires.ready.routes ∙ ap (left_after old.routes x d) c.in_default.is)
    ))
