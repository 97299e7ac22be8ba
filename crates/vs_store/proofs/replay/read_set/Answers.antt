use Rattle.std.proofs.Common.{◌∙◌, ℕ, sym, subst}
use Rattle.std.proofs.lemmas.Result.{err_from_is_err_and}
use Rattle.vs_record.specs.Durable.{IsOfBuckets}
use Rattle.vs_record.specs.States.{durable}
use Rattle.vs_store.specs.Replay.{IsReadAs}
use Rattle.vs_store.specs.Standing.{state_of}
use Rattle.vs_store.proofs.Standings.{other_set, this_set, count_is}
use Rattle.vs_store.proofs.replay.read_set.Goals as goal

pub returns-in_err-of_set-clause-refused : goal.returns-in_err-of_set-clause-refused
returns-in_err-of_set-clause-refused g c =
    let scan = c.args.scan.now in
    let file = (g.D.Disk.told scan.disk).reads_as in
    let p = err_from_is_err_and c.from_residual-in_err-of_set.result c.from_residual-in_err-of_set.ensures.1 in
    let of = sym c.of_set.ensures ∙ c.in_err-of_set.was in
    rw (p.1, p.2) (λ refusal tells. other_set c.args.head.now c.args.found.now (IsReadAs c.replay.new.scan.place c.in_ok-state.count scan.version (durable c.in_ok-state.state)) (state_of file) _ (c.in_ok-state.ensures.stands tells) of)

pub returns-clause-opened : goal.returns-clause-opened
returns-clause-opened g c tells =
    let scan = c.args.scan.now in
    let file = (g.D.Disk.told scan.disk).reads_as in
    let of = sym c.of_set.ensures ∙ c.in_ok-of_set.was in
    this_set c.args.head.now c.args.found.now (IsReadAs c.replay.new.scan.place c.in_ok-state.count scan.version (durable c.in_ok-state.state)) (state_of file) (c.in_ok-state.ensures.stands tells) of

pub returns-clause-within : goal.returns-clause-within
returns-clause-within g c =
    let of = sym c.of_set.ensures ∙ c.in_ok-of_set.was in
    subst (λ (n : ℕ). IsOfBuckets n (durable c.in_ok-state.state)) (count_is c.args.head.now c.args.found.now of) c.in_ok-state.ensures.within
