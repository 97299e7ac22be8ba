use Rattle.std.proofs.Common.{◌≡◌, ◌∙◌, map, Ok, Err, ap, sym, subst, All}
use Rattle.std.proofs.lemmas.Result.{err_from_is_err_and}
use Rattle.vs_script.specs.Gathering.{tested}
use Rattle.vs_script.specs.Lawful.{IsLawfulCall, IsLawfulCommand, MayRunTogether}
use Rattle.vs_script.specs.Scripts.{Scripts, script}
use Rattle.vs_script.proofs.Gathered.{refused, accepted, tested_together, lawful_clients, lawful_operators}
use Rattle.vs_script.proofs.gathering.gather.Goals as goal

pub returns-in_err-test-clause-fault : goal.returns-in_err-test-clause-fault
returns-in_err-test-clause-fault c =
    let p = err_from_is_err_and c.from_residual.result c.from_residual.ensures.1 in
    let told : tested (map script c.args.given.items) ≡ Err c.in_err-test.field-0.0 = ap (λ g. tested (map script g)) (sym c.deref.ensures.value) ∙ sym c.in_err-test.ensures in
    rw (p.1, p.2) (λ _. refused (map script c.args.given.items) c.in_err-test.field-0.0 told)

pub returns-clause-ok : goal.returns-clause-ok
returns-clause-ok c =
    let told : tested (map script c.args.given.items) ≡ Ok c.in_ok-test.field-0 = ap (λ g. tested (map script g)) (sym c.deref.ensures.value) ∙ sym c.in_ok-test.ensures in
    accepted (map script c.args.given.items) c.in_ok-test.field-0 told ∙ ap Ok (sym c.in_ok-gathered.ensures)

pub returns-clause-together : goal.returns-clause-together
returns-clause-together c =
    let told : tested (map script c.args.given.items) ≡ Ok c.in_ok-test.field-0 = ap (λ g. tested (map script g)) (sym c.deref.ensures.value) ∙ sym c.in_ok-test.ensures in
    subst MayRunTogether (sym c.in_ok-gathered.ensures) (tested_together (map script c.args.given.items) c.in_ok-test.field-0 told)

pub returns-clause-lawful : goal.returns-clause-lawful
returns-clause-lawful c m n all =
    let both = λ (s : Scripts). All (All (IsLawfulCall m)) s.clients × All (All (IsLawfulCommand m n)) s.operators in
    subst both (sym c.in_ok-gathered.ensures) (lawful_clients m n (map script c.args.given.items) all, lawful_operators m n (map script c.args.given.items) all)
