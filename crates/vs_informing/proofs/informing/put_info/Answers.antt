use Rattle.std.proofs.Common.{◌≡◌, subst, sym}
use Rattle.std.proofs.lemmas.Result.{err_from_is_err_and}
use Rattle.vs_config.specs.Configuration.{Configuration, configuration}
use Rattle.vs_top.specs.Endings.{AreGoodDisks}
use Rattle.vs_top.specs.Faults.{IsNumbered}
use Rattle.vs_informing.proofs.Causes.{file_fault, is_cut, is_told, outside_good, refusal_cause}
use Rattle.vs_informing.proofs.Good.{refusal_good}
use Rattle.vs_informing.proofs.informing.put_info.Goals as goal

pub returns-in_err-config-clause-err : goal.returns-in_err-config-clause-err
returns-in_err-config-clause-err g c =
    let p = err_from_is_err_and c.from_residual.result c.from_residual.ensures.1 in
    let read = c.in_err-config.ensures.reads in
    rw (p.1, p.2) (file_fault g.D.Disk.told c.args.config.now _ _ read.host c.in_err-config.field-0.0 c.args.disks.now.items read.err)

pub returns-in_err-config-clause-good : goal.returns-in_err-config-clause-good
returns-in_err-config-clause-good g c =
    let p = err_from_is_err_and c.from_residual.result c.from_residual.ensures.1 in
    λ value good disks. rw (p.1, p.2) (outside_good c.in_err-config.field-0.0 (c.in_err-config.ensures.reads.good value good))

pub returns-in_err-text-clause-err : goal.returns-in_err-text-clause-err
returns-in_err-text-clause-err g c =
    let p = err_from_is_err_and c.from_residual-in_err-text.result c.from_residual-in_err-text.ensures.1 in
    let read = c.in_ok-config.ensures.reads in
    let why = c.in_err-text.ensures.err in
    rw (p.1, p.2, why.1)
    (refusal_cause g.D.Disk.told c.args.config.now _ _ read.host (configuration c.in_ok-config.config) _ _ read.ok why.0 (subst IsNumbered why.1 c.in_err-text.ensures.numbered) why.2)

pub returns-in_err-text-clause-good : goal.returns-in_err-text-clause-good
returns-in_err-text-clause-good g c =
    let p = err_from_is_err_and c.from_residual-in_err-text.result c.from_residual-in_err-text.ensures.1 in
    let why = c.in_err-text.ensures.err in
    let config = configuration c.in_ok-config.config in
    λ value good disks.
    let same : config ≡ value = c.in_ok-config.ensures.reads.same value good in
    let given = subst (λ (k : Configuration). AreGoodDisks g.D.Disk.told k c.args.disks.now.items) (sym same) disks in
    rw (p.1, p.2, why.1) (refusal_good g.D.Disk.told config _ _ c.requires.disks c.in_err-text.ensures.count c.in_ok-config.ensures.lawful.number_of_sets.1 given why.0 why.2)

pub returns-in_err-out-clause-err : goal.returns-in_err-out-clause-err
returns-in_err-out-clause-err g c =
    let p = err_from_is_err_and c.from_residual-in_err-out.result c.from_residual-in_err-out.ensures.1 in
    let read = c.in_ok-config.ensures.reads in
    rw (p.1, p.2)
    (is_cut g.D.Disk.told c.args.config.now _ _ read.host (configuration c.in_ok-config.config) _ _ read.ok c.in_ok-text.text.items c.deref.result.now _ c.in_err-out.field-0.0 c.in_ok-text.ensures.ok c.deref.ensures.value c.in_err-out.ensures)

pub returns-in_err-out-clause-good : goal.returns-in_err-out-clause-good
returns-in_err-out-clause-good g c =
    let p = err_from_is_err_and c.from_residual-in_err-out.result c.from_residual-in_err-out.ensures.1 in
    λ value good disks. rw (p.1, p.2) tt

pub returns-clause-ok : goal.returns-clause-ok
returns-clause-ok g c =
    let read = c.in_ok-config.ensures.reads in
    is_told g.D.Disk.told c.args.config.now _ _ read.host (configuration c.in_ok-config.config) _ _ read.ok c.in_ok-text.text.items c.deref.result.now _ c.in_ok-out.field-0 c.in_ok-text.ensures.ok c.deref.ensures.value c.in_ok-out.ensures

pub returns-clause-good : goal.returns-clause-good
returns-clause-good g c = λ value good disks. tt
