use Rattle.std.proofs.Common.{◌<◌, ◌^◌, ℕ, List, length, subst}
use Rattle.std.proofs.lemmas.Result.{err_from_is_err_and}
use Rattle.vs_config.specs.Configuration.{configuration}
use Rattle.vs_inputs.specs.FileNames.{names_of}
use Rattle.vs_script.specs.Scripts.{scripts}
use Rattle.vs_top.specs.Faults.{IsNumbered}
use Rattle.vs_top.proofs.Files.{is_played, is_cut, input_fault, play_fault, outside_good, outside_possible}
use Rattle.vs_top.proofs.Possible.{good_fault, possible_fault, good_as, possible_as}
use Rattle.vs_top.proofs.top.play_files.Goals as goal

pub returns-in_err-inputs-clause-err : goal.returns-in_err-inputs-clause-err
returns-in_err-inputs-clause-err g c =
    let p = err_from_is_err_and c.from_residual.result c.from_residual.ensures.1 in
    rw (p.1, p.2) (input_fault g.D.Disk.told c.in_err-inputs.field-0.0 (names_of c.args.command.now.names) _ _ c.args.disks.now.items c.in_err-inputs.ensures.host c.in_err-inputs.ensures.err)

pub returns-in_err-text-clause-err : goal.returns-in_err-text-clause-err
returns-in_err-text-clause-err g c =
    let p = err_from_is_err_and c.from_residual-in_err-text.result c.from_residual-in_err-text.ensures.1 in
    let inputs = c.in_ok-inputs.inputs in
    let why = c.in_err-text.ensures.err in
    rw (p.1, p.2, why.1)
    (play_fault g.D.Disk.told (names_of c.args.command.now.names) (configuration inputs.config) (scripts inputs.scripts) inputs.trace.items _ _ _ _ c.in_ok-inputs.ensures.ok c.in_ok-inputs.ensures.host why.0 (subst IsNumbered why.1 c.in_err-text.ensures.numbered) why.2)

pub returns-in_err-out-clause-err : goal.returns-in_err-out-clause-err
returns-in_err-out-clause-err g c =
    let p = err_from_is_err_and c.from_residual-in_err-out.result c.from_residual-in_err-out.ensures.1 in
    let inputs = c.in_ok-inputs.inputs in
    rw (p.1, p.2)
    (is_cut g.D.Disk.told (names_of c.args.command.now.names) (configuration inputs.config) (scripts inputs.scripts) inputs.trace.items _ _ _ _ c.in_ok-inputs.ensures.ok c.in_ok-inputs.ensures.host c.in_ok-text.text.items c.deref-2.result.now _ c.in_err-out.field-0.0
    c.in_ok-text.ensures.ok c.deref-2.ensures.value c.in_err-out.ensures)

pub returns-clause-ok : goal.returns-clause-ok
returns-clause-ok g c =
    let inputs = c.in_ok-inputs.inputs in
    is_played g.D.Disk.told (names_of c.args.command.now.names) (configuration inputs.config) (scripts inputs.scripts) inputs.trace.items _ _ _ _ c.in_ok-inputs.ensures.ok c.in_ok-inputs.ensures.host c.in_ok-text.text.items c.deref-2.result.now _ c.in_ok-out.field-0
    c.in_ok-text.ensures.ok c.deref-2.ensures.value c.in_ok-out.ensures c.reports_are_legal.ensures (subst (λ (t : List ℕ). length t < 2 ^ 64) c.deref.ensures.value c.is_short.ensures)

pub returns-in_err-text-clause-good : goal.returns-in_err-text-clause-good
returns-in_err-text-clause-good g c =
    let p = err_from_is_err_and c.from_residual-in_err-text.result c.from_residual-in_err-text.ensures.1 in
    let inputs = c.in_ok-inputs.inputs in
    let why = c.in_err-text.ensures.err in
    λ files good.
    let same = c.in_ok-inputs.ensures.same files in
    let disks = good_as g.D.Disk.told (configuration inputs.config) files.config _ same.0 good in
    rw (p.1, p.2, why.1)
    (good_fault g.D.Disk.told (configuration inputs.config) _ _ c.requires.disks c.in_err-text.ensures.count c.in_ok-inputs.ensures.lawful.config_is.number_of_sets.1 disks (scripts inputs.scripts) inputs.trace.items why.0 why.2)

pub returns-in_err-text-clause-possible : goal.returns-in_err-text-clause-possible
returns-in_err-text-clause-possible g c =
    let p = err_from_is_err_and c.from_residual-in_err-text.result c.from_residual-in_err-text.ensures.1 in
    let inputs = c.in_ok-inputs.inputs in
    let why = c.in_err-text.ensures.err in
    λ files good can.
    let same = c.in_ok-inputs.ensures.same files in
    let disks = good_as g.D.Disk.told (configuration inputs.config) files.config _ same.0 good in
    let all = possible_as g.D.Disk.told (configuration inputs.config) files.config (scripts inputs.scripts) files.scripts inputs.trace.items files.events _ _ same.0 same.2 same.1 can in
    rw (p.1, p.2, why.1)
    (possible_fault g.D.Disk.told (configuration inputs.config) _ _ c.requires.disks c.in_err-text.ensures.count c.in_ok-inputs.ensures.lawful.config_is.number_of_sets.1 disks (scripts inputs.scripts) inputs.trace.items why.0 why.2 all)

pub returns-in_err-inputs-clause-good : goal.returns-in_err-inputs-clause-good
returns-in_err-inputs-clause-good g c =
    let p = err_from_is_err_and c.from_residual.result c.from_residual.ensures.1 in
    λ files good. rw (p.1, p.2) (outside_good c.in_err-inputs.field-0.0 (c.in_err-inputs.ensures.good files))

pub returns-in_err-inputs-clause-possible : goal.returns-in_err-inputs-clause-possible
returns-in_err-inputs-clause-possible g c =
    let p = err_from_is_err_and c.from_residual.result c.from_residual.ensures.1 in
    λ files good can. rw (p.1, p.2) (outside_possible c.in_err-inputs.field-0.0 (c.in_err-inputs.ensures.good files))

pub returns-in_err-out-clause-good : goal.returns-in_err-out-clause-good
returns-in_err-out-clause-good g c =
    let p = err_from_is_err_and c.from_residual-in_err-out.result c.from_residual-in_err-out.ensures.1 in
    λ files good. rw (p.1, p.2) tt

pub returns-in_err-out-clause-possible : goal.returns-in_err-out-clause-possible
returns-in_err-out-clause-possible g c =
    let p = err_from_is_err_and c.from_residual-in_err-out.result c.from_residual-in_err-out.ensures.1 in
    λ files good can. rw (p.1, p.2) tt

pub returns-clause-good : goal.returns-clause-good
returns-clause-good g c = λ files good. tt

pub returns-clause-possible : goal.returns-clause-possible
returns-clause-possible g c = λ files good can. tt
