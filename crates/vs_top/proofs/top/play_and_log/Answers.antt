use Rattle.std.proofs.Common.{lit<, refl, inl, subst}
use Rattle.vs_inputs.specs.FileNames.{names_of}
use Rattle.vs_inputs.specs.Words.{texts}
use Rattle.vs_top.specs.Endings.{IsGood, CanBePlayed}
use Rattle.vs_top.proofs.Ending.{told_or, told_usage, good_told, possible_told}
use Rattle.vs_top.proofs.Files.{may_read_files, same_names}
use Rattle.vs_top.proofs.top.play_and_log.Goals as goal

pub play_files-requires-clause-files : goal.play_files-requires-clause-files
play_files-requires-clause-files g c = may_read_files (g.H.Host.told c.args.host.now) (texts c.args.words.now) (names_of c.in-Some.command.names) c.in-Some.ensures c.requires.words

pub returns-in_default-clause-ends : goal.returns-in_default-clause-ends
returns-in_default-clause-ends g c = told_usage g.D.Disk.told c.args.disks.now.items c.log_usage.result (texts c.args.words.now) _ _ c.in_default.ensures c.log_usage.ensures

pub returns-in-Err-clause-ends : goal.returns-in-Err-clause-ends
returns-in-Err-clause-ends g c =
    let before = c.in-Err.ensures in
    told_or g.D.Disk.told _ _ c.log_fault.result (texts c.args.words.now) (names_of c.in-Some.command.names) _ _ _ c.in-Some.ensures before.log before.host.write_faults c.in-Err.fault before.err c.log_fault.ensures

pub returns-in_default-clause-good : goal.returns-in_default-clause-good
returns-in_default-clause-good g c = λ by none. absurd (c.in_default.ensures by.names by.command)

pub returns-in_default-clause-possible : goal.returns-in_default-clause-possible
returns-in_default-clause-possible g c = λ by none. absurd (c.in_default.ensures by.names by.command)

pub returns-in-Err-clause-good : goal.returns-in-Err-clause-good
returns-in-Err-clause-good g c =
    let before = c.in-Err.ensures in
    let names = names_of c.in-Some.command.names in
    λ by none.
    let same = same_names (texts c.args.words.now) by.names names by.command c.in-Some.ensures in
    let holds = subst (IsGood _) same by.holds in
    good_told g.D.Disk.told _ _ c.requires.disks before.count _ _ _ names c.in-Err.fault c.log_fault.result none holds.none_full before.err (before.good holds.files holds.disks) c.log_fault.ensures

pub returns-in-Err-clause-possible : goal.returns-in-Err-clause-possible
returns-in-Err-clause-possible g c =
    let before = c.in-Err.ensures in
    let names = names_of c.in-Some.command.names in
    λ by none.
    let same = same_names (texts c.args.words.now) by.names names by.command c.in-Some.ensures in
    let holds = subst (CanBePlayed _) same by.holds in
    possible_told g.D.Disk.told _ _ c.requires.disks before.count _ _ _ names c.in-Err.fault c.log_fault.result none holds.good.none_full before.err (before.possible holds.good.files holds.good.disks holds.possible) c.log_fault.ensures

pub returns-in-Ok-clause-ends : goal.returns-in-Ok-clause-ends
returns-in-Ok-clause-ends g c = inl (refl, record { names = names_of c.in-Some.command.names; command = c.in-Some.ensures; holds = c.in-Ok.ensures.ok })

pub returns-in-Ok-clause-good : goal.returns-in-Ok-clause-good
returns-in-Ok-clause-good g c = λ by none. (0, lit< tt, refl)

pub returns-in-Ok-clause-possible : goal.returns-in-Ok-clause-possible
returns-in-Ok-clause-possible g c = λ by none. (0, lit< tt, refl)
