use Rattle.std.proofs.Common.{refl}
use Rattle.vs_command.specs.declared.verbs.TheConstants.{BUILT}
use Rattle.vs_inputs.specs.Words.{texts}
use Rattle.vs_main.proofs.Playing.{is_command, play_ends, play_ends_well}
use Rattle.vs_main.proofs.Words.{run_may_read, reads_may_read, plan_may_read, audit_may_read, info_may_read}
use Rattle.vs_main.proofs.program.carry_out.Goals as goal

pub inform-requires-clause-config : goal.inform-requires-clause-config
inform-requires-clause-config g c =
    let is = rw c.in-Info.is at c.requires.asks in
    info_may_read (g.H.Host.told c.args.host.now) BUILT (texts c.args.words.now) c.in-Info.config.now is c.requires.words

pub returns-in-Play-clause-ends : goal.returns-in-Play-clause-ends
returns-in-Play-clause-ends g c =
    let is = rw c.in-Play.is at c.requires.asks in
    rw c.in-Play.is (play_ends (texts c.args.words.now) _ _ (is_command BUILT (texts c.args.words.now) c.in-Play.config.now c.in-Play.events.now (texts c.in-Play.files.now) is) c.play_main.result c.play_main.ensures.ends)

pub returns-in-Play-clause-good : goal.returns-in-Play-clause-good
returns-in-Play-clause-good g c =
    let is = rw c.in-Play.is at c.requires.asks in
    rw c.in-Play.is (play_ends_well (texts c.args.words.now) _ _ (is_command BUILT (texts c.args.words.now) c.in-Play.config.now c.in-Play.events.now (texts c.in-Play.files.now) is) c.play_main.result c.play_main.ensures.good c.play_main.ensures.possible)

pub plan-requires-clause-config : goal.plan-requires-clause-config
plan-requires-clause-config g c =
    let is = rw c.in-Plan.is at c.requires.asks in
    (plan_may_read (g.H.Host.told c.args.host.now) BUILT (texts c.args.words.now) c.in-Plan.config.now c.in-Plan.counts.now is c.requires.words).0

pub plan-requires-clause-counts : goal.plan-requires-clause-counts
plan-requires-clause-counts g c =
    let is = rw c.in-Plan.is at c.requires.asks in
    (plan_may_read (g.H.Host.told c.args.host.now) BUILT (texts c.args.words.now) c.in-Plan.config.now c.in-Plan.counts.now is c.requires.words).1

pub returns-in-Plan-clause-ends : goal.returns-in-Plan-clause-ends
returns-in-Plan-clause-ends g c = rw c.in-Plan.is (record { host = c.plan.ensures.ends; disks = refl })

pub returns-in-Plan-clause-good : goal.returns-in-Plan-clause-good
returns-in-Plan-clause-good g c = rw c.in-Plan.is c.plan.ensures.good

pub audit_report-requires : goal.audit_report-requires
audit_report-requires g c =
    let is = rw c.in-Audit.is at c.requires.asks in
    audit_may_read (g.H.Host.told c.args.host.now) BUILT (texts c.args.words.now) c.in-Audit.report.now is c.requires.words

pub returns-in-Audit-clause-ends : goal.returns-in-Audit-clause-ends
returns-in-Audit-clause-ends g c = rw c.in-Audit.is (record { host = c.audit_report.ensures.ends; disks = refl })

pub returns-in-Audit-clause-good : goal.returns-in-Audit-clause-good
returns-in-Audit-clause-good g c = rw c.in-Audit.is (record { legal = c.audit_report.ensures.legal; illegal = c.audit_report.ensures.illegal; refused = c.audit_report.ensures.refused })

pub reads-requires-clause-files : goal.reads-requires-clause-files
reads-requires-clause-files g c = λ κs outlives.
    let is = rw c.in-Reads.is at c.requires.asks in
    reads_may_read (g.H.Host.told c.args.host.now) BUILT (texts c.args.words.now) c.in-Reads.config.now c.in-Reads.rows.now (texts c.in-Reads.files.now) is c.requires.words

pub returns-in-Reads-clause-ends : goal.returns-in-Reads-clause-ends
returns-in-Reads-clause-ends g c = rw c.in-Reads.is (record { host = c.reads.ensures.ends; disks = refl })

pub returns-in-Reads-clause-good : goal.returns-in-Reads-clause-good
returns-in-Reads-clause-good g c = rw c.in-Reads.is c.reads.ensures.good

pub returns-in-Info-clause-good : goal.returns-in-Info-clause-good
returns-in-Info-clause-good g c = rw c.in-Info.is c.inform.ensures.good

pub run_files-requires-clause-files : goal.run_files-requires-clause-files
run_files-requires-clause-files g c = λ κs outlives.
    let is = rw c.in-Run.is at c.requires.asks in
    run_may_read (g.H.Host.told c.args.host.now) BUILT (texts c.args.words.now) c.in-Run.config.now (texts c.in-Run.files.now) is c.requires.words

pub returns-in-Run-clause-ends : goal.returns-in-Run-clause-ends
returns-in-Run-clause-ends g c = rw c.in-Run.is c.run_files.ensures.ends

pub returns-in-Run-clause-good : goal.returns-in-Run-clause-good
returns-in-Run-clause-good g c = rw c.in-Run.is c.run_files.ensures.good

pub returns-in-Gen-clause-ends : goal.returns-in-Gen-clause-ends
returns-in-Gen-clause-ends g c = rw c.in-Gen.is (record { host = c.run_generated.ensures.ends; disks = refl })

pub returns-in-Gen-clause-good : goal.returns-in-Gen-clause-good
returns-in-Gen-clause-good g c = rw c.in-Gen.is c.run_generated.ensures.good
