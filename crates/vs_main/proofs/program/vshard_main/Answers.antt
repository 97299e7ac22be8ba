use Rattle.std.proofs.Common.{◌≡◌, Option, Some, None, sym, ap, ◌∙◌, subst}
use Rattle.std.specs.Prelude.{option_map}
use Rattle.vs_command.specs.Command.{Command, command, command_in}
use Rattle.vs_command.specs.declared.verbs.TheConstants.{BUILT}
use Rattle.vs_inputs.specs.Words.{texts}
use Rattle.vs_top.specs.Endings.{between}
use Rattle.vs_main.specs.Endings.{Ends}
use Rattle.vs_main.specs.Good.{EndsWell}
use Rattle.vs_main.proofs.Memory.{no_memory, no_memory_well, none_told}
use Rattle.vs_main.proofs.Statuses.{status_in}
use Rattle.vs_main.proofs.program.vshard_main.Goals as goal

pub carry_out-requires-clause-asks : goal.carry_out-requires-clause-asks
carry_out-requires-clause-asks g c = λ κs outlives. sym c.in-Ok.ensures.read ∙ ap (option_map command) c.in-Some.is

pub returns-in-Some-clause-status : goal.returns-in-Some-clause-status
returns-in-Some-clause-status g c = (status_in (Some (command c.in-Some.asked)) c.carry_out.result _ c.carry_out.ensures.ends).0

pub returns-in-Some-clause-usage : goal.returns-in-Some-clause-usage
returns-in-Some-clause-usage g c = λ two.
    let read : command_in BUILT (texts c.args.words.now) ≡ Some (command c.in-Some.asked) = sym c.in-Ok.ensures.read ∙ ap (option_map command) c.in-Some.is in
    read ∙ (status_in (Some (command c.in-Some.asked)) c.carry_out.result _ c.carry_out.ensures.ends).1 two

pub returns-in-Some-clause-ends : goal.returns-in-Some-clause-ends
returns-in-Some-clause-ends g c =
    let read : command_in BUILT (texts c.args.words.now) ≡ Some (command c.in-Some.asked) = sym c.in-Ok.ensures.read ∙ ap (option_map command) c.in-Some.is in
    subst (λ (found : Option Command). Ends found c.carry_out.result (between g.D.Disk.told (g.H.Host.told c.args.host.now) (g.H.Host.told c.carry_out.new.host) c.args.disks.now.items c.carry_out.new.disks.items)) (sym read) c.carry_out.ensures.ends

pub returns-in-Some-clause-good : goal.returns-in-Some-clause-good
returns-in-Some-clause-good g c =
    let read : command_in BUILT (texts c.args.words.now) ≡ Some (command c.in-Some.asked) = sym c.in-Ok.ensures.read ∙ ap (option_map command) c.in-Some.is in
    subst (λ (found : Option Command). EndsWell found c.carry_out.result (between g.D.Disk.told (g.H.Host.told c.args.host.now) (g.H.Host.told c.carry_out.new.host) c.args.disks.now.items c.carry_out.new.disks.items)) (sym read) c.carry_out.ensures.good

pub returns-in-None-clause-status : goal.returns-in-None-clause-status
returns-in-None-clause-status g c = (status_in None c.log_usage.result _ (none_told g.D.Disk.told c.args.disks.now.items _ _ c.log_usage.result c.log_usage.ensures)).0

pub returns-in-None-clause-ends : goal.returns-in-None-clause-ends
returns-in-None-clause-ends g c =
    let read : command_in BUILT (texts c.args.words.now) ≡ None = sym c.in-Ok.ensures.read ∙ ap (option_map command) c.in-None.is in
    subst (λ (found : Option Command). Ends found c.log_usage.result (between g.D.Disk.told (g.H.Host.told c.args.host.now) (g.H.Host.told c.log_usage.new.host) c.args.disks.now.items c.args.disks.now.items)) (sym read) (none_told g.D.Disk.told c.args.disks.now.items _ _ c.log_usage.result c.log_usage.ensures)

pub returns-in-None-clause-good : goal.returns-in-None-clause-good
returns-in-None-clause-good g c =
    let read : command_in BUILT (texts c.args.words.now) ≡ None = sym c.in-Ok.ensures.read ∙ ap (option_map command) c.in-None.is in
    subst (λ (found : Option Command). EndsWell found c.log_usage.result (between g.D.Disk.told (g.H.Host.told c.args.host.now) (g.H.Host.told c.log_usage.new.host) c.args.disks.now.items c.args.disks.now.items)) (sym read) tt

pub returns-in-Err-clause-status : goal.returns-in-Err-clause-status
returns-in-Err-clause-status g c = (status_in (command_in BUILT (texts c.args.words.now)) c.log_memory.result _ (no_memory g.D.Disk.told c.args.disks.now.items _ _ (command_in BUILT (texts c.args.words.now)) c.log_memory.result c.log_memory.ensures.status c.log_memory.ensures.line)).0

pub returns-in-Err-clause-ends : goal.returns-in-Err-clause-ends
returns-in-Err-clause-ends g c = no_memory g.D.Disk.told c.args.disks.now.items _ _ (command_in BUILT (texts c.args.words.now)) c.log_memory.result c.log_memory.ensures.status c.log_memory.ensures.line

pub returns-in-Err-clause-good : goal.returns-in-Err-clause-good
returns-in-Err-clause-good g c = no_memory_well g.D.Disk.told c.args.disks.now.items _ _ _ c.log_memory.result c.log_memory.ensures.status
