-- The report of what was played is legal.
use Rattle.std.proofs.Common.{◌≡◌, ◌<◌, ◌^◌, List, ℕ, length, Ok, subst, sym}
use Rattle.vs_auditing.specs.Texts.{IsLegalText}
use Rattle.vs_config.specs.Configuration.{Configuration}
use Rattle.vs_event.specs.declared.event.Event.{Event}
use Rattle.vs_inputs.specs.Files.{Files}
use Rattle.vs_inputs.specs.Inputs.{AreInputs}
use Rattle.vs_inputs.specs.Words.{Names}
use Rattle.vs_machine.specs.Journals.{held_as}
use Rattle.vs_machine.specs.Opening.{opening}
use Rattle.vs_machine.specs.State.{State}
use Rattle.vs_machine.specs.Step.{run}
use Rattle.vs_named.specs.Named.{AreRead}
use Rattle.vs_named.specs.Laws.{ReportsAreLegal}
use Rattle.vs_script.specs.Scripts.{Scripts}
use Rattle.vs_world.specs.Began.{Began, start_of}
use Rattle.vs_top.specs.Plays.{IsBegun, IsReportOf, Played}

-- the run begins with what is played
pub ran_from : {D : Type 0} (p : Played D) (b : Began) → IsBegun p b → (events : List Event) (s : State) → run (start_of b) events ≡ Ok s → run (opening p.config p.scripts (held_as b.states)) events ≡ Ok s
ran_from p b begun events s ran =
    subst (λ (k : Configuration). run (opening k p.scripts (held_as b.states)) events ≡ Ok s) begun.config_is
    (subst (λ (k : Scripts). run (opening b.config k (held_as b.states)) events ≡ Ok s) begun.scripts_are ran)

pub is_legal : {D : Type 0} → ReportsAreLegal → (files : Files) (names : Names) (p : Played D) → AreInputs files names p.config p.events p.scripts → (text : List ℕ) → IsReportOf p text → length text < 2 ^ 64 → IsLegalText text
is_legal law files names p inputs text report short =
    let begun = report.begun in
    let read : AreRead files names.scripts p.config p.scripts = record { each = inputs.each; script_files = inputs.script_files; gathered = inputs.gathered } in
    subst IsLegalText (sym report.text_is)
    (law files names.scripts p.config p.scripts (held_as report.began.states) p.events report.last read begun.coherent (ran_from p report.began begun p.events report.last report.ran) report.named
    (subst (λ (t : List ℕ). length t < 2 ^ 64) report.text_is short))
