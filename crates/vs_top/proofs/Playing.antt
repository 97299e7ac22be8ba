-- What becomes of events that are played on a world that was opened.
use Rattle.std.proofs.Common.{◌≡◌, ◌≤◌, ℕ, true, List, length, sym, ap, subst, arith, ◌∙◌}
use Rattle.std.proofs.Math.Seq.{take-length}
use Rattle.std.proofs.lemmas.Bool.Decides.{nat_tests}
use Rattle.vs_config.specs.Configuration.{Configuration}
use Rattle.vs_disk.specs.Told.{Told}
use Rattle.vs_event.specs.declared.event.Event.{Event}
use Rattle.vs_script.specs.Scripts.{Scripts}
use Rattle.vs_core.specs.Safety.{SafeRuns}
use Rattle.vs_legal.specs.Laws.{AreBasesNamed}
use Rattle.vs_machine.specs.Journals.{held_as}
use Rattle.vs_machine.specs.Laws.{BegunInputs}
use Rattle.vs_machine.specs.Report.{report}
use Rattle.vs_machine.specs.Runs.{IsOpening}
use Rattle.vs_machine.specs.Step.{run}
use Rattle.vs_machine.specs.Tables.{is_to}
use Rattle.vs_stores.specs.Numbered.{at_number}
use Rattle.vs_world.proofs.Playing.{config_is}
use Rattle.vs_world.specs.Began.{begun, start_of}
use Rattle.vs_world.specs.Opened.{IsOpened}
use Rattle.vs_world.specs.Played.{began, state_of}
use Rattle.vs_world.specs.World.{World, IsKept}
use Rattle.vs_top.specs.Plays.{IsBegun, IsReportOf, AreFit, played_on, journal_limit}
use Rattle.vs_top.specs.Stops.{HasPlayed, IsFresh}

-- a number from 1 to n is that of a set
to_set : (n x : ℕ) → 1 ≤ x → x ≤ n → is_to n x ≡ true
to_set n x first last = grind (arith, nat_tests, first, last)

module _ {D : Type 0} (told : D → Told) (config : Configuration) (scripts : Scripts) (before : List D) (w : World D) (o : IsOpened told config scripts journal_limit before w) where
  -- it begins with the texts and the journals
  pub is_begun : (events : List Event) (after : List D) → IsBegun (played_on told config scripts events before after) (began w.played)
  is_begun events after = record {
    config_is = o.config_is;
    scripts_are = o.scripts_are;
    limit_is = o.limit_is;
    states_are = o.states_are;
    coherent =
        subst (λ c. IsOpening c scripts (held_as (began w.played).states)) o.config_is
        (subst (λ s. IsOpening (began w.played).config s (held_as (began w.played).states)) o.scripts_are o.kept.run.opens);
  }

  pub is_fresh : IsFresh w
  is_fresh = record { state = o.state; events = o.events; disks = o.kept.disks }

  module _ (inputs : BegunInputs) (w1 : World D) (k : IsKept told w1) (same : w1.played.opening ≡ w.played.opening) where
    -- no event changes the configuration
    pub config_now : (state_of w1.played).config ≡ config
    config_now = config_is inputs w1.played k.run ∙ ap (λ opening. (begun opening).config) same ∙ o.config_is

    -- the disks fit the state
    pub are_fit : (events : List Event) (after : List D) → w1.disks ≡ after → AreFit (played_on told config scripts events before after) (state_of w1.played)
    are_fit events after disks x it set at = k.fits x (ap (λ c. is_to (length c.sets) x) config_now ∙ to_set (length config.sets) x set.0 set.1) it (ap (λ (ds : List D). at_number ds x) disks ∙ at)

    -- all events were played
    pub is_report : SafeRuns → (events : List Event) (after : List D) (text : List ℕ) → w1.disks ≡ after → HasPlayed told w w1 events (length events) → text ≡ report (state_of w1.played) → AreBasesNamed (state_of w1.played)
        → IsReportOf (played_on told config scripts events before after) text
    is_report law events after text disks all is named = record {
      began = began w.played;
      begun = is_begun events after;
      last = state_of w1.played;
      ran = ap (λ (es : List Event). run (start_of (began w.played)) es) (sym (take-length events)) ∙ all.ran;
      safe = law (began w.played).config (began w.played).scripts (held_as (began w.played).states) events o.kept.run.opens;
      fits = are_fit events after disks;
      text_is = is;
      named = named;
    }
