-- The cluster of a world that was opened without scripts.
use Rattle.std.proofs.Common.{◌≡◌, List, [], refl, sym, ap, ◌∙◌, subst, arith}
use Rattle.std.specs.Prelude.{ℕ}
use Rattle.vs_config.specs.Configuration.{Configuration}
use Rattle.vs_config.specs.Lawful as config_law
use Rattle.vs_disk.specs.Told.{Told}
use Rattle.vs_info.specs.Info.{info_text}
use Rattle.vs_machine.specs.Laws.{BegunInputs}
use Rattle.vs_machine.specs.Opening.{IsLawful}
use Rattle.vs_machine.specs.State.{State}
use Rattle.vs_script.specs.Scripts.{Scripts}
use Rattle.vs_world.specs.NotOpened.{IsNotOpened}
use Rattle.vs_world.specs.Opened.{IsOpened}
use Rattle.vs_world.specs.Played.{began, state_of}
use Rattle.vs_world.specs.World.{World}
use Rattle.vs_world.specs.declared.fault.WorldFault.{WorldFault}
use Rattle.vs_top.specs.Plays.{AreFit, journal_limit}
use Rattle.vs_top.proofs.Playing.{is_begun, are_fit}
use Rattle.vs_informing.specs.Cluster.{IsInfoOf, no_scripts, opened_on}

-- no scripts are lawful ones
lawful : (config : Configuration) → config_law.IsLawful config → IsLawful config no_scripts
lawful config is = record {
  buckets = is.bucket_count;
  sets = is.number_of_sets;
  threshold = is.threshold;
  max_receiving = is.max_receiving;
  max_sending = is.max_sending;
  clients = omega arith;
  operators = omega arith;
  few_calls = omega arith;
  few_scans = omega arith;
  few_commands = omega arith;
  calls = λ k d below. absurd (omega (arith, below));
  commands = λ k d below. absurd (omega (arith, below));
  cuts = λ k d below. absurd (omega (arith, below));
}

-- what was opened with a copy of a configuration, and with scripts that are none
module _ (config copy : Configuration) (scripts : Scripts) (same : copy ≡ config) (none : scripts ≡ no_scripts) where
  pub lawful_as : config_law.IsLawful config → IsLawful copy scripts
  lawful_as is =
      subst (λ (c : Configuration). IsLawful c scripts) (sym same) (subst (λ (s : Scripts). IsLawful config s) (sym none) (lawful config is))

  pub opened_as : {D : Type 0} (told : D → Told) (before : List D) (w : World D) → IsOpened told copy scripts journal_limit before w → IsOpened told config no_scripts journal_limit before w
  opened_as told before w o =
      subst (λ (s : Scripts). IsOpened told config s journal_limit before w) none (subst (λ (c : Configuration). IsOpened told c scripts journal_limit before w) same o)

  pub refused_as : {D : Type 0} (told : D → Told) (before after : List D) (fault : WorldFault) → IsNotOpened told copy journal_limit before fault after → IsNotOpened told config journal_limit before fault after
  refused_as told before after fault refused = subst (λ (c : Configuration). IsNotOpened told c journal_limit before fault after) same refused

module _ {D : Type 0} (told : D → Told) (config : Configuration) (before : List D) (w : World D) (o : IsOpened told config no_scripts journal_limit before w) where
  pub config_is : config ≡ (state_of w.played).config
  config_is = sym (ap (λ (s : State). s.config) o.state ∙ o.config_is)

  pub is_info : BegunInputs → (after : List D) (text : List ℕ) → w.disks ≡ after → text ≡ info_text (state_of w.played) → IsInfoOf (opened_on told config before after) text
  is_info inputs after text disks is = record {
    began = began w.played;
    begun = is_begun told config no_scripts before w o [] after;
    fits = subst (AreFit (opened_on told config before after)) o.state (are_fit told config no_scripts before w o inputs w o.kept refl [] after disks);
    text_is = is ∙ ap info_text o.state;
  }
