-- What the sets of a new cluster have fits together.
use Rattle.std.proofs.Common.{◌≡◌, ℕ, ◌≤◌, Bool, true, false, length, refl, sym, subst, ◌∙◌, arith}
use Rattle.std.proofs.lemmas.Bool.Decides.{nat_tests}
use Rattle.vs_config.specs.Configuration.{Configuration}
use Rattle.vs_core.specs.Booted.{booted}
use Rattle.vs_core.specs.Opened.{IsCoherentAt}
use Rattle.vs_core.proofs.Booted.{opens}
use Rattle.vs_machine.specs.Journals.{held_as, nothing}
use Rattle.vs_machine.specs.Opening.{Holdings, IsLawful}
use Rattle.vs_machine.specs.Runs.{IsOpening}
use Rattle.vs_machine.specs.Tables.{is_to}
use Rattle.vs_record.specs.Durable.{Durable}
use Rattle.vs_script.specs.Scripts.{Scripts}
use Rattle.vs_world.specs.Opened.{IsSet, new_state}

module _ (config : Configuration) (scripts : Scripts) (lawful : IsLawful config scripts) (states : ℕ → Durable) (new : (x : ℕ) → IsSet config x → states x ≡ new_state config x) (others : (x : ℕ) → ¬ (IsSet config x) → states x ≡ nothing) where
  begins : IsOpening config scripts (booted config)
  begins = opens config scripts lawful

  -- a number that isn't a set's has nothing in a new cluster either
  state_is : (x : ℕ) → states x ≡ new_state config x
  state_is x = by (is_to (length config.sets) x) refl
    where
      none : is_to (length config.sets) x ≡ false → new_state config x ≡ nothing
      none out = λ i. record {
        entry = λ b. begins.holdings.sets x b out i;
        rows = λ b. begins.holdings.empty x b (begins.holdings.sets x b out) i;
      }

      by : (t : Bool) → is_to (length config.sets) x ≡ t → states x ≡ new_state config x
      by true is = new x (grind (arith, nat_tests, is), grind (arith, nat_tests, is))
      by false is = others x (λ set. absurd (grind (arith, nat_tests, is, set))) ∙ sym (none is)

  held_is : held_as states ≡ booted config
  held_is = λ i. record { entry = λ x b. (state_is x i).entry b; rows = λ x b. (state_is x i).rows b }

  pub coherent_new : (b : ℕ) → 1 ≤ b → b ≤ config.bucket_count → IsCoherentAt (length config.sets) (held_as states) b
  coherent_new b first last = subst (λ (held : Holdings). IsCoherentAt (length config.sets) held b) (sym held_is) (begins.coherent b first last)
