-- A history is written.
use Rattle.std.proofs.Common.{◌≡◌, ℕ, suc, ◌-◌, ◌<◌, true, length, get_or, refl, sym, ap, subst, ◌∙◌, arith}
use Rattle.std.specs.Option.{option_map_or}
use Rattle.std.specs.Vec.{with_item}
use Rattle.std.proofs.lemmas.Bool.Decides.{nat_tests}
use Rattle.std.proofs.lemmas.Option.{slice_get-get_or}
use Rattle.std.proofs.Math.ListN.{length-set}
use Rattle.vs_history.specs.declared.history.History.{History}
use Rattle.vs_history.specs.Means as history
use Rattle.vs_machine.specs.State as machine
use Rattle.vs_machine.specs.Tables.{put}
use Rattle.vs_state.specs.declared.state.State.{State}
use Rattle.vs_state.specs.Sized.{IsSized}
use Rattle.vs_state.specs.Plain.{plain, bucket, no_history}
use Rattle.vs_state.specs.Tables.{numbered}
use Rattle.vs_core.specs.Keeps.{IsSound}
use Rattle.vs_core.proofs.Agrees.{agrees_same}
use Rattle.vs_core.proofs.Frame.{is_put, put_there, put_here, put_same}
use Rattle.vs_core.proofs.Numbered.{numbered_set}

abbrev pub with_history : State → ℕ → History → State
with_history s k h = record s { histories = with_item s.histories k h }

-- the history of bucket b, which has the index k
pub record IsHistory (s : State) (b k : ℕ) (h : History) : Type 0 where
  pub at : suc k ≡ b
  pub within : k < length s.histories.items
  pub is : h ≡ get_or s.histories.items k h

pub history_of : (s : State) (b n : ℕ) (h : History) → machine.has_bucket (plain s) b ≡ true → IsSized s → n ≡ b → h ≡ get_or s.histories.items (n - 1) h → IsHistory s b (n - 1) h
history_of s b n h has z same is = record { at = grind (arith, nat_tests, has, same); within = grind (arith, nat_tests, has, same, z.histories); is = is }

module _ (s : State) (b k : ℕ) (h g : History) (o : IsHistory s b k h) where
  pub history_is : ((plain s).bucket b).history ≡ history.means h
  history_is = subst (λ b. ((plain s).bucket b).history ≡ history.means h) o.at (ap (λ i. option_map_or history.means i no_history) (slice_get-get_or s.histories.items k h o.within) ∙ ap history.means (sym o.is))

  all_histories : numbered history.means no_history (with_history s k g).histories.items ≡ put (numbered history.means no_history s.histories.items) b (history.means g)
  all_histories = subst (λ b. numbered history.means no_history (with_history s k g).histories.items ≡ put (numbered history.means no_history s.histories.items) b (history.means g)) o.at (numbered_set history.means no_history s.histories.items k g o.within)

  pub history_written : plain (with_history s k g) ≡ machine.put_bucket (plain s) b (record ((plain s).bucket b) { history = history.means g })
  history_written = λ i. record (plain s) { bucket = buckets i }
    where
      at : (q : ℕ) → bucket (with_history s k g) q ≡ record (bucket s q) { history = put (numbered history.means no_history s.histories.items) b (history.means g) q }
      at q = λ i. record (bucket s q) { history = all_histories i q }

      buckets : bucket (with_history s k g) ≡ put (bucket s) b (record (bucket s b) { history = history.means g })
      buckets = is_put (bucket s) (bucket (with_history s k g)) b
          (λ q ne. at q ∙ ap (λ h. record (bucket s q) { history = h }) (put_there (numbered history.means no_history s.histories.items) b (history.means g) q ne))
          ∙ ap (put (bucket s) b) (at b ∙ ap (λ h. record (bucket s b) { history = h }) (put_here (numbered history.means no_history s.histories.items) b (history.means g)))

  -- only the room changed
  pub history_same : history.means g ≡ history.means h → plain (with_history s k g) ≡ plain s
  history_same same =
      history_written
      ∙ ap (λ m. machine.put_bucket (plain s) b (record ((plain s).bucket b) { history = m })) (same ∙ sym history_is)
      ∙ (λ i. record (plain s) { bucket = put_same (plain s).bucket b i })

  pub sound_history : IsSound s → IsSound (with_history s k g)
  sound_history i = record {
    sized = record { sets = i.sized.sets; links = i.sized.links; buckets = i.sized.buckets; histories = length-set s.histories.items k g ∙ i.sized.histories; clients = i.sized.clients; operators = i.sized.operators };
    agrees = agrees_same s (with_history s k g) (record { clients = refl; holds = λ m x b c. refl; up = refl; count = refl; entry = λ b. refl; transfer = λ b. refl }) (λ x b. refl) (λ x. refl) i.agrees;
  }
