-- A client is written.
use Rattle.std.proofs.Common.{◌≡◌, ℕ, suc, ◌-◌, ◌<◌, ◌≤◌, true, false, [], length, Some, None, get_or, refl, sym, ap, subst, ◌∙◌, arith}
use Rattle.std.specs.Prelude.{◌&&◌}
use Rattle.std.specs.Option.{option_map_or}
use Rattle.std.specs.Vec.{with_item}
use Rattle.std.proofs.lemmas.Bool.Decides.{nat_tests}
use Rattle.std.proofs.lemmas.Option.{slice_get-get_or}
use Rattle.std.proofs.Math.ListN.{length-set}
use Rattle.vs_base.specs.declared.numbers.Mode.{Mode}
use Rattle.vs_calls.specs.Progress.{Progress, is_held}
use Rattle.vs_machine.specs.State as machine
use Rattle.vs_machine.specs.Opening.{client_at}
use Rattle.vs_machine.specs.Tables.{put}
use Rattle.vs_state.specs.declared.state.State.{State}
use Rattle.vs_state.specs.declared.actors.ClientTables.{ClientTables}
use Rattle.vs_state.specs.Sized.{IsSized}
use Rattle.vs_state.specs.Plain.{plain, client}
use Rattle.vs_state.specs.Tables.{numbered}
use Rattle.vs_core.specs.Keeps.{IsSound}
use Rattle.vs_core.proofs.Agrees.{agrees_same}
use Rattle.vs_core.proofs.Frame.{put_each, put_here, put_same}
use Rattle.vs_core.proofs.Numbered.{numbered_set}

-- the state with the client of index k written
abbrev pub with_client : State → ℕ → ClientTables → State
with_client s k t = record s { clients = with_item s.clients k t }

-- client c, which has the index k
pub record IsClient (s : State) (c k : ℕ) (t : ClientTables) : Type 0 where
  pub at : suc k ≡ c
  pub within : k < length s.clients.items
  pub is : t ≡ get_or s.clients.items k t

pub client_of : (s : State) (c n : ℕ) (t : ClientTables) → machine.has_client (plain s) c ≡ true → n ≡ c → t ≡ get_or s.clients.items (n - 1) t → IsClient s c (n - 1) t
client_of s c n t has same is = record { at = grind (arith, nat_tests, has, same); within = grind (arith, nat_tests, has, same); is = is }

module _ (s : State) (c k : ℕ) (t u : ClientTables) (o : IsClient s c k t) where
  -- the client of the machine
  pub client_is : (plain s).client c ≡ client t
  client_is = subst (λ c. (plain s).client c ≡ client t) o.at (ap (λ i. option_map_or client i (client_at [])) (slice_get-get_or s.clients.items k t o.within) ∙ ap client (sym o.is))

  -- what stands at the client's number
  pub client_there : numbered Some None s.clients.items c ≡ Some t
  client_there = subst (λ c. numbered Some None s.clients.items c ≡ Some t) o.at (ap (λ i. option_map_or Some i None) (slice_get-get_or s.clients.items k t o.within) ∙ ap Some (sym o.is))

  pub client_written : plain (with_client s k u) ≡ machine.put_client (plain s) c (client u)
  client_written = subst (λ c. plain (with_client s k u) ≡ machine.put_client (plain s) c (client u)) o.at (λ i. record (plain s) {
    clients = length-set s.clients.items k u i;
    client = numbered_set client (client_at []) s.clients.items k u o.within i;
  })

  pub sized_with : IsSized s → IsSized (with_client s k u)
  sized_with z = record { sets = z.sets; links = z.links; buckets = z.buckets; histories = z.histories; clients = subst (λ n. n ≤ 64) (sym (length-set s.clients.items k u)) z.clients; operators = z.operators }

  -- a call that holds what it held leaves the references as they are
  pub sound_with : ((m : Mode) (x b : ℕ) → machine.holds m x b (client u) ≡ machine.holds m x b (client t)) → IsSound s → IsSound (with_client s k u)
  sound_with same i = record {
    sized = sized_with i.sized;
    agrees = agrees_same s (with_client s k u) (record {
      clients = length-set s.clients.items k u;
      holds = λ m x b q. ap (λ (n : machine.State). machine.holds m x b (n.client q)) client_written ∙ at m x b q;
      up = refl;
      count = refl;
      entry = λ b. refl;
      transfer = λ b. refl;
    }) (λ x b. refl) (λ x. refl) i.agrees;
  }
    where
      at : (m : Mode) (x b q : ℕ) → machine.holds m x b (put (plain s).client c (client u) q) ≡ machine.holds m x b ((plain s).client q)
      at m x b = put_each (λ q v. machine.holds m x b v ≡ machine.holds m x b ((plain s).client q)) (plain s).client c (client u) (same m x b ∙ ap (machine.holds m x b) (sym client_is)) (λ q. refl)

  -- the present call became another, by what it was
  pub progress_written : (f : Progress → Progress) → client u ≡ machine.with_progress (client t) (f (client t).present)
      → plain (with_client s k u) ≡ machine.put_client (plain s) c (machine.with_progress ((plain s).client c) (f ((plain s).client c).present))
  progress_written f becomes = client_written ∙ ap (machine.put_client (plain s) c) becomes ∙ ap (λ v. machine.put_client (plain s) c (machine.with_progress v (f v.present))) (sym client_is)

  -- a call that held nothing and holds nothing leaves the references as they are
  pub sound_free : is_held ((plain s).client c).present.stage ≡ false → is_held (client u).present.stage ≡ false → IsSound s → IsSound (with_client s k u)
  sound_free before after =
      sound_with (λ m x b. ap (λ e. e && machine.is_set (client u).present.set x && machine.is_call_of m b (machine.next_call (client u))) after
      ∙ ap (λ e. e && machine.is_set (client t).present.set x && machine.is_call_of m b (machine.next_call (client t))) (sym (ap (λ (v : machine.Client). is_held v.present.stage) (sym client_is) ∙ before)))

  -- only the room changed
  pub plain_same : client u ≡ client t → plain (with_client s k u) ≡ plain s
  plain_same same = client_written ∙ ap (machine.put_client (plain s) c) (same ∙ sym client_is) ∙ (λ i. record (plain s) { client = put_same (plain s).client c i })

  pub sound_same : client u ≡ client t → IsSound s → IsSound (with_client s k u)
  sound_same same = sound_with (λ m x b. ap (machine.holds m x b) same)

  pub written_there : (P : ClientTables → Type 0) → P u → (v : ClientTables) → numbered Some None (with_client s k u).clients.items c ≡ Some v → P v
  written_there P p v h = subst P (cc (now, h)) p
    where
      now : numbered Some None (with_client s k u).clients.items c ≡ Some u
      now = ap (λ f. f c) (numbered_set Some None s.clients.items k u o.within) ∙ subst (λ c. put (numbered Some None s.clients.items) (suc k) (Some u) c ≡ Some u) o.at (put_here (numbered Some None s.clients.items) (suc k) (Some u))
