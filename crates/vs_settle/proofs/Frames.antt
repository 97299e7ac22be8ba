-- What an event of the service leaves as it was, and what is known after it.
use Rattle.std.proofs.Common.{◌≡◌, ℕ, ◌==◌, ◌≤◌, refl, ap, subst, ◌∙◌, length, Bool, true, false, Option, Some, None, Ok}
use Rattle.std.specs.Prelude.{◌&&◌, if◌then◌else◌}
use Rattle.vs_event.specs.declared.event.Event.{Event}
use Rattle.vs_event.specs.declared.event.Event.TheVariants.{Deliver, Hear, Ask, Condemn, Wipe, Forget, Restart}
use Rattle.vs_event.specs.declared.event.RestartBy.TheVariants.{Service}
use Rattle.vs_record.specs.Change.{Change}
use Rattle.vs_config.specs.Configuration.{Configuration}
use Rattle.vs_link.specs.Connection.{Message, Chunk, Last, Stat}
use Rattle.vs_link.specs.Connection as link
use Rattle.vs_machine.specs.Tables.{count_to, put}
use Rattle.vs_machine.specs.State.{State}
use Rattle.vs_machine.specs.Step.{step}
use Rattle.vs_machine.specs.Kinds.Connections.{after_deliver}
use Rattle.vs_machine.specs.Kinds.Stops.{is_client_done, is_operator_done, is_finished, restarted}
use Rattle.vs_machine.proofs.Can.Others.{can_deliver, can_hear, can_ask, can_condemn, can_wipe, can_forget}
use Rattle.vs_machine.proofs.Can.Stops.{can_restart}
use Rattle.vs_machine.proofs.Frame.{put_here}
use Rattle.vs_machine.proofs.Reached.{reaches_on}
use Rattle.vs_settle.specs.Quiet.{QuietRuns}
use Rattle.vs_settle.specs.Service.{IsService, IsCalm, IsResting}

-- the clients and the operators are as before
pub record IsSame (s t : State) : Type 0 where
  pub config : t.config ≡ s.config
  pub clients : t.clients ≡ s.clients
  pub client : t.client ≡ s.client
  pub operators : t.operators ≡ s.operators
  pub operator : t.operator ≡ s.operator

abbrev same : (s : State) → IsSame s s
same s = record { config = refl; clients = refl; client = refl; operators = refl; operator = refl }

delivered_same : (s : State) (x y : ℕ) (sent : link.Sent) (m : Message) → IsSame s (after_deliver s x y sent m)
delivered_same s x y sent (Chunk b page) = record { config = refl; clients = refl; client = refl; operators = refl; operator = refl }
delivered_same s x y sent (Last b) = record { config = refl; clients = refl; client = refl; operators = refl; operator = refl }
delivered_same s x y sent (Stat b) = record { config = refl; clients = refl; client = refl; operators = refl; operator = refl }

restarted_same : (s : State) (x : ℕ) (kept : Bool) (pending : Option Change) → IsSame s (restarted s x kept pending)
restarted_same s x true (Some change) = record { config = refl; clients = refl; client = refl; operators = refl; operator = refl }
restarted_same s x true None = record { config = refl; clients = refl; client = refl; operators = refl; operator = refl }
restarted_same s x false pending = record { config = refl; clients = refl; client = refl; operators = refl; operator = refl }

pub service_same : (s t : State) (e : Event) → IsService e → step s e ≡ Ok t → IsSame s t
service_same s t (Deliver x y) is h = let p = can_deliver s t x y h in subst (IsSame s) p.gives (delivered_same s x y p.sent p.sent.message)
service_same s t (Hear x y) is h = subst (IsSame s) (can_hear s t x y h).gives (record { config = refl; clients = refl; client = refl; operators = refl; operator = refl })
service_same s t (Ask x b) is h = subst (IsSame s) (can_ask s t x b h).gives (record { config = refl; clients = refl; client = refl; operators = refl; operator = refl })
service_same s t (Condemn x b) is h = subst (IsSame s) (can_condemn s t x b h).gives (record { config = refl; clients = refl; client = refl; operators = refl; operator = refl })
service_same s t (Wipe x b) is h = subst (IsSame s) (can_wipe s t x b h).gives (record { config = refl; clients = refl; client = refl; operators = refl; operator = refl })
service_same s t (Forget x b) is h = subst (IsSame s) (can_forget s t x b h).gives (record { config = refl; clients = refl; client = refl; operators = refl; operator = refl })
service_same s t (Restart x kept Service) is h = subst (IsSame s) (can_restart s t x kept h).gives (restarted_same s x kept (s.pending x))
service_same s t e is h = absurd is

-- ---- a set that is up stays so

put_up : (up : ℕ → Bool) (x y : ℕ) → up y ≡ true → put up x true y ≡ true
put_up up x y is = by (y == x)
  where
    by : (t : Bool) → (if t then true else up y) ≡ true
    by true = refl
    by false = is

restarted_up : (s : State) (x : ℕ) (kept : Bool) (pending : Option Change) (y : ℕ) → s.up y ≡ true → (restarted s x kept pending).up y ≡ true
restarted_up s x true (Some change) y is = put_up s.up x y is
restarted_up s x true None y is = put_up s.up x y is
restarted_up s x false pending y is = put_up s.up x y is

delivered_up : (s : State) (x y : ℕ) (sent : link.Sent) (m : Message) → (after_deliver s x y sent m).up ≡ s.up
delivered_up s x y sent (Chunk b page) = refl
delivered_up s x y sent (Last b) = refl
delivered_up s x y sent (Stat b) = refl

pub service_up : (s t : State) (e : Event) → IsService e → step s e ≡ Ok t → (z : ℕ) → s.up z ≡ true → t.up z ≡ true
service_up s t (Deliver x y) is h z up = let p = can_deliver s t x y h in subst (λ (u : State). u.up z ≡ true) p.gives (ap (λ (u : ℕ → Bool). u z) (delivered_up s x y p.sent p.sent.message) ∙ up)
service_up s t (Hear x y) is h z up = subst (λ (u : State). u.up z ≡ true) (can_hear s t x y h).gives up
service_up s t (Ask x b) is h z up = subst (λ (u : State). u.up z ≡ true) (can_ask s t x b h).gives up
service_up s t (Condemn x b) is h z up = subst (λ (u : State). u.up z ≡ true) (can_condemn s t x b h).gives up
service_up s t (Wipe x b) is h z up = subst (λ (u : State). u.up z ≡ true) (can_wipe s t x b h).gives up
service_up s t (Forget x b) is h z up = subst (λ (u : State). u.up z ≡ true) (can_forget s t x b h).gives up
service_up s t (Restart x kept Service) is h z up = subst (λ (u : State). u.up z ≡ true) (can_restart s t x kept h).gives (restarted_up s x kept (s.pending x) z up)
service_up s t e is h z up = absurd is

same_finished : (s t : State) → IsSame s t → is_finished t ≡ is_finished s
same_finished s t f = λ i.
    (count_to (λ c. is_client_done (f.client i c)) (f.clients i) == f.clients i)
    && (count_to (λ o. is_operator_done (f.operator i o)) (f.operators i) == f.operators i)

restarted_here : (s : State) (x : ℕ) (kept : Bool) (pending : Option Change) → (restarted s x kept pending).up x ≡ true
restarted_here s x true (Some change) = put_here s.up x true
restarted_here s x true None = put_here s.up x true
restarted_here s x false pending = put_here s.up x true

-- and one that is started again is up
pub restarted_again : (s t : State) (x : ℕ) (kept : Bool) → step s (Restart x kept Service) ≡ Ok t → t.up x ≡ true
restarted_again s t x kept h = subst (λ (u : State). u.up x ≡ true) (can_restart s t x kept h).gives (restarted_here s x kept (s.pending x))

-- all stays answered
pub still_calm : QuietRuns → (s t : State) (e : Event) → IsCalm s → IsService e → step s e ≡ Ok t → IsCalm t
still_calm law s t e r is h =
    let reached = reaches_on s t e r.reached h in
    let finished = same_finished s t (service_same s t e is h) ∙ r.finished in
    record { reached = reached; finished = finished; quiet = law t reached finished }

-- the cluster stays at rest
pub still_resting : QuietRuns → (s t : State) (e : Event) → IsResting s → IsService e → step s e ≡ Ok t → IsResting t
still_resting law s t e r is h =
    let calm = still_calm law s t e (record { reached = r.reached; finished = r.finished; quiet = r.quiet }) is h in
    record {
      reached = calm.reached;
      finished = calm.finished;
      up = λ x from to. service_up s t e is h x (r.up x from (subst (λ (c : Configuration). x ≤ length c.sets) (service_same s t e is h).config to));
      quiet = calm.quiet;
    }
