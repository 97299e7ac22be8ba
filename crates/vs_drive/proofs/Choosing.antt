-- What follows from the event that an actor chose.
use Rattle.std.proofs.Common.{◌≡◌, ℕ, Bool, Option, Some, None, refl, sym, subst}
use Rattle.std.specs.Prelude.{◌≢◌, IfSome}
use Rattle.vs_choose.specs.Client.{HasClientEvent, HasNoStep, IsClientChoice, IsPostedTo}
use Rattle.vs_cluster.specs.Calls.{IsPostAllowed}
use Rattle.vs_cluster.specs.Cluster.{Cluster}
use Rattle.vs_event.specs.declared.event.Event.{Event}
use Rattle.vs_event.specs.declared.event.Event.TheVariants.{Post, Begin, Act, End, Take, NotYet, Fault, Restart}
use Rattle.vs_event.specs.declared.event.RestartBy.{RestartBy}
use Rattle.vs_event.specs.declared.event.RestartBy.TheVariants.{Line, Service}
use Rattle.vs_machine.specs.Actors as actors
use Rattle.vs_machine.specs.Actors.{Actor, IsChoice, IsLeftAside, IsOf, IsPossible}
use Rattle.vs_machine.specs.State.{State}
use Rattle.vs_drive.specs.Turns.{stage_after, IsCallEvent}

-- ---- how far their events carry a call

pub operator_stage : (o : ℕ) (e : Event) → IsOf (actors.Operator o) e → stage_after e ≡ 0
operator_stage o (Post c x) own = absurd own
operator_stage o (Begin c) own = absurd own
operator_stage o (Act c) own = absurd own
operator_stage o (End c) own = absurd own
operator_stage o (Take c) own = absurd own
operator_stage o e own = refl

pub service_stage : (x : ℕ) (e : Event) → IsOf (actors.Service x) e → stage_after e ≡ 0
service_stage x (Post c y) own = absurd own
service_stage x (Begin c) own = absurd own
service_stage x (Act c) own = absurd own
service_stage x (End c) own = absurd own
service_stage x (Take c) own = absurd own
service_stage x e own = refl

pub mover_stage : (x : ℕ) (e : Event) → IsOf (actors.Mover x) e → stage_after e ≡ 0
mover_stage x (Post c y) own = absurd own
mover_stage x (Begin c) own = absurd own
mover_stage x (Act c) own = absurd own
mover_stage x (End c) own = absurd own
mover_stage x (Take c) own = absurd own
mover_stage x e own = refl

-- ---- clients

-- a client's event is a step of its call, or a post to the set that was given
pub client_event : {D : Type 0} (k : Cluster D) (s : State) (c : ℕ) (to : Option ℕ) (e : Event) → IfSome to (IsPostAllowed k c) → IsClientChoice s c to e → IsCallEvent k e
client_event {D} k s c to e allowed choice = given e to choice.choice.its_own choice.posted allowed
  where
    given : (e : Event) (to : Option ℕ) → IsOf (actors.Client c) e → IsPostedTo to e → IfSome to (IsPostAllowed k c) → IsCallEvent k e
    given (Post d x) None own posted allowed = absurd (cc posted)
    given (Post d x) (Some y) own posted allowed =
        let there : y ≡ x = cc posted in
        subst (λ (n : ℕ). IsPostAllowed k n x) (sym own) (subst (λ (n : ℕ). IsPostAllowed k c n) there allowed)
    given (NotYet x b) to own posted allowed = absurd own
    given (Fault x n r) to own posted allowed = absurd own
    given (Restart x kept (Line o)) to own posted allowed = absurd own
    given (Restart x kept Service) to own posted allowed = absurd own
    given e to own posted allowed = (tt, tt)

-- none starts a set again
pub call_no_restart : {D : Type 0} (k : Cluster D) (e : Event) → IsCallEvent k e → (x : ℕ) (kept : Bool) (by : RestartBy) → e ≢ Restart x kept by
call_no_restart k e h x kept by is = subst (IsCallEvent k) is h

-- where it has none, it can't go on with its call
pub no_step : (s : State) (c : ℕ) (to : Option ℕ) → ¬ (HasClientEvent s c to) → HasNoStep s c
no_step s c to none = record {
  begin = λ possible. none (Begin c, record { choice = record { its_own = refl; possible = possible; wanted = λ h. h }; posted = tt });
  act = λ possible. none (Act c, record { choice = record { its_own = refl; possible = possible; wanted = λ h. h }; posted = tt });
  ends = λ possible. none (End c, record { choice = record { its_own = refl; possible = possible; wanted = λ h. h }; posted = tt });
  take = λ possible. none (Take c, record { choice = record { its_own = refl; possible = possible; wanted = λ h. h }; posted = tt });
}
