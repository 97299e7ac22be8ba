-- The sets that are down are started again, one after another.
use Rattle.std.proofs.Common.{◌≡◌, ◌⊎◌, ⊎_elim, ℕ, ◌+◌, ◌≤◌, Bool, true, false, length, refl, sym, ap, subst, ◌∙◌, arith, Ok}
use Rattle.std.specs.Prelude.{◌||◌, not, is_some}
use Rattle.vs_config.specs.Configuration.{Configuration}
use Rattle.vs_disk.specs.Told.{Told}
use Rattle.vs_event.specs.declared.event.Event.TheVariants.{Restart}
use Rattle.vs_event.specs.declared.event.RestartBy.TheVariants.{Service}
use Rattle.vs_event.specs.declared.reason.Reason.TheVariants as reason
use Rattle.vs_machine.specs.Kinds.Stops.{is_finished, may_keep, restart, up_again}
use Rattle.vs_machine.specs.Settling.{settle_bound}
use Rattle.vs_machine.specs.State.{State, has_set, sets_of}
use Rattle.vs_machine.specs.Tables.{is_to}
use Rattle.vs_world.specs.Played.{IsAdvanced, state_of}
use Rattle.vs_world.specs.World.{World}
use Rattle.vs_settle.specs.Quiet.{QuietRuns}
use Rattle.vs_settle.specs.Raised.{IsRaised}
use Rattle.vs_settle.specs.Service.{Carries, IsCalm}
use Rattle.vs_settle.specs.Stopped.{Goes, IsStopped, KeepsFaults}
use Rattle.vs_settle.specs.Weight.{due, weight}
use Rattle.vs_settle.specs.declared.fault.SettleFault.{SettleFault}
use Rattle.vs_settle.proofs.Dues.{restart_less}
use Rattle.vs_settle.proofs.Following.{carries_none, carries_one, carries_then}
use Rattle.vs_settle.proofs.Frames.{service_up, still_calm, restarted_again}
use Rattle.vs_settle.proofs.Keeping.{faults_none, faults_then}
use Rattle.vs_settle.proofs.Possible.{needs_true}
use Rattle.vs_settle.proofs.Settled.{due_within, weight_within}
use Rattle.vs_settle.proofs.Stopping.{stops_then}

or_true : (p q : Bool) → q ≡ true → (p || q) ≡ true
or_true true q e = refl
or_true false q e = e

-- a set that is down can be started, as if no change were pending
pub restart_is : (s : State) (x : ℕ) → has_set s x ≡ true → s.up x ≡ false → is_finished s ≡ true → restart s x false Service ≡ Ok (up_again s x)
restart_is s x set down finished =
    needs_true (has_set s x) reason.Unknown _ set
    ∙ needs_true (not (s.up x)) (reason.Up x) _ (ap not down)
    ∙ needs_true (is_some (s.pending x) || is_finished s) reason.NotFinished _ (or_true (is_some (s.pending x)) (is_finished s) finished)
    ∙ needs_true (may_keep s x false) reason.NoPending _ refl

module _ {D : Type 0} (told : D → Told) where
  pub raised_already : (w : World D) (m x : ℕ) → IsCalm (state_of w.played) → (state_of w.played).up x ≡ true → IsRaised told w m w m x
  raised_already w m x calm up = record {
    carries = carries_none w.played m;
    faults = faults_none told w;
    calm = calm;
    up = up;
    others = λ y is. is;
    paid = omega arith;
  }

  pub raised_now : QuietRuns → (p q : World D) (m n x : ℕ) (kept : Bool) → IsCalm (state_of p.played) → IsAdvanced p.played q.played (Restart x kept Service) → n ≡ m + 1 → KeepsFaults told p q → IsRaised told p m q n x
  raised_now law p q m n x kept calm h ticks faults =
      let s = state_of p.played in
      let t = state_of q.played in
      let less = restart_less s t x kept h.step in
      record {
        carries = carries_one p.played q.played m n (Restart x kept Service) tt h ticks;
        faults = faults;
        calm = still_calm law s t (Restart x kept Service) calm tt h.step;
        up = restarted_again s t x kept h.step;
        others = service_up s t (Restart x kept Service) tt h.step;
        paid = omega (arith, less, ticks);
      }

  -- ---- the first k sets

  pub record Raising (p : World D) (m : ℕ) (q : World D) (n : ℕ) (k : ℕ) : Type 0 where
    pub carries : Carries p.played m q.played n
    pub faults : KeepsFaults told p q
    pub calm : IsCalm (state_of q.played)
    pub up : (y : ℕ) → 1 ≤ y → y ≤ k → (state_of q.played).up y ≡ true
    pub paid : n + due (state_of q.played) ≤ m + due (state_of p.played)

  pub raising_starts : (p : World D) (m : ℕ) → IsCalm (state_of p.played) → Raising p m p m 0
  raising_starts p m calm = record { carries = carries_none p.played m; faults = faults_none told p; calm = calm; up = λ y from to. absurd (omega (arith, from, to)); paid = omega arith }

  last_or : (k n : ℕ) → k ≤ n + 1 → (k ≡ n + 1) ⊎ (k ≤ n)
  last_or k n h = grind arith

  pub raising_goes_on : (p q r : World D) (m n l k : ℕ) → Raising p m q n k → IsRaised told q n r l (k + 1) → Raising p m r l (k + 1)
  raising_goes_on p q r m n l k e f =
      let paid = e.paid in
      let more = f.paid in
      record {
        carries = carries_then p.played q.played r.played m n l e.carries f.carries;
        faults = faults_then told p q r e.carries.config e.faults f.faults;
        calm = f.calm;
        up = λ y from to. ⊎_elim (λ is. subst (λ (z : ℕ). (state_of r.played).up z ≡ true) (sym is) f.up) (λ below. f.others y (e.up y from below)) (last_or y k to);
        paid = omega (arith, paid, more);
      }

  pub raising_set : (p q : World D) (m n k x : ℕ) → Raising p m q n k → has_set (state_of p.played) x ≡ true → has_set (state_of q.played) x ≡ true
  raising_set p q m n k x e h = subst (λ (c : Configuration). is_to (length c.sets) x ≡ true) (sym e.carries.config) h

  pub raising_stops : (p q r : World D) (m n l k : ℕ) (fault : SettleFault) → Raising p m q n k → IsStopped told q n r l fault → IsStopped told p m r l fault
  raising_stops p q r m n l k fault e f = stops_then told p q r m n l fault e.carries e.faults f

  pub raising_ends : (p q : World D) (m n k : ℕ) → Raising p m q n k → sets_of (state_of p.played) ≤ k → Goes told p m q n × (n + weight (state_of q.played) ≤ m + settle_bound (state_of p.played))
  raising_ends p q m n k e all =
      let s = state_of p.played in
      let t = state_of q.played in
      let same : sets_of t ≡ sets_of s = ap (λ (c : Configuration). length c.sets) e.carries.config in
      let up = λ (x : ℕ) (from : 1 ≤ x) (to : x ≤ sets_of t). e.up x from (omega (arith, to, same, all)) in
      let paid = e.paid in
      let lighter = weight_within t up in
      let within = due_within s in (
        record {
          follows = record { carries = e.carries; rests = record { reached = e.calm.reached; finished = e.calm.finished; up = up; quiet = e.calm.quiet } };
          faults = e.faults;
        },
        omega (arith, paid, lighter, within),
      )

  pub raising_spent : (p q : World D) (m n k : ℕ) → Raising p m q n k → n ≤ m + settle_bound (state_of p.played)
  raising_spent p q m n k e = let paid = e.paid in let within = due_within (state_of p.played) in omega (arith, paid, within)
