-- Where the service goes on, and how it ends.
use Rattle.std.proofs.Common.{inl, inr, ◌≡◌, ℕ, ◌+◌, ◌-◌, ◌≤◌, ◌<◌, ◌^◌, true, false, Bool, List, [], ◌∷◌, ◌++◌, length, Result, Ok, Err, OnOk, refl, sym, ap, subst, ◌∙◌, arith}
use Rattle.std.specs.Prelude.{IfErr, OnErr}
use Rattle.std.proofs.lemmas.List.{append-nil, length-append}
use Rattle.vs_config.specs.Configuration.{Configuration}
use Rattle.vs_disk.specs.Told.{Told, Failed}
use Rattle.vs_event.specs.declared.event.Event.{Event}
use Rattle.vs_event.specs.declared.event.Event.TheVariants.{Fault, Restart}
use Rattle.vs_event.specs.declared.event.RestartBy.{RestartBy}
use Rattle.vs_event.specs.declared.event.RestartBy.TheVariants.{Line, Service}
use Rattle.vs_machine.specs.Actors.{IsPossible}
use Rattle.vs_machine.specs.Kinds.Stops.{is_finished}
use Rattle.vs_machine.specs.State.{State, has_set}
use Rattle.vs_machine.specs.Step as machine
use Rattle.vs_machine.specs.Tables.{is_to}
use Rattle.vs_machine.proofs.Can.Stops.{can_fault, can_restart, can_restart_line}
use Rattle.vs_machine.proofs.Frame.{put_here}
use Rattle.vs_world.specs.Began.{begun}
use Rattle.vs_world.specs.declared.opening.Opening.{Opening}
use Rattle.vs_world.specs.Counted.{IsCounted}
use Rattle.vs_world.specs.Played.{IsSame, began, state_of}
use Rattle.vs_world.specs.Restarts.{IsRestartCause}
use Rattle.vs_world.specs.Steps.{HasGoneDown, StaysDown, IsStepCause, IsTooLong}
use Rattle.vs_world.specs.declared.fault.StepFault.{StepFault}
use Rattle.vs_world.specs.declared.fault.StepFault.TheVariants as step
use Rattle.vs_world.specs.World.{World, OfDisk, OfDisks}
use Rattle.vs_settle.specs.Causes.{IsCause, IsGoingDown}
use Rattle.vs_settle.specs.Service.{IsService, IsResting, Carries, AddsServices}
use Rattle.vs_settle.specs.Stopped.{KeepsFaults, Goes, EndsBy, IsStopped, AddsAndFails, HasFailed, IsFull, IsSettleCause}
use Rattle.vs_settle.specs.declared.fault.SettleFault.{SettleFault}
use Rattle.vs_settle.specs.declared.fault.SettleFault.TheVariants.{DiskFault, Full, NoMemory}
use Rattle.vs_settle.proofs.Following.{carries_none, carries_then, carries_ticks, follows_none, follows_then}
use Rattle.vs_settle.proofs.Keeping.{faults_none, faults_then, there}
use Rattle.vs_settle.proofs.Possible.{next_of}

-- a loop goes on: what it has, and the disks
pub record Along {D : Type 0} (told : D → Told) (old new : World D) (P : Type 0) : Type 0 where
  pub held : P
  pub faults : KeepsFaults told old new

module _ {D : Type 0} (told : D → Told) where
  pub goes_none : (w : World D) (m : ℕ) → IsResting (state_of w.played) → Goes told w m w m
  goes_none w m r = record { follows = follows_none w.played m r; faults = faults_none told w }

  pub goes_then : (p q r : World D) (m n k : ℕ) → Goes told p m q n → Goes told q n r k → Goes told p m r k
  goes_then p q r m n k f g = record {
    follows = follows_then p.played q.played r.played m n k f.follows g.follows;
    faults = faults_then told p q r f.follows.carries.config f.faults g.faults;
  }

  pub stops_at : (p q : World D) (m n : ℕ) (e : Event) (fault : SettleFault) → IsService e → IsPossible (state_of p.played) e → EndsBy told p m q n e fault → KeepsFaults told p q → IsStopped told p m q n fault
  stops_at p q m n e fault is possible ends faults = record {
    middle = p;
    count = m;
    carries = carries_none p.played m;
    before = faults_none told p;
    event = e;
    service = is;
    possible = possible;
    ends = ends;
    last = faults;
  }

  -- the same by the fault of the event, which could happen
  pub ends_by : (p q : World D) (m n : ℕ) (e : Event) (f : StepFault) (fault : SettleFault) → IsStepCause told p q e f → IsCause f fault → (IsGoingDown f → n ≡ m + 1) → ((IsGoingDown f → ⊥) → n ≡ m) → EndsBy told p m q n e fault
  ends_by p q m n e (step.WentDown x) fault cause is down other = subst (EndsBy told p m q n e) (sym is) (inl (cause, down tt))
  ends_by p q m n e (step.OpenFault x) fault cause is down other = subst (EndsBy told p m q n e) (sym is) (inr (cause.0, cause.1, other (λ h. h)))
  ends_by p q m n e (step.Full x) fault cause is down other = subst (EndsBy told p m q n e) (sym is) (cause.0, cause.1, other (λ h. h))
  ends_by p q m n e step.NoMemory fault cause is down other = subst (EndsBy told p m q n e) (sym is) (cause, other (λ h. h))
  ends_by p q m n e (step.NotNow reason) fault cause is down other = absurd is

  -- and of a start
  pub ends_start : (p q : World D) (m : ℕ) (x : ℕ) (f : StepFault) (fault : SettleFault) → IsRestartCause told p q x Service f → IsCause f fault → EndsBy told p m q m (Restart x false Service) fault
  ends_start p q m x (step.WentDown y) fault cause is = absurd cause
  ends_start p q m x (step.OpenFault y) fault cause is = subst (EndsBy told p m q m (Restart x false Service)) (sym is) (subst (λ (z : ℕ). EndsBy told p m q m (Restart x false Service) (DiskFault z)) (sym cause.0) (inr (cause.1, cause.2, refl)))
  ends_start p q m x (step.Full y) fault cause is = absurd cause
  ends_start p q m x step.NoMemory fault cause is = subst (EndsBy told p m q m (Restart x false Service)) (sym is) (cause, refl)
  ends_start p q m x (step.NotNow reason) fault cause is = absurd is

  pub stops_then : (p q r : World D) (m n k : ℕ) (fault : SettleFault) → Carries p.played m q.played n → KeepsFaults told p q → IsStopped told q n r k fault → IsStopped told p m r k fault
  stops_then p q r m n k fault f faults g = record {
    middle = g.middle;
    count = g.count;
    carries = carries_then p.played q.played g.middle.played m n g.count f g.carries;
    before = faults_then told p q g.middle f.config faults g.before;
    event = g.event;
    service = g.service;
    possible = g.possible;
    ends = g.ends;
    last = g.last;
  }

  pub goes_stops : (p q r : World D) (m n k : ℕ) (fault : SettleFault) → Goes told p m q n → IsStopped told q n r k fault → IsStopped told p m r k fault
  goes_stops p q r m n k fault f g = stops_then p q r m n k fault f.follows.carries f.faults g

  -- ---- of a call that ends another

  pub goes_on : {A : Type 0} (a : Result A SettleFault) (p q r : World D) (m n k : ℕ) → Goes told p m q n → OnOk a (Goes told q n r k) → OnOk a (Goes told p m r k)
  goes_on (Ok x) p q r m n k f g = goes_then p q r m n k f g
  goes_on (Err e) p q r m n k f g = tt

  pub stops_on : {A : Type 0} (a : Result A SettleFault) (p q r : World D) (m n k : ℕ) → Goes told p m q n → IfErr a (IsStopped told q n r k) → IfErr a (IsStopped told p m r k)
  stops_on (Ok x) p q r m n k f g = tt
  stops_on (Err e) p q r m n k f g = goes_stops p q r m n k e f g

  -- ---- the end, whatever it was

  pub record IsEnded (old : World D) (m : ℕ) (new : World D) (n : ℕ) : Type 0 where
    pub ticks : length new.played.events ≡ length old.played.events + (n - m)
    pub counted : m ≤ n
    pub opening : new.played.opening ≡ old.played.opening
    pub faults : KeepsFaults told old new

  same_ended : (p q r : World D) (m n k : ℕ) → Carries p.played m q.played n → KeepsFaults told p r → IsSame q.played r.played → k ≡ n → IsEnded p m r k
  same_ended p q r m n k f faults same is =
      let longer = carries_ticks p.played q.played m n f in
      let events : length r.played.events ≡ length q.played.events = ap length same.events in
      record {
        ticks = omega (arith, longer, events, f.ticks, is);
        counted = omega (arith, f.ticks, is);
        opening = same.opening ∙ f.opening;
        faults = faults;
      }

  goes_ended : (p q : World D) (m n : ℕ) → Goes told p m q n → IsEnded p m q n
  goes_ended p q m n g =
      let f = g.follows.carries in
      let longer = carries_ticks p.played q.played m n f in
      record { ticks = omega (arith, longer, f.ticks); counted = omega (arith, f.ticks); opening = f.opening; faults = g.faults }

  down_ended : (p q r : World D) (m n k x : ℕ) (e : Event) → Carries p.played m q.played n → KeepsFaults told p r → HasGoneDown told q r e x → k ≡ n + 1 → IsEnded p m r k
  down_ended p q r m n k x e f faults gone is =
      let longer = carries_ticks p.played q.played m n f in
      let fault = Fault x gone.number gone.recorded in
      let events : length r.played.events ≡ length q.played.events + 1 = ap length gone.advanced.events ∙ length-append q.played.events (fault ∷ []) in
      record {
        ticks = omega (arith, longer, events, f.ticks, is);
        counted = omega (arith, f.ticks, is);
        opening = gone.advanced.opening ∙ f.opening;
        faults = faults;
      }

  stopped_ended : (p r : World D) (m k : ℕ) (fault : SettleFault) → IsStopped told p m r k fault → IsEnded p m r k
  stopped_ended p r m k fault s = by fault s.ends
    where
      faults : KeepsFaults told p r
      faults = faults_then told p s.middle r s.carries.config s.before s.last

      by : (f : SettleFault) → EndsBy told s.middle s.count r k s.event f → IsEnded p m r k
      by NoMemory ends = same_ended p s.middle r m s.count k s.carries faults ends.0 ends.1
      by (Full x) ends = same_ended p s.middle r m s.count k s.carries faults ends.1 ends.2
      by (DiskFault x) (inl ends) = down_ended p s.middle r m s.count k x s.event s.carries faults ends.0 ends.1
      by (DiskFault x) (inr ends) = same_ended p s.middle r m s.count k s.carries faults ends.1 ends.2

  pub ended : {A : Type 0} (a : Result A SettleFault) (p q : World D) (m n : ℕ) → OnOk a (Goes told p m q n) → IfErr a (IsStopped told p m q n) → IsEnded p m q n
  ended (Ok x) p q m n g s = goes_ended p q m n g
  ended (Err e) p q m n g s = stopped_ended p q m n e s

  -- ---- the events that were added

  same_adds : (p q r : World D) (m n : ℕ) → Carries p.played m q.played n → IsSame q.played r.played → AddsAndFails p.played.events r.played.events
  same_adds p q r m n f same = record {
    added = f.serves.added;
    last = [];
    events = same.events ∙ f.serves.events ∙ sym (append-nil (p.played.events ++ f.serves.added));
    services = f.serves.services;
    fails = inl refl;
  }

  down_adds : (p q r : World D) (m n x : ℕ) (e : Event) → Carries p.played m q.played n → HasGoneDown told q r e x → AddsAndFails p.played.events r.played.events
  down_adds p q r m n x e f gone =
      let last : List Event = Fault x gone.number gone.recorded ∷ [] in
      record {
        added = f.serves.added;
        last = last;
        events = gone.advanced.events ∙ ap (λ (es : List Event). es ++ last) f.serves.events;
        services = f.serves.services;
        fails = inr (x, gone.number, gone.recorded, refl);
      }

  stopped_adds : (p r : World D) (m k : ℕ) (fault : SettleFault) → IsStopped told p m r k fault → AddsAndFails p.played.events r.played.events
  stopped_adds p r m k fault s = by fault s.ends
    where
      by : (f : SettleFault) → EndsBy told s.middle s.count r k s.event f → AddsAndFails p.played.events r.played.events
      by NoMemory ends = same_adds p s.middle r m s.count s.carries ends.0
      by (Full x) ends = same_adds p s.middle r m s.count s.carries ends.1
      by (DiskFault x) (inl ends) = down_adds p s.middle r m s.count x s.event s.carries ends.0
      by (DiskFault x) (inr ends) = same_adds p s.middle r m s.count s.carries ends.1

  pub still_finished : {A : Type 0} (a : Result A SettleFault) (p q : World D) (m n : ℕ) → OnOk a (Goes told p m q n) → OnOk a (is_finished (state_of q.played) ≡ true)
  still_finished (Ok x) p q m n g = g.follows.rests.finished
  still_finished (Err e) p q m n g = tt

  pub adds_services : {A : Type 0} (a : Result A SettleFault) (p q : World D) (m n : ℕ) → OnOk a (Goes told p m q n) → OnOk a (AddsServices p.played.events q.played.events)
  adds_services (Ok x) p q m n g = g.follows.carries.serves
  adds_services (Err e) p q m n g = tt

  pub adds_and_fails : {A : Type 0} (a : Result A SettleFault) (p q : World D) (m n : ℕ) → IfErr a (IsStopped told p m q n) → OnErr a (AddsAndFails p.played.events q.played.events)
  adds_and_fails (Ok x) p q m n s = tt
  adds_and_fails (Err e) p q m n s = stopped_adds p q m n e s

  -- ---- the cause

  fails_since : (p q r : World D) (x : ℕ) → KeepsFaults told p q → OfDisks q r x (λ was is. Failed (told was) (told is)) → OfDisks p r x (λ was is. Failed (told was) (told is))
  fails_since p q r x f failed was is a b =
      let mid = there p.disks q.disks x was f.disks a in
      omega (arith, (f.keeps x was mid.0 a mid.1).faults, failed mid.0 is mid.1 b)

  down_now : (q r : World D) (x : ℕ) (e : Event) → HasGoneDown told q r e x → (state_of r.played).up x ≡ false
  down_now q r x e gone =
      let can = can_fault (state_of q.played) (state_of r.played) x gone.number gone.recorded gone.advanced.step in
      subst (λ (s : State). s.up x ≡ false) can.gives (put_here (state_of q.played).up x false)

  set_still : (q r : World D) (x : ℕ) (e : Event) → HasGoneDown told q r e x → has_set (state_of r.played) x ≡ true
  set_still q r x e gone =
      let can = can_fault (state_of q.played) (state_of r.played) x gone.number gone.recorded gone.advanced.step in
      subst (λ (s : State). has_set s x ≡ true) can.gives can.set

  down_cause : (p q r : World D) (m n x : ℕ) (e : Event) → Carries p.played m q.played n → KeepsFaults told p q → HasGoneDown told q r e x → HasFailed told p r x
  down_cause p q r m n x e f faults gone = record {
    set = set_still q r x e gone;
    failed = fails_since p q r x faults gone.failed;
    down = down_now q r x e gone;
    fault = λ counted. inl (q.played.events, gone.number, gone.recorded, gone.advanced.events);
  }

  restart_of : (s : State) (x : ℕ) (kept : Bool) (by : RestartBy) → IsPossible s (Restart x kept by) → has_set s x ≡ true
  restart_of s x kept (Line o) possible = let t = next_of (machine.step s (Restart x kept (Line o))) possible in (can_restart_line s t.0 x o kept t.1).set
  restart_of s x kept Service possible = let t = next_of (machine.step s (Restart x kept Service)) possible in (can_restart s t.0 x kept t.1).set

  stays_cause : (p q r : World D) (m n x : ℕ) (e : Event) → Carries p.played m q.played n → KeepsFaults told p q → IsPossible (state_of q.played) e → length r.disks ≡ length q.disks → StaysDown told q r e x → IsSame q.played r.played → HasFailed told p r x
  stays_cause p q r m n x e f faults possible count stays same = record {
    set = subst (λ (s : State). has_set s x ≡ true) (sym same.state) known;
    failed = fails_since p q r x faults stays.failed;
    down = ap (λ (s : State). s.up x) same.state ∙ stays.down;
    fault = λ counted. inr (λ is at few. risen counted is at few);
  }
    where
      known : has_set (state_of q.played) x ≡ true
      known = restart_of (state_of q.played) x stays.kept stays.by (subst (IsPossible (state_of q.played)) stays.is possible)

      risen : IsCounted told p x → OfDisk r x (λ it. (told it).faults < 2 ^ 63 → (state_of r.played).last_fault x + (began r.played).faults x < (told it).faults)
      risen counted is at few =
          let was = there r.disks q.disks x is (sym count) at in
          let failed = stays.failed was.0 is was.1 at in
          let before = faults.counted x (subst (λ (c : Configuration). is_to (length c.sets) x ≡ true) f.config known) counted was.0 was.1 (omega (arith, failed, few)) in
          let last : (state_of r.played).last_fault x ≡ (state_of q.played).last_fault x = ap (λ (s : State). s.last_fault x) same.state in
          let began_is : (began r.played).faults x ≡ (began q.played).faults x = ap (λ (o : Opening). (begun o).faults x) same.opening in
          omega (arith, failed, few, before, last, began_is)

  long_now : (q r : World D) (x : ℕ) (e : Event) → IsPossible (state_of q.played) e → IsTooLong r e x → IsSame q.played r.played → IsFull r x
  long_now q r x e possible long same = record { event = e; possible = subst (λ (s : State). IsPossible s e) (sym same.state) possible; long = long }

  stopped_cause : (p r : World D) (m k : ℕ) (fault : SettleFault) → IsStopped told p m r k fault → IsSettleCause told p r fault
  stopped_cause p r m k fault s = by fault s.ends
    where
      by : (f : SettleFault) → EndsBy told s.middle s.count r k s.event f → IsSettleCause told p r f
      by NoMemory ends = tt
      by (Full x) ends = long_now s.middle r x s.event s.possible ends.0 ends.1
      by (DiskFault x) (inl ends) = down_cause p s.middle r m s.count x s.event s.carries s.before ends.0
      by (DiskFault x) (inr ends) = stays_cause p s.middle r m s.count x s.event s.carries s.before s.possible s.last.disks ends.0 ends.1

  pub causes : {A : Type 0} (a : Result A SettleFault) (p q : World D) (m n : ℕ) → IfErr a (IsStopped told p m q n) → IfErr a (IsSettleCause told p q)
  causes (Ok x) p q m n s = tt
  causes (Err e) p q m n s = stopped_cause p q m n e s
