-- Nothing that a call holds is collected, and every choice of pending changes leaves the state coherent.
use Rattle.std.proofs.Common.{◌≡◌, ℕ, zero, suc, ◌≤◌, arith, Bool, true, false, refl, sym, subst, ◌∙◌, Option, Some, None, Result, Ok}
use Rattle.std.specs.Prelude.{◌||◌, not, if◌then◌else◌, is_some}
use Rattle.std.proofs.lemmas.Bool.Decides.{nat_tests}
use Rattle.vs_base.specs.declared.numbers.Mode.TheVariants.{Ro, Rw}
use Rattle.vs_space.specs.declared.status.Status.TheVariants.{Receiving, Garbage}
use Rattle.vs_event.specs.declared.event.Event.TheVariants.{Post, Begin, Act, End, Take, Cut, Start, Haul, NotYet, Freeze, Chunk, Seal, Last, Abort, EndMove, Deliver, Hear, Close, Ask, Condemn, Wipe, Forget, Pin, Plan, Stop, Fault, Restart}
use Rattle.vs_event.specs.declared.event.RestartBy.TheVariants.{Service}
use Rattle.vs_event.specs.declared.reason.Reason.{Reason}
use Rattle.vs_event.specs.declared.reason.Reason.TheVariants as reason
use Rattle.vs_record.specs.Change.{Change}
use Rattle.vs_machine.specs.Check.{◌>>◌, needs}
use Rattle.vs_machine.specs.State.{State, sets_of, has_set}
use Rattle.vs_machine.specs.Step.{step}
use Rattle.vs_machine.specs.Coherence.{IsServing}
use Rattle.vs_machine.specs.Kinds.Stops.{restarted, is_finished}
use Rattle.vs_machine.specs.Laws.{IsUnreferenced, UnheldRuns, chosen_at, chosen, ChoiceRuns}
use Rattle.vs_machine.specs.Runs.{IsReached}
use Rattle.vs_machine.specs.Whole.{Inner}
use Rattle.vs_machine.specs.Inner.Calls.{ReadFits}
use Rattle.vs_machine.proofs.Can.Others.{can_condemn, can_wipe, can_forget}
use Rattle.vs_machine.proofs.Reached.{reached_whole, reaches_on, coherent_runs, unreferenced_where}

-- ---- collecting

garbage_free : (own : ℕ → ℕ) (s : State) (x b : ℕ) → Inner own s → (s.bucket b).entry x ≡ Some Garbage → IsUnreferenced s x b
garbage_free own s x b i at = (
  unreferenced_where own s Ro x b i (λ posted h. let old = s.bucket b in subst (λ e. ReadFits e (old.rows x) old.history (old.kept x) posted) at h),
  unreferenced_where own s Rw x b i (λ posted h. subst IsServing at h),
)

receiving_free : (own : ℕ → ℕ) (s : State) (x b z : ℕ) → Inner own s → (s.bucket b).entry x ≡ Some (Receiving z) → IsUnreferenced s x b
receiving_free own s x b z i at = (
  unreferenced_where own s Ro x b i (λ posted h. let old = s.bucket b in subst (λ e. ReadFits e (old.rows x) old.history (old.kept x) posted) at h),
  unreferenced_where own s Rw x b i (λ posted h. subst IsServing at h),
)

moved : (s : State) (x b y q : ℕ) → y ≡ x → q ≡ b → IsUnreferenced s x b → IsUnreferenced s y q
moved s x b y q to of h = subst (λ z. IsUnreferenced s z q) (sym to) (subst (IsUnreferenced s x) (sym of) h)

-- a bucket that is received and then thrown away
given_up : (s t : State) (y q : ℕ) → IsReached s → (z : ℕ) × ((s.bucket q).entry y ≡ Some (Receiving z)) × ((t.bucket q).entry y ≡ Some Garbage) → IsUnreferenced s y q
given_up s t y q r k = let w = reached_whole s r in receiving_free w.0 s y q k.0 w.1.inner k.1

pub unheld_runs : UnheldRuns
unheld_runs s t (Condemn x b) r h y q k =
    let w = reached_whole s r in
    let p = can_condemn s t x b h in
    moved s x b y q k.0 k.1 (p.unheld, unreferenced_where w.0 s Rw x b w.1.inner (λ posted g. subst IsServing p.sent g))
unheld_runs s t (Wipe x b) r h y q k = let w = reached_whole s r in moved s x b y q k.0 k.1 (garbage_free w.0 s x b w.1.inner (can_wipe s t x b h).garbage)
unheld_runs s t (Forget x b) r h y q k = let w = reached_whole s r in moved s x b y q k.0 k.1 (garbage_free w.0 s x b w.1.inner (can_forget s t x b h).garbage)
unheld_runs s t (Post x b) r h y q k = given_up s t y q r k
unheld_runs s t (Begin x) r h y q k = given_up s t y q r k
unheld_runs s t (Act x) r h y q k = given_up s t y q r k
unheld_runs s t (End x) r h y q k = given_up s t y q r k
unheld_runs s t (Take x) r h y q k = given_up s t y q r k
unheld_runs s t (Cut x) r h y q k = given_up s t y q r k
unheld_runs s t (Start x) r h y q k = given_up s t y q r k
unheld_runs s t (Haul o x b) r h y q k = given_up s t y q r k
unheld_runs s t (NotYet x b) r h y q k = given_up s t y q r k
unheld_runs s t (Freeze x b) r h y q k = given_up s t y q r k
unheld_runs s t (Chunk x b) r h y q k = given_up s t y q r k
unheld_runs s t (Seal x b) r h y q k = given_up s t y q r k
unheld_runs s t (Last x b) r h y q k = given_up s t y q r k
unheld_runs s t (Abort x b) r h y q k = given_up s t y q r k
unheld_runs s t (EndMove x b) r h y q k = given_up s t y q r k
unheld_runs s t (Deliver x b) r h y q k = given_up s t y q r k
unheld_runs s t (Hear x b) r h y q k = given_up s t y q r k
unheld_runs s t (Close x) r h y q k = given_up s t y q r k
unheld_runs s t (Ask x b) r h y q k = given_up s t y q r k
unheld_runs s t (Pin x) r h y q k = given_up s t y q r k
unheld_runs s t (Plan x) r h y q k = given_up s t y q r k
unheld_runs s t (Stop x) r h y q k = given_up s t y q r k
unheld_runs s t (Fault x n v) r h y q k = given_up s t y q r k
unheld_runs s t (Restart x kept by) r h y q k = given_up s t y q r k

-- ---- choices

-- a restart by the service, where this is known of the set
abbrev tried : State → ℕ → Bool → Bool → Bool → Option Change → Result State Reason
tried s x keep known up pending = do
  needs known reason.Unknown
  needs (not up) (reason.Up x)
  needs (is_some pending || is_finished s) reason.NotFinished
  needs (not keep || is_some (if up then None else pending)) reason.NoPending
  Ok (restarted s x keep pending)

-- a set that is down with a pending change may be up again, with it or without it
pub may_restart : (s : State) (x : ℕ) (keep : Bool) (change : Change) → IsReached s → has_set s x ≡ true → s.pending x ≡ Some change → step s (Restart x keep Service) ≡ Ok (restarted s x keep (Some change))
may_restart s x keep change r there is =
    let down = ((reached_whole s r).1.pending x change is).0 in
    by (has_set s x) (s.up x) (s.pending x) keep there down is
  where
    passes : (s : State) (x : ℕ) (keep : Bool) (change : Change) (known up : Bool) → known ≡ true → up ≡ false
        → tried s x keep known up (Some change) ≡ Ok (restarted s x keep (Some change))
    passes s x true change true false e g = refl
    passes s x false change true false e g = refl
    passes s x keep change false up e g = absurd cc
    passes s x keep change true true e g = absurd cc

    by : (known up : Bool) (pending : Option Change) (keep : Bool) → known ≡ true → up ≡ false → pending ≡ Some change
        → tried s x keep known up pending ≡ Ok (restarted s x keep (Some change))
    by known up pending keep e g h =
        subst (λ o. tried s x keep known up o ≡ Ok (restarted s x keep (Some change))) (sym h)
        (passes s x keep change known up e g)

-- the sets are those before
sets_same : (s : State) (x : ℕ) (keep : Bool) (pending : Option Change) → sets_of (chosen_at s x keep pending) ≡ sets_of s
sets_same s x keep None = refl
sets_same s x true (Some change) = refl
sets_same s x false (Some change) = refl

pub chosen_reached : (s : State) (keep : ℕ → Bool) (n : ℕ) → IsReached s → n ≤ sets_of s → IsReached (chosen s keep n) × (sets_of (chosen s keep n) ≡ sets_of s)
chosen_reached s keep zero r le = (r, refl)
chosen_reached s keep (suc n) r le =
    let before = chosen_reached s keep n r (omega arith) in
    let u = chosen s keep n in
    (by u (suc n) before.0 (grind (arith, nat_tests, le, before.1)) (u.pending (suc n)) refl, sets_same u (suc n) (keep (suc n)) (u.pending (suc n)) ∙ before.1)
  where
    by : (u : State) (x : ℕ) → IsReached u → has_set u x ≡ true → (pending : Option Change) → u.pending x ≡ pending → IsReached (chosen_at u x (keep x) pending)
    by u x q there None is = q
    by u x q there (Some change) is = reaches_on u (restarted u x (keep x) (Some change)) (Restart x (keep x) Service) q (may_restart u x (keep x) change q there is)

pub choice_runs : ChoiceRuns
choice_runs s r keep = coherent_runs (chosen s keep (sets_of s)) (chosen_reached s keep (sets_of s) r (omega arith)).0
