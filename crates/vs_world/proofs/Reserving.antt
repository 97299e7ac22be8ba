-- Memory that is taken ahead, and what it is taken for.
use Rattle.std.proofs.Common.{◌≡◌, ◌≤◌, true, None, Result, Ok, Err, refl}
use Rattle.std.specs.Prelude.{◌↔◌}
use Rattle.vs_base.specs.Listed.{Listed}
use Rattle.vs_core.specs.Core as core
use Rattle.vs_core.specs.Core.{IsReservedKind}
use Rattle.vs_core.specs.Safety.{IsSafeRun, SafeRuns}
use Rattle.vs_disk.specs.declared.disk.Disk.{Ghosts}
use Rattle.vs_event.specs.declared.event.Event.{Event}
use Rattle.vs_event.specs.declared.event.Event.TheVariants.{Begin, End, Take, Abort, Close}
use Rattle.vs_event.specs.declared.reason.Reason.{Reason}
use Rattle.vs_machine.specs.Journals.{held_as, written}
use Rattle.vs_machine.specs.State.{State}
use Rattle.vs_state.specs.Guard.{verdict}
use Rattle.vs_stores.specs.declared.stores.Stores.{Stores}
use Rattle.vs_world.specs.Began.{start_of}
use Rattle.vs_world.specs.Counted.{IsNoFault}
use Rattle.vs_world.specs.Played.{Played, IsRun, began}
use Rattle.vs_world.specs.Rising.{RaisesNone}
use Rattle.vs_world.specs.Whole.{IsWhole}
use Rattle.vs_world.specs.declared.opening.Opening.{Opening}
use Rattle.vs_world.proofs.Grown.{whole_same, untouched_stores}

-- an event of one of the kinds writes nothing, and brings no set up
pub kind_written : (s : State) (e : Event) → IsReservedKind e → written s e ≡ None
kind_written s (Begin c) kind = refl
kind_written s (End c) kind = refl
kind_written s (Take c) kind = refl
kind_written s (Abort x b) kind = refl
kind_written s (Close o) kind = refl
kind_written s e kind = absurd kind

pub kind_raises : (s : State) (e : Event) → IsReservedKind e → RaisesNone s e
kind_raises s (Begin c) kind = tt
kind_raises s (End c) kind = tt
kind_raises s (Take c) kind = tt
kind_raises s (Abort x b) kind = tt
kind_raises s (Close o) kind = tt
kind_raises s e kind = absurd kind

pub kind_no_fault : (e : Event) → IsReservedKind e → IsNoFault e
kind_no_fault (Begin c) kind = tt
kind_no_fault (End c) kind = tt
kind_no_fault (Take c) kind = tt
kind_no_fault (Abort x b) kind = tt
kind_no_fault (Close o) kind = tt
kind_no_fault e kind = absurd kind

-- with more room or less it is the same world
pub whole_still : {D : Type 0} {disk : Ghosts D} (c c' : core.Shown) (events events' : Listed Event) (opening : Opening) (all : Stores D disk) → IsWhole c events opening all
    → core.means c' ≡ core.means c → events'.items ≡ events.items → (c'.is_reserved ≡ true → 1 ≤ events'.room) → IsWhole c' events' opening all
whole_still c c' events events' opening all whole same listed room =
    whole_same c c' events events' opening all all 0 whole (untouched_stores all 0) same listed (λ due hold. hold) (λ ready. ready) (λ calm. calm) room

-- a run from a coherent opening is safe
pub safe_run : SafeRuns → (p : Played) → IsRun p → IsSafeRun (start_of (began p)) p.events
safe_run law p r = law (began p).config (began p).scripts (held_as (began p).states) p.events r.opens

-- ---- refusals

pub refused_as : (r : Result State Reason) (result : Result (Unit {0}) Reason) (reason : Reason) → verdict r ≡ Err reason → result ≡ Err reason → (q : Reason) → (result ≡ Err q) ↔ (r ≡ Err q)
refused_as (Err e) result reason is answer q = ((λ h. cc (is, answer, h)), (λ h. cc (is, answer, h)))
refused_as (Ok t) result reason is answer q = absurd (cc is)

pub not_refused : (r : Result State Reason) (t : State) (done : Unit {0}) → r ≡ Ok t → (q : Reason) → (◌≡◌ {A = Result (Unit {0}) Reason} (Ok done) (Err q)) ↔ (r ≡ Err q)
not_refused r t done is q = ((λ h. absurd (cc h)), (λ h. absurd (cc (is, h))))
