use Rattle.std.proofs.Common.{◌≡◌, Ok, Option, Some, None, sym, subst}
use Rattle.vs_event.specs.declared.event.Event.{Event}
use Rattle.vs_machine.specs.Step.{step}
use Rattle.vs_state.specs.Guard.{verdict}
use Rattle.vs_state.specs.Plain.{plain}
use Rattle.vs_core.specs.Core.{HasRoom}
use Rattle.vs_core.specs.Ready.{IsFaultReadyFor, IsReadyFor}
use Rattle.vs_core.specs.Standing.{IsReady, IsReadyNow, shown}
use Rattle.vs_core.specs.declared.cores.Ready.{Ready}
use Rattle.vs_core.specs.declared.cores.Ready.TheVariants.{Single, AnyReserved}
use Rattle.vs_core.proofs.Roomy.{any_reserved, fault_ready, itself_ready}
use Rattle.vs_core.proofs.cores.prepared_for.Goals as goal

pub returns-in-Some-AnyReserved : goal.returns-in-Some-AnyReserved
returns-in-Some-AnyReserved c =
    let s = c.args.state.now in
    let is : c.args.ready ≡ Some AnyReserved = cc (c.in-Some-AnyReserved.is, c.in-Some-AnyReserved.field-0-is) in
    any_reserved s c.requires.known (subst (IsReady s) is c.requires.ready) c.args.event (subst (λ (r : Option Ready). HasRoom (shown s r) c.args.event) is c.requires.room)

pub returns-in-Some : goal.returns-in-Some
returns-in-Some c =
    let s = c.args.state.now in
    let e = c.in-Some-Single.field-0-0 in
    let p = c.in-Some-Single.prepared in
    let f = c.in-Some.fault in
    let is : c.args.ready ≡ Some (Single e p (Some f)) = cc (c.in-Some-Single.is, c.in-Some-Single.field-0-is, c.in-Some.is) in
    let now : IsReadyNow s e p (Some f) = subst (IsReady s) is c.requires.ready in
    let room = subst (λ (v : Event). HasRoom (shown s (Some (Single e p (Some f)))) v) c.in-Fault.is (subst (λ (r : Option Ready). HasRoom (shown s r) c.args.event) is c.requires.room) in
    let possible = subst (λ (v : Event). verdict (step (plain s) v) ≡ Ok tt) c.in-Fault.is c.requires.possible in
    subst (λ (v : Event). IsFaultReadyFor s v f) (sym c.in-Fault.is) (fault_ready s c.in-Fault.field-0 c.in-Fault.field-1 c.in-Fault.field-2 possible e p f now room)

pub returns-in-None-fault : goal.returns-in-None-fault
returns-in-None-fault c =
    let s = c.args.state.now in
    let e = c.in-Some-Single.field-0-0 in
    let p = c.in-Some-Single.prepared in
    let is : c.args.ready ≡ Some (Single e p None) = cc (c.in-Some-Single.is, c.in-Some-Single.field-0-is, c.in-None-fault.is) in
    let now : IsReadyNow s e p None = subst (IsReady s) is c.requires.ready in
    let room = subst (λ (v : Event). HasRoom (shown s (Some (Single e p None))) v) c.in-Fault.is (subst (λ (r : Option Ready). HasRoom (shown s r) c.args.event) is c.requires.room) in
    let possible = subst (λ (v : Event). verdict (step (plain s) v) ≡ Ok tt) c.in-Fault.is c.requires.possible in
    subst (λ (v : Event). IsReadyFor s v p) (sym c.in-Fault.is) (itself_ready s c.in-Fault.field-0 c.in-Fault.field-1 c.in-Fault.field-2 possible e p now room)
