use Rattle.std.proofs.Common.{◌≡◌, Bool, true, false, Some, None, Err, refl, sym, ap, subst, ◌∙◌}
use Rattle.std.specs.Option.{option_copied, option_map}
use Rattle.vs_core.specs.Core.{means}
use Rattle.vs_record.specs.Change.{change}
use Rattle.vs_state.specs.Plain as tables
use Rattle.vs_world.specs.Touched.{IsFit}
use Rattle.vs_world.specs.Whole.{due_of}
use Rattle.vs_world.proofs.Touched.{awaits, fit_by, fit_none, past_limit, still_by, touched_by}
use Rattle.vs_world.proofs.restarts.make_fit.Goals as goal

-- ---- nothing is pending

pub returns-in-Ok-clause-touched : goal.returns-in-Ok-clause-touched
returns-in-Ok-clause-touched g c =
    let s = means c.args.core.now in
    let is : s.pending c.args.set ≡ None = ap (λ t. (tables.plain t).pending c.args.set) (sym c.state.ensures.value) ∙ sym c.pending.ensures ∙ ap (λ r. option_map change (option_copied r)) c.in-None.is in
    touched_by s c.args.stores.now c.reopen.new.self c.args.set c.requires.still.hold None is c.reopen.ensures.others (c.reopen.ensures.any_moment None)

pub returns-in-Ok-clause-fit : goal.returns-in-Ok-clause-fit
returns-in-Ok-clause-fit g c =
    let s = means c.args.core.now in
    let is : s.pending c.args.set ≡ None = ap (λ t. (tables.plain t).pending c.args.set) (sym c.state.ensures.value) ∙ sym c.pending.ensures ∙ ap (λ r. option_map change (option_copied r)) c.in-None.is in
    let found = c.in-Ok.field-0 in
    let none : found ≡ false = c.in-Ok.ensures.none (c.requires.still.calm is) in
    fit_none s c.reopen.new.self c.args.set found c.args.kept is
    (fit_by s c.args.stores.now c.reopen.new.self c.args.set c.requires.still.hold None is found (c.in-Ok.ensures.decided None) c.in-Ok.ensures.ready (c.in-Ok.ensures.calm none))

pub returns-in-Err-clause-touched : goal.returns-in-Err-clause-touched
returns-in-Err-clause-touched g c =
    let s = means c.args.core.now in
    let is : s.pending c.args.set ≡ None = ap (λ t. (tables.plain t).pending c.args.set) (sym c.state.ensures.value) ∙ sym c.pending.ensures ∙ ap (λ r. option_map change (option_copied r)) c.in-None.is in
    touched_by s c.args.stores.now c.reopen.new.self c.args.set c.requires.still.hold None is c.reopen.ensures.others (c.reopen.ensures.any_moment None)

pub returns-in-Err-clause-still : goal.returns-in-Err-clause-still
returns-in-Err-clause-still g c = record {
  hold = c.reopen.ensures.still (due_of (means c.args.core.now)) c.requires.still.hold;
  calm = λ none. c.reopen.ensures.still_calm (c.requires.still.calm none);
}

-- ---- the change is to be there

pub keep_pending-requires-clause-counts : goal.keep_pending-requires-clause-counts
keep_pending-requires-clause-counts g c =
    let s = means c.args.core.now in
    let p = change c.in-Some.change.now in
    let is : s.pending c.args.set ≡ Some p = ap (λ t. (tables.plain t).pending c.args.set) (sym c.state.ensures.value) ∙ sym c.pending.ensures ∙ ap (λ r. option_map change (option_copied r)) c.in-Some.is in
    (c.recorded_changes.ensures.pending s c.state.ensures.reached c.args.set p is).may.counts

pub keep_pending-requires-clause-awaits : goal.keep_pending-requires-clause-awaits
keep_pending-requires-clause-awaits g c =
    let s = means c.args.core.now in
    let p = change c.in-Some.change.now in
    let is : s.pending c.args.set ≡ Some p = ap (λ t. (tables.plain t).pending c.args.set) (sym c.state.ensures.value) ∙ sym c.pending.ensures ∙ ap (λ r. option_map change (option_copied r)) c.in-Some.is in
    awaits s c.args.stores.now c.args.stores.now c.args.set c.requires.still.hold p is (c.recorded_changes.ensures.pending s c.state.ensures.reached c.args.set p is).may

pub returns-in-Ok-keep_pending-clause-touched : goal.returns-in-Ok-keep_pending-clause-touched
returns-in-Ok-keep_pending-clause-touched g c =
    let s = means c.args.core.now in
    let p = change c.in-Some.change.now in
    let is : s.pending c.args.set ≡ Some p = ap (λ t. (tables.plain t).pending c.args.set) (sym c.state.ensures.value) ∙ sym c.pending.ensures ∙ ap (λ r. option_map change (option_copied r)) c.in-Some.is in
    touched_by s c.args.stores.now c.keep_pending.new.self c.args.set c.requires.still.hold (Some p) is c.keep_pending.ensures.others c.keep_pending.ensures.any_moment

pub returns-in-Ok-keep_pending-clause-fit : goal.returns-in-Ok-keep_pending-clause-fit
returns-in-Ok-keep_pending-clause-fit g c =
    let s = means c.args.core.now in
    let p = change c.in-Some.change.now in
    let is : s.pending c.args.set ≡ Some p = ap (λ t. (tables.plain t).pending c.args.set) (sym c.state.ensures.value) ∙ sym c.pending.ensures ∙ ap (λ r. option_map change (option_copied r)) c.in-Some.is in
    let ok = c.in-Ok-keep_pending.ensures in
    subst (λ (kept : Bool). IsFit s c.keep_pending.new.self c.args.set kept) (sym c.if-kept.true)
    (fit_by s c.args.stores.now c.keep_pending.new.self c.args.set c.requires.still.hold (Some p) is true ok.kept ok.ready ok.calm)

pub returns-in-Err-Full-clause-touched : goal.returns-in-Err-Full-clause-touched
returns-in-Err-Full-clause-touched g c =
    let s = means c.args.core.now in
    let p = change c.in-Some.change.now in
    let is : s.pending c.args.set ≡ Some p = ap (λ t. (tables.plain t).pending c.args.set) (sym c.state.ensures.value) ∙ sym c.pending.ensures ∙ ap (λ r. option_map change (option_copied r)) c.in-Some.is in
    touched_by s c.args.stores.now c.keep_pending.new.self c.args.set c.requires.still.hold (Some p) is c.keep_pending.ensures.others c.keep_pending.ensures.any_moment

pub returns-in-Err-Full-clause-still : goal.returns-in-Err-Full-clause-still
returns-in-Err-Full-clause-still g c =
    let s = means c.args.core.now in
    let p = change c.in-Some.change.now in
    let is : s.pending c.args.set ≡ Some p = ap (λ t. (tables.plain t).pending c.args.set) (sym c.state.ensures.value) ∙ sym c.pending.ensures ∙ ap (λ r. option_map change (option_copied r)) c.in-Some.is in
    still_by s c.args.stores.now c.keep_pending.new.self c.args.set c.requires.still.hold p is c.in-Err-Full.ensures.still

pub returns-in-Err-Full-clause-cause : goal.returns-in-Err-Full-clause-cause
returns-in-Err-Full-clause-cause g c =
    let s = means c.args.core.now in
    let p = change c.in-Some.change.now in
    let is : s.pending c.args.set ≡ Some p = ap (λ t. (tables.plain t).pending c.args.set) (sym c.state.ensures.value) ∙ sym c.pending.ensures ∙ ap (λ r. option_map change (option_copied r)) c.in-Some.is in
    let len = c.in-Err-Full.field-0-0 in
    let full = c.in-Err-Full.ensures.full len (ap Err c.in-Err-Full.field-0-is) in
    let ready = c.in-Err-Full.ensures.ready_full len (ap Err c.in-Err-Full.field-0-is) in
    (refl, c.if-kept.true, past_limit s c.args.stores.now c.keep_pending.new.self c.args.set c.requires.still.hold p is len full ready)

pub returns-in-Err-DiskFault-clause-touched : goal.returns-in-Err-DiskFault-clause-touched
returns-in-Err-DiskFault-clause-touched g c =
    let s = means c.args.core.now in
    let p = change c.in-Some.change.now in
    let is : s.pending c.args.set ≡ Some p = ap (λ t. (tables.plain t).pending c.args.set) (sym c.state.ensures.value) ∙ sym c.pending.ensures ∙ ap (λ r. option_map change (option_copied r)) c.in-Some.is in
    touched_by s c.args.stores.now c.keep_pending.new.self c.args.set c.requires.still.hold (Some p) is c.keep_pending.ensures.others c.keep_pending.ensures.any_moment

pub returns-in-Err-DiskFault-clause-still : goal.returns-in-Err-DiskFault-clause-still
returns-in-Err-DiskFault-clause-still g c =
    let s = means c.args.core.now in
    let p = change c.in-Some.change.now in
    let is : s.pending c.args.set ≡ Some p = ap (λ t. (tables.plain t).pending c.args.set) (sym c.state.ensures.value) ∙ sym c.pending.ensures ∙ ap (λ r. option_map change (option_copied r)) c.in-Some.is in
    still_by s c.args.stores.now c.keep_pending.new.self c.args.set c.requires.still.hold p is c.in-Err-DiskFault.ensures.still

pub returns-in-Err-NoMemory-clause-touched : goal.returns-in-Err-NoMemory-clause-touched
returns-in-Err-NoMemory-clause-touched g c =
    let s = means c.args.core.now in
    let p = change c.in-Some.change.now in
    let is : s.pending c.args.set ≡ Some p = ap (λ t. (tables.plain t).pending c.args.set) (sym c.state.ensures.value) ∙ sym c.pending.ensures ∙ ap (λ r. option_map change (option_copied r)) c.in-Some.is in
    touched_by s c.args.stores.now c.keep_pending.new.self c.args.set c.requires.still.hold (Some p) is c.keep_pending.ensures.others c.keep_pending.ensures.any_moment

pub returns-in-Err-NoMemory-clause-still : goal.returns-in-Err-NoMemory-clause-still
returns-in-Err-NoMemory-clause-still g c =
    let s = means c.args.core.now in
    let p = change c.in-Some.change.now in
    let is : s.pending c.args.set ≡ Some p = ap (λ t. (tables.plain t).pending c.args.set) (sym c.state.ensures.value) ∙ sym c.pending.ensures ∙ ap (λ r. option_map change (option_copied r)) c.in-Some.is in
    still_by s c.args.stores.now c.keep_pending.new.self c.args.set c.requires.still.hold p is c.in-Err-NoMemory.ensures.still

-- ---- it is not to be there

pub returns-in-Ok-drop_pending-clause-touched : goal.returns-in-Ok-drop_pending-clause-touched
returns-in-Ok-drop_pending-clause-touched g c =
    let s = means c.args.core.now in
    let p = change c.in-Some-2.field-0.now in
    let is : s.pending c.args.set ≡ Some p = ap (λ t. (tables.plain t).pending c.args.set) (sym c.state.ensures.value) ∙ sym c.pending.ensures ∙ ap (λ r. option_map change (option_copied r)) c.in-Some-2.is in
    touched_by s c.args.stores.now c.drop_pending.new.self c.args.set c.requires.still.hold (Some p) is c.drop_pending.ensures.others (c.drop_pending.ensures.any_moment p)

pub returns-in-Ok-drop_pending-clause-fit : goal.returns-in-Ok-drop_pending-clause-fit
returns-in-Ok-drop_pending-clause-fit g c =
    let s = means c.args.core.now in
    let p = change c.in-Some-2.field-0.now in
    let is : s.pending c.args.set ≡ Some p = ap (λ t. (tables.plain t).pending c.args.set) (sym c.state.ensures.value) ∙ sym c.pending.ensures ∙ ap (λ r. option_map change (option_copied r)) c.in-Some-2.is in
    let ok = c.in-Ok-drop_pending.ensures in
    subst (λ (kept : Bool). IsFit s c.drop_pending.new.self c.args.set kept) (sym c.if-kept.false)
    (fit_by s c.args.stores.now c.drop_pending.new.self c.args.set c.requires.still.hold (Some p) is false (ok.dropped p) ok.ready ok.calm)

pub returns-in-Err-drop_pending-clause-touched : goal.returns-in-Err-drop_pending-clause-touched
returns-in-Err-drop_pending-clause-touched g c =
    let s = means c.args.core.now in
    let p = change c.in-Some-2.field-0.now in
    let is : s.pending c.args.set ≡ Some p = ap (λ t. (tables.plain t).pending c.args.set) (sym c.state.ensures.value) ∙ sym c.pending.ensures ∙ ap (λ r. option_map change (option_copied r)) c.in-Some-2.is in
    touched_by s c.args.stores.now c.drop_pending.new.self c.args.set c.requires.still.hold (Some p) is c.drop_pending.ensures.others (c.drop_pending.ensures.any_moment p)

pub returns-in-Err-drop_pending-clause-still : goal.returns-in-Err-drop_pending-clause-still
returns-in-Err-drop_pending-clause-still g c =
    let s = means c.args.core.now in
    let p = change c.in-Some-2.field-0.now in
    let is : s.pending c.args.set ≡ Some p = ap (λ t. (tables.plain t).pending c.args.set) (sym c.state.ensures.value) ∙ sym c.pending.ensures ∙ ap (λ r. option_map change (option_copied r)) c.in-Some-2.is in
    still_by s c.args.stores.now c.drop_pending.new.self c.args.set c.requires.still.hold p is (c.in-Err-drop_pending.ensures.still p)
