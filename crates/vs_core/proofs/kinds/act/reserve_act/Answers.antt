use Rattle.std.proofs.Common.{◌≡◌, true, Some, None, sym, ap, subst, ◌∙◌}
use Rattle.std.specs.Option.{option_copied}
use Rattle.std.specs.Prelude.{option_map}
use Rattle.vs_script.specs.Calls as scripts
use Rattle.vs_machine.specs.State as machine
use Rattle.vs_history.specs.declared.history.History.{History}
use Rattle.vs_state.specs.Plain.{plain}
use Rattle.vs_state.specs.Tables.{numbered}
use Rattle.vs_core.specs.Acting.{stored_at, HasEntryRoom}
use Rattle.vs_core.specs.declared.kinds.act.PreparedAct.{PreparedAct}
use Rattle.vs_core.proofs.Acting.{act_ready, act_runs, known_set, prepared_is}
use Rattle.vs_core.proofs.kinds.act.reserve_act.Goals as goal

pub reserve_entry-requires-clause-bucket : goal.reserve_entry-requires-clause-bucket
reserve_entry-requires-clause-bucket c =
    c.requires.known.buckets c.args.client (scripts.call c.in-Some-Some.call.now) (sym c.next_call.ensures ∙ ap (λ r. option_map scripts.call (option_copied r)) c.in-Some-Some.is-0)

pub stage_rows-requires-clause-set : goal.stage_rows-requires-clause-set
stage_rows-requires-clause-set c =
    let s = plain c.args.state.now in
    let next = sym c.next_call.ensures ∙ ap (λ r. option_map scripts.call (option_copied r)) c.in-Some-Some.is-0 in
    let set = sym c.call_set.ensures ∙ c.in-Some-Some.is-1 in
    subst (λ (s : machine.State). machine.has_set s c.in-Some-Some.set ≡ true) (sym c.reserve_entry.ensures.same)
    (known_set s c.requires.known c.args.client c.in-Some-Some.set (scripts.call c.in-Some-Some.call.now) (act_runs s c.args.client c.requires.possible) next set)

pub returns-in_err-changes-clause-same : goal.returns-in_err-changes-clause-same
returns-in_err-changes-clause-same c = c.stage_rows.ensures.same ∙ c.reserve_entry.ensures.same

pub returns-in_err-said-clause-same : goal.returns-in_err-said-clause-same
returns-in_err-said-clause-same c = c.stage_rows.ensures.same ∙ c.reserve_entry.ensures.same

pub returns-clause-same : goal.returns-clause-same
returns-clause-same c = c.stage_rows.ensures.same ∙ c.reserve_entry.ensures.same

pub returns-clause-ready : goal.returns-clause-ready
returns-clause-ready c =
    let t = c.stage_rows.new.state in
    let o = c.args.client in
    let k = scripts.call c.in-Some-Some.call.now in
    let same = c.stage_rows.ensures.same ∙ c.reserve_entry.ensures.same in
    let next = ap (λ (s : machine.State). machine.next_call (s.client o)) same ∙ sym c.next_call.ensures ∙ ap (λ r. option_map scripts.call (option_copied r)) c.in-Some-Some.is-0 in
    let set = ap (λ (s : machine.State). (s.client o).present.set) same ∙ sym c.call_set.ensures ∙ c.in-Some-Some.is-1 in
    let p : PreparedAct = record { ops = c.in_ok-ops.ops; answers = c.in_ok-changes.field-0.answers; said = c.in_ok-said.said; changes = c.in_ok-changes.field-0.changes } in
    act_ready t o c.in-Some-Some.set k p next set
    (prepared_is (stored_at t c.in-Some-Some.set k.bucket) k.ops p c.in_ok-ops.ensures c.in_ok-said.ensures c.in_ok-changes.ensures.staged)
    (subst (λ hs. (h : History) → numbered Some None hs.items k.bucket ≡ Some h → HasEntryRoom h) (sym c.stage_rows.ensures.histories) c.in_ok-reserve_entry.ensures.room)
