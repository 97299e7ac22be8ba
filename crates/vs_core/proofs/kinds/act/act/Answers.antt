use Rattle.std.proofs.Common.{◌≡◌, ℕ, true, Ok, sym, ap, subst, ◌∙◌}
use Rattle.std.specs.Option.{option_copied}
use Rattle.std.specs.Prelude.{option_map}
use Rattle.vs_calls.specs.Progress.{is_running, acted}
use Rattle.vs_script.specs.Calls as scripts
use Rattle.vs_rows.specs.Operations.{answers_to}
use Rattle.vs_rows.specs.Said.{said_all}
use Rattle.vs_machine.specs.Kinds.Calls as kinds
use Rattle.vs_machine.specs.State as machine
use Rattle.vs_state.specs.Plain.{plain}
use Rattle.vs_core.proofs.Acting.{act_runs, act_is, known_set, known_place, prepared, ready_answers, ready_said, ready_changes}
use Rattle.vs_core.proofs.kinds.act.act.Goals as goal

pub run-place-requires-clause-set : goal.run-place-requires-clause-set
run-place-requires-clause-set c =
    let next = sym c.next_call.ensures ∙ ap (λ r. option_map scripts.call (option_copied r)) c.in-Some-Some.is-0 in
    let set = sym c.call_set.ensures ∙ c.in-Some-Some.is-1 in
    known_set (plain c.args.state.now) c.requires.known c.args.client c.in-Some-Some.set (scripts.call c.in-Some-Some.call.now) (act_runs (plain c.args.state.now) c.args.client c.requires.possible) next set

pub run-place-requires-clause-bucket : goal.run-place-requires-clause-bucket
run-place-requires-clause-bucket c =
    c.requires.known.buckets c.args.client (scripts.call c.in-Some-Some.call.now) (sym c.next_call.ensures ∙ ap (λ r. option_map scripts.call (option_copied r)) c.in-Some-Some.is-0)

pub run-place-requires-clause-within : goal.run-place-requires-clause-within
run-place-requires-clause-within c =
    let next = sym c.next_call.ensures ∙ ap (λ r. option_map scripts.call (option_copied r)) c.in-Some-Some.is-0 in
    let set = sym c.call_set.ensures ∙ c.in-Some-Some.is-1 in
    known_place (plain c.args.state.now) c.requires.known c.args.client c.in-Some-Some.set (scripts.call c.in-Some-Some.call.now) (act_runs (plain c.args.state.now) c.args.client c.requires.possible) next set

pub run-place-requires-clause-answers : goal.run-place-requires-clause-answers
run-place-requires-clause-answers c =
    let next = sym c.next_call.ensures ∙ ap (λ r. option_map scripts.call (option_copied r)) c.in-Some-Some.is-0 in
    let set = sym c.call_set.ensures ∙ c.in-Some-Some.is-1 in
    ready_answers c.args.state.now c.args.client c.in-Some-Some.set (scripts.call c.in-Some-Some.call.now) c.args.prepared c.requires.ready next set

pub run-place-requires-clause-changes : goal.run-place-requires-clause-changes
run-place-requires-clause-changes c =
    let next = sym c.next_call.ensures ∙ ap (λ r. option_map scripts.call (option_copied r)) c.in-Some-Some.is-0 in
    let set = sym c.call_set.ensures ∙ c.in-Some-Some.is-1 in
    ready_changes c.args.state.now c.args.client c.in-Some-Some.set (scripts.call c.in-Some-Some.call.now) c.args.prepared c.requires.ready next set

pub run-place-requires-clause-places : goal.run-place-requires-clause-places
run-place-requires-clause-places c =
    let next = sym c.next_call.ensures ∙ ap (λ r. option_map scripts.call (option_copied r)) c.in-Some-Some.is-0 in
    let set = sym c.call_set.ensures ∙ c.in-Some-Some.is-1 in
    (prepared c.args.state.now c.args.client c.in-Some-Some.set (scripts.call c.in-Some-Some.call.now) c.args.prepared c.requires.ready next set).staged.places

pub run-place-requires-clause-history : goal.run-place-requires-clause-history
run-place-requires-clause-history c = c.requires.ready.history (scripts.call c.in-Some-Some.call.now) (sym c.next_call.ensures ∙ ap (λ r. option_map scripts.call (option_copied r)) c.in-Some-Some.is-0)

pub say-requires-clause-running : goal.say-requires-clause-running
say-requires-clause-running c = subst (λ (s : machine.State). is_running (s.client c.args.client).present.stage ≡ true) (sym c.run-place.ensures.ran) (act_runs (plain c.args.state.now) c.args.client c.requires.possible)

pub returns-clause-step : goal.returns-clause-step
returns-clause-step c =
    let s = plain c.args.state.now in
    let o = c.args.client in
    let x = c.in-Some-Some.set in
    let k = scripts.call c.in-Some-Some.call.now in
    let p = c.args.prepared in
    let old = s.bucket k.bucket in
    let next = sym c.next_call.ensures ∙ ap (λ r. option_map scripts.call (option_copied r)) c.in-Some-Some.is-0 in
    let set = sym c.call_set.ensures ∙ c.in-Some-Some.is-1 in
    let after : machine.Bucket → ℕ → _ → machine.State = λ v place a. machine.put_client (machine.put_bucket s k.bucket v) o (machine.with_progress (s.client o) (acted (s.client o).present place a)) in
    act_is s o x k c.requires.possible next set
    ∙ ap Ok (sym (
    c.say.ensures.said
    ∙ ap (λ (t : machine.State). machine.put_client t o (machine.with_progress (t.client o) (acted (t.client o).present c.run-place.result (said_all p.said.items)))) c.run-place.ensures.ran
    ∙ ap (λ a. after (kinds.bucket_after old x c.call_id-id.result k.mode p.ops.items) c.run-place.result a) (ready_said c.args.state.now o x k p c.requires.ready next set)
    ∙ ap (λ n. after (kinds.bucket_after old x c.call_id-id.result k.mode p.ops.items) n (answers_to (old.rows x) k.ops)) c.run-place.ensures.place
    ∙ ap (λ ops. after (kinds.bucket_after old x c.call_id-id.result k.mode ops) (kinds.place_of old x k.mode) (answers_to (old.rows x) k.ops)) (prepared c.args.state.now o x k p c.requires.ready next set).ops_are
    ∙ ap (λ id. after (kinds.bucket_after old x id k.mode k.ops) (kinds.place_of old x k.mode) (answers_to (old.rows x) k.ops)) c.call_id-id.ensures
    ))
