use Rattle.std.proofs.Common.{ℕ, ◌<◌, sym, ap, subst, ◌∙◌}
use Rattle.std.specs.Option.{option_copied}
use Rattle.std.specs.Prelude.{option_map}
use Rattle.vs_calls.specs.Progress.{ended}
use Rattle.vs_refs.specs.declared.counts.Counts.{Counts}
use Rattle.vs_refs.specs.Counts.{count_of}
use Rattle.vs_script.specs.Calls as scripts
use Rattle.vs_machine.specs.State as machine
use Rattle.vs_state.specs.Plain.{plain}
use Rattle.vs_core.proofs.Calls.{end_acted, end_client}
use Rattle.vs_core.proofs.Counting.{IsFree, held_counted}
use Rattle.vs_core.proofs.Holding.{agrees_free, agrees_given, free_by_call, free_by_set, free_by_stage, held_set, holding_is}
use Rattle.vs_core.proofs.Stages.{acted_holds, ended_is_free}
use Rattle.vs_core.proofs.kinds.end.give_back.Goals as goal

-- the client once its call ended
abbrev later : machine.State → ℕ → machine.Client
later s c = machine.with_progress (s.client c) (ended (s.client c).present)

later_free : (s : machine.State) (c : ℕ) → IsFree (later s c)
later_free s c = free_by_stage (machine.with_progress (s.client c) (ended (s.client c).present)) (ended_is_free (s.client c).present)

pub returns-in_default-clause-agrees : goal.returns-in_default-clause-agrees
returns-in_default-clause-agrees c =
    let s = plain c.args.state.now in
    let o = c.args.client in
    agrees_free c.args.state.now o (later s o) (end_client s o c.requires.possible) c.requires.sound.agrees (free_by_set (s.client o) (sym c.call_set.ensures ∙ c.in_default.is-1)) (later_free s o)

pub returns-in_default-2-clause-agrees : goal.returns-in_default-2-clause-agrees
returns-in_default-2-clause-agrees c =
    let s = plain c.args.state.now in
    let o = c.args.client in
    agrees_free c.args.state.now o (later s o) (end_client s o c.requires.possible) c.requires.sound.agrees (free_by_call (s.client o) (sym c.next_call.ensures ∙ ap (λ r. option_map scripts.call (option_copied r)) c.in_default.is-0)) (later_free s o)

pub give_reference-requires-clause-set : goal.give_reference-requires-clause-set
give_reference-requires-clause-set c =
    let s = plain c.args.state.now in
    let o = c.args.client in
    let next = sym c.next_call.ensures ∙ ap (λ r. option_map scripts.call (option_copied r)) c.in-Some-Some.is-0 in
    held_set s c.requires.known o c.in-Some-Some.set (scripts.call c.in-Some-Some.call.now) (acted_holds (s.client o).present.stage (end_acted s o c.requires.possible)) next (sym c.call_set.ensures ∙ c.in-Some-Some.is-1)

pub give_reference-requires-clause-held : goal.give_reference-requires-clause-held
give_reference-requires-clause-held c =
    let s = plain c.args.state.now in
    let o = c.args.client in
    let x = c.in-Some-Some.set in
    let k = scripts.call c.in-Some-Some.call.now in
    let next = sym c.next_call.ensures ∙ ap (λ r. option_map scripts.call (option_copied r)) c.in-Some-Some.is-0 in
    let holds = acted_holds (s.client o).present.stage (end_acted s o c.requires.possible) in
    subst (λ (n : Counts). 0 < count_of n k.mode) (sym (c.requires.sound.agrees.counts x k.bucket))
    (held_counted s o x k.bucket k.mode (end_client s o c.requires.possible) (holding_is (s.client o) x k holds (sym c.call_set.ensures ∙ c.in-Some-Some.is-1) next))

pub returns-clause-agrees : goal.returns-clause-agrees
returns-clause-agrees c =
    let s = plain c.args.state.now in
    let o = c.args.client in
    let x = c.in-Some-Some.set in
    let k = scripts.call c.in-Some-Some.call.now in
    let next = sym c.next_call.ensures ∙ ap (λ r. option_map scripts.call (option_copied r)) c.in-Some-Some.is-0 in
    let holds = acted_holds (s.client o).present.stage (end_acted s o c.requires.possible) in
    agrees_given c.args.state.now o (later s o) (end_client s o c.requires.possible) c.requires.sound.agrees c.give_reference.new.state x k.bucket k.mode c.give_reference.ensures.given (holding_is (s.client o) x k holds (sym c.call_set.ensures ∙ c.in-Some-Some.is-1) next) (later_free s o)
