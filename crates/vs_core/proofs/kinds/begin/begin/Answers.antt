use Rattle.std.proofs.Common.{◌≡◌, ℕ, true, Ok, refl, sym, ap, subst, ◌∙◌, arith}
use Rattle.std.specs.Option.{option_copied}
use Rattle.std.specs.Prelude.{option_map}
use Rattle.vs_calls.specs.Progress.{begun, is_posted}
use Rattle.vs_refs.specs.Counts.{count_of}
use Rattle.vs_refs.specs.declared.counts.Counts.{Counts}
use Rattle.vs_script.specs.Calls as scripts
use Rattle.vs_space.specs.declared.status.Verdict.{Verdict}
use Rattle.vs_space.specs.declared.status.Verdict.TheVariants.{Granted, Refused}
use Rattle.vs_machine.specs.State as machine
use Rattle.vs_state.specs.Agrees.{agreed, counts_at}
use Rattle.vs_state.specs.Plain.{plain}
use Rattle.vs_core.specs.References.{AgreesWith}
use Rattle.vs_core.proofs.Calls.{begin_client, begin_is, begin_posted, granted_set}
use Rattle.vs_core.proofs.Counting.{agreed_within}
use Rattle.vs_core.proofs.Holding.{agrees_free, agrees_taken, free_by_stage, holding_is}
use Rattle.vs_core.proofs.Stages.{posted_is_free}
use Rattle.vs_core.proofs.kinds.begin.begin.Goals as goal

-- the state with this verdict
abbrev later : machine.State → ℕ → Verdict → machine.State
later s c v = machine.put_client s c (machine.with_progress (s.client c) (begun (s.client c).present v))

pub take_reference-requires-clause-set : goal.take_reference-requires-clause-set
take_reference-requires-clause-set c = granted_set (plain c.args.state.now) c.requires.known c.in-Some-Some.set (scripts.call c.in-Some-Some.call.now) (sym c.verdict_at.ensures ∙ c.in-Granted.is)

pub take_reference-requires-clause-below : goal.take_reference-requires-clause-below
take_reference-requires-clause-below c =
    let s = plain c.args.state.now in
    let k = c.in-Some-Some.call.now in
    let clients = c.requires.sound.sized.clients in
    let within = agreed_within s c.in-Some-Some.set k.bucket k.mode in
    let same : count_of (counts_at c.args.state.now c.in-Some-Some.set k.bucket) k.mode ≡ count_of (agreed s c.in-Some-Some.set k.bucket) k.mode = ap (λ (n : Counts). count_of n k.mode) (c.requires.sound.agrees.counts c.in-Some-Some.set k.bucket) in
    omega (arith, clients, within, same)

pub begin_present-requires-clause-posted : goal.begin_present-requires-clause-posted
begin_present-requires-clause-posted c = subst (λ (s : machine.State). is_posted (s.client c.args.client).present.stage ≡ true) (sym c.take_reference.ensures.taken.plain) (begin_posted (plain c.args.state.now) c.args.client c.requires.possible)

pub begin_present-requires-clause-agrees : goal.begin_present-requires-clause-agrees
begin_present-requires-clause-agrees c =
    let s = plain c.args.state.now in
    let o = c.args.client in
    let x = c.in-Some-Some.set in
    let k = scripts.call c.in-Some-Some.call.now in
    let next = sym c.next_call.ensures ∙ ap (λ r. option_map scripts.call (option_copied r)) c.in-Some-Some.is-0 in
    let m = c.take_reference.new.state in
    let v = machine.with_progress (s.client o) (begun (s.client o).present Granted) in
    subst (λ (n : machine.State). AgreesWith m (later n o Granted)) (sym c.take_reference.ensures.taken.plain)
    (agrees_taken c.args.state.now o v (begin_client s o c.requires.possible) c.requires.sound.agrees m x k.bucket k.mode c.take_reference.ensures.taken
    (free_by_stage (s.client o) (posted_is_free (s.client o).present.stage (begin_posted s o c.requires.possible)))
    (holding_is v x k refl (sym c.call_set.ensures ∙ c.in-Some-Some.is-1) next))

pub begin_present-requires-in-Refused-clause-agrees : goal.begin_present-requires-in-Refused-clause-agrees
begin_present-requires-in-Refused-clause-agrees c =
    let s = plain c.args.state.now in
    let o = c.args.client in
    let v = machine.with_progress (s.client o) (begun (s.client o).present (Refused c.in-Refused.cause)) in
    agrees_free c.args.state.now o v (begin_client s o c.requires.possible) c.requires.sound.agrees
    (free_by_stage (s.client o) (posted_is_free (s.client o).present.stage (begin_posted s o c.requires.possible))) (free_by_stage v refl)

pub returns-in-Granted-clause-step : goal.returns-in-Granted-clause-step
returns-in-Granted-clause-step c =
    let s = plain c.args.state.now in
    let o = c.args.client in
    let next = sym c.next_call.ensures ∙ ap (λ r. option_map scripts.call (option_copied r)) c.in-Some-Some.is-0 in
    begin_is s o c.requires.possible (scripts.call c.in-Some-Some.call.now) c.in-Some-Some.set next (sym c.call_set.ensures ∙ c.in-Some-Some.is-1)
    ∙ ap (λ v. Ok (later s o v)) (sym c.verdict_at.ensures ∙ c.in-Granted.is)
    ∙ ap Ok (sym (c.begin_present.ensures.begun ∙ ap (λ (n : machine.State). later n o Granted) c.take_reference.ensures.taken.plain))

pub returns-in-Refused-clause-step : goal.returns-in-Refused-clause-step
returns-in-Refused-clause-step c =
    let s = plain c.args.state.now in
    let o = c.args.client in
    let next = sym c.next_call.ensures ∙ ap (λ r. option_map scripts.call (option_copied r)) c.in-Some-Some.is-0 in
    begin_is s o c.requires.possible (scripts.call c.in-Some-Some.call.now) c.in-Some-Some.set next (sym c.call_set.ensures ∙ c.in-Some-Some.is-1)
    ∙ ap (λ v. Ok (later s o v)) (sym c.verdict_at.ensures ∙ c.in-Refused.is)
    ∙ ap Ok (sym c.begin_present-in-Refused.ensures.begun)
