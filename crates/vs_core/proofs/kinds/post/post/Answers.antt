use Rattle.std.proofs.Common.{sym, ap, ◌∙◌}
use Rattle.std.specs.Prelude.{option_map, Ok}
use Rattle.std.specs.Option.{option_copied}
use Rattle.vs_calls.specs.Progress.{posted}
use Rattle.vs_script.specs.Calls as scripts
use Rattle.vs_machine.specs.State as machine
use Rattle.vs_state.specs.Plain.{plain}
use Rattle.vs_core.proofs.Calls.{post_is}
use Rattle.vs_core.proofs.kinds.post.post.Goals as goal

pub returns-clause-step : goal.returns-clause-step
returns-clause-step c =
    let s = plain c.args.state.now in
    let o = c.args.client in
    let next = sym c.next_call.ensures ∙ ap (λ r. option_map scripts.call (option_copied r)) c.in-Some.is in
    post_is s o c.args.set (scripts.call c.in-Some.call.now) c.requires.possible next
    ∙ ap Ok (sym (c.post_present.ensures.posted ∙ ap (λ n. machine.put_client s o (machine.with_progress (s.client o) (posted (s.client o).present c.args.set n))) c.writes-writes.ensures))
