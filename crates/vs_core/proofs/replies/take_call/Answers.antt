use Rattle.std.proofs.Common.{sym, ap, ◌∙◌}
use Rattle.vs_link.specs.Connection.{without_call}
use Rattle.vs_machine.specs.State as machine
use Rattle.vs_state.specs.Plain.{plain}
use Rattle.vs_core.proofs.Delivering.{first_is}
use Rattle.vs_core.proofs.Lines.{link_is, link_written}
use Rattle.vs_core.proofs.Linked.{pair_of}
use Rattle.vs_core.proofs.replies.take_call.Goals as goal

pub returns-in-Ok-clause-first : goal.returns-in-Ok-clause-first
returns-in-Ok-clause-first c =
    let s = c.args.state.now in
    c.in-Ok.ensures.taken ∙ sym (first_is s c.args.from c.args.to (pair_of s c.args.from c.args.to c.requires.link c.requires.sound.sized))

pub returns-in-Ok-clause-taken : goal.returns-in-Ok-clause-taken
returns-in-Ok-clause-taken c =
    let s = c.args.state.now in
    let x = c.args.from in
    let y = c.args.to in
    let pair = pair_of s x y c.requires.link c.requires.sound.sized in
    link_written s c.take_call.new.self x y _ pair c.in-Ok.ensures.links
    ∙ ap (λ l. machine.put_link (plain s) x y (without_call l)) (sym (link_is s c.take_call.new.self x y _ pair c.in-Ok.ensures.links))
