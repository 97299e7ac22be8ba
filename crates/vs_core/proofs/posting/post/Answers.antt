use Rattle.std.proofs.Common.{sym, ap, ◌∙◌}
use Rattle.vs_link.specs.Connection.{message, with_message}
use Rattle.vs_machine.specs.State as machine
use Rattle.vs_state.specs.Plain.{plain}
use Rattle.vs_core.proofs.Lines.{link_is, link_written}
use Rattle.vs_core.proofs.Linked.{pair_of}
use Rattle.vs_core.proofs.posting.post.Goals as goal

pub returns-clause-posted : goal.returns-clause-posted
returns-clause-posted c =
    let s = c.args.state.now in
    let x = c.args.from in
    let y = c.args.to in
    let pair = pair_of s x y c.requires.link c.requires.sound.sized in
    link_written s c.post.new.self x y _ pair c.post.ensures.links
    ∙ ap (λ l. machine.put_link (plain s) x y (with_message l (message c.args.msg))) (sym (link_is s c.post.new.self x y _ pair c.post.ensures.links))
