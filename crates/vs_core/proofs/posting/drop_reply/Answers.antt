use Rattle.std.proofs.Common.{sym, ap, ◌∙◌}
use Rattle.vs_link.specs.Connection.{without_reply}
use Rattle.vs_machine.specs.State as machine
use Rattle.vs_state.specs.Plain.{plain}
use Rattle.vs_core.proofs.Hearing.{reply_dropped}
use Rattle.vs_core.proofs.Lines.{link_is, link_written, sound_links}
use Rattle.vs_core.proofs.Linked.{pair_of}
use Rattle.vs_core.proofs.posting.drop_reply.Goals as goal

pub returns-clause-dropped : goal.returns-clause-dropped
returns-clause-dropped c =
    let s = c.args.state.now in
    let x = c.args.from in
    let y = c.args.to in
    let new = c.take_reply-reply.new.self in
    let pair = pair_of s x y c.requires.link c.requires.sound.sized in
    let becomes = reply_dropped s.links new x y c.take_reply-reply.result c.take_reply-reply.ensures.empty c.take_reply-reply.ensures.links c.take_reply-reply.ensures.err in
    link_written s new x y _ pair becomes
    ∙ ap (λ l. machine.put_link (plain s) x y (without_reply l)) (sym (link_is s new x y _ pair becomes))

pub returns-clause-sound : goal.returns-clause-sound
returns-clause-sound c =
    let s = c.args.state.now in
    let x = c.args.from in
    let y = c.args.to in
    let new = c.take_reply-reply.new.self in
    sound_links s new x y _ (pair_of s x y c.requires.link c.requires.sound.sized)
    (reply_dropped s.links new x y c.take_reply-reply.result c.take_reply-reply.ensures.empty c.take_reply-reply.ensures.links c.take_reply-reply.ensures.err) c.requires.sound
