use Rattle.std.proofs.Common.{◌-◌, ◌<◌, sym, ap, subst, ◌∙◌}
use Rattle.std.specs.Prelude.{◌^◌}
use Rattle.vs_link.specs.Connection.{Connection, closed}
use Rattle.vs_machine.specs.State as machine
use Rattle.vs_state.specs.Plain.{plain}
use Rattle.vs_core.proofs.Closing.{link_of}
use Rattle.vs_core.proofs.Lines.{link_is, link_written}
use Rattle.vs_core.proofs.Linked.{pair_of}
use Rattle.vs_core.proofs.posting.close.Goals as goal

pub close-requires-clause-epoch : goal.close-requires-clause-epoch
close-requires-clause-epoch c =
    let s = c.args.state.now in
    subst (λ (l : Connection). l.epoch < 2 ^ 63 - 1) (link_of s c.args.from c.args.to (pair_of s c.args.from c.args.to c.requires.link c.requires.sound.sized)) c.requires.epoch

pub returns-clause-closed : goal.returns-clause-closed
returns-clause-closed c =
    let s = c.args.state.now in
    let x = c.args.from in
    let y = c.args.to in
    let pair = pair_of s x y c.requires.link c.requires.sound.sized in
    link_written s c.close.new.self x y _ pair c.close.ensures.links
    ∙ ap (λ l. machine.put_link (plain s) x y (closed l)) (sym (link_is s c.close.new.self x y _ pair c.close.ensures.links))
