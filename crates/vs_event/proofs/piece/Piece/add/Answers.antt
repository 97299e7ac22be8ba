use Rattle.std.proofs.Common.{[], ◌∷◌, ◌++◌, length, ap, ◌∙◌, arith, length-append}
use Rattle.std.proofs.Math.Nat.{min-le_left}
use Rattle.std.proofs.lemmas.List.{length-take}
use Rattle.vs_event.specs.Event.{event_line}
use Rattle.vs_event.proofs.piece.Piece.add.Goals as goal

pub invariant_of-self : goal.invariant_of-self
invariant_of-self c =
    let grown = ap length c.put_line.ensures.text.items ∙ length-append c.self.inside.text.items (event_line c.args.event ++ 10 ∷ []) in
    (omega (arith, c.if-len-le-LIMIT.true, c.len.ensures), omega (arith, grown, c.put_line.ensures.text.room, c.self.invariant.1))

pub invariant_of-self-2 : goal.invariant_of-self-2
invariant_of-self-2 c =
    let grown = ap length c.put_line.ensures.text.items ∙ length-append c.self.inside.text.items (event_line c.args.event ++ 10 ∷ []) in
    let left = ap length c.truncate.ensures.items ∙ length-take c.len-len.result c.put_line.new.out.items in (
      omega (arith, left, min-le_left c.len-len.result (length c.put_line.new.out.items), c.len-len.ensures, c.self.invariant.0),
      omega (arith, c.truncate.ensures.room, grown, c.put_line.ensures.text.room, c.self.invariant.1),
    )
