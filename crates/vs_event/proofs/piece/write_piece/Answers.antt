use Rattle.std.proofs.Common.{◌∙◌, List, take, length, ap, arith}
use Rattle.vs_event.specs.declared.event.Event.{Event}
use Rattle.vs_event.specs.Event.{events_text}
use Rattle.vs_event.proofs.Joined.{up_to, last_piece}
use Rattle.vs_event.proofs.piece.write_piece.Goals as goal

pub returns-then-not-add-clause-so_far : goal.returns-then-not-add-clause-so_far
returns-then-not-add-clause-so_far c =
    let same = ap (λ (events : List Event). events_text (take c.loop-event.event-index events)) c.events_from-event-items.ensures.value in
    up_to c.args.trace.now.items c.args.from c.loop-event.next c.loop-event.event-index c.add.new.self c.loop-event.invariant.next (c.if-not-add.ensures.text ∙ (c.loop-event.invariant.text ∙ same))

pub returns-clause-piece : goal.returns-clause-piece
returns-clause-piece c =
    let same = ap (λ (events : List Event). events_text (take c.loop-event.event-index events)) c.events_from-event-items.ensures.value in
    last_piece c.args.trace.now.items c.args.from c.loop-event.next c.loop-event.event-index c.loop-event.into c.requires
    (omega (arith, c.loop-event-test.false, c.loop-event.auto.event-index-end, ap length c.events_from-event-items.ensures.value))
    c.loop-event.invariant.next (c.loop-event.invariant.text ∙ same) c.loop-event.invariant.fits

pub returns-clause-so_far : goal.returns-clause-so_far
returns-clause-so_far c =
    let same = ap (λ (events : List Event). events_text (take c.loop-event.event-index events)) c.events_from-event-items.ensures.value in
    up_to c.args.trace.now.items c.args.from c.loop-event.next c.loop-event.event-index c.loop-event.into c.loop-event.invariant.next (c.loop-event.invariant.text ∙ same)
