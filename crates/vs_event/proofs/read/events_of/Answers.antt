use Rattle.std.proofs.Common.{◌≡◌, ◌≢◌, ◌+◌, [], ◌∷◌, ◌++◌, ap, rules}
use Rattle.vs_text.specs.Split.{lines_of, words_of}
use Rattle.vs_event.specs.declared.event.Event.{Event}
use Rattle.vs_event.specs.Event.{IsEvent, event_words}
use Rattle.vs_event.proofs.EventsText.{bad_line, open_line, goes_on, more_events}
use Rattle.vs_event.proofs.read.events_of.Goals as goal

pub returns-in_default-event_of-clause-bad : goal.returns-in_default-event_of-clause-bad
returns-in_default-event_of-clause-bad c =
    let first : lines_of c.loop-line.rest.now ≡ c.in-Some.line.now ∷ lines_of c.in-Some.more.now = c.in-Some.ensures in
    let none : (e : Event) → IsEvent e → words_of c.in-Some.line.now ≢ event_words e = c.in_default-event_of.ensures in
    bad_line c.args.text.now c.loop-line.trace.items c.loop-line.rest.now c.in-Some.line.now c.in-Some.more.now (c.len.result + 1) c.loop-line.invariant.are_events c.loop-line.invariant.so_far (ap (λ n. n + 1) c.len.ensures.value) first none

pub returns-else-is_empty-clause-bad : goal.returns-else-is_empty-clause-bad
returns-else-is_empty-clause-bad c =
    let only : lines_of c.loop-line.rest.now ≡ c.loop-line.rest.now ∷ [] = search rules in
    let some : c.loop-line.rest.now ≢ [] = search rules in
    open_line c.args.text.now c.loop-line.trace.items c.loop-line.rest.now (c.len-else-is_empty.result + 1) c.loop-line.invariant.are_events c.loop-line.invariant.so_far (ap (λ n. n + 1) c.len-else-is_empty.ensures.value) only some

pub loop-line-preserved : goal.loop-line-preserved
loop-line-preserved c =
    let first : lines_of c.loop-line.rest.now ≡ c.in-Some.line.now ∷ lines_of c.in-Some.more.now = c.in-Some.ensures in
    let event = c.in-Some-event_of.event in
    let pushed : c.push.new.self.items ≡ c.loop-line.trace.items ++ event ∷ [] = search rules in
    rw pushed (record {
      are_events = more_events c.loop-line.trace.items event c.loop-line.invariant.are_events c.in-Some-event_of.ensures.0;
      so_far = goes_on c.args.text.now c.loop-line.trace.items c.loop-line.rest.now c.in-Some.line.now c.in-Some.more.now event c.loop-line.invariant.so_far first c.in-Some-event_of.ensures.1;
    })
