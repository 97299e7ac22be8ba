-- The text of events, line by line.
use Rattle.std.proofs.Common.{◌≡◌, ◌≢◌, ℕ, ◌+◌, List, [], ◌∷◌, ◌++◌, length, Ok, Err, Result, refl, sym, ap, ◌∙◌, append_assoc, length-append, arith}
use Rattle.std.specs.Prelude.{IfOk, IfErr}
use Rattle.std.specs.List.{join_with_byte}
use Rattle.std.proofs.lemmas.List.{append-nil}
use Rattle.std.proofs.lemmas.Grind.{flat_map-append}
use Rattle.vs_base.specs.Listed.{Listed}
use Rattle.vs_text.specs.Split.{lines_of, words_of}
use Rattle.vs_event.specs.declared.event.Event.{Event}
use Rattle.vs_event.specs.declared.fault.EventFault.{EventFault}
use Rattle.vs_event.specs.declared.fault.EventFault.TheVariants.{BadEvent, NoMemory}
use Rattle.vs_event.specs.Event.{IsEvent, AreEvents, event_words, event_line, events_text, IsFirstBadLine}
use Rattle.vs_event.specs.Fault.{IsFaultOf, Gives}
use Rattle.vs_event.proofs.EventLines.{words_of_line, first_event_line}
use Rattle.vs_event.proofs.LongWords.{event_same}
use Rattle.vs_event.proofs.Spaces.{some_parts, joined}

before_more : (line : List ℕ) (lines : List (List ℕ)) → lines ≢ [] → join_with_byte 10 (line ∷ lines) ≡ line ++ 10 ∷ join_with_byte 10 lines
before_more line [] some = absurd (some refl)
before_more line (next ∷ lines) some = refl

-- a text whose first line is this one
line_first : (rest line more : List ℕ) → lines_of rest ≡ line ∷ lines_of more → rest ≡ line ++ 10 ∷ more
line_first rest line more first =
    ((sym (joined 10 rest) ∙ ap (join_with_byte 10) first) ∙ before_more line (lines_of more) (some_parts 10 more))
    ∙ ap (λ (bytes : List ℕ). line ++ 10 ∷ bytes) (joined 10 more)

-- reading

pub more_events : (events : List Event) (e : Event) → AreEvents events → IsEvent e → AreEvents (events ++ e ∷ [])
more_events [] e are is = (is, tt)
more_events (x ∷ xs) e are is = (are.0, more_events xs e are.1 is)

one_more : (events : List Event) (e : Event) (more : List ℕ) → events_text (events ++ e ∷ []) ++ more ≡ events_text events ++ (event_line e ++ 10 ∷ more)
one_more events e more = rw (flat_map-append, append_assoc, append_assoc, append_assoc) refl

-- the first line is that of an event
pub event_is_first : (rest line more : List ℕ) (e : Event) → lines_of rest ≡ line ∷ lines_of more → words_of line ≡ event_words e → rest ≡ event_line e ++ 10 ∷ more
event_is_first rest line more e first words =
    let is : line ≡ event_line e = sym (joined 32 line) ∙ ap (join_with_byte 32) words in
    line_first rest line more first ∙ ap (λ (bytes : List ℕ). bytes ++ 10 ∷ more) is

pub goes_on : (text : List ℕ) (events : List Event) (rest line more : List ℕ) (e : Event) → text ≡ events_text events ++ rest → lines_of rest ≡ line ∷ lines_of more → words_of line ≡ event_words e → text ≡ events_text (events ++ e ∷ []) ++ more
goes_on text events rest line more e so_far first words =
    (so_far ∙ ap (λ (bytes : List ℕ). events_text events ++ bytes) (event_is_first rest line more e first words)) ∙ sym (one_more events e more)

-- the first line is no event's

no_event_first : (rest line more : List ℕ) → lines_of rest ≡ line ∷ lines_of more → ((e : Event) → IsEvent e → words_of line ≢ event_words e) → (e : Event) (others : List ℕ) → IsEvent e → rest ≢ event_line e ++ 10 ∷ others
no_event_first rest line more first none e others is begins =
    let lines : lines_of rest ≡ event_line e ∷ lines_of others = ap lines_of begins ∙ first_event_line e others is in
    let same : line ≡ event_line e = cc in
    none e is (ap words_of same ∙ words_of_line e is)

not_ended : (rest : List ℕ) → lines_of rest ≡ rest ∷ [] → (e : Event) (others : List ℕ) → IsEvent e → rest ≢ event_line e ++ 10 ∷ others
not_ended rest only e others is begins =
    let lines : lines_of rest ≡ event_line e ∷ lines_of others = ap lines_of begins ∙ first_event_line e others is in
    some_parts 10 others cc

some_text : (rest line more : List ℕ) → lines_of rest ≡ line ∷ lines_of more → rest ≢ []
some_text rest line more first none =
    let length_is = ap length (line_first rest line more first ∙ refl) in
    omega (arith, length-append line (10 ∷ more), ap length none)

pub bad_line : (text : List ℕ) (events : List Event) (rest line more : List ℕ) (number : ℕ) → AreEvents events → text ≡ events_text events ++ rest → number ≡ length events + 1 → lines_of rest ≡ line ∷ lines_of more → ((e : Event) → IsEvent e → words_of line ≢ event_words e) → IsFirstBadLine text number
bad_line text events rest line more number are so_far count first none = record {
  before = events;
  are_events = are;
  rest = rest;
  is_text = so_far;
  is_number = count;
  some = some_text rest line more first;
  bad = no_event_first rest line more first none;
}

pub open_line : (text : List ℕ) (events : List Event) (rest : List ℕ) (number : ℕ) → AreEvents events → text ≡ events_text events ++ rest → number ≡ length events + 1 → lines_of rest ≡ rest ∷ [] → rest ≢ [] → IsFirstBadLine text number
open_line text events rest number are so_far count only some = record {
  before = events;
  are_events = are;
  rest = rest;
  is_text = so_far;
  is_number = count;
  some = some;
  bad = not_ended rest only;
}

-- one spelling

begins : (e : Event) (events : List Event) (rest : List ℕ) → events_text (e ∷ events) ++ rest ≡ event_line e ++ 10 ∷ (events_text events ++ rest)
begins e events rest = rw (append_assoc, append_assoc) refl

text_lines : (e : Event) (events : List Event) (rest : List ℕ) → IsEvent e → lines_of (events_text (e ∷ events) ++ rest) ≡ event_line e ∷ lines_of (events_text events ++ rest)
text_lines e events rest is = ap lines_of (begins e events rest) ∙ first_event_line e (events_text events ++ rest) is

-- the texts of two lists that both begin with an event have the same first event, and go on the same
same_first : (x y : Event) (xs ys : List Event) (rest others : List ℕ) → IsEvent x → IsEvent y → events_text (x ∷ xs) ++ rest ≡ events_text (y ∷ ys) ++ others → (x ≡ y) × (events_text xs ++ rest ≡ events_text ys ++ others)
same_first x y xs ys rest others x-is y-is e =
    let x-lines = text_lines x xs rest x-is in
    let y-lines = text_lines y ys others y-is in
    let lines : event_line x ∷ lines_of (events_text xs ++ rest) ≡ event_line y ∷ lines_of (events_text ys ++ others) = (sym x-lines ∙ ap lines_of e) ∙ y-lines in
    let line : event_line x ≡ event_line y = cc in
    let following : lines_of (events_text xs ++ rest) ≡ lines_of (events_text ys ++ others) = cc in
    let words : event_words x ≡ event_words y = (sym (words_of_line x x-is) ∙ ap words_of line) ∙ words_of_line y y-is in
    (event_same x y x-is y-is words, (sym (joined 10 (events_text xs ++ rest)) ∙ ap (join_with_byte 10) following) ∙ joined 10 (events_text ys ++ others))

not_empty : (e : Event) (events : List Event) (rest : List ℕ) → events_text (e ∷ events) ++ rest ≢ []
not_empty e events rest none =
    omega (arith, ap length (sym (begins e events rest) ∙ none), length-append (event_line e) (10 ∷ (events_text events ++ rest)))

pub same_events : (xs ys : List Event) → AreEvents xs → AreEvents ys → events_text xs ++ [] ≡ events_text ys ++ [] → xs ≡ ys
same_events [] [] x-are y-are e = refl
same_events [] (y ∷ ys) x-are y-are e = absurd (not_empty y ys [] (sym e))
same_events (x ∷ xs) [] x-are y-are e = absurd (not_empty x xs [] e)
same_events (x ∷ xs) (y ∷ ys) x-are y-are e =
    let first = same_first x y xs ys [] [] x-are.0 y-are.0 e in
    let others : xs ≡ ys = same_events xs ys x-are.1 y-are.1 first.1 in
    cc (first.0, others)

-- a text with a bad line is that of no events
not_spelled : (before events : List Event) (rest : List ℕ) → AreEvents before → AreEvents events → rest ≢ [] → ((e : Event) (more : List ℕ) → IsEvent e → rest ≢ event_line e ++ 10 ∷ more) → events_text before ++ rest ≢ events_text events ++ []
not_spelled [] [] rest before-are are some bad e = some e
not_spelled [] (x ∷ xs) rest before-are are some bad e = bad x (events_text xs ++ []) are.0 (e ∙ begins x xs [])
not_spelled (b ∷ bs) [] rest before-are are some bad e = not_empty b bs rest e
not_spelled (b ∷ bs) (x ∷ xs) rest before-are are some bad e =
    not_spelled bs xs rest before-are.1 are.1 some bad (same_first b x bs xs rest [] before-are.0 are.0 e).1

-- what is spelled so is read

pub spelled_is_read : (text : List ℕ) (result : Result (Listed Event) EventFault) → IfOk result (λ trace. AreEvents trace.items × (text ≡ events_text trace.items)) → IfErr result (λ fault. IsFaultOf text fault) → (events : List Event) → AreEvents events → text ≡ events_text events → Gives events result
spelled_is_read text (Ok trace) found bad events are spelled =
    same_events trace.items events found.0 are (ap (λ (bytes : List ℕ). bytes ++ []) (sym found.1 ∙ spelled))
spelled_is_read text (Err (BadEvent number)) found bad events are spelled =
    absurd (not_spelled bad.before events bad.rest bad.are_events are bad.some bad.bad ((sym bad.is_text ∙ spelled) ∙ sym (append-nil (events_text events))))
spelled_is_read text (Err NoMemory) found bad events are spelled = refl
