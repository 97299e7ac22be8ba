-- The line of an event: its words have no space and no line feed in them.
use Rattle.std.proofs.Common.{◌≡◌, ◌≢◌, ℕ, ◌<◌, ◌^◌, Bool, true, false, List, [], ◌∷◌, ◌++◌, refl, arith}
use Rattle.std.specs.Prelude.{nat_lt, codes}
use Rattle.std.specs.Fmt.{decimal}
use Rattle.std.specs.List.{AllByRecursion, join_with_byte}
use Rattle.std.proofs.lemmas.Bool.{and_parts}
use Rattle.std.proofs.lemmas.Bool.Decides.{nat_tests}
use Rattle.std.proofs.lemmas.List.Folds.{list_all-append}
use Rattle.vs_text.specs.Split.{lines_of, words_of}
use Rattle.vs_event.specs.declared.event.Event.{Event}
use Rattle.vs_event.specs.declared.event.Event.TheVariants as event
use Rattle.vs_event.specs.declared.event.Recorded.{Recorded}
use Rattle.vs_event.specs.declared.event.Recorded.TheVariants as recorded
use Rattle.vs_event.specs.declared.event.RestartBy.{RestartBy}
use Rattle.vs_event.specs.declared.event.RestartBy.TheVariants.{Line, Service}
use Rattle.vs_event.specs.Event.{IsEvent, IsRestartBy, event_words, event_line, kept_word, restart_words}
use Rattle.vs_event.specs.Recorded.{IsRecorded, recorded_words}
use Rattle.vs_event.proofs.Spaces.{is_above, decimal_above, first_part, words_of_joined}

abbrev ArePlain : List (List ℕ) → Type 0
ArePlain words = AllByRecursion (λ word. is_above 32 word ≡ true) words

one : (word : List ℕ) (n : ℕ) → is_above 32 word ≡ true → n < 2 ^ 64 → ArePlain (word ∷ decimal n ∷ [])
one word n plain fits = (plain, (decimal_above n fits, tt))

two : (word : List ℕ) (m n : ℕ) → is_above 32 word ≡ true → m < 2 ^ 64 → n < 2 ^ 64 → ArePlain (word ∷ decimal m ∷ decimal n ∷ [])
two word m n plain m-fits n-fits = (plain, (decimal_above m m-fits, (decimal_above n n-fits, tt)))

recorded_plain : (r : Recorded) → IsRecorded r → ArePlain (recorded_words r)
recorded_plain (recorded.Act n) is = one (codes "act") n refl (omega arith)
recorded_plain (recorded.Freeze m n) is = two (codes "freeze") m n refl (omega arith) (omega arith)
recorded_plain (recorded.Seal m n) is = two (codes "seal") m n refl (omega arith) (omega arith)
recorded_plain (recorded.Deliver m n) is = two (codes "deliver") m n refl (omega arith) (omega arith)
recorded_plain (recorded.Hear m n) is = two (codes "hear") m n refl (omega arith) (omega arith)
recorded_plain (recorded.Condemn m n) is = two (codes "condemn") m n refl (omega arith) (omega arith)
recorded_plain (recorded.Wipe m n) is = two (codes "wipe") m n refl (omega arith) (omega arith)
recorded_plain (recorded.Forget m n) is = two (codes "forget") m n refl (omega arith) (omega arith)
recorded_plain (recorded.Pin n) is = one (codes "pin") n refl (omega arith)

restart_plain : (by : RestartBy) → IsRestartBy by → ArePlain (restart_words by)
restart_plain (Line o) is = one (codes "line") o refl (omega arith)
restart_plain Service is = (refl, tt)

kept_plain : (k : Bool) → is_above 32 (kept_word k) ≡ true
kept_plain true = refl
kept_plain false = refl

event_plain : (e : Event) → IsEvent e → ArePlain (event_words e)
event_plain (event.Post m n) is = two (codes "post") m n refl (omega arith) (omega arith)
event_plain (event.Begin n) is = one (codes "begin") n refl (omega arith)
event_plain (event.Act n) is = one (codes "act") n refl (omega arith)
event_plain (event.End n) is = one (codes "end") n refl (omega arith)
event_plain (event.Take n) is = one (codes "take") n refl (omega arith)
event_plain (event.Cut n) is = one (codes "cut") n refl (omega arith)
event_plain (event.Start n) is = one (codes "start") n refl (omega arith)
event_plain (event.Haul o s d) is = (refl, (decimal_above o (omega arith), (decimal_above s (omega arith), (decimal_above d (omega arith), tt))))
event_plain (event.NotYet m n) is = two (codes "notyet") m n refl (omega arith) (omega arith)
event_plain (event.Freeze m n) is = two (codes "freeze") m n refl (omega arith) (omega arith)
event_plain (event.Chunk m n) is = two (codes "chunk") m n refl (omega arith) (omega arith)
event_plain (event.Seal m n) is = two (codes "seal") m n refl (omega arith) (omega arith)
event_plain (event.Last m n) is = two (codes "last") m n refl (omega arith) (omega arith)
event_plain (event.Abort m n) is = two (codes "abort") m n refl (omega arith) (omega arith)
event_plain (event.EndMove m n) is = two (codes "endmove") m n refl (omega arith) (omega arith)
event_plain (event.Deliver m n) is = two (codes "deliver") m n refl (omega arith) (omega arith)
event_plain (event.Hear m n) is = two (codes "hear") m n refl (omega arith) (omega arith)
event_plain (event.Close n) is = one (codes "close") n refl (omega arith)
event_plain (event.Ask m n) is = two (codes "ask") m n refl (omega arith) (omega arith)
event_plain (event.Condemn m n) is = two (codes "condemn") m n refl (omega arith) (omega arith)
event_plain (event.Wipe m n) is = two (codes "wipe") m n refl (omega arith) (omega arith)
event_plain (event.Forget m n) is = two (codes "forget") m n refl (omega arith) (omega arith)
event_plain (event.Pin n) is = one (codes "pin") n refl (omega arith)
event_plain (event.Plan n) is = one (codes "plan") n refl (omega arith)
event_plain (event.Stop n) is = one (codes "stop") n refl (omega arith)
event_plain (event.Fault s n r) is = (refl, (decimal_above s (omega arith), (decimal_above n is.1, recorded_plain r is.2)))
event_plain (event.Restart s k by) is = (refl, (decimal_above s (omega arith), (kept_plain k, restart_plain by is.1)))

words_again : (words : List (List ℕ)) → words ≢ [] → ArePlain words → words_of (join_with_byte 32 words) ≡ words
words_again [] some plain = absurd (some refl)
words_again (word ∷ words) some plain = words_of_joined word words plain

some_words : (e : Event) → event_words e ≢ []
some_words (event.Post m n) none = cc
some_words (event.Begin n) none = cc
some_words (event.Act n) none = cc
some_words (event.End n) none = cc
some_words (event.Take n) none = cc
some_words (event.Cut n) none = cc
some_words (event.Start n) none = cc
some_words (event.Haul a b c) none = cc
some_words (event.NotYet m n) none = cc
some_words (event.Freeze m n) none = cc
some_words (event.Chunk m n) none = cc
some_words (event.Seal m n) none = cc
some_words (event.Last m n) none = cc
some_words (event.Abort m n) none = cc
some_words (event.EndMove m n) none = cc
some_words (event.Deliver m n) none = cc
some_words (event.Hear m n) none = cc
some_words (event.Close n) none = cc
some_words (event.Ask m n) none = cc
some_words (event.Condemn m n) none = cc
some_words (event.Wipe m n) none = cc
some_words (event.Forget m n) none = cc
some_words (event.Pin n) none = cc
some_words (event.Plan n) none = cc
some_words (event.Stop n) none = cc
some_words (event.Fault a b c) none = cc
some_words (event.Restart a b c) none = cc

-- the line of an event has its words
pub words_of_line : (e : Event) → IsEvent e → words_of (event_line e) ≡ event_words e
words_of_line e is = words_again (event_words e) (some_words e) (event_plain e is)

lower : (bytes : List ℕ) → is_above 32 bytes ≡ true → is_above 10 bytes ≡ true
lower [] above = refl
lower (b ∷ bs) above =
    let parts = and_parts (nat_lt 32 b) (is_above 32 bs) above in
    let first : nat_lt 10 b ≡ true = grind (arith, nat_tests) in
    rw (first, lower bs parts.1) refl

line_above : (words : List (List ℕ)) → ArePlain words → is_above 10 (join_with_byte 32 words) ≡ true
line_above [] plain = refl
line_above (word ∷ []) plain = lower word plain.0
line_above (word ∷ next ∷ words) plain =
    rw (list_all-append, lower word plain.0, line_above (next ∷ words) plain.1) refl

-- a text that begins with the line of an event has it as its first line
pub first_event_line : (e : Event) (more : List ℕ) → IsEvent e → lines_of (event_line e ++ 10 ∷ more) ≡ event_line e ∷ lines_of more
first_event_line e more is = first_part 10 (event_line e) more (line_above (event_words e) (event_plain e is))
