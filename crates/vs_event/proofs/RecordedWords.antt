-- Events that a fault may interrupt, as events of few words.
use Rattle.std.proofs.Common.{◌≡◌, ◌≢◌, ℕ, List, Option, Some, None, refl, sym, ap, ◌∙◌, subst}
use Rattle.std.specs.Prelude.{MatchOption}
use Rattle.vs_event.specs.declared.event.Event.{Event}
use Rattle.vs_event.specs.declared.event.Event.TheVariants as event
use Rattle.vs_event.specs.declared.event.Recorded.{Recorded}
use Rattle.vs_event.specs.declared.event.Recorded.TheVariants.{Act, Freeze, Seal, Deliver, Hear, Condemn, Wipe, Forget, Pin}
use Rattle.vs_text.specs.Number.{Reads}
use Rattle.vs_event.specs.Event.{event_words}
use Rattle.vs_event.specs.Recorded.{IsRecorded, recorded_words, event_of}
use Rattle.vs_event.specs.Reading.{IsShort}
use Rattle.vs_event.proofs.Shapes.{short_same}

pub recorded_is_short : (r : Recorded) → IsRecorded r → IsShort (event_of r)
recorded_is_short (Act n) is = is
recorded_is_short (Freeze m n) is = is
recorded_is_short (Seal m n) is = is
recorded_is_short (Deliver m n) is = is
recorded_is_short (Hear m n) is = is
recorded_is_short (Condemn m n) is = is
recorded_is_short (Wipe m n) is = is
recorded_is_short (Forget m n) is = is
recorded_is_short (Pin n) is = is

short_is_recorded : (r : Recorded) → IsShort (event_of r) → IsRecorded r
short_is_recorded (Act n) is = is
short_is_recorded (Freeze m n) is = is
short_is_recorded (Seal m n) is = is
short_is_recorded (Deliver m n) is = is
short_is_recorded (Hear m n) is = is
short_is_recorded (Condemn m n) is = is
short_is_recorded (Wipe m n) is = is
short_is_recorded (Forget m n) is = is
short_is_recorded (Pin n) is = is

pub recorded_form : (r : Recorded) → event_words (event_of r) ≡ recorded_words r
recorded_form (Act n) = refl
recorded_form (Freeze m n) = refl
recorded_form (Seal m n) = refl
recorded_form (Deliver m n) = refl
recorded_form (Hear m n) = refl
recorded_form (Condemn m n) = refl
recorded_form (Wipe m n) = refl
recorded_form (Forget m n) = refl
recorded_form (Pin n) = refl

pub recorded_read : (words : List (List ℕ)) (e : Event) (r : Option Recorded) → IsShort e → words ≡ event_words e → MatchOption r ((x : Recorded) → e ≢ event_of x) (λ x. e ≡ event_of x) → Reads IsRecorded recorded_words words r
recorded_read words e None short form other = λ x range is.
    let both : event_words e ≡ event_words (event_of x) = (sym form ∙ is) ∙ sym (recorded_form x) in
    other x (short_same e (event_of x) short (recorded_is_short x range) both)
recorded_read words e (Some x) short form event =
    (short_is_recorded x (subst IsShort event short), (form ∙ ap event_words event) ∙ recorded_form x)

pub not_recorded : (words : List (List ℕ)) → ((e : Event) → IsShort e → words ≢ event_words e) → (x : Recorded) → IsRecorded x → words ≢ recorded_words x
not_recorded words none x range is =
    none (event_of x) (recorded_is_short x range) (is ∙ sym (recorded_form x))

-- the event that may be interrupted, back from the event
abbrev recorded_at : Event → Option Recorded
recorded_at (event.Act n) = Some (Act n)
recorded_at (event.Freeze m n) = Some (Freeze m n)
recorded_at (event.Seal m n) = Some (Seal m n)
recorded_at (event.Deliver m n) = Some (Deliver m n)
recorded_at (event.Hear m n) = Some (Hear m n)
recorded_at (event.Condemn m n) = Some (Condemn m n)
recorded_at (event.Wipe m n) = Some (Wipe m n)
recorded_at (event.Forget m n) = Some (Forget m n)
recorded_at (event.Pin n) = Some (Pin n)
recorded_at e = None

recorded_found : (r : Recorded) → recorded_at (event_of r) ≡ Some r
recorded_found (Act n) = refl
recorded_found (Freeze m n) = refl
recorded_found (Seal m n) = refl
recorded_found (Deliver m n) = refl
recorded_found (Hear m n) = refl
recorded_found (Condemn m n) = refl
recorded_found (Wipe m n) = refl
recorded_found (Forget m n) = refl
recorded_found (Pin n) = refl

-- no two have the same words
pub recorded_same : (x y : Recorded) → IsRecorded x → IsRecorded y → recorded_words x ≡ recorded_words y → x ≡ y
recorded_same x y x-range y-range is =
    let words : event_words (event_of x) ≡ event_words (event_of y) = (recorded_form x ∙ is) ∙ sym (recorded_form y) in
    let same = short_same (event_of x) (event_of y) (recorded_is_short x x-range) (recorded_is_short y y-range) words in
    let found : Some x ≡ Some y = sym (recorded_found x) ∙ (ap recorded_at same ∙ recorded_found y) in
    cc
