-- Events of many words: hauls, faults and restarts.
use Rattle.std.proofs.Common.{◌≡◌, ℕ, ◌≤◌, ◌⊎◌, inl, inr, Bool, true, false, List, ◌∷◌, length, Option, Some, None, refl, sym, ap, ◌∙◌, subst, arith}
use Rattle.std.specs.Prelude.{codes}
use Rattle.std.specs.Fmt.{decimal}
use Rattle.std.specs.Str.{bytes_eq}
use Rattle.std.proofs.lemmas.Fmt.{decimal_injective}
use Rattle.vs_event.specs.declared.event.Event.{Event}
use Rattle.vs_event.specs.declared.event.Event.TheVariants as event
use Rattle.vs_event.specs.declared.event.Recorded.{Recorded}
use Rattle.vs_event.specs.declared.event.Recorded.TheVariants as recorded
use Rattle.vs_event.specs.declared.event.RestartBy.{RestartBy}
use Rattle.vs_event.specs.declared.event.RestartBy.TheVariants.{Line, Service}
use Rattle.vs_text.specs.Number.{Reads}
use Rattle.vs_event.specs.Event.{IsEvent, IsRestartBy, event_words, kept_word, restart_words}
use Rattle.vs_event.specs.Recorded.{recorded_words}
use Rattle.vs_event.specs.Reading.{IsLong, IsShort, ReadsFault, ReadsRestart}
use Rattle.vs_event.proofs.RecordedWords.{recorded_same}
use Rattle.vs_event.proofs.Shapes.{short_or_long, short_same, at_most_three}

abbrev IsHaul : Event → Type 0
IsHaul e = (o : ℕ) × (s : ℕ) × (d : ℕ) × (e ≡ event.Haul o s d)

abbrev IsFault : Event → Type 0
IsFault e = (s : ℕ) × (n : ℕ) × (r : Recorded) × (e ≡ event.Fault s n r)

abbrev IsRestart : Event → Type 0
IsRestart e = (s : ℕ) × (k : Bool) × (by : RestartBy) × (e ≡ event.Restart s k by)

long_shape : (e : Event) → IsLong e → IsHaul e ⊎ (IsFault e ⊎ IsRestart e)
long_shape (event.Post m n) is = absurd is
long_shape (event.Begin n) is = absurd is
long_shape (event.Act n) is = absurd is
long_shape (event.End n) is = absurd is
long_shape (event.Take n) is = absurd is
long_shape (event.Cut n) is = absurd is
long_shape (event.Start n) is = absurd is
long_shape (event.Haul o s d) is = inl (o, s, d, refl)
long_shape (event.NotYet m n) is = absurd is
long_shape (event.Freeze m n) is = absurd is
long_shape (event.Chunk m n) is = absurd is
long_shape (event.Seal m n) is = absurd is
long_shape (event.Last m n) is = absurd is
long_shape (event.Abort m n) is = absurd is
long_shape (event.EndMove m n) is = absurd is
long_shape (event.Deliver m n) is = absurd is
long_shape (event.Hear m n) is = absurd is
long_shape (event.Close n) is = absurd is
long_shape (event.Ask m n) is = absurd is
long_shape (event.Condemn m n) is = absurd is
long_shape (event.Wipe m n) is = absurd is
long_shape (event.Forget m n) is = absurd is
long_shape (event.Pin n) is = absurd is
long_shape (event.Plan n) is = absurd is
long_shape (event.Stop n) is = absurd is
long_shape (event.Fault s n r) is = inr (inl (s, n, r, refl))
long_shape (event.Restart s k by) is = inr (inr (s, k, by, refl))

pub long_is_event : (e : Event) → IsLong e → IsEvent e
long_is_event (event.Post m n) is = absurd is
long_is_event (event.Begin n) is = absurd is
long_is_event (event.Act n) is = absurd is
long_is_event (event.End n) is = absurd is
long_is_event (event.Take n) is = absurd is
long_is_event (event.Cut n) is = absurd is
long_is_event (event.Start n) is = absurd is
long_is_event (event.Haul a b c) is = is
long_is_event (event.NotYet m n) is = absurd is
long_is_event (event.Freeze m n) is = absurd is
long_is_event (event.Chunk m n) is = absurd is
long_is_event (event.Seal m n) is = absurd is
long_is_event (event.Last m n) is = absurd is
long_is_event (event.Abort m n) is = absurd is
long_is_event (event.EndMove m n) is = absurd is
long_is_event (event.Deliver m n) is = absurd is
long_is_event (event.Hear m n) is = absurd is
long_is_event (event.Close n) is = absurd is
long_is_event (event.Ask m n) is = absurd is
long_is_event (event.Condemn m n) is = absurd is
long_is_event (event.Wipe m n) is = absurd is
long_is_event (event.Forget m n) is = absurd is
long_is_event (event.Pin n) is = absurd is
long_is_event (event.Plan n) is = absurd is
long_is_event (event.Stop n) is = absurd is
long_is_event (event.Fault a b c) is = is
long_is_event (event.Restart a b c) is = is

pub fault_read : (word : List ℕ) (fields : List (List ℕ)) (r : Option Event) → word ≡ codes "fault" → ReadsFault fields r → Reads IsLong event_words (word ∷ fields) r
fault_read word fields None named reads = λ e long is.
    elim (long_shape e long) [
      | inl h ↦ (let form = ap event_words h.3 in cc)
      | inr other ↦ elim other [
        | inl f ↦ (let form = ap event_words f.3 in reads f.0 f.1 f.2 (subst IsEvent f.3 (long_is_event e long)) cc)
        | inr r ↦ (let form = ap event_words r.3 in cc)
      ]
    ]
fault_read word fields (Some e) named reads =
    let form = ap event_words reads.3 in
    let words : word ∷ fields ≡ event_words e = cc in
    (subst IsLong (sym reads.3) reads.4, words)

pub restart_read : (word : List ℕ) (fields : List (List ℕ)) (r : Option Event) → word ≡ codes "restart" → ReadsRestart fields r → Reads IsLong event_words (word ∷ fields) r
restart_read word fields None named reads = λ e long is.
    elim (long_shape e long) [
      | inl h ↦ (let form = ap event_words h.3 in cc)
      | inr other ↦ elim other [
        | inl f ↦ (let form = ap event_words f.3 in cc)
        | inr r ↦ (let form = ap event_words r.3 in reads r.0 r.1 r.2 (subst IsEvent r.3 (long_is_event e long)) cc)
      ]
    ]
restart_read word fields (Some e) named reads =
    let form = ap event_words reads.3 in
    let words : word ∷ fields ≡ event_words e = cc in
    (subst IsLong (sym reads.3) reads.4, words)

-- no two events have the same words

kept_found : (k : Bool) → bytes_eq (kept_word k) (codes "kept") ≡ k
kept_found true = refl
kept_found false = refl

kept_same : (x y : Bool) → kept_word x ≡ kept_word y → x ≡ y
kept_same x y is = sym (kept_found x) ∙ (ap (λ (word : List ℕ). bytes_eq word (codes "kept")) is ∙ kept_found y)

restart_same : (x y : RestartBy) → IsRestartBy x → IsRestartBy y → restart_words x ≡ restart_words y → x ≡ y
restart_same (Line o) (Line p) x-range y-range is =
    let digits : decimal o ≡ decimal p = cc in
    ap Line (decimal_injective o p (omega arith) (omega arith) digits)
restart_same (Line o) Service x-range y-range is = cc
restart_same Service (Line p) x-range y-range is = cc
restart_same Service Service x-range y-range is = refl

two_hauls : (x y : Event) → IsEvent x → IsEvent y → event_words x ≡ event_words y → IsHaul x → IsHaul y → x ≡ y
two_hauls x y x-is y-is is f g =
    let x-form = ap event_words f.3 in
    let y-form = ap event_words g.3 in
    let x-range = subst IsEvent f.3 x-is in
    let y-range = subst IsEvent g.3 y-is in
    let first : decimal f.0 ≡ decimal g.0 = cc in
    let second : decimal f.1 ≡ decimal g.1 = cc in
    let third : decimal f.2 ≡ decimal g.2 = cc in
    let same_first : f.0 ≡ g.0 = decimal_injective f.0 g.0 (omega arith) (omega arith) first in
    let same_second : f.1 ≡ g.1 = decimal_injective f.1 g.1 (omega arith) (omega arith) second in
    let same_third : f.2 ≡ g.2 = decimal_injective f.2 g.2 (omega arith) (omega arith) third in
    cc

two_faults : (x y : Event) → IsEvent x → IsEvent y → event_words x ≡ event_words y → IsFault x → IsFault y → x ≡ y
two_faults x y x-is y-is is f g =
    let x-form = ap event_words f.3 in
    let y-form = ap event_words g.3 in
    let x-range = subst IsEvent f.3 x-is in
    let y-range = subst IsEvent g.3 y-is in
    let first : decimal f.0 ≡ decimal g.0 = cc in
    let second : decimal f.1 ≡ decimal g.1 = cc in
    let third : recorded_words f.2 ≡ recorded_words g.2 = cc in
    let same_first : f.0 ≡ g.0 = decimal_injective f.0 g.0 (omega arith) (omega arith) first in
    let same_second : f.1 ≡ g.1 = decimal_injective f.1 g.1 x-range.1 y-range.1 second in
    let same_third : f.2 ≡ g.2 = recorded_same f.2 g.2 x-range.2 y-range.2 third in
    cc

two_restarts : (x y : Event) → IsEvent x → IsEvent y → event_words x ≡ event_words y → IsRestart x → IsRestart y → x ≡ y
two_restarts x y x-is y-is is f g =
    let x-form = ap event_words f.3 in
    let y-form = ap event_words g.3 in
    let x-range = subst IsEvent f.3 x-is in
    let y-range = subst IsEvent g.3 y-is in
    let first : decimal f.0 ≡ decimal g.0 = cc in
    let second : kept_word f.1 ≡ kept_word g.1 = cc in
    let third : restart_words f.2 ≡ restart_words g.2 = cc in
    let same_first : f.0 ≡ g.0 = decimal_injective f.0 g.0 (omega arith) (omega arith) first in
    let same_second : f.1 ≡ g.1 = kept_same f.1 g.1 second in
    let same_third : f.2 ≡ g.2 = restart_same f.2 g.2 x-range.1 y-range.1 third in
    cc

haul_or_fault : (x y : Event) → event_words x ≡ event_words y → IsHaul x → IsFault y → ⊥
haul_or_fault x y is f g = let x-form = ap event_words f.3 in let y-form = ap event_words g.3 in cc

haul_or_restart : (x y : Event) → event_words x ≡ event_words y → IsHaul x → IsRestart y → ⊥
haul_or_restart x y is f g = let x-form = ap event_words f.3 in let y-form = ap event_words g.3 in cc

fault_or_restart : (x y : Event) → event_words x ≡ event_words y → IsFault x → IsRestart y → ⊥
fault_or_restart x y is f g = let x-form = ap event_words f.3 in let y-form = ap event_words g.3 in cc

long_same : (x y : Event) → IsLong x → IsLong y → event_words x ≡ event_words y → x ≡ y
long_same x y x-long y-long is =
    let x-is = long_is_event x x-long in
    let y-is = long_is_event y y-long in
    elim (long_shape x x-long) [
      | inl f ↦ elim (long_shape y y-long) [
        | inl g ↦ two_hauls x y x-is y-is is f g
        | inr other ↦ elim other [
          | inl g ↦ absurd (haul_or_fault x y is f g)
          | inr g ↦ absurd (haul_or_restart x y is f g)
        ]
      ]
      | inr some ↦ elim some [
        | inl f ↦ elim (long_shape y y-long) [
          | inl g ↦ absurd (haul_or_fault y x (sym is) g f)
          | inr other ↦ elim other [
            | inl g ↦ two_faults x y x-is y-is is f g
            | inr g ↦ absurd (fault_or_restart x y is f g)
          ]
        ]
        | inr f ↦ elim (long_shape y y-long) [
          | inl g ↦ absurd (haul_or_restart y x (sym is) g f)
          | inr other ↦ elim other [
            | inl g ↦ absurd (fault_or_restart y x (sym is) g f)
            | inr g ↦ two_restarts x y x-is y-is is f g
          ]
        ]
      ]
    ]

-- a long event has four words or more

some_recorded : (r : Recorded) → 1 ≤ length (recorded_words r)
some_recorded (recorded.Act n) = omega arith
some_recorded (recorded.Freeze m n) = omega arith
some_recorded (recorded.Seal m n) = omega arith
some_recorded (recorded.Deliver m n) = omega arith
some_recorded (recorded.Hear m n) = omega arith
some_recorded (recorded.Condemn m n) = omega arith
some_recorded (recorded.Wipe m n) = omega arith
some_recorded (recorded.Forget m n) = omega arith
some_recorded (recorded.Pin n) = omega arith

some_restart : (by : RestartBy) → 1 ≤ length (restart_words by)
some_restart (Line o) = omega arith
some_restart Service = omega arith

at_least_four : (e : Event) → IsLong e → 4 ≤ length (event_words e)
at_least_four e long =
    elim (long_shape e long) [
      | inl f ↦ (let form = ap event_words f.3 in omega (arith, ap length form))
      | inr some ↦ elim some [
        | inl f ↦ omega (arith, ap length (ap event_words f.3), some_recorded f.2)
        | inr f ↦ omega (arith, ap length (ap event_words f.3), some_restart f.2)
      ]
    ]

long_or_short : (x y : Event) → IsLong x → IsShort y → event_words x ≡ event_words y → ⊥
long_or_short x y long short is = omega (arith, at_least_four x long, at_most_three y short, ap length is)

pub event_same : (x y : Event) → IsEvent x → IsEvent y → event_words x ≡ event_words y → x ≡ y
event_same x y x-is y-is is =
    elim (short_or_long x x-is) [
      | inl x-short ↦ elim (short_or_long y y-is) [
        | inl y-short ↦ short_same x y x-short y-short is
        | inr y-long ↦ absurd (long_or_short y x y-long x-short (sym is))
      ]
      | inr x-long ↦ elim (short_or_long y y-is) [
        | inl y-short ↦ absurd (long_or_short x y x-long y-short is)
        | inr y-long ↦ long_same x y x-long y-long is
      ]
    ]
