-- What events of few words are, and that no two have the same words.
use Rattle.std.proofs.Common.{◌≡◌, ◌≢◌, ℕ, ◌<◌, ◌≤◌, ◌^◌, ◌⊎◌, inl, inr, List, [], ◌∷◌, length, Option, Some, None, refl, sym, ap, ◌∙◌, subst, arith}
use Rattle.std.specs.Prelude.{codes, if◌then◌else◌}
use Rattle.std.specs.Str.{bytes_eq}
use Rattle.std.proofs.lemmas.Fmt.{decimal_injective}
use Rattle.std.specs.Fmt.{decimal}
use Rattle.vs_event.specs.declared.event.Event.{Event}
use Rattle.vs_event.specs.declared.event.Event.TheVariants as event
use Rattle.vs_event.specs.declared.verb.Single.{Single}
use Rattle.vs_event.specs.declared.verb.Single.TheVariants as single
use Rattle.vs_event.specs.declared.verb.Pair.{Pair}
use Rattle.vs_event.specs.declared.verb.Pair.TheVariants as pair
use Rattle.vs_text.specs.Number.{Reads}
use Rattle.vs_event.specs.Event.{IsEvent, event_words}
use Rattle.vs_event.specs.Reading.{single_word, single_event, pair_word, pair_event, ReadsSingle, ReadsPair, IsShort, IsLong}

-- an event of one number or two, as its kind and its numbers
abbrev pub IsSingle : Event → Type 0
IsSingle e = (verb : Single) × (n : ℕ) × (e ≡ single_event verb n)

abbrev pub IsPair : Event → Type 0
IsPair e = (verb : Pair) × (m : ℕ) × (n : ℕ) × (e ≡ pair_event verb m n)

pub short_shape : (e : Event) → IsShort e → IsSingle e ⊎ IsPair e
short_shape (event.Post m n) is = inr (pair.Post, m, n, refl)
short_shape (event.Begin n) is = inl (single.Begin, n, refl)
short_shape (event.Act n) is = inl (single.Act, n, refl)
short_shape (event.End n) is = inl (single.End, n, refl)
short_shape (event.Take n) is = inl (single.Take, n, refl)
short_shape (event.Cut n) is = inl (single.Cut, n, refl)
short_shape (event.Start n) is = inl (single.Start, n, refl)
short_shape (event.Haul a b c) is = absurd is
short_shape (event.NotYet m n) is = inr (pair.NotYet, m, n, refl)
short_shape (event.Freeze m n) is = inr (pair.Freeze, m, n, refl)
short_shape (event.Chunk m n) is = inr (pair.Chunk, m, n, refl)
short_shape (event.Seal m n) is = inr (pair.Seal, m, n, refl)
short_shape (event.Last m n) is = inr (pair.Last, m, n, refl)
short_shape (event.Abort m n) is = inr (pair.Abort, m, n, refl)
short_shape (event.EndMove m n) is = inr (pair.EndMove, m, n, refl)
short_shape (event.Deliver m n) is = inr (pair.Deliver, m, n, refl)
short_shape (event.Hear m n) is = inr (pair.Hear, m, n, refl)
short_shape (event.Close n) is = inl (single.Close, n, refl)
short_shape (event.Ask m n) is = inr (pair.Ask, m, n, refl)
short_shape (event.Condemn m n) is = inr (pair.Condemn, m, n, refl)
short_shape (event.Wipe m n) is = inr (pair.Wipe, m, n, refl)
short_shape (event.Forget m n) is = inr (pair.Forget, m, n, refl)
short_shape (event.Pin n) is = inl (single.Pin, n, refl)
short_shape (event.Plan n) is = inl (single.Plan, n, refl)
short_shape (event.Stop n) is = inl (single.Stop, n, refl)
short_shape (event.Fault a b c) is = absurd is
short_shape (event.Restart a b c) is = absurd is

-- what is read of few words is an event
pub short_is_event : (e : Event) → IsShort e → IsEvent e
short_is_event (event.Post m n) is = is
short_is_event (event.Begin n) is = is
short_is_event (event.Act n) is = is
short_is_event (event.End n) is = is
short_is_event (event.Take n) is = is
short_is_event (event.Cut n) is = is
short_is_event (event.Start n) is = is
short_is_event (event.Haul a b c) is = absurd is
short_is_event (event.NotYet m n) is = is
short_is_event (event.Freeze m n) is = is
short_is_event (event.Chunk m n) is = is
short_is_event (event.Seal m n) is = is
short_is_event (event.Last m n) is = is
short_is_event (event.Abort m n) is = is
short_is_event (event.EndMove m n) is = is
short_is_event (event.Deliver m n) is = is
short_is_event (event.Hear m n) is = is
short_is_event (event.Close n) is = is
short_is_event (event.Ask m n) is = is
short_is_event (event.Condemn m n) is = is
short_is_event (event.Wipe m n) is = is
short_is_event (event.Forget m n) is = is
short_is_event (event.Pin n) is = is
short_is_event (event.Plan n) is = is
short_is_event (event.Stop n) is = is
short_is_event (event.Fault a b c) is = absurd is
short_is_event (event.Restart a b c) is = absurd is

pub short_or_long : (e : Event) → IsEvent e → IsShort e ⊎ IsLong e
short_or_long (event.Post m n) is = inl is
short_or_long (event.Begin n) is = inl is
short_or_long (event.Act n) is = inl is
short_or_long (event.End n) is = inl is
short_or_long (event.Take n) is = inl is
short_or_long (event.Cut n) is = inl is
short_or_long (event.Start n) is = inl is
short_or_long (event.Haul a b c) is = inr is
short_or_long (event.NotYet m n) is = inl is
short_or_long (event.Freeze m n) is = inl is
short_or_long (event.Chunk m n) is = inl is
short_or_long (event.Seal m n) is = inl is
short_or_long (event.Last m n) is = inl is
short_or_long (event.Abort m n) is = inl is
short_or_long (event.EndMove m n) is = inl is
short_or_long (event.Deliver m n) is = inl is
short_or_long (event.Hear m n) is = inl is
short_or_long (event.Close n) is = inl is
short_or_long (event.Ask m n) is = inl is
short_or_long (event.Condemn m n) is = inl is
short_or_long (event.Wipe m n) is = inl is
short_or_long (event.Forget m n) is = inl is
short_or_long (event.Pin n) is = inl is
short_or_long (event.Plan n) is = inl is
short_or_long (event.Stop n) is = inl is
short_or_long (event.Fault a b c) is = inr is
short_or_long (event.Restart a b c) is = inr is

single_words : (verb : Single) (n : ℕ) → event_words (single_event verb n) ≡ single_word verb ∷ decimal n ∷ []
single_words single.Begin n = refl
single_words single.Act n = refl
single_words single.End n = refl
single_words single.Take n = refl
single_words single.Cut n = refl
single_words single.Start n = refl
single_words single.Close n = refl
single_words single.Pin n = refl
single_words single.Plan n = refl
single_words single.Stop n = refl

single_is_short : (verb : Single) (n : ℕ) → IsEvent (single_event verb n) → IsShort (single_event verb n)
single_is_short single.Begin n is = is
single_is_short single.Act n is = is
single_is_short single.End n is = is
single_is_short single.Take n is = is
single_is_short single.Cut n is = is
single_is_short single.Start n is = is
single_is_short single.Close n is = is
single_is_short single.Pin n is = is
single_is_short single.Plan n is = is
single_is_short single.Stop n is = is

pair_words : (verb : Pair) (m n : ℕ) → event_words (pair_event verb m n) ≡ pair_word verb ∷ decimal m ∷ decimal n ∷ []
pair_words pair.Post m n = refl
pair_words pair.NotYet m n = refl
pair_words pair.Freeze m n = refl
pair_words pair.Chunk m n = refl
pair_words pair.Seal m n = refl
pair_words pair.Last m n = refl
pair_words pair.Abort m n = refl
pair_words pair.EndMove m n = refl
pair_words pair.Deliver m n = refl
pair_words pair.Hear m n = refl
pair_words pair.Ask m n = refl
pair_words pair.Condemn m n = refl
pair_words pair.Wipe m n = refl
pair_words pair.Forget m n = refl

pair_is_short : (verb : Pair) (m n : ℕ) → IsEvent (pair_event verb m n) → IsShort (pair_event verb m n)
pair_is_short pair.Post m n is = is
pair_is_short pair.NotYet m n is = is
pair_is_short pair.Freeze m n is = is
pair_is_short pair.Chunk m n is = is
pair_is_short pair.Seal m n is = is
pair_is_short pair.Last m n is = is
pair_is_short pair.Abort m n is = is
pair_is_short pair.EndMove m n is = is
pair_is_short pair.Deliver m n is = is
pair_is_short pair.Hear m n is = is
pair_is_short pair.Ask m n is = is
pair_is_short pair.Condemn m n is = is
pair_is_short pair.Wipe m n is = is
pair_is_short pair.Forget m n is = is

-- a first word names one kind
abbrev single_at : List ℕ → Option Single
single_at word =
    if bytes_eq word (codes "begin") then Some single.Begin
    else (if bytes_eq word (codes "act") then Some single.Act
    else (if bytes_eq word (codes "end") then Some single.End
    else (if bytes_eq word (codes "take") then Some single.Take
    else (if bytes_eq word (codes "cut") then Some single.Cut
    else (if bytes_eq word (codes "start") then Some single.Start
    else (if bytes_eq word (codes "close") then Some single.Close
    else (if bytes_eq word (codes "pin") then Some single.Pin
    else (if bytes_eq word (codes "plan") then Some single.Plan
    else (if bytes_eq word (codes "stop") then Some single.Stop
    else None)))))))))

single_found : (verb : Single) → single_at (single_word verb) ≡ Some verb
single_found single.Begin = refl
single_found single.Act = refl
single_found single.End = refl
single_found single.Take = refl
single_found single.Cut = refl
single_found single.Start = refl
single_found single.Close = refl
single_found single.Pin = refl
single_found single.Plan = refl
single_found single.Stop = refl

pub single_same : (x y : Single) → single_word x ≡ single_word y → x ≡ y
single_same x y e = let found : Some x ≡ Some y = sym (single_found x) ∙ (ap single_at e ∙ single_found y) in cc

abbrev pair_at : List ℕ → Option Pair
pair_at word =
    if bytes_eq word (codes "post") then Some pair.Post
    else (if bytes_eq word (codes "notyet") then Some pair.NotYet
    else (if bytes_eq word (codes "freeze") then Some pair.Freeze
    else (if bytes_eq word (codes "chunk") then Some pair.Chunk
    else (if bytes_eq word (codes "seal") then Some pair.Seal
    else (if bytes_eq word (codes "last") then Some pair.Last
    else (if bytes_eq word (codes "abort") then Some pair.Abort
    else (if bytes_eq word (codes "endmove") then Some pair.EndMove
    else (if bytes_eq word (codes "deliver") then Some pair.Deliver
    else (if bytes_eq word (codes "hear") then Some pair.Hear
    else (if bytes_eq word (codes "ask") then Some pair.Ask
    else (if bytes_eq word (codes "condemn") then Some pair.Condemn
    else (if bytes_eq word (codes "wipe") then Some pair.Wipe
    else (if bytes_eq word (codes "forget") then Some pair.Forget
    else None)))))))))))))

pair_found : (verb : Pair) → pair_at (pair_word verb) ≡ Some verb
pair_found pair.Post = refl
pair_found pair.NotYet = refl
pair_found pair.Freeze = refl
pair_found pair.Chunk = refl
pair_found pair.Seal = refl
pair_found pair.Last = refl
pair_found pair.Abort = refl
pair_found pair.EndMove = refl
pair_found pair.Deliver = refl
pair_found pair.Hear = refl
pair_found pair.Ask = refl
pair_found pair.Condemn = refl
pair_found pair.Wipe = refl
pair_found pair.Forget = refl

pub pair_same : (x y : Pair) → pair_word x ≡ pair_word y → x ≡ y
pair_same x y e = let found : Some x ≡ Some y = sym (pair_found x) ∙ (ap pair_at e ∙ pair_found y) in cc

-- the words of an event, where its kind is known

single_form : (e : Event) (verb : Single) (n : ℕ) → e ≡ single_event verb n → event_words e ≡ single_word verb ∷ decimal n ∷ []
single_form e verb n is = ap event_words is ∙ single_words verb n

pair_form : (e : Event) (verb : Pair) (m n : ℕ) → e ≡ pair_event verb m n → event_words e ≡ pair_word verb ∷ decimal m ∷ decimal n ∷ []
pair_form e verb m n is = ap event_words is ∙ pair_words verb m n

-- two words

pub no_single : (word a : List ℕ) → ((v : Single) → word ≢ single_word v) → (e : Event) → IsShort e → word ∷ a ∷ [] ≢ event_words e
no_single word a none e short is =
    elim (short_shape e short) [
      | inl s ↦ (let form = single_form e s.0 s.1 s.2 in none s.0 cc)
      | inr p ↦ (let form = pair_form e p.0 p.1 p.2 p.3 in cc)
    ]

pub single_read : (verb : Single) (word a : List ℕ) (r : Option Event) → word ≡ single_word verb → ReadsSingle verb a r → Reads IsShort event_words (word ∷ a ∷ []) r
single_read verb word a None named reads = λ e short is.
    elim (short_shape e short) [
      | inl s ↦
          let form = single_form e s.0 s.1 s.2 in
          let heads : single_word s.0 ≡ single_word verb = cc in
          let same : s.0 ≡ verb = single_same s.0 verb heads in
          let event : e ≡ single_event verb s.1 = s.2 ∙ ap (λ v. single_event v s.1) same in
          reads s.1 (subst IsEvent event (short_is_event e short)) cc
      | inr p ↦ (let form = pair_form e p.0 p.1 p.2 p.3 in cc)
    ]
single_read verb word a (Some e) named reads =
    let form = single_form e verb reads.0 reads.1 in
    (subst IsShort (sym reads.1) (single_is_short verb reads.0 reads.2), cc)

-- three words

pub no_pair : (word a b : List ℕ) → ((v : Pair) → word ≢ pair_word v) → (e : Event) → IsShort e → word ∷ a ∷ b ∷ [] ≢ event_words e
no_pair word a b none e short is =
    elim (short_shape e short) [
      | inl s ↦ (let form = single_form e s.0 s.1 s.2 in cc)
      | inr p ↦ (let form = pair_form e p.0 p.1 p.2 p.3 in none p.0 cc)
    ]

pub pair_read : (verb : Pair) (word a b : List ℕ) (r : Option Event) → word ≡ pair_word verb → ReadsPair verb a b r → Reads IsShort event_words (word ∷ a ∷ b ∷ []) r
pair_read verb word a b None named reads = λ e short is.
    elim (short_shape e short) [
      | inl s ↦ (let form = single_form e s.0 s.1 s.2 in cc)
      | inr p ↦
          let form = pair_form e p.0 p.1 p.2 p.3 in
          let heads : pair_word p.0 ≡ pair_word verb = cc in
          let same : p.0 ≡ verb = pair_same p.0 verb heads in
          let event : e ≡ pair_event verb p.1 p.2 = p.3 ∙ ap (λ v. pair_event v p.1 p.2) same in
          reads p.1 p.2 (subst IsEvent event (short_is_event e short)) cc
    ]
pair_read verb word a b (Some e) named reads =
    let form = pair_form e verb reads.0 reads.1 reads.2 in
    (subst IsShort (sym reads.2) (pair_is_short verb reads.0 reads.1 reads.3), cc)

-- more words

pub no_short : (word a b : List ℕ) (more : List (List ℕ)) → more ≢ [] → (e : Event) → IsShort e → word ∷ a ∷ b ∷ more ≢ event_words e
no_short word a b more some e short is =
    elim (short_shape e short) [
      | inl s ↦ (let form = single_form e s.0 s.1 s.2 in cc)
      | inr p ↦ (let form = pair_form e p.0 p.1 p.2 p.3 in some cc)
    ]

-- the numbers of an event fit, so their digits tell them apart
single_fits : (verb : Single) (n : ℕ) → IsEvent (single_event verb n) → n < 2 ^ 64
single_fits single.Begin n is = omega arith
single_fits single.Act n is = omega arith
single_fits single.End n is = omega arith
single_fits single.Take n is = omega arith
single_fits single.Cut n is = omega arith
single_fits single.Start n is = omega arith
single_fits single.Close n is = omega arith
single_fits single.Pin n is = omega arith
single_fits single.Plan n is = omega arith
single_fits single.Stop n is = omega arith

pair_fits : (verb : Pair) (m n : ℕ) → IsEvent (pair_event verb m n) → (m < 2 ^ 64) × (n < 2 ^ 64)
pair_fits pair.Post m n is = (omega arith, omega arith)
pair_fits pair.NotYet m n is = (omega arith, omega arith)
pair_fits pair.Freeze m n is = (omega arith, omega arith)
pair_fits pair.Chunk m n is = (omega arith, omega arith)
pair_fits pair.Seal m n is = (omega arith, omega arith)
pair_fits pair.Last m n is = (omega arith, omega arith)
pair_fits pair.Abort m n is = (omega arith, omega arith)
pair_fits pair.EndMove m n is = (omega arith, omega arith)
pair_fits pair.Deliver m n is = (omega arith, omega arith)
pair_fits pair.Hear m n is = (omega arith, omega arith)
pair_fits pair.Ask m n is = (omega arith, omega arith)
pair_fits pair.Condemn m n is = (omega arith, omega arith)
pair_fits pair.Wipe m n is = (omega arith, omega arith)
pair_fits pair.Forget m n is = (omega arith, omega arith)

two_singles : (x y : Event) → IsShort x → IsShort y → event_words x ≡ event_words y → IsSingle x → IsSingle y → x ≡ y
two_singles x y x-short y-short is s t =
    let x-form = single_form x s.0 s.1 s.2 in
    let y-form = single_form y t.0 t.1 t.2 in
    let heads : single_word s.0 ≡ single_word t.0 = cc in
    let kind : s.0 ≡ t.0 = single_same s.0 t.0 heads in
    let digits : decimal s.1 ≡ decimal t.1 = cc in
    let x-fits = single_fits s.0 s.1 (subst IsEvent s.2 (short_is_event x x-short)) in
    let y-fits = single_fits t.0 t.1 (subst IsEvent t.2 (short_is_event y y-short)) in
    let number : s.1 ≡ t.1 = decimal_injective s.1 t.1 x-fits y-fits digits in
    cc

two_pairs : (x y : Event) → IsShort x → IsShort y → event_words x ≡ event_words y → IsPair x → IsPair y → x ≡ y
two_pairs x y x-short y-short is s t =
    let x-form = pair_form x s.0 s.1 s.2 s.3 in
    let y-form = pair_form y t.0 t.1 t.2 t.3 in
    let heads : pair_word s.0 ≡ pair_word t.0 = cc in
    let kind : s.0 ≡ t.0 = pair_same s.0 t.0 heads in
    let first : decimal s.1 ≡ decimal t.1 = cc in
    let last : decimal s.2 ≡ decimal t.2 = cc in
    let x-fits = pair_fits s.0 s.1 s.2 (subst IsEvent s.3 (short_is_event x x-short)) in
    let y-fits = pair_fits t.0 t.1 t.2 (subst IsEvent t.3 (short_is_event y y-short)) in
    let same_first : s.1 ≡ t.1 = decimal_injective s.1 t.1 x-fits.0 y-fits.0 first in
    let same_last : s.2 ≡ t.2 = decimal_injective s.2 t.2 x-fits.1 y-fits.1 last in
    cc

single_or_pair : (x y : Event) → event_words x ≡ event_words y → IsSingle x → IsPair y → ⊥
single_or_pair x y is s t =
    let x-form = single_form x s.0 s.1 s.2 in
    let y-form = pair_form y t.0 t.1 t.2 t.3 in
    cc

-- no two events of few words have the same words
pub short_same : (x y : Event) → IsShort x → IsShort y → event_words x ≡ event_words y → x ≡ y
short_same x y x-short y-short is =
    elim (short_shape x x-short) [
      | inl s ↦ elim (short_shape y y-short) [
        | inl t ↦ two_singles x y x-short y-short is s t
        | inr t ↦ absurd (single_or_pair x y is s t)
      ]
      | inr s ↦ elim (short_shape y y-short) [
        | inl t ↦ absurd (single_or_pair y x (sym is) t s)
        | inr t ↦ two_pairs x y x-short y-short is s t
      ]
    ]

pub at_most_three : (e : Event) → IsShort e → length (event_words e) ≤ 3
at_most_three e short =
    elim (short_shape e short) [
      | inl s ↦ omega (arith, ap length (single_form e s.0 s.1 s.2))
      | inr p ↦ omega (arith, ap length (pair_form e p.0 p.1 p.2 p.3))
    ]
