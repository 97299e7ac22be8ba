-- How events are read: by the number of their words, and then by the first.
use Rattle.std.specs.Prelude.{ℕ, ◌≡◌, ◌≢◌, Bool, List, [], ◌∷◌, codes, Option, MatchOption}
use Rattle.std.specs.Fmt.{decimal}
use Rattle.vs_event.specs.declared.event.Event.{Event}
use Rattle.vs_event.specs.declared.event.Event.TheVariants as event
use Rattle.vs_event.specs.declared.verb.Single.{Single}
use Rattle.vs_event.specs.declared.verb.Single.TheVariants as single
use Rattle.vs_event.specs.declared.verb.Pair.{Pair}
use Rattle.vs_event.specs.declared.verb.Pair.TheVariants as pair
use Rattle.vs_event.specs.declared.event.Recorded.{Recorded}
use Rattle.vs_event.specs.declared.event.RestartBy.{RestartBy}
use Rattle.vs_event.specs.Event.{IsEvent, kept_word, restart_words}
use Rattle.vs_event.specs.Recorded.{recorded_words}

-- the first word of an event of one number
abbrev pub single_word : Single → List ℕ
single_word single.Begin = codes "begin"
single_word single.Act = codes "act"
single_word single.End = codes "end"
single_word single.Take = codes "take"
single_word single.Cut = codes "cut"
single_word single.Start = codes "start"
single_word single.Close = codes "close"
single_word single.Pin = codes "pin"
single_word single.Plan = codes "plan"
single_word single.Stop = codes "stop"

-- the event of one number
abbrev pub single_event : Single → ℕ → Event
single_event single.Begin c = event.Begin c
single_event single.Act c = event.Act c
single_event single.End c = event.End c
single_event single.Take c = event.Take c
single_event single.Cut o = event.Cut o
single_event single.Start o = event.Start o
single_event single.Close o = event.Close o
single_event single.Pin o = event.Pin o
single_event single.Plan o = event.Plan o
single_event single.Stop o = event.Stop o

-- the first word of an event of two numbers
abbrev pub pair_word : Pair → List ℕ
pair_word pair.Post = codes "post"
pair_word pair.NotYet = codes "notyet"
pair_word pair.Freeze = codes "freeze"
pair_word pair.Chunk = codes "chunk"
pair_word pair.Seal = codes "seal"
pair_word pair.Last = codes "last"
pair_word pair.Abort = codes "abort"
pair_word pair.EndMove = codes "endmove"
pair_word pair.Deliver = codes "deliver"
pair_word pair.Hear = codes "hear"
pair_word pair.Ask = codes "ask"
pair_word pair.Condemn = codes "condemn"
pair_word pair.Wipe = codes "wipe"
pair_word pair.Forget = codes "forget"

-- the event of two numbers
abbrev pub pair_event : Pair → ℕ → ℕ → Event
pair_event pair.Post c s = event.Post c s
pair_event pair.NotYet s b = event.NotYet s b
pair_event pair.Freeze s b = event.Freeze s b
pair_event pair.Chunk s b = event.Chunk s b
pair_event pair.Seal s b = event.Seal s b
pair_event pair.Last s b = event.Last s b
pair_event pair.Abort s b = event.Abort s b
pair_event pair.EndMove s b = event.EndMove s b
pair_event pair.Deliver x y = event.Deliver x y
pair_event pair.Hear x y = event.Hear x y
pair_event pair.Ask s b = event.Ask s b
pair_event pair.Condemn s b = event.Condemn s b
pair_event pair.Wipe s b = event.Wipe s b
pair_event pair.Forget s b = event.Forget s b

-- a first word was looked up, or is none of these
abbrev pub Names : {V : Type 0} → (V → List ℕ) → List ℕ → Option V → Type 0
Names {V} word_of word result =
    MatchOption result ((v : V) → word ≢ word_of v) (λ v. word ≡ word_of v)

-- the number of an event of one number was read
abbrev pub ReadsSingle : Single → List ℕ → Option Event → Type 0
ReadsSingle verb a result =
    MatchOption result ((n : ℕ) → IsEvent (single_event verb n) → a ≢ decimal n)
    (λ e. (n : ℕ) × (e ≡ single_event verb n) × IsEvent (single_event verb n) × (a ≡ decimal n))

-- the numbers of an event of two numbers were read
abbrev pub ReadsPair : Pair → List ℕ → List ℕ → Option Event → Type 0
ReadsPair verb a b result =
    MatchOption result
    ((m n : ℕ) → IsEvent (pair_event verb m n)
    → a ∷ b ∷ [] ≢ decimal m ∷ decimal n ∷ [])
    (λ e. (m : ℕ) × (n : ℕ) × (e ≡ pair_event verb m n) × IsEvent (pair_event verb m n)
    × (a ∷ b ∷ [] ≡ decimal m ∷ decimal n ∷ []))

-- the numbers of a haul were read
abbrev pub ReadsHaul : List (List ℕ) → Option Event → Type 0
ReadsHaul fields result =
    MatchOption result
    ((o s d : ℕ) → IsEvent (event.Haul o s d)
    → fields ≢ decimal o ∷ decimal s ∷ decimal d ∷ [])
    (λ e. (o : ℕ) × (s : ℕ) × (d : ℕ) × (e ≡ event.Haul o s d) × IsEvent (event.Haul o s d)
    × (fields ≡ decimal o ∷ decimal s ∷ decimal d ∷ []))

-- the words of a restart were read
abbrev pub ReadsRestart : List (List ℕ) → Option Event → Type 0
ReadsRestart fields result =
    MatchOption result
    ((s : ℕ) (k : Bool) (by : RestartBy) → IsEvent (event.Restart s k by)
    → fields ≢ decimal s ∷ kept_word k ∷ restart_words by)
    (λ e. (s : ℕ) × (k : Bool) × (by : RestartBy) × (e ≡ event.Restart s k by)
    × IsEvent (event.Restart s k by)
    × (fields ≡ decimal s ∷ kept_word k ∷ restart_words by))

-- the words of a fault were read
abbrev pub ReadsFault : List (List ℕ) → Option Event → Type 0
ReadsFault fields result =
    MatchOption result
    ((s n : ℕ) (r : Recorded) → IsEvent (event.Fault s n r)
    → fields ≢ decimal s ∷ decimal n ∷ recorded_words r)
    (λ e. (s : ℕ) × (n : ℕ) × (r : Recorded) × (e ≡ event.Fault s n r) × IsEvent (event.Fault s n r)
    × (fields ≡ decimal s ∷ decimal n ∷ recorded_words r))

-- an event of one number or two
abbrev pub IsShort : Event → Type 0
IsShort (event.Haul o s d) = ⊥
IsShort (event.Fault s n r) = ⊥
IsShort (event.Restart s k by) = ⊥
IsShort e = IsEvent e

-- an event of more
abbrev pub IsLong : Event → Type 0
IsLong (event.Haul o s d) = IsEvent (event.Haul o s d)
IsLong (event.Fault s n r) = IsEvent (event.Fault s n r)
IsLong (event.Restart s k by) = IsEvent (event.Restart s k by)
IsLong e = ⊥
