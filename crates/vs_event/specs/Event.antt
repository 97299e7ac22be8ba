-- Events, and the text of a list of events.
use Rattle.std.specs.Prelude.{ℕ, ◌≡◌, ◌≢◌, ◌<◌, ◌+◌, ◌^◌, Bool, true, false, List, [], ◌∷◌, ◌++◌, length, codes}
use Rattle.std.specs.List.{AllByRecursion, flat_map, join_with_byte}
use Rattle.std.specs.Fmt.{decimal}
use Rattle.vs_base.specs.Numbers.{IsBucketId, IsClientNo, IsOpNo, IsSetNo}
use Rattle.vs_event.specs.declared.event.Event.{Event}
use Rattle.vs_event.specs.declared.event.Event.TheVariants.{Post, Begin, Act, End, Take, Cut, Start, Haul, NotYet, Freeze, Chunk, Seal, Last, Abort, EndMove, Deliver, Hear, Close, Ask, Condemn, Wipe, Forget, Pin, Plan, Stop, Fault, Restart}
use Rattle.vs_event.specs.declared.event.RestartBy.{RestartBy}
use Rattle.vs_event.specs.declared.event.RestartBy.TheVariants.{Line, Service}
use Rattle.vs_event.specs.Recorded.{IsRecorded, recorded_words}

abbrev pub IsRestartBy : RestartBy → Type 0
IsRestartBy (Line o) = IsOpNo o
IsRestartBy Service = Unit {0}

-- its numbers are those of clients, operators, sets and buckets, and a fault number is below 2^64
abbrev pub IsEvent : Event → Type 0
IsEvent (Post c s) = IsClientNo c × IsSetNo s
IsEvent (Begin c) = IsClientNo c
IsEvent (Act c) = IsClientNo c
IsEvent (End c) = IsClientNo c
IsEvent (Take c) = IsClientNo c
IsEvent (Cut o) = IsOpNo o
IsEvent (Start o) = IsOpNo o
IsEvent (Haul o s d) = IsOpNo o × IsSetNo s × IsSetNo d
IsEvent (NotYet s b) = IsSetNo s × IsBucketId b
IsEvent (Freeze s b) = IsSetNo s × IsBucketId b
IsEvent (Chunk s b) = IsSetNo s × IsBucketId b
IsEvent (Seal s b) = IsSetNo s × IsBucketId b
IsEvent (Last s b) = IsSetNo s × IsBucketId b
IsEvent (Abort s b) = IsSetNo s × IsBucketId b
IsEvent (EndMove s b) = IsSetNo s × IsBucketId b
IsEvent (Deliver x y) = IsSetNo x × IsSetNo y
IsEvent (Hear x y) = IsSetNo x × IsSetNo y
IsEvent (Close o) = IsOpNo o
IsEvent (Ask s b) = IsSetNo s × IsBucketId b
IsEvent (Condemn s b) = IsSetNo s × IsBucketId b
IsEvent (Wipe s b) = IsSetNo s × IsBucketId b
IsEvent (Forget s b) = IsSetNo s × IsBucketId b
IsEvent (Pin o) = IsOpNo o
IsEvent (Plan o) = IsOpNo o
IsEvent (Stop o) = IsOpNo o
IsEvent (Fault s n e) = IsSetNo s × (n < 2 ^ 64) × IsRecorded e
IsEvent (Restart s k by) = IsSetNo s × IsRestartBy by

-- whether the pending entry is kept
abbrev pub kept_word : Bool → List ℕ
kept_word true = codes "kept"
kept_word false = codes "bare"

abbrev pub restart_words : RestartBy → List (List ℕ)
restart_words (Line o) = codes "line" ∷ decimal o ∷ []
restart_words Service = codes "service" ∷ []

-- the words of an event, numbers in decimal digits without leading zeros
abbrev pub event_words : Event → List (List ℕ)
event_words (Post c s) = codes "post" ∷ decimal c ∷ decimal s ∷ []
event_words (Begin c) = codes "begin" ∷ decimal c ∷ []
event_words (Act c) = codes "act" ∷ decimal c ∷ []
event_words (End c) = codes "end" ∷ decimal c ∷ []
event_words (Take c) = codes "take" ∷ decimal c ∷ []
event_words (Cut o) = codes "cut" ∷ decimal o ∷ []
event_words (Start o) = codes "start" ∷ decimal o ∷ []
event_words (Haul o s d) = codes "haul" ∷ decimal o ∷ decimal s ∷ decimal d ∷ []
event_words (NotYet s b) = codes "notyet" ∷ decimal s ∷ decimal b ∷ []
event_words (Freeze s b) = codes "freeze" ∷ decimal s ∷ decimal b ∷ []
event_words (Chunk s b) = codes "chunk" ∷ decimal s ∷ decimal b ∷ []
event_words (Seal s b) = codes "seal" ∷ decimal s ∷ decimal b ∷ []
event_words (Last s b) = codes "last" ∷ decimal s ∷ decimal b ∷ []
event_words (Abort s b) = codes "abort" ∷ decimal s ∷ decimal b ∷ []
event_words (EndMove s b) = codes "endmove" ∷ decimal s ∷ decimal b ∷ []
event_words (Deliver x y) = codes "deliver" ∷ decimal x ∷ decimal y ∷ []
event_words (Hear x y) = codes "hear" ∷ decimal x ∷ decimal y ∷ []
event_words (Close o) = codes "close" ∷ decimal o ∷ []
event_words (Ask s b) = codes "ask" ∷ decimal s ∷ decimal b ∷ []
event_words (Condemn s b) = codes "condemn" ∷ decimal s ∷ decimal b ∷ []
event_words (Wipe s b) = codes "wipe" ∷ decimal s ∷ decimal b ∷ []
event_words (Forget s b) = codes "forget" ∷ decimal s ∷ decimal b ∷ []
event_words (Pin o) = codes "pin" ∷ decimal o ∷ []
event_words (Plan o) = codes "plan" ∷ decimal o ∷ []
event_words (Stop o) = codes "stop" ∷ decimal o ∷ []
event_words (Fault s n e) = codes "fault" ∷ decimal s ∷ decimal n ∷ recorded_words e
event_words (Restart s k by) = codes "restart" ∷ decimal s ∷ kept_word k ∷ restart_words by

-- the line of an event: its words, separated by one space
abbrev pub event_line : Event → List ℕ
event_line event = join_with_byte 32 (event_words event)

-- the text of events: their lines, each ended by a line feed
abbrev pub events_text : List Event → List ℕ
events_text events = flat_map (λ event. event_line event ++ 10 ∷ []) events

abbrev pub AreEvents : List Event → Type 0
AreEvents events = AllByRecursion IsEvent events

-- the lines of the text before this one are those of events, and what follows them is something
-- that begins with no event's line; the first line has number 1
pub record IsFirstBadLine (text : List ℕ) (number : ℕ) : Type 0 where
  pub before : List Event
  pub are_events : AreEvents before
  pub rest : List ℕ
  pub is_text : text ≡ events_text before ++ rest
  pub is_number : number ≡ length before + 1
  pub some : rest ≢ []
  pub bad : (event : Event) (more : List ℕ) → IsEvent event
      → rest ≢ event_line event ++ 10 ∷ more
