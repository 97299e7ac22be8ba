-- Events that record a change at a set.
use Rattle.std.specs.Prelude.{ℕ, List, [], ◌∷◌, codes}
use Rattle.std.specs.Fmt.{decimal}
use Rattle.vs_base.specs.Numbers.{IsBucketId, IsClientNo, IsOpNo, IsSetNo}
use Rattle.vs_event.specs.declared.event.Event.{Event}
use Rattle.vs_event.specs.declared.event.Event.TheVariants as event
use Rattle.vs_event.specs.declared.event.Recorded.{Recorded}
use Rattle.vs_event.specs.declared.event.Recorded.TheVariants.{Act, Freeze, Seal, Deliver, Hear, Condemn, Wipe, Forget, Pin}

-- its numbers are those of clients, operators, sets and buckets
abbrev pub IsRecorded : Recorded → Type 0
IsRecorded (Act c) = IsClientNo c
IsRecorded (Freeze s b) = IsSetNo s × IsBucketId b
IsRecorded (Seal s b) = IsSetNo s × IsBucketId b
IsRecorded (Deliver x y) = IsSetNo x × IsSetNo y
IsRecorded (Hear x y) = IsSetNo x × IsSetNo y
IsRecorded (Condemn s b) = IsSetNo s × IsBucketId b
IsRecorded (Wipe s b) = IsSetNo s × IsBucketId b
IsRecorded (Forget s b) = IsSetNo s × IsBucketId b
IsRecorded (Pin o) = IsOpNo o

-- its words
abbrev pub recorded_words : Recorded → List (List ℕ)
recorded_words (Act c) = codes "act" ∷ decimal c ∷ []
recorded_words (Freeze s b) = codes "freeze" ∷ decimal s ∷ decimal b ∷ []
recorded_words (Seal s b) = codes "seal" ∷ decimal s ∷ decimal b ∷ []
recorded_words (Deliver x y) = codes "deliver" ∷ decimal x ∷ decimal y ∷ []
recorded_words (Hear x y) = codes "hear" ∷ decimal x ∷ decimal y ∷ []
recorded_words (Condemn s b) = codes "condemn" ∷ decimal s ∷ decimal b ∷ []
recorded_words (Wipe s b) = codes "wipe" ∷ decimal s ∷ decimal b ∷ []
recorded_words (Forget s b) = codes "forget" ∷ decimal s ∷ decimal b ∷ []
recorded_words (Pin o) = codes "pin" ∷ decimal o ∷ []

-- the same event where nothing interrupts it
abbrev pub event_of : Recorded → Event
event_of (Act c) = event.Act c
event_of (Freeze s b) = event.Freeze s b
event_of (Seal s b) = event.Seal s b
event_of (Deliver x y) = event.Deliver x y
event_of (Hear x y) = event.Hear x y
event_of (Condemn s b) = event.Condemn s b
event_of (Wipe s b) = event.Wipe s b
event_of (Forget s b) = event.Forget s b
event_of (Pin o) = event.Pin o
