-- What the bytes of a file stand for: a set's state.
use Rattle.std.specs.Prelude.{ℕ, ◌+◌, ◌==◌, if◌then◌else◌, List, [], ◌∷◌, length, Option, Some, None, Result, Ok, Err}
use Rattle.std.specs.Option.{option_map}
use Rattle.std.specs.Str.{bytes_eq}
use Rattle.vs_frame.specs.Journal.{Journal, grown, migrated, fresh as fresh_journal}
use Rattle.vs_frame.specs.Reading.{journal_of, cut_at}
use Rattle.vs_frame.specs.declared.head.Head.{Head}
use Rattle.vs_record.specs.Body.{body_of}
use Rattle.vs_record.specs.Change.{Change}
use Rattle.vs_record.specs.Durable.{Durable, booted, applied}
use Rattle.vs_record.specs.Fitting.{fits}
use Rattle.vs_record.specs.Reading.{change_of}
use Rattle.vs_store.specs.declared.fault.StoreFault.{StoreFault}
use Rattle.vs_store.specs.declared.fault.StoreFault.TheVariants.{NotAJournal, OtherSet, OtherCount}

infixl 10 ◌>>=◌
abbrev pub ◌>>=◌ : {X Y E : Type 0} → Result X E → (X → Result Y E) → Result Y E
(Ok x) >>= f = f x
(Err e) >>= f = Err e

-- ---- the change of a body

-- the number behind this one, where bodies have numbers
abbrev pub next : Option ℕ → Option ℕ
next None = None
next (Some n) = Some (n + 1)

abbrev pub with_number : ℕ → Option (Option ℕ × Change) → Option Change
with_number n (Some (Some m, c)) = if m == n then Some c else None
with_number n _ = None

-- The change of a body that is to have this number, which is none in the first part of a journal.
abbrev pub change_with : Option ℕ → List ℕ → Option Change
change_with None body = option_map (λ (found : Option ℕ × Change). found.1) (change_of 1 body)
change_with (Some n) body = with_number n (change_of 2 body)

-- ---- the state of a journal's bodies

-- the state after one change, where it is there and fits; else the place of its gate
abbrev pub stepped : ℕ → Durable → ℕ → Option Change → Result Durable ℕ
stepped buckets d gate None = Err gate
stepped buckets d gate (Some c) = if fits buckets d c then Ok (applied d c) else Err gate

-- The state after the changes of these bodies, of which the first has this number and stands behind the gate at this place.
-- Else the place of the first gate whose body is no change's, has another number, or is a change's that doesn't fit.
unfoldable pub folded : ℕ → Durable → ℕ → Option ℕ → List (List ℕ) → Result Durable ℕ
folded buckets d gate number [] = Ok d
folded buckets d gate number (body ∷ bodies) = stepped buckets d gate (change_with number body) >>= λ x. folded buckets x (gate + (5 + length body)) (next number) bodies

-- the place behind the entries of these bodies, of which the first stands behind the gate at this place
abbrev pub end_of : ℕ → List (List ℕ) → ℕ
end_of gate [] = gate
end_of gate (body ∷ bodies) = end_of (gate + (5 + length body)) bodies

-- What the bodies of both parts make of the buckets that the journal begins with. Those of the second are numbered from 1 on.
abbrev pub folded_in : Journal → Result Durable ℕ
folded_in j =
    folded j.head.bucket_count (booted j.head.boot_first j.head.boot_count) 36 None j.first
    >>= λ d. folded j.head.bucket_count d (end_of 36 j.first + 1) (Some 1) j.second

-- a journal, and the state that it stands for
pub record Standing : Type 0 where
  pub journal : Journal
  pub state : Durable

abbrev pub standing : Journal → Result Durable ℕ → Result Standing ℕ
standing j (Ok d) = Ok (record { journal = j; state = d })
standing j (Err place) = Err place

-- the place at which folding fails, or else this one
abbrev pub failing : ℕ → Result Durable ℕ → ℕ
failing place (Ok d) = place
failing place (Err earlier) = earlier

abbrev pub wrong_in : ℕ → Result Journal ℕ → ℕ
wrong_in place (Ok j) = failing place (folded_in j)
wrong_in place (Err other) = place

-- The least place that is wrong in a file that is no journal from this place on. The bytes in front of it and closed gates
-- are a journal, unless the head is wrong already.
abbrev pub first_wrong : List ℕ → ℕ → ℕ
first_wrong file place = wrong_in place (journal_of (cut_at place file))

abbrev pub standing_by : List ℕ → Result Journal ℕ → Result Standing ℕ
standing_by file (Err place) = Err (first_wrong file place)
standing_by file (Ok j) = standing j (folded_in j)

-- what a file stands for, or the least place at which it is wrong
abbrev pub state_of : List ℕ → Result Standing ℕ
state_of file = standing_by file (journal_of file)

-- ---- opening with the head of a set

-- the head that was found is that of the set, in a cluster of as many buckets
abbrev pub of_set : Head → Head → Result (Unit {0}) StoreFault
of_set head found =
    if bytes_eq found.uuid head.uuid then
    (if found.bucket_count == head.bucket_count then Ok tt else Err (OtherCount found.bucket_count))
    else Err (OtherSet found.uuid)

abbrev pub opened_by : Head → Result Standing ℕ → Result Standing StoreFault
opened_by head (Ok s) = of_set head s.journal.head >>= λ is. Ok s
opened_by head (Err place) = Err (NotAJournal place)

-- what a file that isn't empty is opened as, or why it isn't
abbrev pub opened : Head → List ℕ → Result Standing StoreFault
opened head file = opened_by head (state_of file)

-- what a new journal stands for
abbrev pub fresh : Head → Standing
fresh head = record { journal = fresh_journal head; state = booted head.boot_first head.boot_count }

-- ---- what becomes of it

-- the number of the next body of the second part
abbrev pub next_number : Journal → ℕ
next_number j = length j.second + 1

-- the same with one change more
abbrev pub after : Standing → Change → Standing
after s c = record { journal = grown (body_of (Some (next_number s.journal)) c) s.journal; state = applied s.state c }

-- the same in version 2
abbrev pub in_version_2 : Standing → Standing
in_version_2 s = record { journal = if s.journal.version == 2 then s.journal else migrated s.journal; state = s.state }

-- how many bytes the entry of a change takes in the second part, whatever its number
unfoldable pub entry_len : Change → ℕ
entry_len c = 5 + length (body_of (Some 0) c)
