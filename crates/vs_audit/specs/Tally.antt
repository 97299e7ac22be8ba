-- How often the call of a line stands in histories, against what its line says.
use Rattle.std.specs.Prelude.{ℕ, ◌≡◌, ◌+◌, ◌-◌, ◌^◌, ◌<◌, Bool, true, false, ◌||◌, List, [], ◌∷◌, ◌++◌, length, count_by, slice_get, Some, min}
use Rattle.std.specs.List.{list_any}
use Rattle.std.specs.Ordering.{nat_cmp}
use Rattle.std.specs.BTreeMap.{BTreeMap, get}
use Rattle.vs_audit.specs.Account.{Entry, History, Outcome, Reply, Lost, Spent, Open, Call, Account}
use Rattle.vs_audit.specs.Legal.{number_of, entries_with, writes_call, reads_call, LacksEntry}
use Rattle.vs_audit.specs.declared.fault.Illegal.{Illegal}
use Rattle.vs_audit.specs.declared.fault.Illegal.TheVariants.{NoEntry}
use Rattle.vs_audit.specs.declared.tally.Found.{Found}
use Rattle.vs_audit.specs.declared.tally.Found.TheVariants.{Nothing, Right, Wrong, Many}
use Rattle.vs_audit.specs.declared.tally.Standing.{Standing}
use Rattle.vs_audit.specs.declared.tally.Standing.TheVariants.{FirstWrite, LaterWrite, Read}
use Rattle.vs_audit.specs.declared.tally.Tally.{Tally}

-- the place of each call among the lines
pub record IsIndex (index : BTreeMap ℕ ℕ) (calls : List Call) : Type 0 where
  pub found : (q n : ℕ) → get nat_cmp index q ≡ Some n → (c : Call) × (slice_get calls n ≡ Some c) × (number_of c.id ≡ q)
  pub all : (n : ℕ) (c : Call) → slice_get calls n ≡ Some c → get nat_cmp index (number_of c.id) ≡ Some n
  pub small : (n : ℕ) (c : Call) → slice_get calls n ≡ Some c → c.id.call < 2 ^ 32

-- an entry is as the outcome says
abbrev pub Matches : Outcome → Entry → Type 0
Matches (Reply place answers) e = (e.place ≡ place) × (e.answers ≡ answers)
Matches Lost e = ⊥
Matches Spent e = ⊥
Matches Open e = ⊥

-- the entries of a call: none, one as the outcome says, one that isn't so, or more
abbrev pub FoundIs : Outcome → List Entry → Found → Type 0
FoundIs o es Nothing = es ≡ []
FoundIs o es Right = (e : Entry) × (es ≡ e ∷ []) × Matches o e
FoundIs o es Wrong = (e : Entry) × (es ≡ e ∷ []) × ¬ Matches o e
FoundIs o es Many = (e f : Entry) × (rest : List Entry) × (es ≡ e ∷ f ∷ rest)

-- what was found of a call whose entries are these, in so many histories as a write, and as a read
pub record IsTally (o : Outcome) (es : List Entry) (histories : ℕ) (is_read : Bool) (t : Tally) : Type 0 where
  pub found : FoundIs o es t.found
  pub writes : t.writes ≡ min histories (2 ^ 64 - 1)
  pub read : t.read ≡ is_read

abbrev pub IsTallyOf : Call → List History → Tally → Type 0
IsTallyOf c hs t =
    IsTally c.outcome (entries_with c.id hs) (count_by (writes_call c.id) hs) (list_any (reads_call c.id) hs) t

-- the tallies of these calls over these histories
pub record Tallied (calls : List Call) (hs : List History) (tallies : List Tally) : Type 0 where
  pub len : length tallies ≡ length calls
  pub each : (n : ℕ) (c : Call) → slice_get calls n ≡ Some c → (t : Tally) × (slice_get tallies n ≡ Some t) × IsTallyOf c hs t

-- one entry more
abbrev pub next_found : Found → Bool → Found
next_found Nothing true = Right
next_found Nothing false = Wrong
next_found Right matches = Many
next_found Wrong matches = Many
next_found Many matches = Many

abbrev pub more_writes : Standing → ℕ → ℕ
more_writes FirstWrite n = min (n + 1) (2 ^ 64 - 1)
more_writes LaterWrite n = n
more_writes Read n = n

abbrev pub is_read : Standing → Bool
is_read FirstWrite = false
is_read LaterWrite = false
is_read Read = true

abbrev pub counted : Standing → Bool → Tally → Tally
counted s matches t = record {
  found = next_found t.found matches;
  writes = more_writes s t.writes;
  read = t.read || is_read s;
}

-- the histories with one entry more in the last of them
abbrev pub with_entry : Standing → Entry → History → History
with_entry FirstWrite e h = record h { writes = h.writes ++ e ∷ [] }
with_entry LaterWrite e h = record h { writes = h.writes ++ e ∷ [] }
with_entry Read e h = record h { reads = h.reads ++ e ∷ [] }

-- an entry may stand so: a write before all reads, and it is the first of its call or not
abbrev pub Fits : Standing → Entry → History → Type 0
Fits FirstWrite e h = (h.reads ≡ []) × (writes_call e.id h ≡ false)
Fits LaterWrite e h = (h.reads ≡ []) × (writes_call e.id h ≡ true)
Fits Read e h = Unit {0}

-- what is wrong at the line of this number for want of an entry
abbrev pub EntryFault : Account → ℕ → ℕ → Illegal → Type 0
EntryFault a n line kind =
    (kind ≡ NoEntry) × (c : Call) × (slice_get a.calls n ≡ Some c) × (line ≡ c.line) × LacksEntry a c.id c.outcome
