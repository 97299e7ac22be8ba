-- The connections between the sets of a cluster.
use Rattle.std.specs.Prelude.{◌≡◌, ◌≢◌, ℕ, ◌+◌, ◌-◌, ◌*◌, ◌≤◌, ◌⊎◌, nat_le, ◌&&◌, Bool, List, length, slice_index_or, if◌then◌else◌}
use Rattle.vs_link.specs.Connection.{Connection, unused}

-- a connection, how many of its calls were taken and aren't answered, and for how many more calls, with their replies,
-- there is memory
pub record Line : Type 0 where
  pub connection : Connection
  pub unanswered : ℕ
  pub room : ℕ

-- the number of sets, and the connections in order of both sets: 32 places for each set that they lead from
pub record Links : Type 0 where
  pub sets : ℕ
  pub lines : List Line

-- what there is where there is no connection
abbrev pub no_line : Line
no_line = record { connection = unused; unanswered = 0; room = 0 }

abbrev pub is_set : ℕ → ℕ → Bool
is_set sets x = nat_le 1 x && nat_le x sets

abbrev pub place_of : ℕ → ℕ → ℕ
place_of x y = 32 * (x - 1) + (y - 1)

-- the connection from one set to another
abbrev pub line_of : Links → ℕ → ℕ → Line
line_of links x y =
    if is_set links.sets x && is_set links.sets y then slice_index_or links.lines (place_of x y) no_line
    else no_line

abbrev pub connection_of : Links → ℕ → ℕ → Connection
connection_of links x y = (line_of links x y).connection

-- there is a place for each connection
pub record IsTable (links : Links) : Type 0 where
  pub few : links.sets ≤ 32
  pub whole : length links.lines ≡ 32 * links.sets

-- these are two sets of the cluster
pub record IsPair (links : Links) (x y : ℕ) : Type 0 where
  pub from : x ≤ links.sets
  pub to : y ≤ links.sets
  pub apart : x ≢ y

-- the connection becomes this one, and each other line is as it was
pub record Becomes (old new : Links) (x y : ℕ) (connection : Connection) : Type 0 where
  pub sets : new.sets ≡ old.sets
  pub here : connection_of new x y ≡ connection
  pub others : (p q : ℕ) → (p ≢ x) ⊎ (q ≢ y) → line_of new p q ≡ line_of old p q

-- no connection was used yet
pub record IsUnused (links : Links) (sets : ℕ) : Type 0 where
  pub number : links.sets ≡ sets
  pub connections : (x y : ℕ) → connection_of links x y ≡ unused
  pub answered : (x y : ℕ) → (line_of links x y).unanswered ≡ 0

-- both have the same connections
pub record SameLinks (old new : Links) : Type 0 where
  pub sets : new.sets ≡ old.sets
  pub connections : (x y : ℕ) → connection_of new x y ≡ connection_of old x y
  pub unanswered : (x y : ℕ) → (line_of new x y).unanswered ≡ (line_of old x y).unanswered
