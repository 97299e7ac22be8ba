-- The order of the answered calls of one client in one history.
use Rattle.std.specs.Prelude.{ℕ, ◌≡◌, ◌/◌, ◌^◌, ◌<◌, ◌≤◌, ◌⊎◌, Bool, true, false, ◌==◌, if◌then◌else◌, Option, Some, None, List, slice_get, Contains, max}
use Rattle.std.specs.Option.{option_map_or}
use Rattle.std.specs.List.Sorted.{IsNonDecreasingBy}
use Rattle.vs_audit.specs.Account.{Entry, History, Call}
use Rattle.vs_audit.specs.Legal.{number_of, IsAt, IsReply, Answered, IsOutOfOrder}
use Rattle.vs_audit.specs.declared.order.Placed.{Placed}
use Rattle.vs_audit.specs.declared.order.Heights.{Heights}
use Rattle.vs_audit.specs.declared.fault.Illegal.{Illegal}
use Rattle.vs_audit.specs.declared.fault.Illegal.TheVariants.{WrongOrder}

-- a call of a history that stands before an earlier one of its client
abbrev pub OrderFault : List Call → History → ℕ → Illegal → Type 0
OrderFault calls h line kind =
    (kind ≡ WrongOrder) × (n : ℕ) × (c : Call) × (slice_get calls n ≡ Some c) × (line ≡ c.line) × IsOutOfOrder calls h c

-- the client of a call, from the call's number
abbrev pub client_of : ℕ → ℕ
client_of number = number / 2 ^ 32

abbrev pub placed : Call → Bool → Entry → Placed
placed c is_write e = record { number = number_of c.id; is_write = is_write; place = e.place; line = c.line }

-- a call was answered, and an entry of it is among these
pub record AnsweredAmong (calls : List Call) (es : List Entry) (c : Call) (e : Entry) : Type 0 where
  pub line : (n : ℕ) × (slice_get calls n ≡ Some c)
  pub reply : IsReply c.outcome
  pub stands : (n : ℕ) × IsAt es n e
  pub same : number_of e.id ≡ number_of c.id

-- the entries of a history whose calls were answered
pub record ArePlaced (calls : List Call) (h : History) (ps : List Placed) : Type 0 where
  pub each : (n : ℕ) (p : Placed) → slice_get ps n ≡ Some p
      → (c : Call) × (w : Bool) × (e : Entry) × Answered calls h c w e × (p ≡ placed c w e)
  pub all : (c : Call) (w : Bool) (e : Entry) → Answered calls h c w e → Contains ps (placed c w e)

-- behind those found before stand the entries of answered calls among these
pub record FindsAnswered (calls : List Call) (is_write : Bool) (es : List Entry) (old new : List Placed) : Type 0 where
  pub each : (p : Placed) → Contains new p
      → Contains old p ⊎ ((c : Call) × (e : Entry) × AnsweredAmong calls es c e × (p ≡ placed c is_write e))
  pub all : (c : Call) (e : Entry) → AnsweredAmong calls es c e → Contains new (placed c is_write e)
  pub kept : (p : Placed) → Contains old p → Contains new p

abbrev pub AreByNumber : List Placed → Type 0
AreByNumber ps = IsNonDecreasingBy (λ (p : Placed). p.number) ps

-- lower than a place, or for a write not above it
abbrev pub IsLow : Bool → ℕ → ℕ → Type 0
IsLow true place below = place ≤ below
IsLow false place below = place < below

-- this one stands too low after an earlier call of its client
abbrev pub IsLowAt : List Placed → ℕ → ℕ → Illegal → Type 0
IsLowAt ps n line kind =
    (kind ≡ WrongOrder) × (q : Placed) × (slice_get ps n ≡ Some q) × (line ≡ q.line)
    × (m : ℕ) × (p : Placed) × (slice_get ps m ≡ Some p)
    × (client_of p.number ≡ client_of q.number) × (p.number < q.number) × IsLow q.is_write q.place p.place

abbrev pub LowFault : List Placed → ℕ → Illegal → Type 0
LowFault ps line kind = (n : ℕ) × IsLowAt ps n line kind

-- among the first of some entries by number, the greatest place of the last call, and of the
-- calls of its client before it
pub record AreHeights (ps : List Placed) (i : ℕ) (h : Heights) : Type 0 where
  pub last : (m : ℕ) (p : Placed) → m < i → slice_get ps m ≡ Some p → p.number ≤ h.number
  pub top : (m : ℕ) (p : Placed) → m < i → slice_get ps m ≡ Some p → p.number ≡ h.number → p.place ≤ h.top
  pub is_top : (m : ℕ) × (p : Placed) × (m < i) × (slice_get ps m ≡ Some p) × (p.number ≡ h.number) × (p.place ≡ h.top)
  pub below : (m : ℕ) (p : Placed) → m < i → slice_get ps m ≡ Some p → client_of p.number ≡ client_of h.number → p.number < h.number
      → (b : ℕ) × (h.below ≡ Some b) × (p.place ≤ b)
  pub is_below : (b : ℕ) → h.below ≡ Some b
      → (m : ℕ) × (p : Placed) × (m < i) × (slice_get ps m ≡ Some p) × (client_of p.number ≡ client_of h.number) × (p.number < h.number) × (p.place ≡ b)

-- the heights with one entry more
abbrev pub next_below : Heights → Placed → Option ℕ
next_below h p =
    if p.number == h.number then h.below
    else (if client_of p.number == client_of h.number then Some (option_map_or (λ b. max b h.top) h.below h.top)
    else None)

abbrev pub next_heights : Heights → Placed → Heights
next_heights h p = record {
  number = p.number;
  top = if p.number == h.number then max h.top p.place else p.place;
  below = next_below h p;
}
