-- The lines of a connection are emptied.
use Rattle.std.specs.Prelude.{◌≡◌, ℕ, true, is_some}
use Rattle.vs_event.specs.declared.event.Event.{Event}
use Rattle.vs_event.specs.declared.event.Event.TheVariants.{Deliver, Hear}
use Rattle.vs_machine.specs.Kinds.Connections.{first_call, first_reply}
use Rattle.vs_machine.specs.Settling.{HasNoMessage}
use Rattle.vs_machine.specs.State.{State, has_set}
use Rattle.vs_world.specs.Played.{Played, state_of}
use Rattle.vs_settle.specs.Service.{IsPaid}

-- the event takes the first message, or hears the first reply
abbrev pub IsOnLine : State → ℕ → ℕ → Event → Type 0
IsOnLine s x y (Deliver p q) = (p ≡ x) × (q ≡ y) × (is_some (first_call s x y) ≡ true)
IsOnLine s x y (Hear p q) = (p ≡ x) × (q ≡ y) × (is_some (first_reply s x y) ≡ true)
IsOnLine s x y e = ⊥

-- the lines of one connection are empty, and those of the others as before
pub record IsDrained (p : Played) (m : ℕ) (q : Played) (n : ℕ) (x y : ℕ) : Type 0 where
  pub paid : IsPaid p m q n
  pub none : HasNoMessage (state_of q) x y
  pub others : (v w : ℕ) → (v ≡ x → w ≡ y → ⊥) → (state_of q).link v w ≡ (state_of p).link v w

-- the lines from one set are empty, and those from the others as before
pub record AreDrained (p : Played) (m : ℕ) (q : Played) (n : ℕ) (x : ℕ) : Type 0 where
  pub paid : IsPaid p m q n
  pub none : (y : ℕ) → has_set (state_of q) y ≡ true → HasNoMessage (state_of q) x y
  pub others : (v w : ℕ) → (v ≡ x → ⊥) → (state_of q).link v w ≡ (state_of p).link v w
