-- Each call acts once at most, and is a call of its script.
use Rattle.std.specs.Prelude.{◌≡◌, ℕ, ◌<◌, ◌⊎◌, List, [], ◌++◌, All, Some}
use Rattle.vs_base.specs.declared.numbers.CallId.{CallId}
use Rattle.vs_base.specs.declared.numbers.Mode.TheVariants.{Ro, Rw}
use Rattle.vs_rows.specs.declared.op.Op.{Op}
use Rattle.vs_calls.specs.declared.stage.Stage.{Stage}
use Rattle.vs_calls.specs.declared.stage.Stage.TheVariants.{Acted, Ended, Lost}
use Rattle.vs_calls.specs.Progress.{Progress}
use Rattle.vs_history.specs.History.{Entry, History}
use Rattle.vs_record.specs.Change.{Write}
use Rattle.vs_machine.specs.State.{State, Client}
use Rattle.vs_machine.specs.History.{IsOnce, IsCallOf, scripts_of}

-- a call may stand in a history from the time when it acted; a lost one may have
abbrev pub HasActed : Stage → Type 0
HasActed Acted = Unit {0}
HasActed Ended = Unit {0}
HasActed Lost = Unit {0}
HasActed stage = ⊥

-- the call of this number has acted, if it will at all
abbrev pub IsPast : Progress → ℕ → Type 0
IsPast p n = (n < p.number) ⊎ ((n ≡ p.number) × HasActed p.stage)

abbrev pub all_entries : History → List Entry
all_entries h = h.writes ++ h.reads

-- the call isn't among the entries
abbrev pub IsAbsent : CallId → List Entry → Type 0
IsAbsent id es = All (λ e. e.id ≡ id → ⊥) es

pub record IdsFit (cs : ℕ → Client) (b : ℕ) (h : History) : Type 0 where
  pub past : All (λ e. IsPast (cs e.id.client).present e.id.call) (all_entries h)
  pub once : IsOnce (all_entries h)
  pub writes_called : All (IsCallOf (λ c. (cs c).script) b Rw) h.writes
  pub reads_called : All (IsCallOf (λ c. (cs c).script) b Ro) h.reads

-- a write that is pending is past, is a call of its script, isn't in a history, and isn't pending elsewhere
pub record OnceFits (s : State) : Type 0 where
  pub entries : (b : ℕ) → IdsFit s.client b (s.bucket b).history
  pub past : (x b : ℕ) (id : CallId) (ops : List Op) → s.pending x ≡ Some (Write id b ops) → IsPast (s.client id.client).present id.call
  pub called : (x b : ℕ) (id : CallId) (ops : List Op) → s.pending x ≡ Some (Write id b ops) → IsCallOf (scripts_of s) b Rw (record { id = id; ops = ops; answers = []; place = 0 })
  pub absent : (x b d : ℕ) (id : CallId) (ops : List Op) → s.pending x ≡ Some (Write id b ops) → IsAbsent id (all_entries (s.bucket d).history)
  pub apart : (x y b d : ℕ) (id : CallId) (ops more : List Op) → s.pending x ≡ Some (Write id b ops) → s.pending y ≡ Some (Write id d more) → x ≡ y
