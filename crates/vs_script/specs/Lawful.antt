-- The scripts that a cluster may run.
use Rattle.std.specs.Prelude.{◌≢◌, ℕ, ◌≤◌, Bool, true, false, List, length, All}
use Rattle.std.specs.List.{sum_by, count_by}
use Rattle.vs_base.specs.declared.numbers.Mode.{Mode}
use Rattle.vs_base.specs.declared.numbers.Mode.TheVariants.{Ro, Rw}
use Rattle.vs_rows.specs.declared.op.Op.{Op}
use Rattle.vs_rows.specs.declared.op.Op.TheVariants.{Get, Count, Scan}
use Rattle.vs_script.specs.Calls.{Call}
use Rattle.vs_script.specs.Scripts.{Script, Client, Operator, Scripts, script_of}
use Rattle.vs_script.specs.declared.command.Command.{Command}
use Rattle.vs_script.specs.declared.command.Command.TheVariants.{Send, Pin, Unpin, Close, Cut, Stop, Restart, Balance}

abbrev pub IsWithin : ℕ → ℕ → Type 0
IsWithin n k = (1 ≤ k) × (k ≤ n)

-- a command over m buckets and n sets; a cut names a client and a call by their numbers
abbrev pub IsLawfulCommand : ℕ → ℕ → Command → Type 0
IsLawfulCommand m n (Send b x d) = IsWithin m b × IsWithin n x × IsWithin n d
IsLawfulCommand m n (Pin b x) = IsWithin m b × IsWithin n x
IsLawfulCommand m n (Unpin b x) = IsWithin m b × IsWithin n x
IsLawfulCommand m n (Close x y) = IsWithin n x × IsWithin n y × (x ≢ y)
IsLawfulCommand m n (Cut c k) = Unit {0}
IsLawfulCommand m n (Stop x) = IsWithin n x
IsLawfulCommand m n (Restart x) = IsWithin n x
IsLawfulCommand m n Balance = Unit {0}

-- an operation of a read
abbrev pub IsReading : Op → Type 0
IsReading (Get k) = Unit {0}
IsReading Count = Unit {0}
IsReading (Scan k n) = Unit {0}
IsReading op = ⊥

abbrev pub IsShortScan : Op → Type 0
IsShortScan (Scan k n) = IsWithin 100 n
IsShortScan op = Unit {0}

abbrev pub IsAllowedIn : Mode → Op → Type 0
IsAllowedIn Ro op = IsReading op
IsAllowedIn Rw op = Unit {0}

-- a call over m buckets
pub record IsLawfulCall (m : ℕ) (k : Call) : Type 0 where
  pub bucket : IsWithin m k.bucket
  pub count : IsWithin 16 (length k.ops)
  pub allowed : All (IsAllowedIn k.mode) k.ops
  pub scans : All IsShortScan k.ops

-- a script over m buckets and n sets
abbrev pub IsLawfulScript : ℕ → ℕ → Script → Type 0
IsLawfulScript m n (Client calls) = All (IsLawfulCall m) calls
IsLawfulScript m n (Operator commands) = All (IsLawfulCommand m n) commands

-- ---- scripts together

-- a cut names a call that there is
abbrev pub IsCutOf : List (List Call) → Command → Type 0
IsCutOf clients (Cut c k) = IsWithin (length clients) c × IsWithin (length (script_of clients c)) k
IsCutOf clients command = Unit {0}

abbrev pub is_scan : Op → Bool
is_scan (Scan k n) = true
is_scan op = false

abbrev pub scans_in : List Call → ℕ
scans_in calls = sum_by (λ k. count_by is_scan k.ops) calls

-- scripts that may run together: not too many, and each cut names a call that there is
pub record MayRunTogether (s : Scripts) : Type 0 where
  pub clients : length s.clients ≤ 64
  pub operators : length s.operators ≤ 16
  pub few_calls : sum_by length s.clients ≤ 200000
  pub few_scans : sum_by scans_in s.clients ≤ 20000
  pub few_commands : sum_by length s.operators ≤ 10000
  pub cuts : All (All (IsCutOf s.clients)) s.operators
