-- What an audit makes of the reports of all states that runs reach.
use Rattle.std.specs.Prelude.{◌≡◌, ℕ, ◌^◌, ◌<◌, ◌≤◌, true, length, All, Ok}
use Rattle.vs_audit.specs.Account.{Account}
use Rattle.vs_audit.specs.Legal.{IsLegalAccount}
use Rattle.vs_audit.specs.Report.{report_of}
use Rattle.vs_machine.specs.Report.{report}
use Rattle.vs_machine.specs.Runs.{IsReached}
use Rattle.vs_machine.specs.State.{State}
use Rattle.vs_legal.specs.Account.{account_of, is_told}
use Rattle.vs_legal.specs.Named.{IsNamedOp, IsNamedRow}

-- the rows with which the buckets of the report's histories began are of keys and values
abbrev pub AreBasesNamed : State → Type 0
AreBasesNamed s = (b : ℕ) → 1 ≤ b → b ≤ s.config.bucket_count → is_told (s.bucket b).history ≡ true → All IsNamedRow (s.bucket b).history.base

-- Keys and values are such, in the rows with which the buckets of the report's histories began, and in the operations of all calls,
-- as those of every script are. And the length of the report has 64 bits, as that of every text in memory has.
pub record IsSpellable (s : State) : Type 0 where
  pub rows : AreBasesNamed s
  pub calls : (c : ℕ) → All (λ k. All IsNamedOp k.ops) (s.client c).script
  pub short : length (report s) < 2 ^ 64

-- the report is in the grammar, and what is read of it is the account of the histories and answers
abbrev pub ReportsReadBack : Type 0
ReportsReadBack = (s : State) → IsReached s → IsSpellable s → report_of (report s) ≡ Ok (account_of s)

-- which is legal
abbrev pub AccountsAreLegal : Type 0
AccountsAreLegal = (s : State) → IsReached s → IsLegalAccount (account_of s)

-- so the report of each state that a run reaches is legal
abbrev pub ReportsAreLegal : Type 0
ReportsAreLegal =
    (s : State) → IsReached s → IsSpellable s
    → (account : Account) × (report_of (report s) ≡ Ok account) × IsLegalAccount account
