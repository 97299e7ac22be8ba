-- What the text of a report is.
use Rattle.std.specs.Prelude.{◌≡◌, ℕ, List, Ok, Err, ⊤}
use Rattle.vs_audit.specs.Account.{Account}
use Rattle.vs_audit.specs.Legal.{IsLegalAccount, IsFirstFault}
use Rattle.vs_audit.specs.Report.{report_of}
use Rattle.vs_audit.specs.declared.fault.Illegal as kinds
use Rattle.vs_auditing.specs.declared.fault.ReportFault.{ReportFault}
use Rattle.vs_auditing.specs.declared.fault.ReportFault.TheVariants.{BadReport, Illegal, NoMemory}

-- the text is a report, with such an account
abbrev pub HasAccount : (Account → Type 0) → List ℕ → Type 0
HasAccount P text = (account : Account) × (report_of text ≡ Ok account) × P account

abbrev pub IsLegalText : List ℕ → Type 0
IsLegalText text = HasAccount IsLegalAccount text

abbrev pub IsIllegalText : List ℕ → Type 0
IsIllegalText text = HasAccount (λ account. ¬ IsLegalAccount account) text

-- this line is the first that isn't in the grammar
abbrev pub IsBadAt : ℕ → List ℕ → Type 0
IsBadAt line text = report_of text ≡ Err line

abbrev pub IsNoReport : List ℕ → Type 0
IsNoReport text = (line : ℕ) × IsBadAt line text

-- the report isn't legal, and this line shows it first, by this kind
abbrev pub IsIllegalAt : ℕ → kinds.Illegal → List ℕ → Type 0
IsIllegalAt line kind text = HasAccount (λ account. IsFirstFault account line kind) text

-- what is wrong with a text, or memory was refused
abbrev pub IsWrongIn : List ℕ → ReportFault → Type 0
IsWrongIn text (BadReport line) = IsBadAt line text
IsWrongIn text (Illegal line kind) = IsIllegalAt line kind text
IsWrongIn text NoMemory = ⊤
IsWrongIn text fault = ⊥
