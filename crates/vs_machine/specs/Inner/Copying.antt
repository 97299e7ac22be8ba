-- What of a bucket was copied from a set to another.
use Rattle.std.specs.Prelude.{◌≡◌, ◌≢◌, ℕ, not, List, [], filter, Option, Some, None}
use Rattle.std.specs.Ordering.{is_gt}
use Rattle.vs_rows.specs.RowMap.{RowMap, key_cmp, rows_above}
use Rattle.vs_space.specs.declared.status.Status.{Status}
use Rattle.vs_space.specs.declared.status.Status.TheVariants.{Receiving}
use Rattle.vs_send.specs.declared.transfer.Phase.{Phase}
use Rattle.vs_send.specs.declared.transfer.Phase.TheVariants.{Ready, Copied}
use Rattle.vs_machine.specs.Kinds.Sender.{next_page}

-- the rows whose keys aren't above this one; no rows, where there is none
abbrev pub rows_to : RowMap → Option (List ℕ) → RowMap
rows_to m None = []
rows_to m (Some k) = filter (λ row. not (is_gt (key_cmp row.0 k))) m

-- set d has taken the rows of set x up to key k, and more are to come: it is receiving them, or not yet where there is no k
abbrev pub HasTaken : (ℕ → Option Status) → (ℕ → RowMap) → ℕ → ℕ → Option (List ℕ) → Type 0
HasTaken has rows x d None = has d ≢ Some (Receiving x)
HasTaken has rows x d (Some k) = (has d ≡ Some (Receiving x)) × (rows d ≡ rows_to (rows x) (Some k)) × (rows_above (rows x) (Some k) ≢ [])

-- a page that isn't taken yet: the rows after those that were
pub record IsNext (has : ℕ → Option Status) (rows : ℕ → RowMap) (x d : ℕ) (page : RowMap) : Type 0 where
  pub from : Option (List ℕ)
  pub taken : HasTaken has rows x d from
  pub page_is : page ≡ next_page (rows x) from

-- set d has taken the page that ends at k, and is receiving; where there is no k there are no rows
abbrev pub HasReceived : (ℕ → Option Status) → (ℕ → RowMap) → ℕ → ℕ → Option (List ℕ) → Type 0
HasReceived has rows x d None = (has d ≡ Some (Receiving x)) × (rows d ≡ []) × (rows x ≡ [])
HasReceived has rows x d (Some k) = (has d ≡ Some (Receiving x)) × (rows d ≡ rows_to (rows x) (Some k))

-- what a transfer from x to d in this phase has copied, where no message of it is under way
abbrev pub CopyFits : (ℕ → Option Status) → (ℕ → RowMap) → ℕ → ℕ → Phase → Type 0
CopyFits has rows x d (Ready k) = HasTaken has rows x d k
CopyFits has rows x d Copied = (has d ≡ Some (Receiving x)) × (rows d ≡ rows x)
CopyFits has rows x d phase = Unit {0}
