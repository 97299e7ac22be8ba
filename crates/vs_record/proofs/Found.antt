-- What a reading gave.
use Rattle.std.proofs.Common.{◌≡◌, ℕ, ◌≤◌, List, Option, Some, None, Result, Ok, Err, sym, ap, ◌∙◌}
use Rattle.std.specs.Prelude.{IfOk}
use Rattle.vs_record.specs.declared.change.Change as code
use Rattle.vs_record.specs.declared.fault.RecordFault.{RecordFault}
use Rattle.vs_record.specs.declared.fault.RecordFault.TheVariants.{BadBody, NoMemory}
use Rattle.vs_record.specs.Change.{Change, change, entry_of}
use Rattle.vs_record.specs.Body.{IsBodyOf, IsOfVersion}
use Rattle.vs_record.specs.Reading.{Gives, change_of}
use Rattle.vs_record.proofs.Taken.{IsBytes}
use Rattle.vs_record.proofs.Changes.{change_told, change_again}

-- each body of this version is read
pub is_read : (version : ℕ) (body : List ℕ) (number : Option ℕ) (c : Change) → IsOfVersion version number → IsBodyOf body number c → change_of version body ≡ Some (number, c)
is_read version body number c of is = ap (change_of version) is.text ∙ change_again version number c of is.recordable

module _ (version : ℕ) (body : List ℕ) where
  module _ (is : (1 ≤ version) × (version ≤ 2)) (fits : IsBytes body) where
    pub is_versioned : (r : Result (Option ℕ × code.Change) RecordFault) → Gives entry_of r (change_of version body) → IfOk r (λ entry. IsOfVersion version entry.0)
    is_versioned (Ok entry) gives = (change_told version body entry.0 (change entry.1) is fits gives).0
    is_versioned (Err e) gives = tt

    pub is_found : (r : Result (Option ℕ × code.Change) RecordFault) → Gives entry_of r (change_of version body) → IfOk r (λ entry. IsBodyOf body entry.0 (change entry.1))
    is_found (Ok entry) gives = (change_told version body entry.0 (change entry.1) is fits gives).1
    is_found (Err e) gives = tt

  pub is_bad : (r : Result (Option ℕ × code.Change) RecordFault) → Gives entry_of r (change_of version body) → r ≡ Err BadBody → (number : Option ℕ) (c : Change) → IsOfVersion version number → ¬ (IsBodyOf body number c)
  is_bad (Ok entry) gives bad number c of is = cc
  is_bad (Err NoMemory) gives bad number c of is = cc
  is_bad (Err BadBody) gives bad number c of is = let found : ◌≡◌ {A = Option (Option ℕ × Change)} (Some (number, c)) None = sym (is_read version body number c of is) ∙ gives in cc
