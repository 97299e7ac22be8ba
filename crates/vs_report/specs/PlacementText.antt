-- Which sets have a bucket, as the words of its line.
use Rattle.std.specs.Prelude.{ℕ, List, ◌++◌, codes, Some}
use Rattle.std.specs.List.{flat_map}
use Rattle.vs_space.specs.declared.status.Status.{Status}
use Rattle.vs_machine.specs.Report.{number, entry_text}

-- these sets, each with the status of the bucket there
abbrev pub places_text : List (ℕ × Status) → List ℕ
places_text entries = flat_map (λ e. entry_text e.0 (Some e.1)) entries

abbrev pub placement_text : ℕ → List (ℕ × Status) → List ℕ
placement_text bucket entries = codes "bucket" ++ number bucket ++ places_text entries
