-- The line of a set, from its tables.
use Rattle.std.specs.Prelude.{ℕ, List, ◌++◌, codes, if◌then◌else◌}
use Rattle.std.specs.List.{flat_map}
use Rattle.vs_space.specs.Entries.{count_of}
use Rattle.vs_machine.specs.Report.{number, kinds}
use Rattle.vs_state.specs.declared.tables.SetTables.{SetTables}

-- the set has this number
abbrev pub set_text : ℕ → SetTables → List ℕ
set_text x t = codes "set" ++ number x ++ (if t.is_up then codes " up" else codes " down") ++ flat_map (λ k. number (count_of k t.space.entries)) kinds
