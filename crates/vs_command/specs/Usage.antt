-- The line that says which words are a command.
use Rattle.std.specs.Prelude.{ℕ, Bool, List, [], ◌++◌, codes, if◌then◌else◌}
use Rattle.vs_command.specs.declared.verbs.Verbs.{Verbs}

abbrev pub part : Bool → List ℕ → List ℕ
part built text = if built then text else []

abbrev pub usage : Verbs → List ℕ
usage verbs =
    codes "vshard: usage: run CONFIG FILE... | play CONFIG EVENTS FILE... | gen NUMBER"
    ++ part verbs.reads (codes " | reads CONFIG ROWS FILE...")
    ++ part verbs.plan (codes " | plan CONFIG COUNTS")
    ++ part verbs.audit (codes " | audit REPORT")
    ++ part verbs.info (codes " | info CONFIG")
    ++ codes "\n"
