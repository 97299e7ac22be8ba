-- The lines that every command may log.
use Rattle.std.specs.Prelude.{ℕ, List, ◌++◌, codes}
use Rattle.std.specs.Fmt.{decimal}

abbrev pub memory_line : List ℕ
memory_line = codes "vshard: memory\n"

abbrev pub write_line : List ℕ
write_line = codes "vshard: write\n"

-- inputs are counted from 1
abbrev pub read_line : ℕ → List ℕ
read_line input = codes "vshard: read input " ++ decimal input ++ codes "\n"
