-- Named files in memory.
use Rattle.std.specs.Prelude.{ℕ, List, [], ◌∷◌, Option, Some, None, nat_eq, if◌then◌else◌, string_bytes}
use Rattle.std.specs.Cmp.Lexicographic.{pointwise}
use Rattle.vs_host.specs.declared.named_file.NamedFile.{NamedFile}

-- what the first file of that name holds
abbrev pub file_of : List NamedFile → List ℕ → Option (List ℕ)
file_of [] name = None
file_of (f ∷ fs) name =
    if pointwise nat_eq (string_bytes f.name) name then Some f.bytes.items else file_of fs name
