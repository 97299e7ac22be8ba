use Rattle.std.proofs.Common.{◌≡◌, None, sym, map}
use Rattle.std.specs.Prelude.{string_bytes}
use Rattle.vs_command.proofs.Given.{no_matches, refused}
use Rattle.vs_command.proofs.line.read_line.Goals as goal

pub returns-in-Ok-None : goal.returns-in-Ok-None
returns-in-Ok-None c =
    let words = map string_bytes c.args.words.now in
    let none : c.in-Ok-None.field-0 ≡ None = cc in
    sym (refused words c.requires (no_matches c.in-Ok-None.field-0 words none c.in-Ok-None.ensures))
