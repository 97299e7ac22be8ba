use Rattle.std.proofs.Common.{length}
use Rattle.vs_script.proofs.LawfulScripts.{found_lawful}
use Rattle.vs_script.proofs.read.read_script.Goals as goal

pub returns-clause-lawful : goal.returns-clause-lawful
returns-clause-lawful c =
    found_lawful c.args.config.now.bucket_count (length c.args.config.now.sets.items) c.args.text.now c.script_in.result (rw c.len.ensures.value at c.script_in.ensures)
