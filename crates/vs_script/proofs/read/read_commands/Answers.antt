use Rattle.std.proofs.Common.{◌≡◌, ◌∙◌, ◌+◌, ◌++◌, ◌∷◌, [], sym, rules, None}
use Rattle.std.proofs.lemmas.Result.{err_from_is_err_and}
use Rattle.vs_text.specs.Lines.{words_in}
use Rattle.vs_script.specs.Lines.{command_of}
use Rattle.vs_script.proofs.Entries.{bad_line, bad_entry, fewer, none_left, one_more}
use Rattle.vs_script.proofs.read.read_commands.Goals as goal

pub returns-in_err-line : goal.returns-in_err-line
returns-in_err-line c =
    let p = err_from_is_err_and c.from_residual.result c.from_residual.ensures.1 in
    rw (p.1, p.2, c.loop-commands.invariant) (bad_line (command_of c.args.buckets c.args.sets) (c.loop-commands.lines.0 + 1) c.loop-commands.lines.1 c.loop-commands.commands.items c.in_err-line.field-0.0 c.in_err-line.ensures)

pub loop-commands-smaller : goal.loop-commands-smaller
loop-commands-smaller c =
    let first = rw c.in-Some.is at c.in_ok-line.ensures in
    fewer (c.loop-commands.lines.0 + 1) c.loop-commands.lines.1 (c.next.new.self.0, words_in c.in-Some.line.now, c.next.new.self.1) first

pub loop-commands-preserved : goal.loop-commands-preserved
loop-commands-preserved c =
    let first = rw c.in-Some.is at c.in_ok-line.ensures in
    let pushed : c.push.new.self.items ≡ c.loop-commands.commands.items ++ c.in-Ok.command ∷ [] = search rules in
    rw pushed (c.loop-commands.invariant ∙ one_more (command_of c.args.buckets c.args.sets) (c.loop-commands.lines.0 + 1) c.loop-commands.lines.1 c.loop-commands.commands.items c.next.new.self.0 (words_in c.in-Some.line.now) c.next.new.self.1 c.in-Ok.command first (sym c.in-Ok.ensures))

pub returns-in-Err : goal.returns-in-Err
returns-in-Err c =
    let first = rw c.in-Some.is at c.in_ok-line.ensures in
    rw (c.at.ensures, c.number.ensures, c.loop-commands.invariant) (bad_entry (command_of c.args.buckets c.args.sets) (c.loop-commands.lines.0 + 1) c.loop-commands.lines.1 c.loop-commands.commands.items c.next.new.self.0 (words_in c.in-Some.line.now) c.next.new.self.1 c.in-Err.kind first (sym c.in-Err.ensures))

pub returns : goal.returns
returns c =
    let none : c.in_ok-line.field-0 ≡ None = search rules in
    let first = rw none at c.in_ok-line.ensures in
    c.loop-commands.invariant ∙ none_left (command_of c.args.buckets c.args.sets) (c.loop-commands.lines.0 + 1) c.loop-commands.lines.1 c.loop-commands.commands.items first
