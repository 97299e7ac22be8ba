use Rattle.std.proofs.Common.{◌≡◌, Ok, None, rules}
use Rattle.std.proofs.lemmas.Result.{err_from_is_err_and}
use Rattle.vs_text.specs.Lines.{words_in}
use Rattle.vs_script.specs.declared.header.Header.TheVariants as header
use Rattle.vs_script.specs.Calls.{calls}
use Rattle.vs_script.specs.Lines.{header_of}
use Rattle.vs_script.proofs.Texts.{bad_before, no_entry, bad_header, client, bad_client, operator, bad_operator}
use Rattle.vs_script.proofs.read.script_in.Goals as goal

pub returns-in_err-line : goal.returns-in_err-line
returns-in_err-line c =
    let p = err_from_is_err_and c.from_residual.result c.from_residual.ensures.1 in
    rw (p.1, p.2) (bad_before c.args.buckets c.args.sets c.args.text.now c.in_err-line.field-0.0 (rw c.of-lines.ensures at c.in_err-line.ensures))

pub returns-in_default : goal.returns-in_default
returns-in_default c =
    let none : c.in_ok-line.field-0 ≡ None = search rules in
    rw c.at.ensures (no_entry c.args.buckets c.args.sets c.args.text.now (rw (none, c.of-lines.ensures) at c.in_ok-line.ensures))

pub returns-in_err-calls-in-Ok-Client : goal.returns-in_err-calls-in-Ok-Client
returns-in_err-calls-in-Ok-Client c =
    let p = err_from_is_err_and c.from_residual-in_err-calls-in-Ok-Client.result c.from_residual-in_err-calls-in-Ok-Client.ensures.1 in
    let first = rw (c.in-Some.is, c.of-lines.ensures) at c.in_ok-line.ensures in
    let is : header_of (words_in c.in-Some.line.now) ≡ Ok header.Client = search rules in
    rw (p.1, p.2) (bad_client c.args.buckets c.args.sets c.args.text.now c.next.new.self.0 (words_in c.in-Some.line.now) c.next.new.self.1 c.in_err-calls-in-Ok-Client.field-0.0 first is c.in_err-calls-in-Ok-Client.ensures)

pub returns-in_ok-calls-in-Ok-Client : goal.returns-in_ok-calls-in-Ok-Client
returns-in_ok-calls-in-Ok-Client c =
    let first = rw (c.in-Some.is, c.of-lines.ensures) at c.in_ok-line.ensures in
    let is : header_of (words_in c.in-Some.line.now) ≡ Ok header.Client = search rules in
    client c.args.buckets c.args.sets c.args.text.now c.next.new.self.0 (words_in c.in-Some.line.now) c.next.new.self.1 (calls c.in_ok-calls-in-Ok-Client.calls.items) first is c.in_ok-calls-in-Ok-Client.ensures

pub returns-in_err-commands-in-Ok-Operator : goal.returns-in_err-commands-in-Ok-Operator
returns-in_err-commands-in-Ok-Operator c =
    let p = err_from_is_err_and c.from_residual-in_err-commands-in-Ok-Operator.result c.from_residual-in_err-commands-in-Ok-Operator.ensures.1 in
    let first = rw (c.in-Some.is, c.of-lines.ensures) at c.in_ok-line.ensures in
    let is : header_of (words_in c.in-Some.line.now) ≡ Ok header.Operator = search rules in
    rw (p.1, p.2) (bad_operator c.args.buckets c.args.sets c.args.text.now c.next.new.self.0 (words_in c.in-Some.line.now) c.next.new.self.1 c.in_err-commands-in-Ok-Operator.field-0.0 first is c.in_err-commands-in-Ok-Operator.ensures)

pub returns-in_ok-commands-in-Ok-Operator : goal.returns-in_ok-commands-in-Ok-Operator
returns-in_ok-commands-in-Ok-Operator c =
    let first = rw (c.in-Some.is, c.of-lines.ensures) at c.in_ok-line.ensures in
    let is : header_of (words_in c.in-Some.line.now) ≡ Ok header.Operator = search rules in
    operator c.args.buckets c.args.sets c.args.text.now c.next.new.self.0 (words_in c.in-Some.line.now) c.next.new.self.1 c.in_ok-commands-in-Ok-Operator.commands.items first is c.in_ok-commands-in-Ok-Operator.ensures

pub returns-in-Err : goal.returns-in-Err
returns-in-Err c =
    let first = rw (c.in-Some.is, c.of-lines.ensures) at c.in_ok-line.ensures in
    rw (c.at-in-Err.ensures, c.number.ensures) (bad_header c.args.buckets c.args.sets c.args.text.now c.next.new.self.0 (words_in c.in-Some.line.now) c.next.new.self.1 c.in-Err.kind first (search rules))
