use Rattle.std.proofs.Common.{◌≡◌, ℕ, ◌-◌, ◌<◌, true, false, [], ◌∷◌, ◌++◌, length, refl, sym, ◌∙◌, arith}
use Rattle.std.specs.Prelude.{codes}
use Rattle.std.proofs.lemmas.Result.{err_from_is_err_and}
use Rattle.vs_audit.specs.Report.{begins, command_at, commands_at}
use Rattle.vs_audit.specs.ReportLines.{command_line}
use Rattle.vs_audit.proofs.Faults.{begun_fails}
use Rattle.vs_audit.proofs.LineEnds.{begins_within, line_less}
use Rattle.vs_audit.proofs.Lists.{length_more, all_end, begun_start, begun_more}
use Rattle.vs_audit.proofs.call_lines.commands.Goals as goal

abbrev next : ℕ → ℕ → ℕ
next _ n = n

pub loop-lines-init : goal.loop-lines-init
loop-lines-init c = record {
  done = [];
  so_far = begun_start (command_at c.args.sets) next (begins (codes "command")) [] (length c.args.lines.now.lines) 0 0 c.args.lines.now refl refl;
  fewer = omega arith;
}

pub returns-in_err-number : goal.returns-in_err-number
returns-in_err-number c =
    let begun : begins (codes "command") c.loop-lines.lines ≡ true = sym c.begin.ensures ∙ c.loop-lines-test.true in
    let within : length c.loop-lines.invariant.done < length c.args.lines.now.lines = omega (arith, c.loop-lines.invariant.fewer, begins_within (codes "command") c.loop-lines.lines begun) in
    let p = err_from_is_err_and c.from_residual.result c.from_residual.ensures.1 in
    rw (p.1, p.2)
    (begun_fails (command_at c.args.sets) next (begins (codes "command")) (commands_at c.args.sets c.args.lines.now) c.loop-lines.invariant.done (length c.args.lines.now.lines) (length c.loop-lines.invariant.done) c.loop-lines.last c.loop-lines.lines c.in_err-number.field-0.0 within c.loop-lines.invariant.so_far begun c.in_err-number.ensures)

pub loop-lines-preserved : goal.loop-lines-preserved
loop-lines-preserved c =
    let begun : begins (codes "command") c.loop-lines.lines ≡ true = sym c.begin.ensures ∙ c.loop-lines-test.true in
    let within : length c.loop-lines.invariant.done < length c.args.lines.now.lines = omega (arith, c.loop-lines.invariant.fewer, begins_within (codes "command") c.loop-lines.lines begun) in
    let less = line_less (λ _ words. command_line c.args.sets c.loop-lines.last words) c.loop-lines.lines c.command.new.lines c.in_ok-number.number c.in_ok-number.ensures in
    let longer = length_more c.loop-lines.invariant.done (c.loop-lines.invariant.done ++ c.in_ok-number.number ∷ []) c.in_ok-number.number refl in
    record {
      done = c.loop-lines.invariant.done ++ c.in_ok-number.number ∷ [];
      so_far = begun_more (command_at c.args.sets) next (begins (codes "command")) (commands_at c.args.sets c.args.lines.now) c.loop-lines.invariant.done (c.loop-lines.invariant.done ++ c.in_ok-number.number ∷ []) (length c.args.lines.now.lines) (length c.loop-lines.invariant.done) (length (c.loop-lines.invariant.done ++ c.in_ok-number.number ∷ [])) c.loop-lines.last c.in_ok-number.number c.loop-lines.lines c.command.new.lines c.in_ok-number.number
          within refl longer refl c.loop-lines.invariant.so_far begun c.in_ok-number.ensures;
      fewer = omega (arith, c.loop-lines.invariant.fewer, less, longer);
    }

pub returns : goal.returns
returns c =
    let ended : begins (codes "command") c.loop-lines.lines ≡ false = sym c.begin.ensures ∙ c.loop-lines-test.false in
    (c.loop-lines.invariant.done, all_end (command_at c.args.sets) next (begins (codes "command")) (commands_at c.args.sets c.args.lines.now) c.loop-lines.invariant.done (length c.args.lines.now.lines - length c.loop-lines.invariant.done) c.loop-lines.last c.loop-lines.lines c.loop-lines.invariant.so_far ended)
