use Rattle.std.proofs.Common.{ℕ, ◌+◌, [], ◌∷◌, ◌++◌}
use Rattle.std.proofs.lemmas.Result.{err_from_is_err_and}
use Rattle.vs_audit.specs.ReportLines.{entry_at, entries_at}
use Rattle.vs_audit.specs.Words.{Words, Read}
use Rattle.vs_audit.proofs.Faults.{word_fails}
use Rattle.vs_audit.proofs.Lists.{left_first, left_next, left_end}
use Rattle.vs_audit.proofs.line_kinds.bucket_entries.Goals as goal

abbrev item : ℕ → ℕ → Words → Read (Unit {0})
item sets set words = entry_at sets set words

abbrev next : ℕ → Unit {0} → ℕ
next number _ = number + 1

pub loop-set-init : goal.loop-set-init
loop-set-init c = ([], left_first (item c.args.sets) next c.args.sets 1 c.args.words.now)

pub returns-in_err-bucket_entry : goal.returns-in_err-bucket_entry
returns-in_err-bucket_entry c =
    let p = err_from_is_err_and c.from_residual.result c.from_residual.ensures.1 in
    rw (p.1, p.2)
    (word_fails (item c.args.sets) next (entries_at c.args.sets c.args.words.now) c.loop-set.invariant.0 c.args.sets c.loop-set.set (c.loop-set.set + 1) c.loop-set.words c.in_err-bucket_entry.field-0.0 c.loop-set-test.true c.loop-set.invariant.1 c.in_err-bucket_entry.ensures)

pub loop-set-preserved : goal.loop-set-preserved
loop-set-preserved c = (
  c.loop-set.invariant.0 ++ tt ∷ [],
  left_next (item c.args.sets) next (entries_at c.args.sets c.args.words.now) c.loop-set.invariant.0 c.args.sets c.loop-set.set (c.loop-set.set + 1) c.loop-set.words c.bucket_entry.new.words tt c.loop-set-test.true c.loop-set.invariant.1 c.in_ok-bucket_entry.ensures,
)

pub returns : goal.returns
returns c = (c.loop-set.invariant.0, left_end (item c.args.sets) next (entries_at c.args.sets c.args.words.now) c.loop-set.invariant.0 c.args.sets c.loop-set.set (c.loop-set.set + 1) c.loop-set.words c.loop-set-test.false c.loop-set.invariant.1)
