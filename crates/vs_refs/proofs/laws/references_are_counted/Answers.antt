use Rattle.std.proofs.Common.{◌∙◌, subst, sym, ap, arith}
use Rattle.vs_refs.specs.Counts.{no_counts, lock_of}
use Rattle.vs_refs.specs.Calls.{IsAllowed, after}
use Rattle.vs_refs.proofs.Counted as counted
use Rattle.vs_refs.proofs.Locks as locks
use Rattle.vs_refs.proofs.laws.references_are_counted.Goals as goal

pub returns-clause-goes_on : goal.returns-clause-goes_on
returns-clause-goes_on c calls call old new left allowed makes = record {
  allowed = λ b. counted.allowed_more calls call b no_counts (left.allowed b) (subst (IsAllowed call b) (left.counts b) (allowed b));
  counts = λ b. makes b ∙ ap (after call b) (left.counts b) ∙ sym (counted.after_more calls call b no_counts);
}

pub returns-clause-counts : goal.returns-clause-counts
returns-clause-counts c calls entries b mode left =
    rw (left.counts b) (let sum = counted.from_none b mode calls (left.allowed b) in omega arith)

pub returns-clause-given_after_taken : goal.returns-clause-given_after_taken
returns-clause-given_after_taken c calls entries b mode left =
    let sum = counted.from_none b mode calls (left.allowed b) in omega arith

pub returns-clause-locks : goal.returns-clause-locks
returns-clause-locks c calls entries b mode left =
    ap (λ counts. lock_of counts mode) (left.counts b) ∙ locks.from_none b mode calls
