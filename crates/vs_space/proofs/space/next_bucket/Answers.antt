use Rattle.std.proofs.Common.{ℕ, Option, Some, None, sym, subst, arith, unwrap_or}
use Rattle.vs_space.specs.Class.{is_of, IsNextPlace}
use Rattle.vs_space.specs.Entries.{status_of}
use Rattle.vs_space.specs.Next.{IsNext}
use Rattle.vs_space.specs.Table.{entries_from}
use Rattle.vs_space.proofs.Next.{bucket_at, no_bucket}
use Rattle.vs_space.proofs.space.next_bucket.Goals as goal

pub returns-in_err-index : goal.returns-in_err-index
returns-in_err-index c =
    let places = c.args.places.now in
    subst (λ (o : Option ℕ). IsNext (λ b. is_of c.args.class (status_of (entries_from 1 places) b)) (unwrap_or c.args.after 0) o) (sym c.from_residual.ensures)
    (no_bucket c.args.class places (unwrap_or c.args.after 0) (subst (λ (n : ℕ). IsNextPlace c.args.class places n None) c.index_after.ensures c.in_err-index.ensures))

pub returns : goal.returns
returns c =
    let places = c.args.places.now in
    let i = c.in_ok-index.index in
    let first = subst (λ (n : ℕ). IsNextPlace c.args.class places n (Some i)) c.index_after.ensures c.in_ok-index.ensures in
    bucket_at c.args.class places (unwrap_or c.args.after 0) i (omega (arith, first.1)) first c.new.result c.new.ensures
