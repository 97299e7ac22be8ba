use Rattle.std.proofs.Common.{◌≡◌, ◌∷◌, ◌%◌, arith, rules, subst, sym, lit≤}
use Rattle.std.specs.Fmt.{decimal}
use Rattle.vs_rows.specs.Faults.{IsCauseOf}
use Rattle.vs_rows.specs.Names.{IsKey}
use Rattle.vs_gen.proofs.Lettered.{lettered}
use Rattle.vs_gen.proofs.names.key.Goals as goal

pub unreachable-requires : goal.unreachable-requires
unreachable-requires c =
    let is : c.deref.result.now ≡ 107 ∷ decimal (c.args.draw % 100) = search rules in
    let named : IsKey c.deref.result.now = subst IsKey (sym is) (lettered 64 107 (c.args.draw % 100) (lit≤ tt) (lit≤ tt) (lit≤ tt) (omega arith)) in
    let refused : IsCauseOf IsKey c.in-Err-BadText.field-0 c.deref.result.now = c.in-Err-BadText.ensures.err in
    (rw c.in-Err-BadText.field-0-is at refused) named
