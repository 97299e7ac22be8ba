use Rattle.std.proofs.Common.{◌≡◌, ◌∷◌, ◌%◌, arith, rules, subst, sym, lit≤}
use Rattle.std.specs.Fmt.{decimal}
use Rattle.vs_rows.specs.Faults.{IsCauseOf}
use Rattle.vs_rows.specs.Names.{IsValue}
use Rattle.vs_gen.proofs.Lettered.{lettered}
use Rattle.vs_gen.proofs.names.value.Goals as goal

pub unreachable-requires : goal.unreachable-requires
unreachable-requires c =
    let is : c.deref.result.now ≡ 118 ∷ decimal (c.args.draw % 1000) = search rules in
    let named : IsValue c.deref.result.now = subst IsValue (sym is) (lettered 256 118 (c.args.draw % 1000) (lit≤ tt) (lit≤ tt) (lit≤ tt) (omega arith)) in
    let refused : IsCauseOf IsValue c.in-Err-BadText.field-0 c.deref.result.now = c.in-Err-BadText.ensures.err in
    (rw c.in-Err-BadText.field-0-is at refused) named
