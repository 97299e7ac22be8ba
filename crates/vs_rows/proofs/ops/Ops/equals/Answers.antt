use Rattle.std.proofs.Common.{◌≡◌, ap, Decides, subst₂}
use Rattle.std.proofs.lemmas.Slice.Eq.{slice_eq-Decides}
use Rattle.vs_rows.proofs.SameOps.{op_decides}
use Rattle.vs_rows.proofs.ops.Ops.equals.Goals as goal

pub returns : goal.returns
returns c =
    subst₂ (λ a b. Decides c.eq.result (a ≡ b)) (ap (λ v. v.items) c.self.view_is) (ap (λ v. v.items) c.other.view_is)
    (slice_eq-Decides op_decides c.self.inside.ops.items c.other.inside.ops.items c.eq.result c.eq.ensures)
