use Rattle.std.proofs.Common.{◌≡◌, ap, Decides, subst₂}
use Rattle.vs_rows.proofs.Same.{same_rows}
use Rattle.vs_rows.proofs.rows.Rows.equals.Goals as goal

pub returns : goal.returns
returns c =
    subst₂ (λ a b. Decides c.eq.result (a ≡ b)) (ap (λ v. v.items) c.self.view_is) (ap (λ v. v.items) c.other.view_is)
    (same_rows c.self.inside.rows.items c.other.inside.rows.items c.eq.result c.eq.ensures)
