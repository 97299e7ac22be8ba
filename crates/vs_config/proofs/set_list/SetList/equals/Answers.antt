use Rattle.std.proofs.Common.{◌≡◌, ◌∙◌, ap, Decides, subst₂}
use Rattle.std.proofs.lemmas.Slice.Eq.{slice_eq-Decides}
use Rattle.vs_config.proofs.SameSets.{set_decides}
use Rattle.vs_config.proofs.set_list.SetList.equals.Goals as goal

pub returns : goal.returns
returns c =
    subst₂ (λ a b. Decides c.eq.result (a ≡ b)) (c.as_slice.ensures ∙ ap (λ v. v.items) c.self.view_is) (c.as_slice-2.ensures ∙ ap (λ v. v.items) c.other.view_is)
    (slice_eq-Decides set_decides c.as_slice.result.now c.as_slice-2.result.now c.eq.result c.eq.ensures)
