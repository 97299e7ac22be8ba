use Rattle.std.proofs.Common.{◌≡◌, ℕ, ◌≤◌, List, length, sym, ap, ◌∙◌, subst}
use Rattle.std.specs.List.{All}
use Rattle.vs_core.specs.Core.{means}
use Rattle.vs_state.specs.Plain.{plain}
use Rattle.vs_state.specs.declared.state.State as tables
use Rattle.vs_survey.specs.Readers.{page}
use Rattle.vs_drive.proofs.Learning.{page_within}
use Rattle.vs_drive.proofs.client.ClientDriver.learn.Goals as goal

pub learn-requires : goal.learn-requires
learn-requires c =
    let count : length c.args.self.now.router ≡ (means c.args.core.now).config.bucket_count =
    c.fits.ensures.0 c.if-not-fits.false ∙ ap (λ (t : tables.State). (plain t).config.bucket_count) c.state-state.ensures.value in
    let ids = page (means c.args.core.now) c.args.page.set c.args.page.after in
    let within = subst (λ (n : ℕ). All (λ (b : ℕ). b ≤ n) ids) (sym count) (page_within (means c.args.core.now) c.args.page.set c.args.page.after) in
    subst (λ (xs : List ℕ). All (λ (b : ℕ). b ≤ length c.args.self.now.router) xs) (sym c.in_ok-ids.ensures) within
