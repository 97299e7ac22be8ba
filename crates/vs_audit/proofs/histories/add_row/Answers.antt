use Rattle.std.proofs.Common.{◌∙◌, ◌≡◌, [], ◌∷◌}
use Rattle.vs_audit.proofs.Lists.{grow}
use Rattle.vs_audit.proofs.Rows.{page_above}
use Rattle.vs_audit.proofs.histories.add_row.Goals as goal

pub returns : goal.returns
returns c =
    let one : c.push.new.self.items ≡ c.args.row ∷ [] = grow [] c.reserve.new.self.items c.push.new.self.items c.args.row c.push.ensures.items (c.reserve.ensures.items ∙ c.new-page.ensures) in
    page_above c.args.rows.now.items c.reserve-2.new.self.items c.put_page.new.self.items c.push.new.self.items c.args.row c.reserve-2.ensures.items c.put_page.ensures.items one c.requires
