use Rattle.std.proofs.Common.{rules}
use Rattle.vs_rows.proofs.Pushed.{fits_after, full}
use Rattle.vs_rows.proofs.page.Page.can_push.Goals as goal

pub returns-then-len-ge-MAX : goal.returns-then-len-ge-MAX
returns-then-len-ge-MAX c = (λ h. cc, λ h. absurd (full c.args.self.now.items c.args.key.now (search rules) h))

pub returns-in-Some : goal.returns-in-Some
returns-in-Some c = fits_after c.args.self.now.items c.args.key.now c.in-Some.field-0.now c.lt.result (search rules) (search rules) (search rules) c.lt.ensures
