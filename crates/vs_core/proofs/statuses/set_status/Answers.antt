use Rattle.std.proofs.Common.{◌≡◌, Result, Ok, Err, Some, IsOk, OnOk, ap, ◌∙◌}
use Rattle.vs_space.specs.Entries.{status_of, with_status}
use Rattle.vs_core.proofs.Updated.{status_changed}
use Rattle.vs_core.proofs.statuses.set_status.Goals as goal

on_ok : {A B : Type 0} (r : Result A B) (P : Type 0) → IsOk r → OnOk r P → P
on_ok (Ok a) P is on = on
on_ok (Err e) P is on = absurd (cc is)

pub returns : goal.returns
returns c = λ q.
    let es = c.args.space.now.entries in
    ap (λ es. status_of es q) (on_ok c.change.result (c.change.new.self.entries ≡ with_status es c.args.bucket (Some c.args.status)) (c.change.ensures.allowed.1 c.requires.allowed) c.change.ensures.ok)
    ∙ status_changed es c.args.bucket (Some c.args.status) q
