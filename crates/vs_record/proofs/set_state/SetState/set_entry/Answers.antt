use Rattle.std.proofs.Common.{◌≡◌, ◌∙◌, ap, refl, rules}
use Rattle.vs_space.specs.Entries.{status_of, with_status}
use Rattle.vs_record.specs.Durable.{with_entry}
use Rattle.vs_record.specs.States.{durable}
use Rattle.vs_record.proofs.States.{same_state, entry_set}
use Rattle.vs_record.proofs.set_state.SetState.set_entry.Goals as goal

pub returns-clause-entries : goal.returns-clause-entries
returns-clause-entries c =
    let es = c.args.self.now.space.entries in
    let entries : c.change-changed.new.self.entries ≡ with_status es c.args.bucket c.args.new = search rules in
    same_state (durable (record { space = c.change-changed.new.self; rows = c.args.self.now.rows })) (with_entry (durable c.args.self.now) c.args.bucket c.args.new)
    (λ q. ap (λ l. status_of l q) entries ∙ entry_set es c.args.bucket c.args.new q) (λ q. refl)
