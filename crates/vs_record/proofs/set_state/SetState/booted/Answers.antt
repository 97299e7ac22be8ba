use Rattle.std.proofs.Common.{◌∙◌, ap}
use Rattle.vs_space.specs.Entries.{status_of}
use Rattle.vs_record.specs.Durable.{booted}
use Rattle.vs_record.specs.RowTable.{row_map_at}
use Rattle.vs_record.specs.States.{durable}
use Rattle.vs_record.proofs.Tables.{empty_at}
use Rattle.vs_record.proofs.States.{same_state, entry_booted}
use Rattle.vs_record.proofs.set_state.SetState.booted.Goals as goal

pub returns : goal.returns
returns c =
    same_state (durable (record { space = c.in_ok-booted.field-0; rows = c.new.result })) (booted c.args.first c.args.count)
    (λ b. ap (λ es. status_of es b) c.in_ok-booted.ensures ∙ entry_booted c.args.count c.args.first b)
    (λ b. ap (λ es. row_map_at es b) c.new.ensures ∙ empty_at b)
