use Rattle.std.proofs.Common.{◌∙◌, sym, refl, ap, Some}
use Rattle.std.specs.Prelude.{◌&&◌}
use Rattle.std.specs.List.{list_any}
use Rattle.vs_machine.specs.Kinds.Rebalancing.{is_haul_of}
use Rattle.vs_machine.specs.Tables.{is_to}
use Rattle.vs_state.proofs.Hauls.{any_entry}
use Rattle.vs_state.proofs.tables.SetTables.is_hauling.Goals as goal

pub returns : goal.returns
returns c =
    let o = c.args.operator in
    let n = c.args.buckets in
    c.any_haul.ensures
    ∙ ap (list_any (λ e. is_to n e.0 && is_haul_of o (Some e.1))) c.entries-entries.ensures.all
    ∙ sym (any_entry (is_haul_of o) refl n c.args.self.now.transfers.items c.entries-entries.ensures.rising)
