use Rattle.std.proofs.Common.{◌≡◌, true, sym, ap, subst, ◌∙◌}
use Rattle.std.specs.Option.{option_copied}
use Rattle.std.specs.Prelude.{option_map}
use Rattle.vs_record.specs.Change.{bucket_of, change}
use Rattle.vs_record.specs.declared.change.Change.{Change}
use Rattle.vs_machine.specs.State as machine
use Rattle.vs_state.specs.Plain.{plain}
use Rattle.vs_core.proofs.Restarting.{kept_is, pending_bucket}
use Rattle.vs_core.proofs.keeping.reserve_change.Goals as goal

pub stage_write-requires-clause-bucket : goal.stage_write-requires-clause-bucket
stage_write-requires-clause-bucket c =
    let s = plain c.args.state.now in
    let x = c.args.set in
    let d = change c.in-Some.pending.now in
    let is = kept_is c.args.kept (s.pending x) d (sym c.kept_change.ensures ∙ ap (λ r. option_map change (option_copied r)) c.in-Some.is) in
    subst (λ (p : Change). machine.has_bucket s (bucket_of (change p)) ≡ true) c.in-Write.is (pending_bucket s c.requires.known x d is)
