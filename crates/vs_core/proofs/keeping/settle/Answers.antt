use Rattle.std.proofs.Common.{◌≡◌, true, Option, sym, ap, subst, ◌∙◌}
use Rattle.std.specs.Prelude.{option_map}
use Rattle.vs_record.specs.Change.{bucket_of, change}
use Rattle.vs_record.specs.Change as plain_change
use Rattle.vs_machine.specs.Kinds.Stops.{with_change}
use Rattle.vs_machine.specs.State as machine
use Rattle.vs_state.specs.Plain.{plain}
use Rattle.vs_core.specs.Restarting.{settled, IsLawfulChange, IsPendingReady}
use Rattle.vs_core.proofs.Restarting.{none_kept, not_kept, pending_bucket, pending_lawful, some_kept, taken_ready}
use Rattle.vs_core.proofs.keeping.settle.Goals as goal

pub returns-in_default-clause-settled : goal.returns-in_default-clause-settled
returns-in_default-clause-settled c =
    let s = plain c.args.state.now in
    let x = c.args.set in
    c.take_pending.ensures.gone ∙ ap (settled s x) (sym (none_kept c.args.kept (s.pending x) (sym c.take_pending.ensures.taken ∙ ap (option_map change) c.in_default.is)))

pub returns-then-not-kept-clause-settled : goal.returns-then-not-kept-clause-settled
returns-then-not-kept-clause-settled c =
    let s = plain c.args.state.now in
    let x = c.args.set in
    c.take_pending.ensures.gone ∙ ap (settled s x) (sym (not_kept c.args.kept (s.pending x) c.if-not-kept.true))

pub keep_change-requires-clause-bucket : goal.keep_change-requires-clause-bucket
keep_change-requires-clause-bucket c =
    let d = change c.in-Some.pending in
    let is = sym c.take_pending.ensures.taken ∙ ap (option_map change) c.in-Some.is in
    subst (λ (m : machine.State). machine.has_bucket m (bucket_of d) ≡ true) (sym c.take_pending.ensures.gone) (pending_bucket (plain c.args.state.now) c.requires.known c.args.set d is)

pub keep_change-requires-clause-lawful : goal.keep_change-requires-clause-lawful
keep_change-requires-clause-lawful c =
    let d = change c.in-Some.pending in
    let x = c.args.set in
    let is = sym c.take_pending.ensures.taken ∙ ap (option_map change) c.in-Some.is in
    subst (λ (m : machine.State). IsLawfulChange ((m.bucket (bucket_of d)).entry x) d) (sym c.take_pending.ensures.gone) (pending_lawful (plain c.args.state.now) c.requires.known x d is)

pub keep_change-requires-clause-ready : goal.keep_change-requires-clause-ready
keep_change-requires-clause-ready c =
    let s = c.args.state.now in
    let x = c.args.set in
    let d = change c.in-Some.pending in
    let is = sym c.take_pending.ensures.taken ∙ ap (option_map change) c.in-Some.is in
    taken_ready s c.take_pending.new.state x c.take_pending.ensures.tables c.take_pending.ensures.histories d c.args.staged
    (subst (λ (o : Option plain_change.Change). IsPendingReady s x o c.args.staged) (some_kept c.args.kept ((plain s).pending x) d c.if-not-kept.false is) c.requires.ready)

pub returns-clause-settled : goal.returns-clause-settled
returns-clause-settled c =
    let s = plain c.args.state.now in
    let x = c.args.set in
    let d = change c.in-Some.pending in
    let b = bucket_of d in
    let is = sym c.take_pending.ensures.taken ∙ ap (option_map change) c.in-Some.is in
    c.keep_change.ensures.kept
    ∙ ap (λ (m : machine.State). machine.put_bucket m b (with_change (m.bucket b) x d)) c.take_pending.ensures.gone
    ∙ ap (settled s x) (sym (some_kept c.args.kept (s.pending x) d c.if-not-kept.false is))
