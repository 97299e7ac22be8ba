use Rattle.std.proofs.Common.{sym, ◌∙◌}
use Rattle.vs_machine.specs.State.{sets_of}
use Rattle.vs_state.specs.Plain.{plain}
use Rattle.vs_drive.specs.Posting.{cached}
use Rattle.vs_drive.proofs.Serving.{first_default, first_found, found}
use Rattle.vs_drive.proofs.posting.first_set.Goals as goal

pub returns-in-Some-search-clause-set : goal.returns-in-Some-search-clause-set
returns-in-Some-search-clause-set c =
    let s = plain c.args.state.now in
    let lowest = found s c.args.bucket (sets_of s) c.deref.result.now c.search.result (c.deref.ensures.value ∙ c.in_ok-said.ensures) c.search.ensures.lowest in
    first_found s (cached c.args.router.now c.args.bucket) c.args.bucket c.search.result c.in-Some-search.set (sym c.cached.ensures ∙ c.in_default.is) lowest c.in-Some-search.is

pub returns-clause-set : goal.returns-clause-set
returns-clause-set c =
    let s = plain c.args.state.now in
    let lowest = found s c.args.bucket (sets_of s) c.deref.result.now c.search.result (c.deref.ensures.value ∙ c.in_ok-said.ensures) c.search.ensures.lowest in
    c.set_one.ensures ∙ first_default s (cached c.args.router.now c.args.bucket) c.args.bucket c.search.result (sym c.cached.ensures ∙ c.in_default.is) lowest c.in-None.is
