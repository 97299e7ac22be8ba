use Rattle.std.proofs.Common.{◌≡◌, true, Ok, sym, ap, subst, ◌∙◌}
use Rattle.vs_calls.specs.Progress.{is_acted}
use Rattle.vs_machine.specs.Kinds.Calls as kinds
use Rattle.vs_machine.specs.State as machine
use Rattle.vs_state.specs.Plain.{plain}
use Rattle.vs_core.specs.References.{AgreesWith}
use Rattle.vs_core.proofs.Calls.{end_acted, end_is}
use Rattle.vs_core.proofs.kinds.end.end.Goals as goal

pub end_present-requires-clause-acted : goal.end_present-requires-clause-acted
end_present-requires-clause-acted c = subst (λ (s : machine.State). is_acted (s.client c.args.client).present.stage ≡ true) (sym c.give_back.ensures.same) (end_acted (plain c.args.state.now) c.args.client c.requires.possible)

pub end_present-requires-clause-agrees : goal.end_present-requires-clause-agrees
end_present-requires-clause-agrees c = subst (λ (s : machine.State). AgreesWith c.give_back.new.state (kinds.after_end s c.args.client)) (sym c.give_back.ensures.same) c.give_back.ensures.agrees

pub returns-clause-step : goal.returns-clause-step
returns-clause-step c =
    end_is (plain c.args.state.now) c.args.client c.requires.possible
    ∙ ap Ok (sym (c.end_present.ensures.ended ∙ ap (λ (s : machine.State). kinds.after_end s c.args.client) c.give_back.ensures.same))
