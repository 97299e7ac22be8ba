use Rattle.vs_core.proofs.Safety as safety
use Rattle.vs_core.proofs.laws.safe_runs.Goals as goal

pub returns-clause-states : goal.returns-clause-states
returns-clause-states c = safety.states c.one_owner.ensures.coherent c.one_owner.ensures.chosen c.every_event.ensures.owned c.every_event.ensures.owner c.every_event.ensures.chosen c.one_owner.ensures.one c.legal_histories.ensures.legal c.legal_histories.ensures.single c.legal_histories.ensures.answered c.legal_histories.ensures.present c.ordered_calls.ensures.ordered c.ordered_calls.ensures.fresh c.ordered_calls.ensures.frozen

pub returns-clause-events : goal.returns-clause-events
returns-clause-events c = safety.events c.held_buckets.ensures c.sealed_rows.ensures c.true_answers.ensures.refused c.true_answers.ensures.answered

pub returns-clause-runs : goal.returns-clause-runs
returns-clause-runs c = safety.runs (returns-clause-states c) (returns-clause-events c) c.every_event.ensures.owned c.every_event.ensures.owner c.caused_answers.ensures.calls c.caused_answers.ensures.commands c.five_events.ensures
