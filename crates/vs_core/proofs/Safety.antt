-- The laws of the machine, put together.
use Rattle.std.specs.Prelude.{◌≡◌, take}
use Rattle.std.proofs.Common.{subst, Ok}
use Rattle.vs_machine.specs.Laws as laws
use Rattle.vs_machine.specs.Owners.{owners_of}
use Rattle.vs_machine.specs.Runs.{IsReached}
use Rattle.vs_machine.specs.State.{sets_of}
use Rattle.vs_machine.specs.Step.{step}
use Rattle.vs_machine.specs.Whole.{Whole}
use Rattle.vs_core.specs.Safety.{SafeStates, SafeEvents, SafeRuns}

pub states : laws.CoherentRuns → laws.ChoiceRuns → laws.OwnedRuns → laws.SingleOwners → laws.ChosenWhole → laws.OneAccepts → laws.LegalRuns → laws.SingleRuns → laws.AnsweredRuns → laws.PresentRuns → laws.OrderedRuns → laws.FreshRuns → laws.FrozenRuns
    → SafeStates
states coherent chosen owned owner chosen_whole one legal single answered present ordered fresh frozen s there = record {
  coherent = coherent s there;
  chosen = chosen s there;
  owners = λ r. owner (owners_of s r) s (owned s r);
  whole = subst (λ own. Whole own s) (owner (owners_of s there) s (owned s there)) (owned s there);
  owned_once = λ own w. owner own s w;
  chosen_whole = λ keep.
      let n = sets_of s in
      subst (λ own. Whole (laws.chosen_owners own s keep n) (laws.chosen s keep n)) (owner (owners_of s there) s (owned s there)) (chosen_whole s there keep).1;
  one = one s there;
  legal = legal s there;
  single = single s there;
  answered = answered s there;
  present = present s there;
  ordered = ordered s there;
  fresh = fresh s there;
  frozen = frozen s there;
}

pub events : laws.UnheldRuns → laws.ActivatedRuns → laws.RefusedRuns → laws.AnsweredCommands → SafeEvents
events unheld activated refused answered s t e there steps = record {
  unheld = unheld s t e there steps;
  activated = activated s t e there steps;
  refused = λ c x k cause begins. refused s t c x k cause (subst (λ e. step s e ≡ Ok t) begins steps);
  answered = λ o out. answered s t e o out steps;
}

pub runs : SafeStates → SafeEvents → laws.OwnedRuns → laws.SingleOwners → laws.CausedCalls → laws.CausedCommands → laws.FiveEventRuns → SafeRuns
runs states events owned owner calls commands five config scripts held list opens = record {
  states = λ n s ran. states s (record { config = config; scripts = scripts; held = held; events = take n list; opens = opens; runs = ran });
  steps = λ n s t e ran there next. events s t e (record { config = config; scripts = scripts; held = held; events = take n list; opens = opens; runs = ran }) next;
  owners = λ n s ran.
      let r : IsReached s = record { config = config; scripts = scripts; held = held; events = take n list; opens = opens; runs = ran } in
      owner (owners_of s r) s (owned s r);
  calls = λ s ran. calls config scripts held list s ran;
  commands = λ s ran. commands config scripts held list s opens ran;
  five = λ s ran. five config scripts held list s ran;
}
