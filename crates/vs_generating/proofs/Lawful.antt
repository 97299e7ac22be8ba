-- The generated work is lawful for a cluster.
use Rattle.std.proofs.Common.{◌≡◌, List, [], length, lit≤, sym, subst}
use Rattle.std.specs.Prelude.{All, map}
use Rattle.std.proofs.lemmas.List.Elements.{All-nil}
use Rattle.vs_config.specs.Configuration.{Configuration}
use Rattle.vs_config.specs.Lawful as config
use Rattle.vs_machine.specs.Opening.{IsLawful}
use Rattle.vs_script.specs.Lawful.{IsLawfulCall, IsLawfulCommand, IsCutOf, MayRunTogether}
use Rattle.vs_script.specs.Calls.{Call}
use Rattle.vs_script.specs.Scripts.{Scripts}
use Rattle.vs_script.specs.declared.command.Command.{Command}

-- without scripts a lawful configuration is
pub lawful_without : (c : Configuration) → config.IsLawful c → IsLawful c (record { clients = []; operators = [] })
lawful_without c lawful = record {
  buckets = lawful.bucket_count;
  sets = lawful.number_of_sets;
  threshold = lawful.threshold;
  max_receiving = lawful.max_receiving;
  max_sending = lawful.max_sending;
  clients = lit≤ tt;
  operators = lit≤ tt;
  few_calls = lit≤ tt;
  few_scans = lit≤ tt;
  few_commands = lit≤ tt;
  calls = All-nil (All (IsLawfulCall c.bucket_count));
  commands = All-nil (All (IsLawfulCommand c.bucket_count (length c.sets)));
  cuts = All-nil (All (IsCutOf []));
}

pub lawful_none : {A B : Type 0} (c : Configuration) (f : A → List Call) (g : B → List Command) (clients : List A) (operators : List B) → config.IsLawful c → clients ≡ [] → operators ≡ [] → IsLawful c (record { clients = map f clients; operators = map g operators })
lawful_none {A} {B} c f g clients operators lawful no_clients no_operators =
    subst (λ (cs : List A). IsLawful c (record { clients = map f cs; operators = map g operators })) (sym no_clients)
    (subst (λ (os : List B). IsLawful c (record { clients = []; operators = map g os })) (sym no_operators) (lawful_without c lawful))

-- the generated scripts are
pub lawful_with : (c : Configuration) (scripts : Scripts) → config.IsLawful c → MayRunTogether scripts → All (All (IsLawfulCall c.bucket_count)) scripts.clients → All (All (IsLawfulCommand c.bucket_count (length c.sets))) scripts.operators → IsLawful c scripts
lawful_with c scripts lawful together calls commands = record {
  buckets = lawful.bucket_count;
  sets = lawful.number_of_sets;
  threshold = lawful.threshold;
  max_receiving = lawful.max_receiving;
  max_sending = lawful.max_sending;
  clients = together.clients;
  operators = together.operators;
  few_calls = together.few_calls;
  few_scans = together.few_scans;
  few_commands = together.few_commands;
  calls = calls;
  commands = commands;
  cuts = together.cuts;
}
