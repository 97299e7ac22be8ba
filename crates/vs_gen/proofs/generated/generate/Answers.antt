use Rattle.std.proofs.Common.{◌≡◌, ℕ, List, sym, ap, length, map, subst, lit≤}
use Rattle.std.specs.Prelude.{All}
use Rattle.vs_config.specs.Configuration.{Configuration}
use Rattle.vs_config.specs.Lawful.{IsLawful}
use Rattle.vs_script.specs.Calls.{Call, calls}
use Rattle.vs_script.specs.Lawful.{IsLawfulCall, IsLawfulCommand, MayRunTogether}
use Rattle.vs_script.specs.Scripts.{Scripts}
use Rattle.vs_script.specs.declared.command.Command.{Command}
use Rattle.vs_gen.proofs.Lawful.{lawful_calls, lawful_commands, lawful_configuration, together}
use Rattle.vs_gen.proofs.generated.generate.Goals as goal

same_scripts : (a b : List (List Call)) (x y : List (List Command)) → a ≡ b → x ≡ y
    → (let s : Scripts = record { clients = a; operators = x } in s) ≡ record { clients = b; operators = y }
same_scripts a b x y d e = cc

pub returns-clause-scripts : goal.returns-clause-scripts
returns-clause-scripts c = same_scripts _ _ _ _ c.in_ok-clients.ensures c.in_ok-operators.ensures

pub returns-clause-configurations : goal.returns-clause-configurations
returns-clause-configurations c = (
  subst IsLawful (sym c.in_ok-first.ensures) (lawful_configuration 1 (lit≤ tt)),
  subst IsLawful (sym c.in_ok-second.ensures) (lawful_configuration 2 (lit≤ tt)),
)

pub returns-clause-together : goal.returns-clause-together
returns-clause-together c =
    subst MayRunTogether (sym (same_scripts _ _ _ _ c.in_ok-clients.ensures c.in_ok-operators.ensures)) (together c.args.number)

pub returns-clause-calls : goal.returns-clause-calls
returns-clause-calls c =
    let buckets : c.in_ok-second.second.bucket_count ≡ 3000 = ap (λ (k : Configuration). k.bucket_count) c.in_ok-second.ensures in
    let P : ℕ → List (List Call) → Type 0 = λ m clients. All (All (IsLawfulCall m)) clients in
    subst (λ m. P m (map (λ k. calls k.items) c.in_ok-clients.clients.items)) (sym buckets) (subst (P 3000) (sym c.in_ok-clients.ensures) (lawful_calls c.args.number 8 2500))

pub returns-clause-commands : goal.returns-clause-commands
returns-clause-commands c =
    let sets = length c.in_ok-second.second.sets.items in
    let buckets : c.in_ok-second.second.bucket_count ≡ 3000 = ap (λ (k : Configuration). k.bucket_count) c.in_ok-second.ensures in
    let P : ℕ → List (List Command) → Type 0 = λ m commands. All (All (IsLawfulCommand m sets)) commands in
    subst (λ m. P m (map (λ k. k.items) c.in_ok-operators.operators.items)) (sym buckets) (subst (P 3000) (sym c.in_ok-operators.ensures) (lawful_commands sets))
