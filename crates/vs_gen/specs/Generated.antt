-- What a number generates.
use Rattle.std.specs.Prelude.{ℕ, [], ◌∷◌}
use Rattle.vs_config.specs.Configuration.{Configuration}
use Rattle.vs_script.specs.Scripts.{Scripts}
use Rattle.vs_script.specs.declared.command.Command.TheVariants.{Balance}
use Rattle.vs_gen.specs.Calls.{drawn_clients}
use Rattle.vs_gen.specs.Configurations.{configuration_of}

-- the configuration before, where all sets have the same weight
abbrev pub first_configuration : Configuration
first_configuration = configuration_of 1

-- and the one that a balancing is to bring about
abbrev pub second_configuration : Configuration
second_configuration = configuration_of 2

-- eight clients with 2,500 calls each, and an operator that balances
abbrev pub scripts_of : ℕ → Scripts
scripts_of n = record { clients = drawn_clients n 8 2500; operators = (Balance ∷ []) ∷ [] }
