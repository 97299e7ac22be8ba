-- Whose the drivers of a cluster are.
use Rattle.std.specs.Prelude.{◌≡◌, ℕ, zero, suc, List, [], ◌∷◌, ◌++◌, Option, None, replicate}
use Rattle.vs_machine.specs.Actors as actors
use Rattle.vs_machine.specs.State.{State, sets_of}
use Rattle.vs_machine.specs.Tables.{list_to}
use Rattle.vs_router.specs.declared.router.Known.{Known}
use Rattle.vs_drive.specs.declared.client.ClientDriver.{ClientDriver}
use Rattle.vs_drive.specs.declared.driver.Actor.{Actor}
use Rattle.vs_drive.specs.declared.driver.Actor.TheVariants.{Client, Operator, Service, Mover}
use Rattle.vs_drive.specs.declared.driver.Driver.{Driver}

-- whose a client's driver is, and where its router takes buckets to be
abbrev pub client_of : ClientDriver → ℕ
client_of d = d.client

abbrev pub known_to : ClientDriver → List (Option Known)
known_to d = d.router

abbrev pub actor : Actor → actors.Actor
actor (Client d) = actors.Client (client_of d)
actor (Operator o) = actors.Operator o
actor (Service x) = actors.Service x
actor (Mover x) = actors.Mover x

abbrev pub actor_of : Driver → actors.Actor
actor_of d = actor d.actor

-- ---- the actors of a cluster, in the order of their drivers

abbrev pub clients_in : State → List actors.Actor
clients_in s = list_to actors.Client s.clients

abbrev pub operators_in : State → List actors.Actor
operators_in s = list_to actors.Operator s.operators

-- of each of the first n sets its service and its mover
abbrev pub sets_to : ℕ → List actors.Actor
sets_to zero = []
sets_to (suc n) = sets_to n ++ (actors.Service (suc n) ∷ actors.Mover (suc n) ∷ [])

abbrev pub sets_in : State → List actors.Actor
sets_in s = sets_to (sets_of s)

abbrev pub actors_in : State → List actors.Actor
actors_in s = clients_in s ++ (operators_in s ++ sets_in s)

-- ---- before they begin

-- a client's driver takes no bucket to be anywhere
abbrev pub KnowsNothing : State → Actor → Type 0
KnowsNothing s (Client d) = known_to d ≡ replicate s.config.bucket_count None
KnowsNothing s (Operator o) = Unit {0}
KnowsNothing s (Service x) = Unit {0}
KnowsNothing s (Mover x) = Unit {0}

pub record IsFresh (s : State) (d : Driver) : Type 0 where
  pub fault : d.fault ≡ None
  pub knows : KnowsNothing s d.actor
