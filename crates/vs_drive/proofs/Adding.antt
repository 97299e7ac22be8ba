-- Drivers that are added one by one.
use Rattle.std.proofs.Common.{◌≡◌, List, [], ◌∷◌, ◌++◌, map, ap, ◌∙◌}
use Rattle.std.specs.List.{All}
use Rattle.std.proofs.lemmas.List.{map-append, append_assoc}
use Rattle.std.proofs.lemmas.List.Elements.{All-push}
use Rattle.vs_machine.specs.Actors as actors
use Rattle.vs_machine.specs.State.{State}
use Rattle.vs_drive.specs.Drivers.{actor_of, IsFresh}
use Rattle.vs_drive.specs.declared.driver.Driver.{Driver}

-- one driver more
pub added : (now next : List Driver) (d : Driver) → next ≡ now ++ d ∷ [] → map actor_of next ≡ map actor_of now ++ actor_of d ∷ []
added now next d is = ap (map actor_of) is ∙ map-append actor_of now (d ∷ [])

-- so far there are the actors of the numbers to n
pub record HasAdded (s : State) (before : List actors.Actor) (so_far : List actors.Actor) (now : List Driver) : Type 0 where
  pub actors : map actor_of now ≡ before ++ so_far
  pub fresh : All (IsFresh s) now

module _ (s : State) (before : List actors.Actor) where
  pub add_one : (so_far : List actors.Actor) (now next : List Driver) (d : Driver) → HasAdded s before so_far now → next ≡ now ++ d ∷ [] → IsFresh s d
      → HasAdded s before (so_far ++ actor_of d ∷ []) next
  add_one so_far now next d h is fresh = record {
    actors = added now next d is ∙ ap (λ (xs : List actors.Actor). xs ++ actor_of d ∷ []) h.actors ∙ append_assoc before so_far (actor_of d ∷ []);
    fresh = rw is (All-push (IsFresh s) now d h.fresh fresh);
  }
