use Rattle.std.proofs.Common.{◌≡◌, ◌≤◌, ◌∙◌, ap, refl, subst, map, length, List, arith}
use Rattle.std.proofs.lemmas.Grind.{common_steps}
use Rattle.std.proofs.lemmas.List.{take_all}
use Rattle.vs_link.specs.Links.{Line, Links, SameLinks}
use Rattle.vs_link.proofs.Table.{plain, same_links}
use Rattle.vs_link.proofs.links.Links.try_clone.Goals as goal

pub returns : goal.returns
returns c =
    let had : List Line = c.self.inside.connections.items in
    let old : Links = record { sets = c.self.inside.sets; lines = had } in
    let new : Links = record { sets = c.self.inside.sets; lines = c.loop-connection.connections.items } in
    let ended : length had ≤ c.loop-connection.connection-index = grind (arith, common_steps) in
    let copied : map plain new.lines ≡ map plain had = c.loop-connection.invariant ∙ ap (λ (ls : List Line). map plain ls) (take_all c.loop-connection.connection-index had ended) in
    subst (λ (v : Links). SameLinks v new) c.self.view_is (same_links old new refl copied)
