use Rattle.std.proofs.Common.{refl, subst, arith}
use Rattle.vs_world.specs.Played.{IsSame}
use Rattle.vs_world.specs.Whole.{played_in}
use Rattle.vs_world.specs.World.{World}
use Rattle.vs_world.proofs.Kept.{kept}
use Rattle.vs_world.proofs.Reserving.{whole_still}
use Rattle.vs_world.proofs.world.World.reserve.Goals as goal

-- ---- the list has no room

pub returns-in_err-reserve-clause-kept : goal.returns-in_err-reserve-clause-kept
returns-in_err-reserve-clause-kept g c =
    let w = c.self.inside in
    kept w.core c.reserve.new.self w.opening w.stores
    (whole_still w.core w.core w.events c.reserve.new.self w.opening w.stores c.self.invariant refl c.reserve.ensures.items (λ reserved. omega (arith, c.self.invariant.room reserved, c.reserve.ensures.kept)))

-- ---- there is no memory for the events

pub invariant_of-self-in_err-reserve-2 : goal.invariant_of-self-in_err-reserve-2
invariant_of-self-in_err-reserve-2 g c =
    let w = c.self.inside in
    whole_still w.core c.reserve-2.new.self w.events c.reserve.new.self w.opening w.stores c.self.invariant c.reserve-2.ensures.same c.reserve.ensures.items (λ reserved. absurd (cc (reserved, c.in_err-reserve-2.ensures.none)))

pub returns-in_err-reserve-2-clause-same : goal.returns-in_err-reserve-2-clause-same
returns-in_err-reserve-2-clause-same g c =
    subst (λ (w : World g.row.D.Denot). IsSame w.played (played_in c.reserve-2.new.self c.reserve.new.self c.self.inside.opening)) c.self.view_is
    (record { state = c.reserve-2.ensures.same; events = c.reserve.ensures.items; opening = refl })

pub returns-in_err-reserve-2-clause-kept : goal.returns-in_err-reserve-2-clause-kept
returns-in_err-reserve-2-clause-kept g c =
    let w = c.self.inside in
    kept c.reserve-2.new.self c.reserve.new.self w.opening w.stores
    (whole_still w.core c.reserve-2.new.self w.events c.reserve.new.self w.opening w.stores c.self.invariant c.reserve-2.ensures.same c.reserve.ensures.items (λ reserved. absurd (cc (reserved, c.in_err-reserve-2.ensures.none))))

-- ---- all is taken

pub invariant_of-self-2 : goal.invariant_of-self-2
invariant_of-self-2 g c =
    let w = c.self.inside in
    whole_still w.core c.reserve-2.new.self w.events c.reserve.new.self w.opening w.stores c.self.invariant c.reserve-2.ensures.same c.reserve.ensures.items (λ reserved. c.in_ok-reserve.ensures.room)

pub returns-clause-same : goal.returns-clause-same
returns-clause-same g c =
    subst (λ (w : World g.row.D.Denot). IsSame w.played (played_in c.reserve-2.new.self c.reserve.new.self c.self.inside.opening)) c.self.view_is
    (record { state = c.reserve-2.ensures.same; events = c.reserve.ensures.items; opening = refl })

pub returns-clause-kept : goal.returns-clause-kept
returns-clause-kept g c =
    let w = c.self.inside in
    kept c.reserve-2.new.self c.reserve.new.self w.opening w.stores
    (whole_still w.core c.reserve-2.new.self w.events c.reserve.new.self w.opening w.stores c.self.invariant c.reserve-2.ensures.same c.reserve.ensures.items (λ reserved. c.in_ok-reserve.ensures.room))
