use Rattle.std.proofs.Common.{sym, subst, List}
use Rattle.vs_waves.specs.declared.flow.Flow.{Flow}
use Rattle.vs_waves.specs.Flows.{Fits, FarWithin, HasShare, AreLows, IsFilled, IsLaid}
use Rattle.vs_waves.proofs.OneWave.{far_first, share_first, fits_next, far_next, share_next, laid}
use Rattle.vs_waves.proofs.laying.lay.Goals as goal

pub fill-requires-clause-far : goal.fill-requires-clause-far
fill-requires-clause-far c = far_first c.args.left c.args.near_limit c.args.far_limit c.args.flows.now c.args.flows.now c.args.flows.now c.lows-near_lows.result c.lows-near_lows.result c.requires.fits c.requires.before c.requires.enough c.lows-near_lows.ensures

pub fill-requires-clause-share : goal.fill-requires-clause-share
fill-requires-clause-share c = share_first c.args.left c.args.near_limit c.args.far_limit c.args.flows.now c.args.flows.now c.args.flows.now c.lows-near_lows.result c.lows-near_lows.result c.requires.fits c.requires.before c.requires.enough c.lows-near_lows.ensures

pub lows-far_lows-requires : goal.lows-far_lows-requires
lows-far_lows-requires c =
    subst Fits (sym c.mirror.ensures) (fits_next c.args.left c.args.near_limit c.args.far_limit c.args.flows.now c.fill.new.flows c.args.flows.now c.lows-near_lows.result c.lows-near_lows.result c.requires.fits c.requires.before c.requires.enough c.lows-near_lows.ensures c.fill.ensures)

pub fill-requires-2-clause-fits : goal.fill-requires-2-clause-fits
fill-requires-2-clause-fits c =
    subst Fits (sym c.mirror.ensures) (fits_next c.args.left c.args.near_limit c.args.far_limit c.args.flows.now c.fill.new.flows c.args.flows.now c.lows-near_lows.result c.lows-near_lows.result c.requires.fits c.requires.before c.requires.enough c.lows-near_lows.ensures c.fill.ensures)

pub fill-requires-2-clause-far : goal.fill-requires-2-clause-far
fill-requires-2-clause-far c =
    subst (FarWithin c.args.near_limit) (sym c.mirror.ensures) (far_next c.args.left c.args.near_limit c.args.far_limit c.args.flows.now c.fill.new.flows c.args.flows.now c.lows-near_lows.result c.lows-near_lows.result c.requires.fits c.requires.before c.requires.enough c.lows-near_lows.ensures c.fill.ensures)

pub fill-requires-2-clause-share : goal.fill-requires-2-clause-share
fill-requires-2-clause-share c =
    let are_far = subst (λ (x : List Flow). AreLows c.args.left c.args.far_limit x c.lows-far_lows.result) c.mirror.ensures c.lows-far_lows.ensures in
    subst (HasShare c.lows-far_lows.result c.args.near_limit) (sym c.mirror.ensures) (share_next c.args.left c.args.near_limit c.args.far_limit c.args.flows.now c.fill.new.flows c.args.flows.now c.lows-near_lows.result c.lows-far_lows.result c.requires.fits c.requires.before c.requires.enough c.lows-near_lows.ensures c.fill.ensures are_far)

pub returns : goal.returns
returns c =
    let are_far = subst (λ (x : List Flow). AreLows c.args.left c.args.far_limit x c.lows-far_lows.result) c.mirror.ensures c.lows-far_lows.ensures in
    let filled_far = subst (λ (x : List Flow). IsFilled c.lows-far_lows.result c.args.near_limit 33 x c.fill-2.new.flows) c.mirror.ensures c.fill-2.ensures in
    subst (IsLaid c.args.left c.args.near_limit c.args.far_limit c.args.flows.now) (sym c.mirror-2.ensures) (laid c.args.left c.args.near_limit c.args.far_limit c.args.flows.now c.fill.new.flows c.fill-2.new.flows c.lows-near_lows.result c.lows-far_lows.result c.requires.fits c.requires.before c.requires.enough c.lows-near_lows.ensures c.fill.ensures are_far filled_far)
