use Rattle.std.proofs.Common.{◌≡◌, ℕ, ◌+◌, ◌<◌, ◌≤◌, arith, refl, ap, sym, ◌∙◌, subst, length, set, get_or, true, Bool, List, take}
use Rattle.std.specs.List.{All}
use Rattle.std.proofs.lemmas.List.{length-set}
use Rattle.std.proofs.lemmas.List.Elements.{All-get_or}
use Rattle.vs_waves.specs.declared.flow.Flow.{Flow}
use Rattle.vs_waves.specs.Flows.{near_now, far_now, Fits, FarWithin, one_at, IsShifted, IsBarred, IsOpenToSeen, unseen, is_seen, LeadsToSeen, IsNeeded}
use Rattle.vs_waves.proofs.OneMore.{nothing, more, less, Fits-set, far_now-more, near_now-more, near_now-less, far_now-less, less_more, more_less, one_at-same, far_within_less, shifted_by_more, shifted_by_less, shifted_off}
use Rattle.vs_waves.proofs.Searching.{seen-mark, seen-inside, Grows-mark, unseen-mark, open_at_end, stuck_at_end, barred_by_more, barred_by_less, leads_on, needed_on, open-less}
use Rattle.vs_waves.specs.declared.wave_loads.WaveLoads.{WaveLoads}
use Rattle.vs_waves.specs.Loads.{AreLoads}
use Rattle.vs_waves.proofs.LoadTables.{near_now-few, far_now-few, AreLoads-more, AreLoads-no_more, AreLoads-less, AreLoads-no_less}
use Rattle.vs_waves.proofs.shifting.+shift.Goals as goal
use Rattle.vs_waves.proofs.shifting.+shift.Goals.{place-then-flow-set+then-flow+then-not-seen-far+else-relieve, place-else-flow-set, place-else-flow-set-via-then-flow-set+then-flow+else-not-seen-far, place-else-flow-set-via-then-flow-set+else-flow, place-else-flow-set-via-else-flow-set}
use Rattle.vs_waves.proofs.shifting.+shift.Goals.{relieve-then-flow-set+then-flow-gt0+else-near_now-lows+else-place, relieve-else-flow-set, relieve-else-flow-set-via-then-flow-set+else-flow-gt0, relieve-else-flow-set-via-else-flow-set}

-- src/shifting.rt:31:16
pub place-relieve-requires : goal.place-relieve-requires
place-relieve-requires t c =
    let same = sym c.loop-i.invariant.same in
    let fits : Fits c.loop-i.flows = subst Fits same c.requires.fits in
    let far : FarWithin c.args.limit c.loop-i.flows = subst (FarWithin c.args.limit) same c.requires.far in
    let inside : c.loop-i.i < length c.loop-i.flows = omega arith in
    let f = get_or c.loop-i.flows c.loop-i.i nothing in
    let sets = All-get_or (λ (x : Flow). (1 ≤ x.far) × (x.far < 33)) c.loop-i.flows c.loop-i.i nothing inside fits.far in
    let marked : f.far < length c.loop-i.seen = omega (arith, sets.1, c.loop-i.invariant.seen) in (
      omega (arith, unseen-mark c.loop-i.seen f.far marked c.if-not-seen-far.true, c.loop-i.invariant.fewer),
      (
        Fits-set c.loop-i.flows c.loop-i.i inside (more f) refl (omega (arith, c.if-flow.true)) fits,
        (
          (λ s. omega (arith, far s, far_now-more c.loop-i.flows c.loop-i.i inside s)),
          (
            c.requires.lows,
            (
              length-set c.loop-i.seen f.far true ∙ c.loop-i.invariant.seen,
              (
                seen-mark c.loop-i.seen f.far marked,
                AreLoads-more c.loop-i.flows c.loop-i.i inside c.loop-i.loads c.add_one.new.self (subst (AreLoads c.loop-i.loads) same c.loop-i.invariant.loads) c.add_one.ensures,
              ),
            ),
          ),
        ),
      ),
    )

-- src/shifting.rt:32:17
pub place-returns-then-relieve-clause-done : goal.place-returns-then-relieve-clause-done
place-returns-then-relieve-clause-done t c =
    let P = λ (x : List Flow). IsShifted c.args.lows.now c.args.limit (λ s. near_now s x + one_at s c.args.set) (λ s. far_now s x) x c.relieve.new.flows in
    subst P c.loop-i.invariant.same (shifted_by_more c.loop-i.flows c.loop-i.i (omega arith) c.args.lows.now c.args.limit c.args.set c.relieve.new.flows c.if-flow-set.true c.if-relieve.ensures.done)

pub place-returns-clause-leads : goal.place-returns-clause-leads
place-returns-clause-leads t c = open_at_end c.loop-i.seen c.args.flows.now c.args.set c.loop-i.i (omega arith) c.loop-i.invariant.leads

pub relieve-far_now-requires : goal.relieve-far_now-requires
relieve-far_now-requires t c = omega (arith, seen-inside c.args.seen.now c.args.set c.requires.here, c.requires.seen, c.requires.loads.far_count)

pub relieve-returns-clause-stuck : goal.relieve-returns-clause-stuck
relieve-returns-clause-stuck t c = stuck_at_end c.args.lows.now c.loop-i.seen c.args.flows.now c.args.set c.loop-i.i (omega arith) c.loop-i.invariant.stuck

pub place-returns-then-relieve-clause-fewer : goal.place-returns-then-relieve-clause-fewer
place-returns-then-relieve-clause-fewer t c =
    let sets = All-get_or (λ (x : Flow). (1 ≤ x.far) × (x.far < 33)) c.args.flows.now c.loop-i.i nothing (omega arith) c.requires.fits.far in
    let f = get_or c.loop-i.flows c.loop-i.i nothing in
    let below : f.far < 33 = subst (λ (x : List Flow). (get_or x c.loop-i.i nothing).far < 33) (sym c.loop-i.invariant.same) sets.1 in
    let marked : f.far < length c.loop-i.seen = omega (arith, below, c.loop-i.invariant.seen) in
    omega (arith, c.relieve.ensures.fewer, unseen-mark c.loop-i.seen f.far marked c.if-not-seen-far.true, c.loop-i.invariant.fewer)

pub place-loop-i-preserved : goal.place-loop-i-preserved
place-loop-i-preserved t c =
    let same = c.loop-i.invariant.same in
    let l = c.loop-i.flows in
    let i = c.loop-i.i in
    let f = get_or l i nothing in
    let inside : i < length l = omega arith in
    let mid = c.loop-i.seen in
    let before = c.args.seen.now in
    let at = c.args.set in
    let lows = c.args.lows.now in
    let barred : IsBarred lows c.args.limit before mid l = subst (IsBarred lows c.args.limit before mid) (sym same) c.loop-i.invariant.barred in
    let leads : All (LeadsToSeen mid at) (take i l) = subst (λ (x : List Flow). All (LeadsToSeen mid at) (take i x)) (sym same) c.loop-i.invariant.leads in
    elim c.if-flow-set.branch [
      | place-then-flow-set+then-flow+then-not-seen-far+else-relieve w ↦
          let after = w.relieve.new.seen in
          let fits : Fits l = subst Fits (sym same) c.requires.fits in
          let sets = All-get_or (λ (x : Flow). (1 ≤ x.far) × (x.far < 33)) l i nothing inside fits.far in
          let within : f.far < length mid = omega (arith, sets.1, c.loop-i.invariant.seen) in
          let search = w.if-relieve.ensures.barred in
          let barred' : IsBarred lows c.args.limit before after l = barred_by_more lows c.args.limit l i inside before mid after barred w.if-flow.true within search w.if-relieve.ensures.full w.if-relieve.ensures.stuck in
          let later = λ (s : ℕ) (is : is_seen s mid ≡ true). search.grown s (Grows-mark mid f.far within s is) in
          let one_more : AreLoads w.relieve.new.loads (set l i (more f)) = subst (AreLoads w.relieve.new.loads) w.if-relieve.ensures.same w.relieve.ensures.loads in
          let back : AreLoads w.take_one.new.self l = AreLoads-no_more l i inside w.relieve.new.loads w.take_one.new.self one_more w.take_one.ensures in
          let leads' : All (LeadsToSeen after at) (take (i + 1) l) = leads_on lows c.args.limit l i inside before mid after barred after at later (λ _ _. search.grown f.far (seen-mark mid f.far within)) leads in
          record {
            same = w.flows-is ∙ ap (λ (x : List Flow). set x i (less (get_or x i nothing))) w.if-relieve.ensures.same ∙ less_more l i inside ∙ same;
            seen = ap length w.seen-is ∙ w.relieve.auto.seen ∙ length-set mid f.far true ∙ c.loop-i.invariant.seen;
            barred = subst (λ (x : List Bool). IsBarred lows c.args.limit before x c.args.flows.now) (sym w.seen-is) (subst (IsBarred lows c.args.limit before after) same barred');
            leads = subst (λ (x : List Bool). All (LeadsToSeen x at) (take (i + 1) c.args.flows.now)) (sym w.seen-is) (subst (λ (x : List Flow). All (LeadsToSeen after at) (take (i + 1) x)) same leads');
            fewer = omega (arith, ap unseen w.seen-is, w.relieve.ensures.fewer, unseen-mark mid f.far within w.if-not-seen-far.true, c.loop-i.invariant.fewer);
            loads = subst (λ (x : WaveLoads). AreLoads x c.args.flows.now) (sym w.loads-is) (subst (AreLoads w.take_one.new.self) same back);
          }
      | place-else-flow-set w ↦
          let last : LeadsToSeen mid at f = elim w.else-flow-set.branch [
            | place-else-flow-set-via-then-flow-set+then-flow+else-not-seen-far w' ↦ λ _ _. w'.if-not-seen-far.false
            | place-else-flow-set-via-then-flow-set+else-flow w' ↦ λ _ room. absurd (omega (arith, room, w'.if-flow.false))
            | place-else-flow-set-via-else-flow-set w' ↦ λ near _. absurd (w'.if-flow-set.false near)
          ] in
          let leads' : All (LeadsToSeen mid at) (take (i + 1) l) = leads_on lows c.args.limit l i inside before mid mid barred mid at (λ s is. is) last leads in
          record {
            same = w.flows-is ∙ same;
            seen = ap length w.seen-is ∙ c.loop-i.invariant.seen;
            barred = subst (λ (x : List Bool). IsBarred lows c.args.limit before x c.args.flows.now) (sym w.seen-is) c.loop-i.invariant.barred;
            leads = subst (λ (x : List Bool). All (LeadsToSeen x at) (take (i + 1) c.args.flows.now)) (sym w.seen-is) (subst (λ (x : List Flow). All (LeadsToSeen mid at) (take (i + 1) x)) same leads');
            fewer = omega (arith, ap unseen w.seen-is, c.loop-i.invariant.fewer);
            loads = subst (λ (x : WaveLoads). AreLoads x c.args.flows.now) (sym w.loads-is) c.loop-i.invariant.loads;
          }
    ]

pub relieve-near_now-requires : goal.relieve-near_now-requires
relieve-near_now-requires t c =
    let fits : Fits c.loop-i.flows = subst Fits (sym c.loop-i.invariant.same) c.requires.fits in
    let sets = All-get_or (λ (x : Flow). (1 ≤ x.near) × (x.near < 33)) c.loop-i.flows c.loop-i.i nothing (omega arith) fits.near in
    omega (arith, sets.1, c.take_one.ensures.near_count, c.loop-i.invariant.loads.near_count)

pub relieve-returns-then-near_now-lows-clause-done : goal.relieve-returns-then-near_now-lows-clause-done
relieve-returns-then-near_now-lows-clause-done t c =
    let same = c.loop-i.invariant.same in
    let fits : Fits c.loop-i.flows = subst Fits (sym same) c.requires.fits in
    let inside : c.loop-i.i < length c.loop-i.flows = omega arith in
    let over : c.args.limit < far_now c.args.set c.loop-i.flows = subst (λ (x : List Flow). c.args.limit < far_now c.args.set x) (sym same) (omega (arith, c.far_now.ensures, c.requires.loads.far c.args.set, c.if-far_now-limit.false)) in
    let most = subst (λ (x : List Flow). (s : ℕ) → far_now s x ≤ c.args.limit + one_at s c.args.set) (sym same) c.requires.far in
    let f = get_or c.loop-i.flows c.loop-i.i nothing in
    let P = λ (x : List Flow). IsShifted c.args.lows.now c.args.limit (λ s. near_now s x) (λ s. far_now s x) x (set c.loop-i.flows c.loop-i.i (less f)) in
    let one_less = AreLoads-less c.loop-i.flows c.loop-i.i inside c.loop-i.loads c.take_one.new.self c.if-flow-gt0.true (subst (AreLoads c.loop-i.loads) (sym same) c.loop-i.invariant.loads) c.take_one.ensures in
    subst P same (shifted_off c.loop-i.flows c.loop-i.i inside c.args.lows.now c.args.limit c.args.set c.if-flow-gt0.true c.if-flow-set.true over fits most (omega (arith, c.near_now.ensures, one_less.near f.near, c.if-near_now-lows.true)))

pub relieve-place-requires : goal.relieve-place-requires
relieve-place-requires t c =
    let same = sym c.loop-i.invariant.same in
    let fits : Fits c.loop-i.flows = subst Fits same c.requires.fits in
    let inside : c.loop-i.i < length c.loop-i.flows = omega arith in
    let f = get_or c.loop-i.flows c.loop-i.i nothing in
    let over : c.args.limit < far_now c.args.set c.loop-i.flows = subst (λ (x : List Flow). c.args.limit < far_now c.args.set x) same (omega (arith, c.far_now.ensures, c.requires.loads.far c.args.set, c.if-far_now-limit.false)) in
    let most = subst (λ (x : List Flow). (s : ℕ) → far_now s x ≤ c.args.limit + one_at s c.args.set) same c.requires.far in
    let within = All-get_or (λ (x : Flow). x.now ≤ x.rest) c.loop-i.flows c.loop-i.i nothing inside fits.within in
    let one_less = AreLoads-less c.loop-i.flows c.loop-i.i inside c.loop-i.loads c.take_one.new.self c.if-flow-gt0.true (subst (AreLoads c.loop-i.loads) same c.loop-i.invariant.loads) c.take_one.ensures in (
      omega (arith, c.loop-i.invariant.fewer),
      (
        Fits-set c.loop-i.flows c.loop-i.i inside (less f) refl (omega (arith, within)) fits,
        (
          far_within_less c.loop-i.flows c.loop-i.i inside c.args.lows.now c.args.limit c.args.set c.if-flow-gt0.true c.if-flow-set.true over most,
          (
            c.requires.lows,
            (
              c.loop-i.invariant.seen,
              (
                omega (arith, c.near_now.ensures, one_less.near f.near, c.if-near_now-lows.false),
                one_less,
              ),
            ),
          ),
        ),
      ),
    )

pub relieve-returns-then-place-clause-done : goal.relieve-returns-then-place-clause-done
relieve-returns-then-place-clause-done t c =
    let same = c.loop-i.invariant.same in
    let inside : c.loop-i.i < length c.loop-i.flows = omega arith in
    let over : c.args.limit < far_now c.args.set c.loop-i.flows = subst (λ (x : List Flow). c.args.limit < far_now c.args.set x) (sym same) (omega (arith, c.far_now.ensures, c.requires.loads.far c.args.set, c.if-far_now-limit.false)) in
    let P = λ (x : List Flow). IsShifted c.args.lows.now c.args.limit (λ s. near_now s x) (λ s. far_now s x) x c.place.new.flows in
    subst P same (shifted_by_less c.loop-i.flows c.loop-i.i inside c.args.lows.now c.args.limit c.args.set c.if-flow-gt0.true c.if-flow-set.true over c.place.new.flows c.if-place.ensures.done)

pub relieve-loop-i-preserved : goal.relieve-loop-i-preserved
relieve-loop-i-preserved t c =
    let same = c.loop-i.invariant.same in
    let l = c.loop-i.flows in
    let i = c.loop-i.i in
    let f = get_or l i nothing in
    let inside : i < length l = omega arith in
    let mid = c.loop-i.seen in
    let before = c.args.seen.now in
    let at = c.args.set in
    let lows = c.args.lows.now in
    let barred : IsBarred lows c.args.limit before mid l = subst (IsBarred lows c.args.limit before mid) (sym same) c.loop-i.invariant.barred in
    let stuck : All (IsNeeded lows mid l at) (take i l) = subst (λ (x : List Flow). All (IsNeeded lows mid x at) (take i x)) (sym same) c.loop-i.invariant.stuck in
    elim c.if-flow-set.branch [
      | relieve-then-flow-set+then-flow-gt0+else-near_now-lows+else-place w ↦
          let after = w.place.new.seen in
          let some = w.if-flow-gt0.true in
          let search = w.if-place.ensures.barred in
          let one_less = AreLoads-less l i inside c.loop-i.loads w.take_one.new.self some (subst (AreLoads c.loop-i.loads) (sym same) c.loop-i.invariant.loads) w.take_one.ensures in
          let unplaced : AreLoads w.place.new.loads (set l i (less f)) = subst (AreLoads w.place.new.loads) w.if-place.ensures.same w.place.ensures.loads in
          let back : AreLoads w.add_one.new.self l = AreLoads-no_less l i inside w.place.new.loads w.add_one.new.self some unplaced w.add_one.ensures in
          let needed : near_now f.near l ≤ get_or lows f.near 0 = omega (arith, near_now-less l i inside f.near some, one_at-same f.near, w.near_now.ensures, one_less.near f.near, w.if-near_now-lows.false) in
          let first : is_seen f.far before ≡ true = subst (λ (n : ℕ). is_seen n before ≡ true) (sym w.if-flow-set.true) c.requires.here in
          let barred' : IsBarred lows c.args.limit before after l = barred_by_less lows c.args.limit l i inside before mid after barred some needed first search in
          let open' : IsOpenToSeen after l f.near = open-less lows l i inside after some needed f.near w.if-place.ensures.leads in
          let stuck' : All (IsNeeded lows after l at) (take (i + 1) l) = needed_on lows c.args.limit l i inside before mid after barred after at search.grown (λ _ _. (needed, open')) stuck in
          record {
            same = w.flows-is ∙ ap (λ (x : List Flow). set x i (more (get_or x i nothing))) w.if-place.ensures.same ∙ more_less l i inside some ∙ same;
            seen = ap length w.seen-is ∙ w.place.auto.seen ∙ c.loop-i.invariant.seen;
            barred = subst (λ (x : List Bool). IsBarred lows c.args.limit before x c.args.flows.now) (sym w.seen-is) (subst (IsBarred lows c.args.limit before after) same barred');
            stuck = subst (λ (x : List Bool). All (IsNeeded lows x c.args.flows.now at) (take (i + 1) c.args.flows.now)) (sym w.seen-is) (subst (λ (x : List Flow). All (IsNeeded lows after x at) (take (i + 1) x)) same stuck');
            fewer = omega (arith, ap unseen w.seen-is, w.place.ensures.fewer, c.loop-i.invariant.fewer);
            loads = subst (λ (x : WaveLoads). AreLoads x c.args.flows.now) (sym w.loads-is) (subst (AreLoads w.add_one.new.self) same back);
          }
      | relieve-else-flow-set w ↦
          let last : IsNeeded lows mid l at f = elim w.else-flow-set.branch [
            | relieve-else-flow-set-via-then-flow-set+else-flow-gt0 w' ↦ λ _ some. absurd (omega (arith, some, w'.if-flow-gt0.false))
            | relieve-else-flow-set-via-else-flow-set w' ↦ λ far _. absurd (w'.if-flow-set.false far)
          ] in
          let stuck' : All (IsNeeded lows mid l at) (take (i + 1) l) = needed_on lows c.args.limit l i inside before mid mid barred mid at (λ s is. is) last stuck in
          record {
            same = w.flows-is ∙ same;
            seen = ap length w.seen-is ∙ c.loop-i.invariant.seen;
            barred = subst (λ (x : List Bool). IsBarred lows c.args.limit before x c.args.flows.now) (sym w.seen-is) c.loop-i.invariant.barred;
            stuck = subst (λ (x : List Bool). All (IsNeeded lows x c.args.flows.now at) (take (i + 1) c.args.flows.now)) (sym w.seen-is) (subst (λ (x : List Flow). All (IsNeeded lows mid x at) (take (i + 1) x)) same stuck');
            fewer = omega (arith, ap unseen w.seen-is, c.loop-i.invariant.fewer);
            loads = subst (λ (x : WaveLoads). AreLoads x c.args.flows.now) (sym w.loads-is) c.loop-i.invariant.loads;
          }
    ]

-- ---- the loads

pub place-add_one-requires-clause-near : goal.place-add_one-requires-clause-near
place-add_one-requires-clause-near t c =
    let fits : Fits c.loop-i.flows = subst Fits (sym c.loop-i.invariant.same) c.requires.fits in
    let sets = All-get_or (λ (x : Flow). (1 ≤ x.near) × (x.near < 33)) c.loop-i.flows c.loop-i.i nothing (omega arith) fits.near in
    omega (arith, sets.1, c.loop-i.invariant.loads.near_count)

pub place-add_one-requires-clause-far : goal.place-add_one-requires-clause-far
place-add_one-requires-clause-far t c =
    let fits : Fits c.loop-i.flows = subst Fits (sym c.loop-i.invariant.same) c.requires.fits in
    let sets = All-get_or (λ (x : Flow). (1 ≤ x.far) × (x.far < 33)) c.loop-i.flows c.loop-i.i nothing (omega arith) fits.far in
    omega (arith, sets.1, c.loop-i.invariant.loads.far_count)

pub place-add_one-requires-clause-near_room : goal.place-add_one-requires-clause-near_room
place-add_one-requires-clause-near_room t c =
    let near = (get_or c.loop-i.flows c.loop-i.i nothing).near in
    omega (arith, c.loop-i.invariant.loads.near near, near_now-few near c.args.flows.now c.requires.fits)

pub place-add_one-requires-clause-far_room : goal.place-add_one-requires-clause-far_room
place-add_one-requires-clause-far_room t c =
    let far = (get_or c.loop-i.flows c.loop-i.i nothing).far in
    omega (arith, c.loop-i.invariant.loads.far far, far_now-few far c.args.flows.now c.requires.fits)

pub place-take_one-requires-clause-near_some : goal.place-take_one-requires-clause-near_some
place-take_one-requires-clause-near_some t c =
    let l = c.loop-i.flows in
    let i = c.loop-i.i in
    let f = get_or l i nothing in
    let one_more : AreLoads c.relieve.new.loads (set l i (more f)) = subst (AreLoads c.relieve.new.loads) c.if-relieve.ensures.same c.relieve.ensures.loads in
    omega (arith, one_more.near f.near, near_now-more l i (omega arith) f.near, one_at-same f.near)

pub place-returns-clause-loads : goal.place-returns-clause-loads
place-returns-clause-loads t c = subst (AreLoads c.loop-i.loads) (sym c.loop-i.invariant.same) c.loop-i.invariant.loads

pub relieve-take_one-requires-clause-near : goal.relieve-take_one-requires-clause-near
relieve-take_one-requires-clause-near t c =
    let fits : Fits c.loop-i.flows = subst Fits (sym c.loop-i.invariant.same) c.requires.fits in
    let sets = All-get_or (λ (x : Flow). (1 ≤ x.near) × (x.near < 33)) c.loop-i.flows c.loop-i.i nothing (omega arith) fits.near in
    omega (arith, sets.1, c.loop-i.invariant.loads.near_count)

pub relieve-take_one-requires-clause-far : goal.relieve-take_one-requires-clause-far
relieve-take_one-requires-clause-far t c =
    let fits : Fits c.loop-i.flows = subst Fits (sym c.loop-i.invariant.same) c.requires.fits in
    let sets = All-get_or (λ (x : Flow). (1 ≤ x.far) × (x.far < 33)) c.loop-i.flows c.loop-i.i nothing (omega arith) fits.far in
    omega (arith, sets.1, c.loop-i.invariant.loads.far_count)

pub relieve-take_one-requires-clause-near_some : goal.relieve-take_one-requires-clause-near_some
relieve-take_one-requires-clause-near_some t c =
    let loads : AreLoads c.loop-i.loads c.loop-i.flows = subst (AreLoads c.loop-i.loads) (sym c.loop-i.invariant.same) c.loop-i.invariant.loads in
    let near = (get_or c.loop-i.flows c.loop-i.i nothing).near in
    omega (arith, loads.near near, near_now-less c.loop-i.flows c.loop-i.i (omega arith) near c.if-flow-gt0.true, one_at-same near)

pub relieve-take_one-requires-clause-far_some : goal.relieve-take_one-requires-clause-far_some
relieve-take_one-requires-clause-far_some t c =
    let loads : AreLoads c.loop-i.loads c.loop-i.flows = subst (AreLoads c.loop-i.loads) (sym c.loop-i.invariant.same) c.loop-i.invariant.loads in
    let far = (get_or c.loop-i.flows c.loop-i.i nothing).far in
    omega (arith, loads.far far, far_now-less c.loop-i.flows c.loop-i.i (omega arith) far c.if-flow-gt0.true, one_at-same far)

pub relieve-returns-then-near_now-lows-clause-loads : goal.relieve-returns-then-near_now-lows-clause-loads
relieve-returns-then-near_now-lows-clause-loads t c =
    AreLoads-less c.loop-i.flows c.loop-i.i (omega arith) c.loop-i.loads c.take_one.new.self c.if-flow-gt0.true (subst (AreLoads c.loop-i.loads) (sym c.loop-i.invariant.same) c.loop-i.invariant.loads) c.take_one.ensures

pub relieve-add_one-requires-clause-near_room : goal.relieve-add_one-requires-clause-near_room
relieve-add_one-requires-clause-near_room t c =
    let l = c.loop-i.flows in
    let i = c.loop-i.i in
    let f = get_or l i nothing in
    let fits : Fits l = subst Fits (sym c.loop-i.invariant.same) c.requires.fits in
    let unplaced : AreLoads c.place.new.loads (set l i (less f)) = subst (AreLoads c.place.new.loads) c.if-place.ensures.same c.place.ensures.loads in
    omega (arith, unplaced.near f.near, near_now-less l i (omega arith) f.near c.if-flow-gt0.true, near_now-few f.near l fits)

pub relieve-add_one-requires-clause-far_room : goal.relieve-add_one-requires-clause-far_room
relieve-add_one-requires-clause-far_room t c =
    let l = c.loop-i.flows in
    let i = c.loop-i.i in
    let f = get_or l i nothing in
    let fits : Fits l = subst Fits (sym c.loop-i.invariant.same) c.requires.fits in
    let unplaced : AreLoads c.place.new.loads (set l i (less f)) = subst (AreLoads c.place.new.loads) c.if-place.ensures.same c.place.ensures.loads in
    omega (arith, unplaced.far f.far, far_now-less l i (omega arith) f.far c.if-flow-gt0.true, far_now-few f.far l fits)

pub relieve-returns-clause-loads : goal.relieve-returns-clause-loads
relieve-returns-clause-loads t c = subst (AreLoads c.loop-i.loads) (sym c.loop-i.invariant.same) c.loop-i.invariant.loads
