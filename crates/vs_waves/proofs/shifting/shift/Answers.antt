use Rattle.std.proofs.Common.{◌≡◌, ℕ, ◌<◌, arith, inl, inr, false, replicate}
use Rattle.std.proofs.lemmas.List.{get_or_past, get_or-replicate, length-replicate}
use Rattle.std.proofs.lemmas.Bool.{cases_lt}
use Rattle.vs_waves.specs.Flows.{is_seen}
use Rattle.vs_waves.proofs.Cutting.{not_barred}
use Rattle.vs_waves.proofs.shifting.shift.Goals as goal

-- at first no set is seen
none_seen : (s : ℕ) → is_seen s (replicate 33 false) ≡ false
none_seen s = elim (cases_lt s 33) [
  | inl inside ↦ get_or-replicate 33 s false false inside
  | inr past ↦ get_or_past (replicate 33 false) s false (omega (arith, length-replicate 33 false))
]

pub unreachable-requires : goal.unreachable-requires
unreachable-requires c =
    let below : c.args.set < 33 = elim (cases_lt c.args.set 33) [
      | inl inside ↦ inside
      | inr past ↦ absurd (omega (arith, c.requires.needed, get_or_past c.args.lows.now c.args.set 0 (omega (arith, past, c.requires.lows))))
    ] in
    not_barred c.args.lows.now c.args.limit c.requires.share.0 (replicate 33 false) c.place.new.seen c.args.flows.now c.args.set c.requires.fits c.requires.share.1 c.requires.needed below c.if-not-place.ensures.leads c.if-not-place.ensures.barred none_seen
