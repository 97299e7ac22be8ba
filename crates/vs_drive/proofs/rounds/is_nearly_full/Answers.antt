use Rattle.std.proofs.Common.{◌≡◌, ◌-◌, ◌<◌, ◌^◌, min, true, false, sym, ap, ◌∙◌, arith}
use Rattle.vs_machine.specs.State.{State, has_set}
use Rattle.vs_world.specs.Played.{began, state_of}
use Rattle.vs_world.specs.World.{World, length_of}
use Rattle.vs_drive.specs.Ends.{longest_entry}
use Rattle.vs_drive.proofs.Ending.{nearly_full}
use Rattle.vs_drive.proofs.rounds.is_nearly_full.Goals as goal

pub returns : goal.returns
returns g c =
    let w = c.args.cluster.now.world in
    let limit : c.limit.result ≡ (began w.played).limit = c.limit.ensures ∙ ap (λ (v : World g.row.D.Denot). (began v.played).limit) c.world-world.ensures.world in
    let length : c.journal_len.result ≡ min (length_of w c.args.set) (2 ^ 64 - 1) =
    c.journal_len.ensures.length ∙ ap (λ (v : World g.row.D.Denot). min (length_of v c.args.set) (2 ^ 64 - 1)) c.world-world.ensures.world in
    let has : has_set (state_of w.played) c.args.set ≡ true =
    sym (ap (λ (s : State). has_set s c.args.set) c.state_in-state.ensures.state) ∙ sym c.has_set.ensures ∙ c.if-not-has_set.false in
    let up : (state_of w.played).up c.args.set ≡ true = sym (ap (λ (s : State). s.up c.args.set) c.state_in-state.ensures.state) ∙ sym c.up.ensures ∙ c.if-not-up.false in
    let fits : (began w.played).limit < 2 ^ 64 = omega (arith, limit) in
    let less : c.saturating_sub.result ≡ (began w.played).limit - longest_entry = omega (arith, limit) in
    nearly_full w c.args.set c.saturating_sub.result c.journal_len.result has up fits less length

pub returns-then-not-up : goal.returns-then-not-up
returns-then-not-up g c =
    let down : (state_of c.args.cluster.now.world.played).up c.args.set ≡ false =
    sym (ap (λ (s : State). s.up c.args.set) c.state_in-state.ensures.state) ∙ sym c.up.ensures ∙ c.if-not-up.true in
    (λ never. absurd (cc never), λ h. absurd (cc (h.up, down)))
