use Rattle.std.proofs.Common.{◌≡◌, ◌+◌, ◌∷◌, ◌++◌, [], subst, arith, take, sum, get_or}
use Rattle.std.proofs.lemmas.List.{take_more}
use Rattle.std.proofs.lemmas.List.Sums.{sum_by_more}
use Rattle.vs_record.specs.Durable.{booted}
use Rattle.vs_record.specs.States.{durable}
use Rattle.vs_core.proofs.Booting.{one_more_state}
use Rattle.vs_core.proofs.boot.states_of.Goals as goal

pub loop-share-preserved : goal.loop-share-preserved
loop-share-preserved c =
    let shares = c.args.shares.now in
    let i = c.loop-share.share-index in
    let n = get_or shares i 0 in
    let d = c.in_ok-booted.field-0 in
    let more : take (i + 1) shares ≡ take i shares ++ n ∷ [] = take_more shares i 0 c.loop-share-test.true in
    let new : durable d ≡ booted (1 + sum (take i shares)) n = subst (λ k. durable d ≡ booted k n) c.loop-share.invariant.first c.in_ok-booted.ensures in
    let pushed : c.push.new.self.items ≡ c.loop-share.states.items ++ d ∷ [] = c.in_ok-push.ensures.items in
    record {
      first = omega (arith, sum_by_more (λ x. x) shares i 0 c.loop-share-test.true);
      made = rw (more, pushed) (one_more_state 1 n d (take i shares) c.loop-share.states.items c.loop-share.invariant.made new);
    }
