use Rattle.std.proofs.Common.{◌≡◌, ℕ, suc, ◌≤◌, Bool, true, Some, sym, ap, ◌∙◌, subst, arith}
use Rattle.vs_machine.specs.Driven.{would_grant}
use Rattle.vs_machine.specs.State.{sets_of}
use Rattle.vs_script.specs.Calls.{call}
use Rattle.vs_state.specs.Plain.{plain}
use Rattle.vs_drive.proofs.Searching.{found_here, found_on}
use Rattle.vs_drive.proofs.posting.granting_set.Goals as goal

pub returns-then-would_grant : goal.returns-then-would_grant
returns-then-would_grant c =
    let s = plain c.args.state.now in
    let p : ℕ → Bool = λ x. would_grant s x (call c.args.call.now) in
    let i = c.loop-index.index in
    let at : c.in-Some.set ≡ suc i = omega (arith, c.in-Some.ensures) in
    let yea : p (suc i) ≡ true = subst (λ (n : ℕ). p n ≡ true) at (sym c.would_grant.ensures ∙ c.if-would_grant.true) in
    let within : suc i ≤ sets_of s = omega arith in
    ap (λ (n : ℕ). Some n) at ∙ sym (found_on p (suc i) (sets_of s) (suc i) within (found_here p i c.loop-index.invariant yea))
