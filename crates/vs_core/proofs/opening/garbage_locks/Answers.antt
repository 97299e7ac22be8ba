use Rattle.std.proofs.Common.{◌≡◌, ◌==◌, ℕ, false, sym, ap, ◌∙◌, unwrap_or}
use Rattle.std.specs.Prelude.{if◌then◌else◌}
use Rattle.vs_refs.specs.Counts.{no_counts}
use Rattle.vs_refs.specs.Refs.{counts_of}
use Rattle.vs_space.specs.Entries.{status_of}
use Rattle.vs_machine.specs.Kinds.Collection.{is_garbage}
use Rattle.vs_core.proofs.Opened.{none_garbage, zero_none}
use Rattle.vs_core.proofs.Restarting.{all_locked, not_open, not_yet_locked, one_more_lock}
use Rattle.vs_core.proofs.opening.garbage_locks.Goals as goal

pub returns-then-count-eq0-clause-locks : goal.returns-then-count-eq0-clause-locks
returns-then-count-eq0-clause-locks c = λ b.
    let es = c.args.space.now.entries in
    let none : is_garbage (status_of es b) ≡ false = none_garbage es b (sym c.count.ensures.number ∙ c.if-count-eq0.true) in
    ap (λ refs. counts_of refs b) c.new-refs.ensures ∙ (λ i. record no_counts { ro_lock = sym none i })

pub lock_if-requires : goal.lock_if-requires
lock_if-requires c =
    let g = λ (q : ℕ). is_garbage (status_of c.args.space.now.entries q) in
    not_yet_locked g c.loop-bucket.refs.items (unwrap_or c.loop-bucket.after 0) c.in-Some.bucket c.in-Some.ensures.0 c.loop-bucket.invariant

pub loop-bucket-preserved : goal.loop-bucket-preserved
loop-bucket-preserved c =
    let es = c.args.space.now.entries in
    let g = λ (q : ℕ). is_garbage (status_of es q) in
    let old = c.loop-bucket.refs.items in
    let m = c.in-Some.bucket in
    let is = c.in-Some.ensures in
    let locked : c.is_garbage.result ≡ g m = c.is_garbage.ensures ∙ ap is_garbage c.get-status.ensures.status in
    one_more_lock g old c.lock_if.new.refs.items (unwrap_or c.loop-bucket.after 0) m is.0 (λ q f l. not_open (status_of es q) (is.2 q f l)) c.loop-bucket.invariant
    (λ q. c.in_ok-lock_if.ensures q ∙ (λ i. if q == m then record no_counts { ro_lock = locked i } else counts_of old q))

pub returns-clause-locks : goal.returns-clause-locks
returns-clause-locks c =
    let es = c.args.space.now.entries in
    let g = λ (q : ℕ). is_garbage (status_of es q) in
    all_locked g c.loop-bucket.refs.items (unwrap_or c.loop-bucket.after 0) (ap is_garbage (zero_none es 0 c.count.ensures.order))
    (λ q f. not_open (status_of es q) (c.in_default.ensures q f)) c.loop-bucket.invariant
