use Rattle.std.proofs.Common.{◌≡◌, ◌==◌, ℕ, ap, ◌∙◌, unwrap_or}
use Rattle.std.specs.Prelude.{if◌then◌else◌}
use Rattle.vs_refs.specs.Counts.{no_counts}
use Rattle.vs_refs.specs.Refs.{counts_of}
use Rattle.vs_machine.specs.Kinds.Collection.{is_garbage}
use Rattle.vs_state.specs.Plain.{plain}
use Rattle.vs_core.specs.Restarting.{kept_of, settled}
use Rattle.vs_core.proofs.Restarting.{all_locked, garbage_is_open, kept_is, not_yet_locked, one_more_lock, zero_not_open}
use Rattle.vs_core.proofs.locks.settled_locks.Goals as goal

pub lock_if-requires : goal.lock_if-requires
lock_if-requires c =
    let s = plain c.args.state.now in
    let x = c.args.set in
    let g = λ (q : ℕ). is_garbage (((settled s x (kept_of c.args.kept (s.pending x))).bucket q).entry x) in
    not_yet_locked g c.loop-bucket.refs.items (unwrap_or c.loop-bucket.after 0) c.in-Some.bucket c.in-Some.ensures.0 c.loop-bucket.invariant

pub loop-bucket-preserved : goal.loop-bucket-preserved
loop-bucket-preserved c =
    let s = plain c.args.state.now in
    let x = c.args.set in
    let kept = c.args.kept in
    let g = λ (q : ℕ). is_garbage (((settled s x (kept_of kept (s.pending x))).bucket q).entry x) in
    let old = c.loop-bucket.refs.items in
    let n = unwrap_or c.loop-bucket.after 0 in
    let m = c.in-Some.bucket in
    let is = c.in-Some.ensures in
    let locked : c.is_garbage.result ≡ g m = c.is_garbage.ensures ∙ ap is_garbage c.settled_status-status.ensures in
    one_more_lock g old c.lock_if.new.refs.items n m is.0
    (λ q f l. garbage_is_open s c.requires.known x (kept_of kept (s.pending x)) (λ d is. kept_is kept (s.pending x) d is) q (is.2 q f l)) c.loop-bucket.invariant
    (λ q. c.in_ok-lock_if.ensures q ∙ (λ i. if q == m then record no_counts { ro_lock = locked i } else counts_of old q))

pub returns : goal.returns
returns c =
    let s = plain c.args.state.now in
    let x = c.args.set in
    let kept = c.args.kept in
    let g = λ (q : ℕ). is_garbage (((settled s x (kept_of kept (s.pending x))).bucket q).entry x) in
    let closed = garbage_is_open s c.requires.known x (kept_of kept (s.pending x)) (λ d is. kept_is kept (s.pending x) d is) in
    λ _. all_locked g c.loop-bucket.refs.items (unwrap_or c.loop-bucket.after 0) (closed 0 (zero_not_open s c.requires.known x))
    (λ q f. closed q (c.in_default.ensures q f)) c.loop-bucket.invariant
