use Rattle.std.proofs.Common.{◌≡◌, ◌∙◌, ◌+◌, ◌-◌, ℕ, List, length, Err, IsTrue, refl, sym, subst, arith}
use Rattle.std.proofs.lemmas.Result.{err_from_is_err_and}
use Rattle.vs_frame.specs.Scan.{last_body}
use Rattle.vs_record.specs.States.{durable}
use Rattle.vs_store.specs.Replay.{number_in}
use Rattle.vs_store.specs.Standing.{state_of, change_with}
use Rattle.vs_store.proofs.Buckets.{begins_within, stepped_within}
use Rattle.vs_store.proofs.Reading.{begun_so_far, wrong_behind, body_wrong, body_read, count_more, all_read}
use Rattle.vs_store.proofs.Told.{unwritten_same, unwritten_then}
use Rattle.vs_store.proofs.replay.replay.Goals as goal

pub bodies-init : goal.bodies-init
bodies-init g c =
    let scan = c.args.scan.now in
    record {
      going = c.requires.going;
      few = scan.behind_head;
      within = begins_within c.args.head.now (durable c.in_ok-state.state) c.requires.head c.in_ok-state.ensures;
      version = refl;
      so_far = λ tells. begun_so_far (g.D.Disk.told scan.disk).reads_as scan.part scan.place c.args.head.now scan.version (durable c.in_ok-state.state) (c.requires.begun tells) c.in_ok-state.ensures;
      unwritten = unwritten_same (g.D.Disk.told scan.disk) (g.met.D.Disk.lawful scan.disk);
    }

pub returns-in_err-next-clause-refused : goal.returns-in_err-next-clause-refused
returns-in_err-next-clause-refused g c =
    let scan = c.bodies.scan in
    let first = (g.D.Disk.told c.args.scan.now.disk).reads_as in
    let file = (g.D.Disk.told scan.disk).reads_as in
    let p = err_from_is_err_and c.from_residual-in_err-next.result c.from_residual-in_err-next.ensures.1 in
    rw (p.1, p.2) (λ place is told.
    let tells = c.bodies.invariant.unwritten.keeps.reads ∙ told in
    let so_far = c.bodies.invariant.so_far tells in
    let wrong = wrong_behind file scan.part scan.place c.args.head.now c.bodies.count (durable c.bodies.state) so_far c.in_err-next.field-0.0 place is
    (λ p at. c.in_err-next.ensures.refused p at so_far.journal (λ t. so_far.so_far) tells) (λ p at. c.in_err-next.ensures.before p at so_far.journal (λ t. so_far.so_far) tells) in
    subst (λ (f : List ℕ). state_of f ≡ Err place) (c.bodies.invariant.unwritten.reads told) wrong)

pub returns-in_err-count-clause-refused : goal.returns-in_err-count-clause-refused
returns-in_err-count-clause-refused g c =
    let more : IsTrue c.in_ok-next.field-0 = c.if-branch.true in
    let old = c.bodies.scan in
    let scan = c.next.new.self in
    let file = (g.D.Disk.told scan.disk).reads_as in
    let p = err_from_is_err_and c.from_residual-in_err-count.result c.from_residual-in_err-count.ensures.1 in
    rw (p.1, p.2) (λ place is told.
    let tells = c.bodies.invariant.unwritten.keeps.reads ∙ told in
    let still = c.next.ensures.unwritten.keeps.reads ∙ tells in
    let so_far = c.bodies.invariant.so_far tells in
    let read = c.in_ok-next.ensures.body more so_far.journal (λ t. so_far.so_far) still in
    let wrong = body_wrong file scan.part scan.place c.args.head.now c.bodies.count (durable c.bodies.state) so_far.journal so_far.head_is so_far.count_is so_far.folds (last_body scan) read c.in_err-count.field-0.0 place is c.in_err-count.ensures.step in
    subst (λ (f : List ℕ). state_of f ≡ Err place) (c.next.ensures.unwritten.reads tells ∙ c.bodies.invariant.unwritten.reads told) wrong)

pub bodies-preserved : goal.bodies-preserved
bodies-preserved g c =
    let more : IsTrue c.in_ok-next.field-0 = c.if-branch.true in
    let old = c.bodies.scan in
    let scan = c.next.new.self in
    let file = (g.D.Disk.told scan.disk).reads_as in
    record {
      going = (c.in_ok-next.ensures.more more).0;
      within = stepped_within c.args.head.now.bucket_count (durable c.bodies.state) (scan.place - (5 + length (last_body scan))) (change_with (number_in scan.part c.bodies.count) (last_body scan)) (durable c.add_body.new.state) c.in_ok-count.ensures.step c.bodies.invariant.within;
      few = omega (arith, c.bodies.invariant.few, c.in_ok-next.ensures.later more, c.in_ok-count.ensures.count, count_more scan.part c.bodies.count);
      version = c.next.ensures.version ∙ c.bodies.invariant.version;
      so_far = λ still.
          let tells = sym c.next.ensures.unwritten.keeps.reads ∙ still in
          let so_far = c.bodies.invariant.so_far tells in
          let read = c.in_ok-next.ensures.body more so_far.journal (λ t. so_far.so_far) still in
          body_read file scan.part scan.place c.args.head.now c.bodies.count (durable c.bodies.state) so_far.journal so_far.head_is so_far.count_is so_far.folds (last_body scan) read c.in_ok-count.count (durable c.add_body.new.state) c.in_ok-count.ensures.step c.in_ok-count.ensures.count;
      unwritten = unwritten_then _ _ _ c.bodies.invariant.unwritten c.next.ensures.unwritten;
    }

pub returns-clause-stands : goal.returns-clause-stands
returns-clause-stands g c told =
    let scan = c.next.new.self in
    let old = c.bodies.scan in
    let file = (g.D.Disk.told c.args.scan.now.disk).reads_as in
    let tells = c.bodies.invariant.unwritten.keeps.reads ∙ told in
    let so_far = c.bodies.invariant.so_far tells in
    let all = c.in_ok-next.ensures.all c.if-branch.false so_far.journal (λ t. so_far.so_far) tells in
    all_read (g.D.Disk.told old.disk).reads_as file (sym (c.bodies.invariant.unwritten.reads told)) old.part old.place c.args.head.now c.bodies.count (durable c.bodies.state) so_far scan.place c.args.scan.now.version old.version (old.version_is tells) c.bodies.invariant.version all
