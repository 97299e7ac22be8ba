use Rattle.std.proofs.Common.{◌≡◌, ◌∙◌, ap, arith, length, take, sym, subst, refl, List, ℕ}
use Rattle.std.proofs.lemmas.Bool.{true≢false, false≢true}
use Rattle.vs_frame.specs.Gate.{IsGate}
use Rattle.vs_frame.specs.Journal.{piece, EndsAt}
use Rattle.vs_frame.proofs.Gates.{length-piece}
use Rattle.vs_frame.proofs.Alongs.{either_gate, ends_here as ends_at, append_run, append_reads, append_grown}
use Rattle.vs_frame.proofs.frame.Frame.append.Goals as goal

pub add-requires-clause-room : goal.add-requires-clause-room
add-requires-clause-room g c = omega (arith, ap length (c.deref.ensures.value ∙ c.in_ok-set_piece.ensures), length-piece c.args.body.now, c.in_ok-reserve.ensures.room, c.in-Some.ensures)

pub invariant_of-self-in-Break-branch-3 : goal.invariant_of-self-in-Break-branch-3
invariant_of-self-in-Break-branch-3 g c = record {
  is_open = c.add.ensures.keeps.stays_open (c.reserve.ensures.keeps.stays_open c.args.self.now.is_open);
  room = omega (arith, c.in_ok-reserve.ensures.room, c.add.ensures.keeps.room, c.in-Some.ensures);
  order = omega arith;
  from = omega arith;
  upto = omega arith;
  version_known = c.args.self.now.version_known;
  behind_head = c.args.self.now.gate_behind_head;
  gate_behind_head = c.args.self.now.gate_behind_head;
  gated = λ ready. absurd (true≢false ready);
  pending = λ told.
      let tells = sym c.add.ensures.keeps.reads ∙ told in
      let first = sym c.reserve.ensures.keeps.reads ∙ tells in
      let file = (g.D.Disk.told c.reserve.new.self).reads_as in
      let gate = c.args.self.now.gate in
      let shut = subst (λ (f : List ℕ). IsGate f gate) (sym (c.reserve.ensures.rests.reads first)) (c.args.self.now.gated c.requires.ready first) in
      let is : c.deref.result.now ≡ piece c.args.body.now = c.deref.ensures.value ∙ c.in_ok-set_piece.ensures in
      either_gate (take gate file) gate c.args.body.now _ (c.add.ensures.either tells (take gate file) c.args.body.now is (ends_at file gate shut));
  found = λ found. absurd (false≢true found);
  behind = λ found. absurd (false≢true found);
  durable = λ ready. absurd (true≢false ready);
}

added_gate : goal.invariant_of-self-2-clause-gated
added_gate g c ready told =
    let tells = sym c.add.ensures.keeps.reads ∙ told in
    let first = sym c.reserve.ensures.keeps.reads ∙ tells in
    let file = (g.D.Disk.told c.reserve.new.self).reads_as in
    let gate = c.args.self.now.gate in
    let shut = subst (λ (f : List ℕ). IsGate f gate) (sym (c.reserve.ensures.rests.reads first)) (c.args.self.now.gated c.requires.ready first) in
    let is : c.deref.result.now ≡ piece c.args.body.now = c.deref.ensures.value ∙ c.in_ok-set_piece.ensures in
    (c.in_ok-add.ensures.added tells (take gate file) c.args.body.now is (ends_at file gate shut)).shut

pub invariant_of-self-2-clause-gated : goal.invariant_of-self-2-clause-gated
invariant_of-self-2-clause-gated g c ready told = added_gate g c ready told

pub invariant_of-self-2-clause-pending : goal.invariant_of-self-2-clause-pending
invariant_of-self-2-clause-pending g c told = let shut = added_gate g c refl told in record { within = shut.within; behind = λ opened. shut }

pub returns-in_err-add-clause-any_moment : goal.returns-in_err-add-clause-any_moment
returns-in_err-add-clause-any_moment g c j is at =
    append_run j c.args.self.now.gate c.args.body.now (g.D.Disk.told c.args.self.now.disk) (g.D.Disk.told c.reserve.new.self) (g.D.Disk.told c.add.new.disk) at.gate (at.version ∙ c.requires.version) (g.met.D.Disk.lawful c.args.self.now.disk)
    (c.args.self.now.durable c.requires.ready) c.reserve.ensures.rests c.reserve.ensures.keeps is c.requires.size
    (c.add.ensures.any_moment (take c.args.self.now.gate (g.D.Disk.told c.args.self.now.disk).reads_as) c.args.body.now (c.deref.ensures.value ∙ c.in_ok-set_piece.ensures))

pub returns-clause-any_moment : goal.returns-clause-any_moment
returns-clause-any_moment g c j is at =
    append_run j c.args.self.now.gate c.args.body.now (g.D.Disk.told c.args.self.now.disk) (g.D.Disk.told c.reserve.new.self) (g.D.Disk.told c.add.new.disk) at.gate (at.version ∙ c.requires.version) (g.met.D.Disk.lawful c.args.self.now.disk)
    (c.args.self.now.durable c.requires.ready) c.reserve.ensures.rests c.reserve.ensures.keeps is c.requires.size
    (c.add.ensures.any_moment (take c.args.self.now.gate (g.D.Disk.told c.args.self.now.disk).reads_as) c.args.body.now (c.deref.ensures.value ∙ c.in_ok-set_piece.ensures))

pub returns-in_err-add-clause-reads : goal.returns-in_err-add-clause-reads
returns-in_err-add-clause-reads g c tells j is at =
    let file = (g.D.Disk.told c.args.self.now.disk).reads_as in
    let gate = c.args.self.now.gate in
    let shut = c.args.self.now.gated c.requires.ready tells in
    let ends = subst (λ (f : List ℕ). EndsAt f (take gate file) gate) (sym (c.reserve.ensures.rests.reads tells)) (ends_at file gate shut) in
    append_reads j gate c.args.body.now file _ at.gate (at.version ∙ c.requires.version) is c.requires.size
    (c.add.ensures.either (c.reserve.ensures.keeps.reads ∙ tells) (take gate file) c.args.body.now (c.deref.ensures.value ∙ c.in_ok-set_piece.ensures) ends)

pub returns-clause-reads : goal.returns-clause-reads
returns-clause-reads g c tells j is at =
    let file = (g.D.Disk.told c.args.self.now.disk).reads_as in
    let gate = c.args.self.now.gate in
    let shut = c.args.self.now.gated c.requires.ready tells in
    let ends = subst (λ (f : List ℕ). EndsAt f (take gate file) gate) (sym (c.reserve.ensures.rests.reads tells)) (ends_at file gate shut) in
    append_reads j gate c.args.body.now file _ at.gate (at.version ∙ c.requires.version) is c.requires.size
    (c.add.ensures.either (c.reserve.ensures.keeps.reads ∙ tells) (take gate file) c.args.body.now (c.deref.ensures.value ∙ c.in_ok-set_piece.ensures) ends)

pub returns-clause-appended : goal.returns-clause-appended
returns-clause-appended g c tells j is at =
    let file = (g.D.Disk.told c.args.self.now.disk).reads_as in
    let gate = c.args.self.now.gate in
    let shut = c.args.self.now.gated c.requires.ready tells in
    let ends = subst (λ (f : List ℕ). EndsAt f (take gate file) gate) (sym (c.reserve.ensures.rests.reads tells)) (ends_at file gate shut) in
    append_grown j gate c.args.body.now file _ at.gate (at.version ∙ c.requires.version) is c.requires.size
    (c.in_ok-add.ensures.added (c.reserve.ensures.keeps.reads ∙ tells) (take gate file) c.args.body.now (c.deref.ensures.value ∙ c.in_ok-set_piece.ensures) ends)
