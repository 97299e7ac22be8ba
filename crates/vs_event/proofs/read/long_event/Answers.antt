use Rattle.std.proofs.Common.{◌≡◌, ◌∷◌, arith, rules}
use Rattle.std.specs.Prelude.{codes}
use Rattle.std.proofs.lemmas.Slice.Eq.{text_from_reads}
use Rattle.vs_text.specs.Split.{words_of}
use Rattle.vs_event.proofs.LongWords.{fault_read, restart_read}
use Rattle.vs_event.proofs.read.long_event.Goals as goal

pub returns-in-fault : goal.returns-in-fault
returns-in-fault c =
    let first : words_of c.args.fields.now ≡ c.in_ok-first.first.now ∷ words_of c.in_ok-first.rest.now = c.in_ok-first.ensures in
    let second : words_of c.in_ok-first.rest.now ≡ c.in_ok-second.second.now ∷ words_of c.in_ok-second.rest.now = c.in_ok-second.ensures in
    let named : c.args.verb.now ≡ codes "fault" = text_from_reads c.args.verb.now (codes "fault") (omega arith) (search rules) in
    rw (first, second) (fault_read c.args.verb.now (c.in_ok-first.first.now ∷ c.in_ok-second.second.now ∷ words_of c.in_ok-second.rest.now) c.fault.result named c.fault.ensures)

pub returns-in-restart : goal.returns-in-restart
returns-in-restart c =
    let first : words_of c.args.fields.now ≡ c.in_ok-first.first.now ∷ words_of c.in_ok-first.rest.now = c.in_ok-first.ensures in
    let second : words_of c.in_ok-first.rest.now ≡ c.in_ok-second.second.now ∷ words_of c.in_ok-second.rest.now = c.in_ok-second.ensures in
    let named : c.args.verb.now ≡ codes "restart" = text_from_reads c.args.verb.now (codes "restart") (omega arith) (search rules) in
    rw (first, second) (restart_read c.args.verb.now (c.in_ok-first.first.now ∷ c.in_ok-second.second.now ∷ words_of c.in_ok-second.rest.now) c.restart.result named c.restart.ensures)
