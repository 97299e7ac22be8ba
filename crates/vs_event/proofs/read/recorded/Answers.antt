use Rattle.std.proofs.Common.{◌≡◌, ◌∷◌, ◌∙◌}
use Rattle.vs_text.specs.Split.{words_of}
use Rattle.vs_event.proofs.RecordedWords.{recorded_read, not_recorded}
use Rattle.vs_event.proofs.read.recorded.Goals as goal

pub returns-in-Some : goal.returns-in-Some
returns-in-Some c =
    let first : words_of c.args.words.now ≡ c.in_ok-verb.verb.now ∷ words_of c.in_ok-verb.fields.now = c.in_ok-verb.ensures in
    recorded_read (words_of c.args.words.now) c.in-Some.event c.recorded.result c.in-Some.ensures.0 (first ∙ c.in-Some.ensures.1) c.recorded.ensures

pub returns-in-None : goal.returns-in-None
returns-in-None c =
    let first : words_of c.args.words.now ≡ c.in_ok-verb.verb.now ∷ words_of c.in_ok-verb.fields.now = c.in_ok-verb.ensures in
    rw first (not_recorded (c.in_ok-verb.verb.now ∷ words_of c.in_ok-verb.fields.now) c.in-None.ensures)
