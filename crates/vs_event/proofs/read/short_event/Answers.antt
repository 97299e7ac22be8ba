use Rattle.std.proofs.Common.{◌≡◌, ◌≢◌, [], ◌∷◌, None, rules}
use Rattle.vs_text.specs.Split.{words_of}
use Rattle.vs_event.specs.declared.verb.Single.{Single}
use Rattle.vs_event.specs.declared.verb.Pair.{Pair}
use Rattle.vs_event.specs.Reading.{single_word, pair_word}
use Rattle.vs_event.proofs.Shapes.{no_single, single_read, no_pair, pair_read, no_short}
use Rattle.vs_event.proofs.Spaces.{some_parts}
use Rattle.vs_event.proofs.read.short_event.Goals as goal

pub returns-in_err-of-in-None : goal.returns-in_err-of-in-None
returns-in_err-of-in-None c =
    let refused : c.from_residual.result ≡ None = search rules in
    let one : words_of c.args.fields.now ≡ c.args.fields.now ∷ [] = c.in-None.ensures in
    let other : (v : Single) → c.args.verb.now ≢ single_word v = c.in_err-of-in-None.ensures in
    rw (refused, one) (no_single c.args.verb.now c.args.fields.now other)

pub returns-in_ok-of-in-None : goal.returns-in_ok-of-in-None
returns-in_ok-of-in-None c =
    let one : words_of c.args.fields.now ≡ c.args.fields.now ∷ [] = c.in-None.ensures in
    rw one (single_read c.in_ok-of-in-None.field-0 c.args.verb.now c.args.fields.now c.single_event.result c.in_ok-of-in-None.ensures c.single_event.ensures)

pub returns-in_err-of-in-None-split_once : goal.returns-in_err-of-in-None-split_once
returns-in_err-of-in-None-split_once c =
    let refused : c.from_residual-in_err-of-in-None-split_once.result ≡ None = search rules in
    let first : words_of c.args.fields.now ≡ c.in-Some.first.now ∷ words_of c.in-Some.rest.now = c.in-Some.ensures in
    let last : words_of c.in-Some.rest.now ≡ c.in-Some.rest.now ∷ [] = c.in-None-split_once.ensures in
    let other : (v : Pair) → c.args.verb.now ≢ pair_word v = c.in_err-of-in-None-split_once.ensures in
    rw (refused, first, last) (no_pair c.args.verb.now c.in-Some.first.now c.in-Some.rest.now other)

pub returns-in_ok-of-in-None-split_once : goal.returns-in_ok-of-in-None-split_once
returns-in_ok-of-in-None-split_once c =
    let first : words_of c.args.fields.now ≡ c.in-Some.first.now ∷ words_of c.in-Some.rest.now = c.in-Some.ensures in
    let last : words_of c.in-Some.rest.now ≡ c.in-Some.rest.now ∷ [] = c.in-None-split_once.ensures in
    rw (first, last) (pair_read c.in_ok-of-in-None-split_once.field-0 c.args.verb.now c.in-Some.first.now c.in-Some.rest.now c.pair_event.result c.in_ok-of-in-None-split_once.ensures c.pair_event.ensures)

pub returns-in-Some-split_once : goal.returns-in-Some-split_once
returns-in-Some-split_once c =
    let second = c.in-Some-split_once.field-0 in
    let first : words_of c.args.fields.now ≡ c.in-Some.first.now ∷ words_of c.in-Some.rest.now = c.in-Some.ensures in
    let others : words_of c.in-Some.rest.now ≡ second.0.now ∷ words_of second.1.now = c.in-Some-split_once.ensures in
    rw (first, others) (no_short c.args.verb.now c.in-Some.first.now second.0.now (words_of second.1.now) (some_parts 32 second.1.now))
