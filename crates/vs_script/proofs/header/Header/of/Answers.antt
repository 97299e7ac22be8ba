use Rattle.std.proofs.Common.{◌≡◌, sym, ap, arith, rules, [], ◌∷◌}
use Rattle.std.specs.Prelude.{codes}
use Rattle.std.proofs.lemmas.Slice.Eq.{text_from_reads}
use Rattle.vs_script.specs.Lines.{header_of}
use Rattle.vs_script.proofs.header.Header.of.Goals as goal

pub returns-in-client : goal.returns-in-client
returns-in-client c =
    let named : c.args.word.now ≡ codes "client" = text_from_reads c.args.word.now (codes "client") (omega arith) (search rules) in
    sym (ap (λ w. header_of (w ∷ [])) named)

pub returns-in-operator : goal.returns-in-operator
returns-in-operator c =
    let named : c.args.word.now ≡ codes "operator" = text_from_reads c.args.word.now (codes "operator") (omega arith) (search rules) in
    sym (ap (λ w. header_of (w ∷ [])) named)
